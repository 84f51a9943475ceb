use Rattle.std.proofs.Common.{◌≡◌, ◌+◌, ◌≤◌, length, count_by, ap, arith, ◌∙◌}
use Rattle.ktm_world.specs.Keys.{OwnSettings, stored_all}
use Rattle.ktm_world.proofs.offered.KeyLemmas.{length-counts, length-stored_all-le}
use Rattle.kv_rm.specs.Count.{is_of_kind}
use Rattle.kv_rm.specs.declared.count.Kind.TheVariants.{Value, Unset}
use Rattle.kv_rm.proofs.rm.KvRm.commit_own.Goals as goal

pub make_all-requires : goal.make_all-requires
make_all-requires g c =
    let settings = c.take-settings.result.items in
    let both : length settings ≡ count_by (is_of_kind Value) settings + count_by (is_of_kind Unset) settings = length-counts settings in
    omega (arith, both, c.take-settings.ensures.values, c.take-settings.ensures.unsets, c.self.invariant.room)

pub invariant_of-self : goal.invariant_of-self
invariant_of-self g c =
    let store = c.self.inside.store.items in
    let settings = c.take-settings.result.items in
    let values = c.take-settings.ensures.values in
    let unsets = c.take-settings.ensures.unsets in
    let more : length (stored_all store settings) ≤ length store + count_by (is_of_kind Value) settings = length-stored_all-le store settings in
    let made = ap length c.make_all.ensures.items in
    record {
      counted = c.take-settings.ensures.counted;
      held = c.take-settings.ensures.held;
      few = record { values = omega (arith, values, c.self.invariant.few.values); unsets = omega (arith, unsets, c.self.invariant.few.unsets) };
      room = omega (arith, values, unsets, more, made, c.make_all.ensures.in_place, c.self.invariant.room);
    }

pub returns-clause-counted : goal.returns-clause-counted
returns-clause-counted g c =
    rw (← c.self.view_is) (c.make_all.ensures.counted ∙ ap (λ (settings : OwnSettings). c.args.steps.now + length settings) c.take-settings.ensures.settings)
