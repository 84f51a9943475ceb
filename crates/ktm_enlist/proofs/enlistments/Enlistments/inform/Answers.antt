use Rattle.std.proofs.Common.{◌≡◌, ◌∙◌, ap, sym, arith, length, rules, vec_len}
use Rattle.ktm_world.specs.Enlistments.{Enlistment, has_id}
use Rattle.ktm_manager.proofs.offered.Places.{nothing_changed, within}
use Rattle.ktm_enlist.proofs.Changing.{informed_keeps, set_is, set_kept, set_rising}
use Rattle.ktm_enlist.specs.Standing.{standing_of}
use Rattle.ktm_enlist.proofs.Told.{one_with, only_at}
use Rattle.ktm_enlist.proofs.enlistments.Enlistments.inform.Goals as goal

pub index_mut-requires : goal.index_mut-requires
index_mut-requires c =
    let count : vec_len c.self.inside.items ≡ length c.self.inside.items.items = search rules in
    let inside = within (λ (e : Enlistment). e.id) _ _ _ (rw c.deref.ensures.value at c.in-Some.ensures) in
    omega (arith, count, inside)

pub invariant_of-self : goal.invariant_of-self
invariant_of-self c =
    let at = rw c.deref.ensures.value at c.in-Some.ensures in
    let inside = within (λ (e : Enlistment). e.id) _ _ _ at in
    let keeps = informed_keeps c.args.information in (
      set_rising _ keeps c.self.inside.items.items c.in-Some.place c.index_mut.result.now c.keep_information.new.e inside c.index_mut.ensures.value c.keep_information.ensures c.self.invariant.0,
      c.self.invariant.1,
      c.self.invariant.2,
      c.self.invariant.3,
      c.self.invariant.4,
      set_kept _ keeps c.self.inside.items.items c.in-Some.place c.index_mut.result.now c.keep_information.new.e inside c.index_mut.ensures.value c.keep_information.ensures (ap standing_of c.keep_information.ensures) c.self.inside.next.items c.self.inside.groups.items c.self.invariant.5,
    )

pub returns-in-Some-clause-enlistments : goal.returns-in-Some-clause-enlistments
returns-in-Some-clause-enlistments c =
    let at = rw c.deref.ensures.value at c.in-Some.ensures in
    let inside = within (λ (e : Enlistment). e.id) _ _ _ at in
    rw (← c.self.view_is)
    (set_is _ (informed_keeps c.args.information) c.self.inside.items.items c.in-Some.place c.index_mut.result.now c.keep_information.new.e inside c.index_mut.ensures.value c.keep_information.ensures
    ∙ sym (one_with (has_id c.args.id) (λ e. record e { information = c.args.information }) c.self.inside.items.items c.in-Some.place (only_at c.self.inside.items.items c.args.id c.in-Some.place at)))

pub returns-in_default-clause-enlistments : goal.returns-in_default-clause-enlistments
returns-in_default-clause-enlistments c = rw (← c.self.view_is) (sym (nothing_changed (λ (e : Enlistment). e.id) (λ e. record e { information = c.args.information }) _ _ (rw c.deref.ensures.value at c.in_default.ensures)))
