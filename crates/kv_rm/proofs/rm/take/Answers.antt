use Rattle.std.proofs.Common.{arith}
use Rattle.ktm_world.proofs.offered.KeyLemmas.{counted-without_own}
use Rattle.kv_rm.specs.Held.{has_hash}
use Rattle.kv_rm.specs.declared.count.Kind.TheVariants.{Value, Unset}
use Rattle.kv_rm.proofs.Counts.{own_count-without, are_counts-without}
use Rattle.kv_rm.proofs.Hashes.{are_held-without}
use Rattle.kv_rm.proofs.rm.take.Goals as goal

pub less-requires-clause-values : goal.less-requires-clause-values
less-requires-clause-values c =
    let gone = own_count-without Value c.args.own.now c.args.transaction in
    rw (c.deref.ensures.value, c.take-settings.ensures.settings) (omega (arith, gone, c.requires.counted.values))

pub less-requires-clause-unsets : goal.less-requires-clause-unsets
less-requires-clause-unsets c =
    let gone = own_count-without Unset c.args.own.now c.args.transaction in
    rw (c.deref.ensures.value, c.take-settings.ensures.settings) (omega (arith, gone, c.requires.counted.unsets))

pub remove_all-requires : goal.remove_all-requires
remove_all-requires c = λ hash.
    let gone = counted-without_own (has_hash hash) c.args.transaction c.args.own.now in
    let all = c.requires.held.counted hash in
    rw (c.deref-2.ensures.value, c.take-settings.ensures.settings) (omega (arith, gone, all))

pub returns-clause-counted : goal.returns-clause-counted
returns-clause-counted c =
    let values = rw (c.deref.ensures.value, c.take-settings.ensures.settings) at c.less.ensures.values in
    let unsets = rw (c.deref.ensures.value, c.take-settings.ensures.settings) at c.less.ensures.unsets in
    rw c.take-settings.ensures.own (are_counts-without _ _ _ _ c.requires.counted values unsets)

pub returns-clause-held : goal.returns-clause-held
returns-clause-held c =
    let less = rw (c.deref-2.ensures.value, c.take-settings.ensures.settings) at c.remove_all.ensures in
    rw c.take-settings.ensures.own (are_held-without _ _ _ _ c.requires.held less)
