use Rattle.std.proofs.Common.{arith}
use Rattle.kv_rm.specs.Count.{is_of_kind}
use Rattle.kv_rm.specs.declared.count.Kind.TheVariants.{Value}
use Rattle.kv_rm.proofs.Counted.{counted-restored}
use Rattle.kv_rm.proofs.Hashes.{few_held}
use Rattle.kv_rm.proofs.Restoring.{are_counts-restored}
use Rattle.kv_rm.proofs.rm.KvRm.restore.Goals as goal

pub more-counts-requires-clause-values : goal.more-counts-requires-clause-values
more-counts-requires-clause-values c =
    let all = counted-restored (is_of_kind Value) c.self.inside.own c.args.transaction c.args.settings.items in
    let few = rw (← c.self.view_is) at c.requires.few_values in
    rw c.deref.ensures.value (omega (arith, all, c.self.invariant.counted.values, few))

pub push_own-requires-clause-few : goal.push_own-requires-clause-few
push_own-requires-clause-few c =
    let counted =
    are_counts-restored c.self.inside.own c.args.transaction c.args.settings.items _ c.more-counts.result c.self.invariant.counted
    (rw c.deref.ensures.value at c.more-counts.ensures.values) (rw c.deref.ensures.value at c.more-counts.ensures.unsets) in
    few_held _ _ counted c.more-counts.ensures.few

pub invariant_of-self-2 : goal.invariant_of-self-2
invariant_of-self-2 c =
    let counted =
    are_counts-restored c.self.inside.own c.args.transaction c.args.settings.items _ c.more-counts.result c.self.invariant.counted
    (rw c.deref.ensures.value at c.more-counts.ensures.values) (rw c.deref.ensures.value at c.more-counts.ensures.unsets) in
    record {
      counted = rw c.in_ok-push_own.ensures.ok counted;
      few = c.more-counts.ensures.few;
      held = c.push_own.ensures.held;
      room = omega (arith, c.all.ensures, c.in_ok-reserve.ensures.room);
    }
