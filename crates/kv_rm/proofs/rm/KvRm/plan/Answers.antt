use Rattle.std.proofs.Common.{arith}
use Rattle.kv_rm.specs.declared.count.Kind.TheVariants.{Value, Unset}
use Rattle.kv_rm.proofs.Counts.{was_counted, are_counts-with}
use Rattle.kv_rm.proofs.rm.KvRm.plan.Goals as goal

pub with-requires-clause-values : goal.with-requires-clause-values
with-requires-clause-values c =
    let was = was_counted Value _ _ _ _ c.seat-seat.ensures in
    omega (arith, was, c.self.invariant.counted.values)

pub with-requires-clause-unsets : goal.with-requires-clause-unsets
with-requires-clause-unsets c =
    let was = was_counted Unset _ _ _ _ c.seat-seat.ensures in
    omega (arith, was, c.self.invariant.counted.unsets)

pub returns-in-Some-clause-counts : goal.returns-in-Some-clause-counts
returns-in-Some-clause-counts c = λ value is.
    let seat = rw c.as_slice.ensures at c.seat-seat.ensures in
    rw (← c.self.view_is, c.in-Some.is)
    (are_counts-with _ _ _ _ _ _ _ value seat c.self.invariant.counted is c.with.ensures.values c.with.ensures.unsets)
