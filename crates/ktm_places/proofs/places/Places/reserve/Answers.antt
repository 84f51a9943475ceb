use Rattle.std.proofs.Common.{arith}
use Rattle.ktm_places.proofs.Counting.{counted-resized}
use Rattle.ktm_places.proofs.places.Places.reserve.Goals as goal

pub returns-in_ok-resize-clause-counted : goal.returns-in_ok-resize-clause-counted
returns-in_ok-resize-clause-counted c = λ ids are. record {
  buckets = rw c.in_ok-resize.ensures.items (counted-resized ids c.args.self.now.buckets.items 1024 _ (omega (arith, c.if-len-lt-BUCKETS.true, c.len.ensures)) are.buckets);
  once = are.once;
}
