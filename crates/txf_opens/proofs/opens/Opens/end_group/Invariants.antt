use Rattle.std.proofs.Common.{◌≡◌, ◌+◌, ◌≤◌, count_by, filter, length}
use Rattle.txf_opens.specs.OpensState.{is_not_of, is_own}
use Rattle.txf_opens.proofs.opens.Opens.end_group.Given as goal

abbrev pub invariant-loop-number : goal.invariant-loop-number
invariant-loop-number g l = record {
  same : filter (is_not_of l.transaction) l.self.opens ≡ filter (is_not_of l.transaction) l.fn.self.opens;
  last : l.self.last ≡ l.fn.self.last;
  spare : l.fn.self.spare ≤ l.self.spare;
  counted : l.steps + count_by (is_own l.transaction) l.self.opens ≡ l.fn.steps + count_by (is_own l.transaction) l.fn.self.opens;
}

abbrev pub decreases-loop-number : goal.decreases-loop-number
decreases-loop-number g l = length l.self.opens
