use Rattle.std.proofs.Common.{◌≡◌, ◌*◌, ◌^◌, ◌≤◌, sum_by, take}
use Rattle.txf_durable.specs.Recorded.{units_put}
use Rattle.txf_durable.proofs.counts.units_given.Given as goal

abbrev pub invariant-loop-change : goal.invariant-loop-change
invariant-loop-change l = record {
  few : l.units ≤ 2 ^ 52 * l.change-index;
  sum : l.units ≡ sum_by units_put (take l.change-index l.changes);
}
