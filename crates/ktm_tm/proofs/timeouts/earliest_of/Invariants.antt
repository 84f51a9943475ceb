use Rattle.std.proofs.Common.{take}
use Rattle.ktm_tm.specs.Timeouts.{NoneDueBefore}
use Rattle.ktm_tm.proofs.timeouts.earliest_of.Given as goal

abbrev pub invariant-loop-t : goal.invariant-loop-t
invariant-loop-t l = NoneDueBefore l.earliest (take l.t-index l.ts)
