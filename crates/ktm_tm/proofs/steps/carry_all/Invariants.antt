use Rattle.std.proofs.Common.{◌≡◌, ◌+◌, drop}
use Rattle.ktm_tm.specs.Steps.{after_all, visits_all, Leaves}
use Rattle.ktm_tm.proofs.steps.carry_all.Given as goal

abbrev pub invariant-loop-step : goal.invariant-loop-step
invariant-loop-step g l = record {
  leaves : Leaves l.g (drop l.step-index l.steps) l.t l.enlistments l.managers (after_all l.g l.steps l.fn.t l.fn.enlistments.enlistments) l.fn.enlistments l.fn.managers;
  counted : l.visits + visits_all l.g (drop l.step-index l.steps) l.t l.enlistments.enlistments ≡ l.fn.visits + visits_all l.g l.steps l.fn.t l.fn.enlistments.enlistments;
}
