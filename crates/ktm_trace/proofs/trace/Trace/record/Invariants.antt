use Rattle.std.proofs.Common.{◌≡◌, ◌+◌, ◌≤◌, drop, length}
use Rattle.ktm_trace.specs.Few.{parts_in}
use Rattle.ktm_trace.specs.Recordings.{steps_noted, steps_room}
use Rattle.ktm_trace.proofs.trace.Trace.record.Given as goal

-- with the steps that are left, all are recorded, and no more was added than the others have room for
abbrev pub invariant-loop-step : goal.invariant-loop-step
invariant-loop-step l = record {
  transactions : steps_noted l.now (drop l.step-index l.steps) l.self ≡ steps_noted l.fn.of l.steps l.initial.self;
  many : length l.self + steps_room (drop l.step-index l.steps) ≤ length l.initial.self + steps_room l.steps;
  parts : parts_in l.self + steps_room (drop l.step-index l.steps) ≤ parts_in l.initial.self + steps_room l.steps;
}
