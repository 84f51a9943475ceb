-- How much room steps take.
use Rattle.std.proofs.Common.{◌≤◌, List, [], ◌∷◌, length, arith}
use Rattle.std.proofs.lemmas.List.Sums.{sum_by-cons}
use Rattle.ktm_world.specs.declared.step.Fact.{Fact}
use Rattle.ktm_world.specs.declared.step.Step.{Step}
use Rattle.ktm_trace.specs.Recordings.{room_of, step_room, steps_room}

fact-room : (fact : Fact) → room_of fact ≤ 1
fact-room Fact.ReadyFiles = omega arith
fact-room Fact.ReadyKeys = omega arith
fact-room Fact.Ready = omega arith
fact-room Fact.Held = omega arith
fact-room _ = omega arith

step-room : (step : Step) → step_room step ≤ 1
step-room (Step.Record fact) = fact-room fact
step-room _ = omega arith

-- each takes that of one at most
pub steps_room-less : (steps : List Step) → steps_room steps ≤ length steps
steps_room-less [] = omega arith
steps_room-less (step ∷ steps) =
    let more = sum_by-cons step_room step steps in
    let one = step-room step in
    let rest = steps_room-less steps in
    omega arith
