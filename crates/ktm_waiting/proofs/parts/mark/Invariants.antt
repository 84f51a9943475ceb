use Rattle.std.proofs.Common.{◌≡◌, ◌||◌, ◌++◌, drop, map, take}
use Rattle.ktm_world.specs.declared.recorded.RecordedPart.{RecordedPart}
use Rattle.ktm_world.specs.Durable.{is_part_of}
use Rattle.ktm_waiting.proofs.parts.mark.Given as goal

abbrev pub invariant-loop-p : goal.invariant-loop-p
invariant-loop-p l = l.parts ≡ map (λ (p : RecordedPart). record p { is_done = p.is_done || is_part_of l.done p.part }) (take l.p-index l.fn.parts) ++ drop l.p-index l.fn.parts
