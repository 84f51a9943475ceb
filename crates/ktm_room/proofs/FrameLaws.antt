-- What one command records fits an empty log.
use Rattle.std.proofs.Common.{ℕ, not, Option, Some, None, [], ◌∷◌, arith}
use Rattle.ktm_base.specs.declared.refusal.Refusal.{Refusal}
use Rattle.ktm_base.specs.declared.refusal.Refusal.TheVariants.{MachineDown}
use Rattle.ktm_world.specs.Outcome.{first_refusal, refuse_or}
use Rattle.ktm_world.specs.Present.{Present}
use Rattle.ktm_world.specs.TransactionCalls.{tick}
use Rattle.ktm_world.specs.World.{decide_tick}
use Rattle.ktm_records.specs.FileCallsMade.{FileCallsLaw}
use Rattle.ktm_records.specs.Kept.{IsKept}
use Rattle.ktm_room.specs.Frames.{FitsEmptyLog, FramesLaw}
use Rattle.ktm_room.proofs.CommandSizes.{Fit, fit-decided}
use Rattle.ktm_room.proofs.RestartSizes.{restart-fits}
use Rattle.ktm_room.proofs.TickSizes.{tick-fits}

decided-tick : (x : Present) (ms : ℕ) → IsKept x → FitsEmptyLog x.recorded.units (decide_tick x ms).events
decided-tick x ms kept = go (first_refusal ((not x.machine.is_up, MachineDown) ∷ []))
  where
    go : (refusal : Option Refusal) → Fit x kept (refuse_or x refusal (tick x ms))
    go (Some refusal) = omega arith
    go None = tick-fits x ms kept

pub frames_law : FileCallsLaw → FramesLaw
frames_law calls = record {
  commands = λ x process command kept. fit-decided x kept calls process command;
  ticks = decided-tick;
  restarts = restart-fits;
}
