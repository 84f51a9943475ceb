-- What a machine records applies, but for the limits.
use Rattle.std.specs.Prelude.{◌≡◌, ℕ, true}
use Rattle.ktm_base.specs.declared.id.Pid.{Pid}
use Rattle.ktm_world.specs.declared.command.Command.{Command}
use Rattle.ktm_world.specs.Decide.{decide}
use Rattle.ktm_world.specs.Present.{Present}
use Rattle.ktm_world.specs.World.{decide_tick}
use Rattle.ktm_records.specs.Kept.{IsKept, facts_apply}

-- what a kept machine records applies, but for the limits, whatever command it is given, and whatever time passes
pub record RecordedFactsLaw : Type 0 where
  -- by a command
  pub commands : (x : Present) (process : Pid) (command : Command) → IsKept x → facts_apply x.recorded (decide x process command).events ≡ true
  -- by the passing of time
  pub ticks : (x : Present) (ms : ℕ) → IsKept x → facts_apply x.recorded (decide_tick x ms).events ≡ true
