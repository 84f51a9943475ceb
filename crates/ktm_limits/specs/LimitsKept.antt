-- No command, no passing of time and no restart passes a limit, in what is so now or in what is recorded.
use Rattle.std.specs.Prelude.{◌≡◌, ℕ, true, List}
use Rattle.ktm_base.specs.declared.id.Pid.{Pid}
use Rattle.ktm_world.specs.declared.command.Command.{Command}
use Rattle.ktm_world.specs.Decide.{decide}
use Rattle.ktm_world.specs.Durable.{Durable, stand}
use Rattle.ktm_world.specs.Files.{FirstOpen}
use Rattle.ktm_world.specs.FileUses.{same_version}
use Rattle.ktm_world.specs.Logs.{Group}
use Rattle.ktm_world.specs.Outcome.{apply}
use Rattle.ktm_world.specs.Present.{Present}
use Rattle.ktm_world.specs.World.{decide_tick, opened, present}
use Rattle.txf_laws.specs.Elements.{IsIn}
use Rattle.txf_laws.specs.GoodState.{IsGoodState}
use Rattle.ktm_records.specs.Kept.{IsKept, IsWithin, limits_hold}

-- each version that was first opened has the same bytes in each of its first opens
pub record AreVersionsFixed (x : Present) : Type 0 where
  pub same : (a b : FirstOpen) → IsIn a x.files.first_opens → IsIn b x.files.first_opens → same_version a b ≡ true → a.bytes ≡ b.bytes

-- where what is so now is kept and versions are fixed, the limits hold, and versions stay fixed
pub record LimitsLaw : Type 0 where
  -- after a command
  pub commands : (x : Present) (process : Pid) (command : Command) → IsKept x → AreVersionsFixed x → IsWithin (apply x (decide x process command))
  -- after the passing of time
  pub ticks : (x : Present) (ms : ℕ) → IsKept x → AreVersionsFixed x → IsWithin (apply x (decide_tick x ms))
  -- after each event that a command records
  pub recorded : (x : Present) (process : Pid) (command : Command) → IsKept x → limits_hold x.recorded (decide x process command).events ≡ true
  -- after each event that the passing of time records
  pub later : (x : Present) (ms : ℕ) → IsKept x → limits_hold x.recorded (decide_tick x ms).events ≡ true
  -- versions stay fixed by a command
  pub versions : (x : Present) (process : Pid) (command : Command) → IsKept x → AreVersionsFixed x → AreVersionsFixed (apply x (decide x process command))
  -- versions stay fixed by the passing of time
  pub later_versions : (x : Present) (ms : ℕ) → IsKept x → AreVersionsFixed x → AreVersionsFixed (apply x (decide_tick x ms))
  -- after a restart of a good state
  pub restarts : (base : Durable) (log : List Group) → IsGoodState (stand base log) → IsWithin (present (opened base log))
  -- after a restart all versions are fixed
  pub first_versions : (base : Durable) (log : List Group) → AreVersionsFixed (present (opened base log))
