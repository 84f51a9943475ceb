-- What one command records fits an empty log.
use Rattle.std.specs.Prelude.{ℕ, ◌+◌, ◌≤◌, List}
use Rattle.ktm_base.specs.declared.id.Pid.{Pid}
use Rattle.ktm_world.specs.declared.command.Command.{Command}
use Rattle.ktm_world.specs.declared.event.Event.{Event}
use Rattle.ktm_world.specs.Sizes.{area_len, frame_size}
use Rattle.ktm_world.specs.Decide.{decide}
use Rattle.ktm_world.specs.Durable.{Durable}
use Rattle.ktm_world.specs.Present.{Present}
use Rattle.ktm_world.specs.World.{decide_tick, own_group}
use Rattle.txf_laws.specs.GoodState.{IsGoodState}
use Rattle.ktm_records.specs.Kept.{IsKept}

-- an empty log of an image of so many units has room for a frame of the events, and for a gate behind it
abbrev pub FitsEmptyLog : ℕ → List Event → Type 0
FitsEmptyLog units events = frame_size events + 1 ≤ area_len units

-- what is recorded at once in a kept machine fits an empty log
pub record FramesLaw : Type 0 where
  -- by a command
  pub commands : (x : Present) (process : Pid) (command : Command) → IsKept x → FitsEmptyLog x.recorded.units (decide x process command).events
  -- by the passing of time
  pub ticks : (x : Present) (ms : ℕ) → IsKept x → FitsEmptyLog x.recorded.units (decide_tick x ms).events
  -- by a restart from a good state
  pub restarts : (s : Durable) → IsGoodState s → FitsEmptyLog s.units (own_group s)
