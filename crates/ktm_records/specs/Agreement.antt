-- What was recorded goes on to agree with what is so now.
use Rattle.std.specs.Prelude.{◌≡◌, ℕ, true, List}
use Rattle.ktm_base.specs.declared.id.Pid.{Pid}
use Rattle.ktm_world.specs.declared.command.Command.{Command}
use Rattle.ktm_world.specs.Decide.{decide}
use Rattle.ktm_world.specs.Durable.{Durable, stand}
use Rattle.ktm_world.specs.Lawful.{Agrees}
use Rattle.ktm_world.specs.Laws.{FirstOpensLieWithin}
use Rattle.ktm_world.specs.Logs.{Group, Power}
use Rattle.ktm_world.specs.Outcome.{apply}
use Rattle.ktm_world.specs.Present.{Present}
use Rattle.ktm_world.specs.World.{World, present, extend, after, opened, decide_tick}
use Rattle.txf_laws.specs.GoodState.{IsGoodState}
use Rattle.ktm_records.specs.Kept.{are_carried_out}
use Rattle.ktm_courses.specs.SoundCourse.{IsSoundCourse}
use Rattle.ktm_records.specs.SoundWorlds.{IsSound}

-- in a sound machine it does so, and each decided transaction keeps its files and its keys done
pub record AgreeingLaw : Type 0 where
  -- by a command, where what was recorded is good
  pub commands : (x : Present) (process : Pid) (command : Command) → IsSound x → IsGoodState x.recorded → are_carried_out x.recorded ≡ true → Agrees x
      → Agrees (apply x (decide x process command)) × (are_carried_out (apply x (decide x process command)).recorded ≡ true)
  -- by the passing of time, whatever rolls back by it
  pub ticks : (x : Present) (ms : ℕ) → IsSoundCourse x → are_carried_out x.recorded ≡ true → Agrees x
      → Agrees (apply x (decide_tick x ms)) × (are_carried_out (apply x (decide_tick x ms)).recorded ≡ true)
  -- by a restart of a good state
  pub restarts : (base : Durable) (log : List Group) → IsGoodState (stand base log) → Agrees (present (opened base log)) × (are_carried_out (opened base log).recorded ≡ true)
  -- in worlds, by a command
  pub worlds : (w : World) (process : Pid) (command : Command) → FirstOpensLieWithin w → IsSound (present w) → IsGoodState w.recorded → are_carried_out w.recorded ≡ true → Agrees (present w)
      → Agrees (present (after w process command)) × (are_carried_out (after w process command).recorded ≡ true)
  -- in worlds, by the passing of time
  pub later_worlds : (w : World) (ms : ℕ) → FirstOpensLieWithin w → IsSoundCourse (present w) → are_carried_out w.recorded ≡ true → Agrees (present w)
      → Agrees (present (extend w (decide_tick (present w) ms))) × (are_carried_out (extend w (decide_tick (present w) ms)).recorded ≡ true)
  -- in worlds, by the loss of power
  pub falls : (w : World) (power : Power) → Agrees (present w) → Agrees (present (record w { power = power }))
