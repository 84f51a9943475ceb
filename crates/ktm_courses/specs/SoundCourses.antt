-- What is so of transactions, enlistments and resource managers stays so, whatever a machine does.
use Rattle.std.specs.Prelude.{ℕ, List}
use Rattle.ktm_base.specs.declared.id.Pid.{Pid}
use Rattle.ktm_world.specs.declared.command.Command.{Command}
use Rattle.ktm_world.specs.Decide.{decide}
use Rattle.ktm_world.specs.Durable.{Durable, stand}
use Rattle.ktm_world.specs.Laws.{FirstOpensLieWithin}
use Rattle.ktm_world.specs.Logs.{Group, Power}
use Rattle.ktm_world.specs.Outcome.{apply}
use Rattle.ktm_world.specs.Present.{Present}
use Rattle.ktm_world.specs.World.{World, present, extend, after, opened, decide_tick}
use Rattle.txf_laws.specs.GoodState.{IsGoodState}
use Rattle.ktm_courses.specs.SoundCourse.{IsSoundCourse}

-- a machine stays sound, whatever command it is given, whatever time passes, and where it falls; and a restart of a good state makes a sound one
pub record CoursesLaw : Type 0 where
  -- by a command
  pub commands : (x : Present) (process : Pid) (command : Command) → IsSoundCourse x → IsSoundCourse (apply x (decide x process command))
  -- by the passing of time
  pub ticks : (x : Present) (ms : ℕ) → IsSoundCourse x → IsSoundCourse (apply x (decide_tick x ms))
  -- in worlds, by a command
  pub worlds : (w : World) (process : Pid) (command : Command) → FirstOpensLieWithin w → IsSoundCourse (present w) → IsSoundCourse (present (after w process command))
  -- in worlds, by the passing of time
  pub later_worlds : (w : World) (ms : ℕ) → FirstOpensLieWithin w → IsSoundCourse (present w) → IsSoundCourse (present (extend w (decide_tick (present w) ms)))
  -- in worlds, by the loss of power
  pub falls : (w : World) (power : Power) → IsSoundCourse (present w) → IsSoundCourse (present (record w { power = power }))
  -- by a restart of a good state
  pub restarts : (base : Durable) (log : List Group) → IsGoodState (stand base log) → IsSoundCourse (present (opened base log))
