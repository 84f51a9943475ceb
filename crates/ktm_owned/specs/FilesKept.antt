-- What undecided transactions own and hold of the files stays sound, whatever a machine does.
use Rattle.std.specs.Prelude.{ℕ, List}
use Rattle.ktm_base.specs.declared.id.Pid.{Pid}
use Rattle.ktm_world.specs.declared.command.Command.{Command}
use Rattle.ktm_world.specs.Decide.{decide}
use Rattle.ktm_world.specs.Durable.{Durable, stand}
use Rattle.ktm_world.specs.Logs.{Group}
use Rattle.ktm_world.specs.Outcome.{apply}
use Rattle.ktm_world.specs.Present.{Present}
use Rattle.ktm_world.specs.World.{present, opened, decide_tick}
use Rattle.txf_laws.specs.GoodState.{IsGoodState}
use Rattle.ktm_courses.specs.SoundCourse.{IsSoundCourse}
use Rattle.txf_laws.specs.SoundFiles.{IsSoundFiles}

-- in a sound machine it stays sound, whatever command it is given, and whatever time passes; and a restart of a good state makes it so
pub record FilesKeptLaw : Type 0 where
  -- by a command
  pub commands : (x : Present) (process : Pid) (command : Command) → IsSoundCourse x → IsSoundFiles x → IsSoundFiles (apply x (decide x process command))
  -- by the passing of time
  pub ticks : (x : Present) (ms : ℕ) → IsSoundCourse x → IsSoundFiles x → IsSoundFiles (apply x (decide_tick x ms))
  -- by a restart of a good state
  pub restarts : (base : Durable) (log : List Group) → IsGoodState (stand base log) → IsSoundFiles (present (opened base log))
