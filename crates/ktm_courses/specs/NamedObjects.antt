-- What a machine records names Ids of objects.
use Rattle.std.specs.Prelude.{◌≡◌, ℕ, true}
use Rattle.std.specs.List.{list_all}
use Rattle.ktm_base.specs.declared.id.Pid.{Pid}
use Rattle.ktm_world.specs.declared.command.Command.{Command}
use Rattle.ktm_world.specs.Decide.{decide}
use Rattle.ktm_world.specs.Present.{Present}
use Rattle.ktm_world.specs.World.{decide_tick}
use Rattle.txf_laws.specs.Grammatical.{names_objects}
use Rattle.ktm_courses.specs.SoundCourse.{IsSoundCourse}

-- what a sound machine records names objects, whatever command it is given, and whatever time passes
pub record NamedLaw : Type 0 where
  -- by a command
  pub commands : (x : Present) (process : Pid) (command : Command) → IsSoundCourse x → list_all names_objects (decide x process command).events ≡ true
  -- by the passing of time
  pub ticks : (x : Present) (ms : ℕ) → IsSoundCourse x → list_all names_objects (decide_tick x ms).events ≡ true
