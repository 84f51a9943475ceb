-- Every world of a run is sound.
use Rattle.std.specs.Prelude.{ℕ, List}
use Rattle.ktm_base.specs.declared.id.Pid.{Pid}
use Rattle.ktm_world.specs.declared.command.Command.{Command}
use Rattle.ktm_world.specs.Durable.{Durable, stand}
use Rattle.ktm_world.specs.Laws.{FirstOpensLieWithin}
use Rattle.ktm_world.specs.Logs.{Group, Power}
use Rattle.ktm_world.specs.Present.{Present}
use Rattle.ktm_world.specs.World.{World, present, extend, after, opened, decide_tick}
use Rattle.txf_laws.specs.GoodState.{IsGoodState}
use Rattle.ktm_courses.specs.SoundCourse.{IsSoundCourse}
use Rattle.txf_laws.specs.SoundFiles.{IsSoundKeys, IsSoundFiles}

-- what is so now is sound: transactions with all that takes part in them, and what they set of the keys and own and hold of the files
pub record IsSound (x : Present) : Type 0 where
  pub course : IsSoundCourse x
  pub keys : IsSoundKeys x
  pub files : IsSoundFiles x

-- a world is sound: each first open is of works that it has, and what is so now is sound
pub record IsSoundWorld (w : World) : Type 0 where
  pub openings : FirstOpensLieWithin w
  pub now : IsSound (present w)

-- a restart of a good state makes a sound world, and it stays sound, whatever command it is given, whatever time passes, and where it falls
pub record SoundWorldsLaw : Type 0 where
  -- by a restart of a good state
  pub restarts : (base : Durable) (log : List Group) → IsGoodState (stand base log) → IsSoundWorld (opened base log)
  -- by a command
  pub commands : (w : World) (process : Pid) (command : Command) → IsSoundWorld w → IsSoundWorld (after w process command)
  -- by the passing of time
  pub ticks : (w : World) (ms : ℕ) → IsSoundWorld w → IsSoundWorld (extend w (decide_tick (present w) ms))
  -- by the loss of power
  pub falls : (w : World) (power : Power) → IsSoundWorld w → IsSoundWorld (record w { power = power })
