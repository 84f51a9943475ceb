-- What transactions set of the keys stays sound.
use Rattle.std.specs.Prelude.{◌≡◌, ℕ, true, List}
use Rattle.ktm_base.specs.declared.id.Pid.{Pid}
use Rattle.ktm_world.specs.declared.command.Command.{Command}
use Rattle.ktm_world.specs.Decide.{decide}
use Rattle.ktm_world.specs.Durable.{Durable, stand}
use Rattle.ktm_world.specs.Logs.{Group}
use Rattle.ktm_world.specs.Outcome.{apply}
use Rattle.ktm_world.specs.Present.{Present}
use Rattle.ktm_world.specs.World.{present, opened, decide_tick}
use Rattle.txf_laws.specs.GoodState.{IsGoodState}
use Rattle.txf_laws.specs.SoundFiles.{IsSoundKeys, all_set_apart}

-- every command keeps sound what transactions set of the keys, and so does the passing of time, and a restart of a good state makes it so; then no two undecided transactions set the same key
abbrev pub OwnKeysLaw : Type 0
OwnKeysLaw = ((x : Present) (process : Pid) (command : Command) → IsSoundKeys x → IsSoundKeys (apply x (decide x process command)))
    × ((x : Present) (ms : ℕ) → IsSoundKeys x → IsSoundKeys (apply x (decide_tick x ms)))
    × ((base : Durable) (log : List Group) → IsGoodState (stand base log) → IsSoundKeys (present (opened base log)))
    × ((x : Present) → IsSoundKeys x → all_set_apart x ≡ true)
