-- What a command comes to does not depend on the bytes of files.
use Rattle.std.specs.Prelude.{◌≡◌, ℕ, List}
use Rattle.ktm_base.specs.declared.id.Pid.{Pid}
use Rattle.ktm_world.specs.declared.command.Command.{Command}
use Rattle.ktm_world.specs.Decide.{refusal_of, decide}
use Rattle.ktm_world.specs.Durable.{Durable}
use Rattle.ktm_world.specs.Logs.{Group}
use Rattle.ktm_world.specs.Outcome.{Outcome, apply}
use Rattle.ktm_world.specs.Present.{Present}
use Rattle.ktm_world.specs.World.{present, opened, decide_tick}
use Rattle.ktm_mapped.specs.Mapped.{IsBlank, mapped_log, mapped_durable}
use Rattle.ktm_alike.specs.Alike.{mapped_present, mapped_command, mapped_outcome, mapped_answer}

-- with its bytes replaced a command is refused for the same, and comes to the same with the bytes replaced; so does the passing of time
pub record CommandsAlike (f : ℕ → ℕ) : Type 0 where
  pub refused : (x : Present) (process : Pid) (c : Command) → refusal_of (mapped_present f x) process (mapped_command f c) ≡ refusal_of x process c
  pub decided : (x : Present) (process : Pid) (c : Command) → decide (mapped_present f x) process (mapped_command f c) ≡ mapped_answer f c (decide x process c)
  pub ticked : (x : Present) (ms : ℕ) → decide_tick (mapped_present f x) ms ≡ mapped_outcome f (decide_tick x ms)

-- what is so after an outcome, and once a log is opened, is the same with the bytes replaced
pub record PresentsAlike (f : ℕ → ℕ) : Type 0 where
  pub applied : (x : Present) (o : Outcome) → apply (mapped_present f x) (mapped_outcome f o) ≡ mapped_present f (apply x o)
  pub answered : (x : Present) (c : Command) (o : Outcome) → apply (mapped_present f x) (mapped_answer f c o) ≡ mapped_present f (apply x o)
  pub opens : (base : Durable) (log : List Group) → present (opened (mapped_durable f base) (mapped_log f log)) ≡ mapped_present f (present (opened base log))

-- with every byte of every content replaced by another one, and zero by zero, each command, the passing of time and a restart come to the same
abbrev pub AlikeLaw : Type 0
AlikeLaw = (f : ℕ → ℕ) → IsBlank f → CommandsAlike f × PresentsAlike f
