-- What is committed, and what a loss of power leaves of it around a call.
use Rattle.std.specs.Prelude.{◌≡◌, ◌⊎◌, true, List, [], ◌∷◌, fold, Contains, Result, IfOk}
use Rattle.ktm_base.specs.declared.fault.NoMemory.{NoMemory}
use Rattle.ktm_base.specs.declared.id.Pid.{Pid}
use Rattle.ktm_base.specs.declared.refusal.Refusal.{Refusal}
use Rattle.ktm_kernel.specs.Answers.{CallLeaves}
use Rattle.ktm_kernel.specs.Stands.{KernelAt, KernelState}
use Rattle.ktm_laws.specs.Running.{HasEventsLeft}
use Rattle.ktm_log.specs.OnDisk.{OnDisk}
use Rattle.ktm_world.specs.declared.command.Command.{Command}
use Rattle.ktm_world.specs.declared.reply.Reply.{Reply}
use Rattle.ktm_world.specs.declared.reply.Reply.TheVariants.{Refused}
use Rattle.ktm_world.specs.Changes.{changed_all}
use Rattle.ktm_world.specs.Committed.{Work}
use Rattle.ktm_world.specs.Decide.{decide}
use Rattle.ktm_world.specs.Durable.{Durable, stand}
use Rattle.ktm_world.specs.Keys.{Store, stored_all}
use Rattle.ktm_world.specs.Logs.{Group}
use Rattle.ktm_world.specs.Outcome.{Outcome, apply}
use Rattle.ktm_world.specs.Present.{Present}
use Rattle.ktm_world.specs.Tree.{Tree}
use Rattle.ktm_world.specs.World.{World, possible_logs, present}

-- the committed files and keys
pub record Contents : Type 0 where
  pub tree : Tree
  pub keys : Store

-- those of a durable state
abbrev pub contents_of : Durable → Contents
contents_of s = record { tree = s.tree; keys = s.keys }

-- those that are so now
abbrev pub contents_now : Present → Contents
contents_now x = record { tree = x.files.tree; keys = x.keys.store }

-- with a work: its changes are made in order, and its settings
abbrev pub with_one : Contents → Work → Contents
with_one c work = record { tree = changed_all c.tree work.changes; keys = stored_all c.keys work.settings }

-- with works in order
abbrev pub with_works : Contents → List Work → Contents
with_works c works = fold with_one c works

-- those that are so after an outcome
abbrev pub contents_after : Present → Outcome → Contents
contents_after x o = with_works (contents_now x) o.works

-- each log that a loss of power may leave comes to one of these
abbrev pub Leaves : List Contents → World → Type 0
Leaves cs w = (log : List Group) → Contains (possible_logs w) log → Contains cs (contents_of (stand w.base log))

-- the machine stands for a world, of which a loss of power leaves one of these
pub record Keeps (cs : List Contents) (m : OnDisk KernelState) : Type 0 where
  pub world : World
  pub stands : KernelAt m.it m.told world
  pub leaves : Leaves cs world

-- the outcome came: it was told, a loss of power leaves what is so after it, and that is so now, in the world that the machine stands for then
pub record HasCome (x : Present) (o : Outcome) (reply : Reply) (m : OnDisk KernelState) : Type 0 where
  pub says : reply ≡ o.reply
  pub keeps : Keeps (contents_after x o ∷ []) m
  pub now : present keeps.world ≡ apply x o
  pub up : m.it.now.machine.is_up ≡ true

-- the reply refuses nothing
abbrev pub IsNoRefusal : Reply → Type 0
IsNoRefusal reply = (refusal : Refusal) → reply ≡ Refused refusal → ⊥

-- what a loss of power leaves around a call that was answered so, for each world that the machine stood for
pub record Commits (process : Pid) (command : Command) (old new : OnDisk KernelState) (answer : Result Reply NoMemory) : Type 0 where
  -- whatever came of it, what it left before, or that with what the call commits
  pub either : (cs : List Contents) (w : World) → KernelAt old.it old.told w → Leaves cs w → (old.it.now.machine.is_up ≡ true → Contains cs (contents_after (present w) (decide (present w) process command))) → Keeps cs new
  -- and the latter where the call was not refused, or the machine is up then
  pub comes : IfOk answer (λ reply. IsNoRefusal reply ⊎ (new.it.now.machine.is_up ≡ true) → (w : World) → KernelAt old.it old.told w → HasCome (present w) (decide (present w) process command) reply new)

-- so it is around every call
abbrev pub WorksLaw : Type 0
WorksLaw = (process : Pid) (command : Command) (old new : OnDisk KernelState) (answer : Result Reply NoMemory) → HasEventsLeft old.it.now → CallLeaves process command old new answer → Commits process command old new answer
