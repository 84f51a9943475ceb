-- What an answer of the machine leaves.
use Rattle.std.specs.Prelude.{◌≡◌, ℕ, ◌+◌, ◌≤◌, Bool, true, false, Result, Ok, Err}
use Rattle.ktm_base.specs.declared.fault.NoMemory.{NoMemory}
use Rattle.ktm_base.specs.Disk.{DeviceCalls}
use Rattle.ktm_debts.specs.Debts.{completes, debts, may_owe_more}
use Rattle.ktm_each.specs.Each.{EachOfFiles}
use Rattle.ktm_log.specs.OnDisk.{OnDisk}
use Rattle.ktm_memory.specs.Recorded.{IsUntouched}
use Rattle.ktm_memory.specs.Rules.{AllowsNone, Follows}
use Rattle.ktm_route.specs.declared.asked.Asked.{Asked}
use Rattle.ktm_route.specs.declared.asked.Asked.TheVariants.{Call, Units, Tick}
use Rattle.ktm_route.specs.Route.{decided}
use Rattle.ktm_slots.specs.Owed.{owed_slots}
use Rattle.ktm_world.specs.declared.reply.Reply.{Reply}
use Rattle.ktm_world.specs.Outcome.{Outcome}
use Rattle.ktm_world.specs.Present.{Present}
use Rattle.ktm_core.specs.Core.{CoreState, IsPowered, log_left}
use Rattle.ktm_core.specs.Done.{Ends, TouchesNothing, most_calls}

-- an outcome was answered: of a command that completes a transaction or not, that may owe more or not, and that puts units or not
pub record IsAnswered (completing owing writing : Bool) (o : Outcome) (old new : OnDisk CoreState) (reply : Reply) : Type 0 where
  pub ends : Ends new.status.is_down old.it o reply new.it old.told new.told
  pub powered : IsPowered new.it new.told new.status
  -- there is room for all notifications that may come to be sent without a call that makes room
  pub slots : new.it.now.machine.is_up ≡ true → owed_slots new.it.now ≤ new.it.slots
  -- the log has room for all that transactions under way may still record
  pub room : new.it.now.machine.is_up ≡ true → debts new.it.now + 1 ≤ log_left new.it.journal
  pub calls : DeviceCalls (most_calls completing writing old.it.journal o.events) old.status new.status new.status.is_down
  pub untouched : TouchesNothing owing writing old.it.journal o reply → IsUntouched old new

-- does what is asked complete a transaction; so does time that passes
abbrev pub asked_completes : Asked → Bool
asked_completes (Call process command) = completes command
asked_completes (Units process file start contents extent) = false
asked_completes (Tick ms) = true

-- may what is asked owe more
abbrev pub asked_owes_more : Asked → Bool
asked_owes_more (Call process command) = may_owe_more command
asked_owes_more (Units process file start contents extent) = true
asked_owes_more (Tick ms) = false

-- does what is asked put units
abbrev pub asked_writes : Asked → Bool
asked_writes (Call process command) = false
asked_writes (Units process file start contents extent) = true
asked_writes (Tick ms) = false

-- what that leaves; out of memory the disk is as it was
abbrev pub CoreLeaves : Present → Asked → OnDisk CoreState → OnDisk CoreState → Result Reply NoMemory → Type 0
CoreLeaves x asked old new (Ok reply) = IsAnswered (asked_completes asked) (asked_owes_more asked) (asked_writes asked) (decided x asked) old new reply
CoreLeaves x asked old new (Err fault) = IsUntouched old new

-- out of memory: nothing has changed, and there is room for no fewer notifications
pub record IsAsItWas (old new : CoreState) : Type 0 where
  pub now : new.now ≡ old.now
  pub journal : new.journal ≡ old.journal
  pub store : new.store ≡ old.store
  pub slots : old.slots ≤ new.slots

-- whichever rule all places of the files follow, and those that are put, all places of the files follow it then
abbrev pub KeepsRules : ((ℕ → ℕ → ℕ → Bool) → Type 0) → Present → Present → Type 0
KeepsRules puts old new = (rule : ℕ → ℕ → ℕ → Bool) → AllowsNone rule → EachOfFiles (Follows rule) old.files → puts rule → EachOfFiles (Follows rule) new.files
