-- What transactions that are under way may still record, in bytes: their debts, for which the log keeps room.
use Rattle.std.specs.Prelude.{◌≡◌, ℕ, ◌+◌, ◌*◌, ◌≤◌, ◌||◌, Bool, true, false, List, [], ◌∷◌, filter, is_some, sum_by, if◌then◌else◌}
use Rattle.ktm_base.specs.declared.id.Id.{Id}
use Rattle.ktm_base.specs.declared.id.Pid.{Pid}
use Rattle.ktm_world.specs.declared.command.Command.{Command}
use Rattle.ktm_world.specs.declared.command.Command.TheVariants.{CreateTransaction, CreateEnlistment, CreateFileTransacted, WriteFile, SetEndOfFile, WriteUnits, DeleteFileTransacted, CreateDirectoryTransacted, RemoveDirectoryTransacted, MoveFileTransacted, KvSet, KvUnset}
use Rattle.ktm_world.specs.declared.event.Event.{Event}
use Rattle.ktm_world.specs.declared.object.Phase.{Phase}
use Rattle.ktm_world.specs.declared.object.Phase.TheVariants.{Active, Requested, PrePreparing, PrePrepared, Preparing, SinglePhase, Held, InDoubt, Committing, Aborting, Ended}
use Rattle.ktm_world.specs.declared.object.Transaction.{Transaction}
use Rattle.ktm_world.specs.Completions.{completion_of}
use Rattle.ktm_world.specs.Decide.{decide}
use Rattle.ktm_world.specs.Enlistments.{Enlistment, is_superior}
use Rattle.ktm_world.specs.Files.{own_changes}
use Rattle.ktm_world.specs.Keys.{own_settings}
use Rattle.ktm_world.specs.Outcome.{apply}
use Rattle.ktm_world.specs.Present.{Present}
use Rattle.ktm_world.specs.Sizes.{area_len, change_size, frame_size, setting_size}
use Rattle.ktm_world.specs.Transactions.{same_id}
use Rattle.ktm_world.specs.World.{decide_tick}
use Rattle.ktm_records.specs.Kept.{IsKept}

-- ---- debts

-- what an enlistment may still record: that it is prepared, with what it recovers by, and then that it has finished
abbrev pub enlistment_debt : Enlistment → ℕ
enlistment_debt e = if is_superior e || e.is_read_only || e.is_finished then 0 else if e.is_prepared then 32 else 256

-- what the enlistments of a transaction may still record
abbrev pub enlistments_debt : List Enlistment → Id → ℕ
enlistments_debt es id = sum_by enlistment_debt (filter (λ e. same_id e.transaction id) es)

-- the items of what a transaction changed and set, which are recorded once
abbrev pub items_debt : Present → Id → ℕ
items_debt x id = sum_by change_size (own_changes x.files.table.own id) + sum_by setting_size (own_settings x.keys.own id)

-- by the phase: before its items are recorded 512 bytes beside them, while its superior decides 64, and what its enlistments may record, but where it rolls back or has ended
abbrev pub debt_in : Phase → ℕ → ℕ → ℕ
debt_in Active items enlistments = 512 + items + enlistments
debt_in Requested items enlistments = 512 + items + enlistments
debt_in PrePreparing items enlistments = 512 + items + enlistments
debt_in PrePrepared items enlistments = 512 + items + enlistments
debt_in Preparing items enlistments = 512 + items + enlistments
debt_in SinglePhase items enlistments = 512 + items + enlistments
debt_in Held items enlistments = 64 + enlistments
debt_in InDoubt items enlistments = 64 + enlistments
debt_in Committing items enlistments = enlistments
debt_in Aborting items enlistments = 0
debt_in Ended items enlistments = 0

-- what a transaction may still record
abbrev pub debt_of : Present → Transaction → ℕ
debt_of x t = debt_in t.phase (items_debt x t.id) (enlistments_debt x.transactions.enlistments t.id)

-- what all transactions may still record
unfoldable pub debts : Present → ℕ
debts x = sum_by (debt_of x) x.transactions.items

-- the greatest debts of all transactions of an image of so many units
abbrev pub most_debts : ℕ → ℕ
most_debts units = 1536 * units + 49152

-- ---- commands

-- is it a command on the way to a transaction's end, or one that tells of it
abbrev pub completes : Command → Bool
completes command = is_some (completion_of command)

-- may the command raise the debts: it makes a transaction or an enlistment, or changes or sets something for a transaction
abbrev pub may_owe_more : Command → Bool
may_owe_more (CreateTransaction label timeout) = true
may_owe_more (CreateEnlistment label manager transaction kind) = true
may_owe_more (CreateFileTransacted label path access share disposition transaction) = true
may_owe_more (WriteFile file offset bytes) = true
may_owe_more (SetEndOfFile file size) = true
may_owe_more (WriteUnits file start contents) = true
may_owe_more (DeleteFileTransacted path transaction) = true
may_owe_more (CreateDirectoryTransacted path transaction) = true
may_owe_more (RemoveDirectoryTransacted path transaction) = true
may_owe_more (MoveFileTransacted source target transaction) = true
may_owe_more (KvSet transaction key value) = true
may_owe_more (KvUnset transaction key) = true
may_owe_more _ = false

-- ---- the law

-- the bytes of a frame of events; none take none
abbrev pub frame_of : List Event → ℕ
frame_of [] = 0
frame_of (event ∷ events) = frame_size (event ∷ events)

-- what is so in a kept machine, of the debts and of what a command records
pub record DebtsLaw : Type 0 where
  -- the greatest debts are no less than any
  pub most : (x : Present) → IsKept x → debts x ≤ most_debts x.recorded.units
  -- what is on the way to a transaction's end records no more than the debts fall by
  pub completions : (x : Present) (process : Pid) (command : Command) → IsKept x → completes command ≡ true → frame_of (decide x process command).events + debts (apply x (decide x process command)) ≤ debts x
  -- so does time that passes
  pub ticks : (x : Present) (ms : ℕ) → IsKept x → frame_of (decide_tick x ms).events + debts (apply x (decide_tick x ms)) ≤ debts x
  -- a command that records nothing raises the debts only where it may owe more
  pub quiet : (x : Present) (process : Pid) (command : Command) → IsKept x → may_owe_more command ≡ false → (decide x process command).events ≡ [] → debts (apply x (decide x process command)) ≤ debts x
  -- what any other command records fits an empty log beside the greatest debts, with a gate behind both
  pub fits : (x : Present) (process : Pid) (command : Command) → IsKept x → completes command ≡ false → frame_of (decide x process command).events + most_debts x.recorded.units + 1 ≤ area_len x.recorded.units
