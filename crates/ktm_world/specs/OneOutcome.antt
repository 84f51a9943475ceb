-- What a transcript tells of the outcomes of transactions.
use Rattle.std.specs.Prelude.{◌≡◌, ℕ, Bool, true, false, List, [], ◌∷◌, ◌++◌, find, Option, Some, None, Contains, option_and_then, bytes_eq}
use Rattle.ktm_base.specs.declared.id.Id.{Id}
use Rattle.ktm_base.specs.declared.id.Label.{Label}
use Rattle.ktm_base.specs.declared.id.ObjectKind.{ObjectKind}
use Rattle.ktm_base.specs.declared.id.Pid.{Pid}
use Rattle.ktm_base.specs.declared.notify.Notify.{Notify}
use Rattle.ktm_base.specs.declared.refusal.Refusal.TheVariants.{TransactionAlreadyCommitted, TransactionAlreadyAborted}
use Rattle.ktm_base.specs.Guid.{guid_of}
use Rattle.ktm_world.specs.declared.command.Command.{Command}
use Rattle.ktm_world.specs.declared.command.Command.TheVariants.{CommitTransaction, RollbackTransaction, GetTransactionInformation, CreateEnlistment, CreateFileTransacted, DeleteFileTransacted, CreateDirectoryTransacted, RemoveDirectoryTransacted, MoveFileTransacted, FindFilesTransacted, KvSet, KvUnset, KvGet, KvList}
use Rattle.ktm_world.specs.declared.command.Line.{Line}
use Rattle.ktm_world.specs.declared.command.Line.TheVariants.{Tick, Cut, Crash, Restart, Process}
use Rattle.ktm_world.specs.declared.command.View.{View}
use Rattle.ktm_world.specs.declared.command.View.TheVariants.{Plain, Transaction as Through}
use Rattle.ktm_world.specs.declared.object.TransactionOutcome.{TransactionOutcome}
use Rattle.ktm_world.specs.declared.reply.Reply.{Reply}
use Rattle.ktm_world.specs.declared.reply.Reply.TheVariants.{Refused, Committed, Information, Notification}
use Rattle.ktm_world.specs.Handles.{object_at, transaction_id}
use Rattle.ktm_world.specs.Transcript.{Step, answered, interrupted, found, worn}
use Rattle.ktm_world.specs.Logs.{is_up}
use Rattle.ktm_world.specs.Decide.{decide}
use Rattle.ktm_world.specs.Outcome.{Outcome}
use Rattle.ktm_world.specs.World.{World, present, extend, decide_tick, crashed, interrupted_by, interrupted_restart, found_worn, opened}

-- a transaction is told to have committed, or to have rolled back
pub record Telling : Type 0 where
  pub transaction : Id
  pub has_committed : Bool

-- the label that a view is through, if it is through one
abbrev pub view_label : View → Option Label
view_label Plain = None
view_label (Through label) = Some label

-- the label of the transaction that a call names
abbrev pub transaction_label : Command → Option Label
transaction_label (CommitTransaction transaction) = Some transaction
transaction_label (RollbackTransaction transaction) = Some transaction
transaction_label (GetTransactionInformation transaction) = Some transaction
transaction_label (CreateEnlistment label manager transaction kind) = Some transaction
transaction_label (CreateFileTransacted label path access share disposition transaction) = Some transaction
transaction_label (DeleteFileTransacted path transaction) = Some transaction
transaction_label (CreateDirectoryTransacted path transaction) = Some transaction
transaction_label (RemoveDirectoryTransacted path transaction) = Some transaction
transaction_label (MoveFileTransacted source target transaction) = Some transaction
transaction_label (FindFilesTransacted searched transaction) = Some transaction
transaction_label (KvSet transaction key value) = Some transaction
transaction_label (KvUnset transaction key) = Some transaction
transaction_label (KvGet view key) = view_label view
transaction_label (KvList view) = view_label view
transaction_label _ = None

-- what a notification of an enlistment says of its transaction
abbrev pub told_by : Notify → Option Bool
told_by Notify.Commit = Some true
told_by Notify.CommitComplete = Some true
told_by Notify.Rollback = Some false
told_by Notify.RollbackComplete = Some false
told_by _ = None

-- what an outcome says: that the transaction has committed, that it has rolled back, or nothing
abbrev pub told_outcome : TransactionOutcome → Option Bool
told_outcome TransactionOutcome.Committed = Some true
told_outcome TransactionOutcome.Aborted = Some false
told_outcome TransactionOutcome.Undetermined = None

-- what a reply says of the transaction that the call names
abbrev pub told_of_named : Reply → Option Bool
told_of_named Committed = Some true
told_of_named (Refused TransactionAlreadyCommitted) = Some true
told_of_named (Refused TransactionAlreadyAborted) = Some false
told_of_named (Information transaction state outcome) = told_outcome outcome
told_of_named _ = None

-- what is said of a transaction, where one is meant and something is said of it
abbrev pub telling_of : Option Id → Option Bool → List Telling
telling_of (Some id) (Some committed) = record { transaction = id; has_committed = committed } ∷ []
telling_of _ _ = []

-- the transaction of the enlistment with a GUID
abbrev pub transaction_of_enlistment : World → List ℕ → Option Id
transaction_of_enlistment w guid =
    option_and_then (λ e. Some e.transaction) (find (λ e. bytes_eq (guid_of ObjectKind.Enlistment w.base.image e.id) guid) w.transactions.enlistments)

-- the transaction that a label of the process names, if there is a label
abbrev pub named_by : World → Pid → Option Label → Option Id
named_by w process None = None
named_by w process (Some label) = transaction_id (object_at w.handles process label)

-- what a call and its reply tell
abbrev pub tells : World → Pid → Command → Reply → List Telling
tells w process command (Notification kind (Some guid)) = telling_of (transaction_of_enlistment w guid) (told_by kind)
tells w process command reply = telling_of (named_by w process (transaction_label command)) (told_of_named reply)

-- what a line and its reply tell; only a call tells anything
abbrev pub line_tells : World → Option Line → Reply → List Telling
line_tells w (Some (Process process command)) reply = tells w process command reply
line_tells w _ reply = []

-- ---- the worlds of a transcript

-- the world after a call with this outcome that came by this step
abbrev pub call_goes : World → Outcome → Step → World
call_goes w o answered = extend w o
call_goes w o interrupted = interrupted_by w o
call_goes w o _ = w

-- the world after a crash, which takes the power of a machine that is up
abbrev pub crash_goes : Bool → World → World
crash_goes true w = crashed w
crash_goes false w = w

-- the world after a restart that came by this step
abbrev pub restart_goes : World → Step → World
restart_goes w answered = w
restart_goes w interrupted = interrupted_restart w
restart_goes w (found log) = opened w.base log
restart_goes w (worn log) = found_worn w log

-- the world after a line that came by this step
abbrev pub goes : World → Option Line → Step → World
goes w (Some (Process process command)) step = call_goes w (decide (present w) process command) step
goes w (Some (Tick ms)) step = call_goes w (decide_tick (present w) ms) step
goes w (Some (Cut calls)) step = w
goes w (Some Crash) step = crash_goes (is_up w.power) w
goes w (Some (Restart pick)) step = restart_goes w step
goes w None step = w

-- all that the lines and replies of a transcript tell
abbrev pub tellings : World → List (Option Line) → List Step → List Reply → List Telling
tellings w (line ∷ lines) (step ∷ steps) (reply ∷ replies) = line_tells w line reply ++ tellings (goes w line step) lines steps replies
tellings w _ _ _ = []

-- no transaction, by its Id over all boots, is told to have committed and to have rolled back
abbrev pub HasOneOutcome : List Telling → Type 0
HasOneOutcome told = (a b : Telling) → Contains told a → Contains told b → a.transaction ≡ b.transaction → a.has_committed ≡ b.has_committed
