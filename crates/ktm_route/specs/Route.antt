-- What is asked, the call to which it is routed, and what it comes to.
use Rattle.std.specs.Prelude.{◌≡◌, ℕ, ◌≤◌, ◌&&◌, not, Bool, true, false, List, [], ◌∷◌, length, Option, Some, None, Result, Ok, Err, is_some, if◌then◌else◌}
use Rattle.ktm_base.specs.declared.id.Label.{Label}
use Rattle.ktm_base.specs.declared.id.Id.{Id}
use Rattle.ktm_base.specs.declared.id.Pid.{Pid}
use Rattle.ktm_base.specs.declared.refusal.Refusal.{Refusal}
use Rattle.ktm_base.specs.declared.refusal.Refusal.TheVariants.{HandleNoLongerValid, InvalidParameter, TransactionSuperiorExists}
use Rattle.ktm_world.specs.declared.command.Command.{Command}
use Rattle.ktm_world.specs.declared.command.Command.TheVariants.{PrePrepareComplete, PrepareComplete, ReadOnlyEnlistment, SinglePhaseReject, CommitComplete, RollbackComplete, RollbackEnlistment, CreateFile, CreateFileTransacted, ReadFile, WriteFile, SetEndOfFile, WriteUnits, GetFileSizeEx, FlushFileBuffers, DeleteFile, CreateDirectory, RemoveDirectory, MoveFile, DeleteFileTransacted, CreateDirectoryTransacted, RemoveDirectoryTransacted, MoveFileTransacted, FindFiles, FindFilesTransacted}
use Rattle.ktm_world.specs.declared.object.Object.{Object}
use Rattle.ktm_world.specs.declared.options.EnlistmentKind.{EnlistmentKind}
use Rattle.ktm_world.specs.Enlistments.{Enlistment, is_durable_at, is_live_enlistment, superior_of}
use Rattle.ktm_world.specs.declared.reply.Reply.TheVariants.{Refused}
use Rattle.ktm_world.specs.Decide.{decide}
use Rattle.ktm_world.specs.Labels.{file_named, file_number, holds_of, invalid_handle, is_dead}
use Rattle.ktm_world.specs.Outcome.{Outcome, only_reply}
use Rattle.ktm_world.specs.Present.{Present, Transactions}
use Rattle.ktm_world.specs.TransactionCalls.{is_superior_kind}
use Rattle.ktm_world.specs.Transactions.{same_id}
use Rattle.ktm_world.specs.World.{decide_tick}
use Rattle.ktm_world.specs.Values.{IsCommand, IsGiven}
use Rattle.ktm_each.specs.Each.{EachFrom}
use Rattle.ktm_world.specs.Files.{FilesNow, OpenFile, bytes_seen}
use Rattle.ktm_route.specs.declared.asked.Asked.{Asked}
use Rattle.ktm_route.specs.declared.asked.Asked.TheVariants.{Call, Units, Tick}
use Rattle.ktm_memory.specs.declared.routed.Routed.{Routed}
use Rattle.ktm_memory.specs.declared.routed.Routed.TheVariants.{Units as OfUnits}
use Rattle.ktm_memory.specs.Routed.{IsReadyFor, outcome_of}
use Rattle.ktm_memory.specs.Rules.{Follows}
use Rattle.ktm_memory.specs.Units.{AreUnits}
use Rattle.ktm_memory.specs.Takes.{routed_takes_memory}
use Rattle.ktm_route.specs.Takes.{takes_memory}

-- does the call put whole units
abbrev pub puts_units : Routed → Bool
puts_units (OfUnits who file start contents extent) = true
puts_units _ = false

-- is the command a put of whole units
abbrev pub is_put_of_units : Command → Bool
is_put_of_units (WriteUnits file start contents) = true
is_put_of_units _ = false

-- a command comes to what a call comes to, for which its labels are ready, may take memory where the call may, and puts whole units where the call does
abbrev pub IsRouted : Present → Pid → Command → Routed → Type 0
IsRouted x process command routed =
    (decide x process command ≡ outcome_of x process routed) × IsReadyFor x process routed × (takes_memory x process command ≡ routed_takes_memory x routed) × (puts_units routed ≡ is_put_of_units command)

-- a command is routed to a call, or comes to a refusal
abbrev pub Routes : Present → Pid → Command → Result Routed Refusal → Type 0
Routes x process command (Ok routed) = IsRouted x process command routed
Routes x process command (Err refusal) = decide x process command ≡ only_reply x (Refused refusal)

-- what is routed comes to: what the call comes to, or the refusal
abbrev pub routed_outcome : Present → Pid → Result Routed Refusal → Outcome
routed_outcome x process (Ok routed) = outcome_of x process routed
routed_outcome x process (Err refusal) = only_reply x (Refused refusal)

-- is the command one on an open file
abbrev pub is_on_open_file : Command → Bool
is_on_open_file (WriteFile file offset bytes) = true
is_on_open_file (SetEndOfFile file size) = true
is_on_open_file (GetFileSizeEx file) = true
is_on_open_file (FlushFileBuffers file) = true
is_on_open_file _ = false

-- is it one on a path, in a transaction
abbrev pub is_transacted : Command → Bool
is_transacted (CreateFileTransacted label path access share disposition transaction) = true
is_transacted (DeleteFileTransacted path transaction) = true
is_transacted (CreateDirectoryTransacted path transaction) = true
is_transacted (RemoveDirectoryTransacted path transaction) = true
is_transacted (MoveFileTransacted source target transaction) = true
is_transacted (FindFilesTransacted searched transaction) = true
is_transacted _ = false

-- is it a plain one on a path
abbrev pub is_on_path : Command → Bool
is_on_path (CreateFile label path access share disposition) = true
is_on_path (DeleteFile path) = true
is_on_path (CreateDirectory path) = true
is_on_path (RemoveDirectory path) = true
is_on_path (MoveFile source target) = true
is_on_path (FindFiles searched) = true
is_on_path _ = false

-- does an enlistment reply by the command
abbrev pub is_reply : Command → Bool
is_reply (PrePrepareComplete label) = true
is_reply (PrepareComplete label) = true
is_reply (ReadOnlyEnlistment label) = true
is_reply (SinglePhaseReject label) = true
is_reply (CommitComplete label) = true
is_reply (RollbackComplete label) = true
is_reply (RollbackEnlistment label) = true
is_reply _ = false

-- the tests on the kind of an enlistment: a superior wants a durable resource manager, and a transaction without a superior
abbrev pub kind_tests : Present → Id → Id → EnlistmentKind → List (Bool × Refusal)
kind_tests x manager transaction kind =
    (is_superior_kind kind && not (is_durable_at x.managers manager), InvalidParameter)
    ∷ (is_superior_kind kind && is_some (superior_of x.transactions.enlistments transaction), TransactionSuperiorExists)
    ∷ []

-- the Id of an enlistment that is one of this resource manager and live, if there is one
abbrev pub live_of : Transactions → Id → Option Enlistment → Option Id
live_of ts manager None = None
live_of ts manager (Some e) = if same_id e.manager manager && is_live_enlistment ts.items e then Some e.id else None

-- the tests on the handle that is duplicated
abbrev pub source_tests : FilesNow → Option Object → List (Bool × Refusal)
source_tests files named = invalid_handle named ∷ (holds_of (is_dead files) (file_number named), HandleNoLongerValid) ∷ []

-- ---- what is asked, where contents are the places of their bytes

-- the bytes that are seen of the open file that a label names are so, if it names one
abbrev pub OfNamed : Present → Pid → Label → (List ℕ → Type 0) → Type 0
OfNamed x process label P = (o : OpenFile) → file_named x process label ≡ Some o → P (bytes_seen x.files o.transaction o.node)

-- the command reads and puts no bytes, and makes no file longer
abbrev pub NeedsNoBytes : Present → Pid → Command → Type 0
NeedsNoBytes x process (ReadFile file offset many) = ⊥
NeedsNoBytes x process (WriteFile file offset bytes) = bytes ≡ []
NeedsNoBytes x process (SetEndOfFile file size) = OfNamed x process file (λ seen. size ≤ length seen)
NeedsNoBytes x process (WriteUnits file start contents) = ⊥
NeedsNoBytes x process command = Unit {0}

-- a command that a line spells, and that can be done where contents are places
abbrev pub IsOfPlaces : Present → Pid → Command → Type 0
IsOfPlaces x process command = IsCommand command × NeedsNoBytes x process command

-- what is asked is decided once, on what is so now
abbrev pub decided : Present → Asked → Outcome
decided x (Call process command) = decide x process command
decided x (Units process file start contents extent) = decide x process (WriteUnits file start contents)
decided x (Tick ms) = decide_tick x ms

-- can it be asked: a call that can be done where contents are places, or a put of whole units that are recorded by their extent
abbrev pub CanBeAsked : Present → Asked → Type 0
CanBeAsked x (Call process command) = IsOfPlaces x process command
CanBeAsked x (Units process file start contents extent) = IsGiven (WriteUnits file start contents) × OfNamed x process file (λ seen. AreUnits seen start contents extent)
CanBeAsked x (Tick ms) = Unit {0}

-- the places that are put, if any are, follow the rule
abbrev pub AskedPutsBy : Present → (ℕ → ℕ → ℕ → Bool) → Asked → Type 0
AskedPutsBy x rule (Units process file start contents extent) = (o : OpenFile) → file_named x process file ≡ Some o → EachFrom (Follows rule o.node) start contents
AskedPutsBy x rule _ = Unit {0}
