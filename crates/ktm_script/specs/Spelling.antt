-- The grammar of lines: how each line is spelled, and which lines there are.
use Rattle.std.specs.Prelude.{ℕ, ◌^◌, ◌<◌, ◌≤◌, List, [], ◌∷◌, ◌++◌, length, codes, decimal}
use Rattle.ktm_base.specs.declared.limits.TheConstants.{MOST_LINE_BYTES}
use Rattle.ktm_base.specs.declared.id.Label.{Label}
use Rattle.ktm_base.specs.declared.id.Pid.{Pid}
use Rattle.ktm_codec.specs.Guid.{guid_spelling}
use Rattle.ktm_codec.specs.Hex.{hex_or_dash}
use Rattle.ktm_codec.specs.Quoted.{quoted}
use Rattle.ktm_world.specs.declared.command.Command.{Command}
use Rattle.ktm_world.specs.declared.command.Command.TheVariants.{CreateTransaction, OpenTransaction, CommitTransaction, RollbackTransaction, GetTransactionInformation, CreateResourceManager, OpenResourceManager, RecoverResourceManager, GetNotificationResourceManager, CreateEnlistment, OpenEnlistment, RecoverEnlistment, PrePrepareComplete, PrepareComplete, ReadOnlyEnlistment, CommitComplete, RollbackComplete, SinglePhaseReject, RollbackEnlistment, PrePrepareEnlistment, PrepareEnlistment, CommitEnlistment, SetEnlistmentRecoveryInformation, GetEnlistmentRecoveryInformation, CreateFile, CreateFileTransacted, ReadFile, WriteFile, SetEndOfFile, WriteUnits, GetFileSizeEx, FlushFileBuffers, DeleteFile, CreateDirectory, RemoveDirectory, MoveFile, DeleteFileTransacted, CreateDirectoryTransacted, RemoveDirectoryTransacted, MoveFileTransacted, FindFiles, FindFilesTransacted, KvSet, KvUnset, KvGet, KvList, CloseHandle, DuplicateHandle, Exit}
use Rattle.ktm_world.specs.declared.command.Line.{Line}
use Rattle.ktm_world.specs.declared.command.Line.TheVariants.{Tick, Cut, Crash, Restart, Process}
use Rattle.ktm_world.specs.declared.command.View.{View}
use Rattle.ktm_world.specs.declared.command.View.TheVariants as view
use Rattle.ktm_world.specs.declared.options.Access.{Access}
use Rattle.ktm_world.specs.declared.options.Access.TheVariants as access
use Rattle.ktm_world.specs.declared.options.ShareMode.{ShareMode}
use Rattle.ktm_world.specs.declared.options.ShareMode.TheVariants as share
use Rattle.ktm_world.specs.declared.options.Disposition.{Disposition}
use Rattle.ktm_world.specs.declared.options.Disposition.TheVariants as disposition
use Rattle.ktm_world.specs.declared.options.Durability.{Durability}
use Rattle.ktm_world.specs.declared.options.Durability.TheVariants as durability
use Rattle.ktm_world.specs.declared.options.EnlistmentKind.{EnlistmentKind}
use Rattle.ktm_world.specs.declared.options.EnlistmentKind.TheVariants as kind
use Rattle.ktm_world.specs.Values.{IsPid, IsCommand}

-- the space between two parts
abbrev pub space : ℕ
space = 32

-- a part, and behind a space the parts that follow it
infixr 30 ◌␣◌
abbrev pub ◌␣◌ : List ℕ → List ℕ → List ℕ
part ␣ parts = part ++ space ∷ parts

-- a process: p and its number
abbrev pub process_spelling : Pid → List ℕ
process_spelling process = codes "p" ++ decimal process.0

-- a label: h and its number
abbrev pub label_spelling : Label → List ℕ
label_spelling label = codes "h" ++ decimal label.0

-- a view: a dash for the plain one, or the label of a transaction
abbrev pub view_spelling : View → List ℕ
view_spelling view.Plain = codes "-"
view_spelling (view.Transaction label) = label_spelling label

-- the letters of what a file may be used for
abbrev pub access_spelling : Access → List ℕ
access_spelling access.Read = codes "r"
access_spelling access.Write = codes "w"
access_spelling access.ReadWrite = codes "rw"

-- the letters of what others may use a file for, or a dash
abbrev pub share_spelling : ShareMode → List ℕ
share_spelling share.Nothing = codes "-"
share_spelling share.Read = codes "r"
share_spelling share.Write = codes "w"
share_spelling share.ReadWrite = codes "rw"

-- the word of a disposition
abbrev pub disposition_spelling : Disposition → List ℕ
disposition_spelling disposition.CreateNew = codes "CREATE_NEW"
disposition_spelling disposition.CreateAlways = codes "CREATE_ALWAYS"
disposition_spelling disposition.OpenExisting = codes "OPEN_EXISTING"
disposition_spelling disposition.OpenAlways = codes "OPEN_ALWAYS"
disposition_spelling disposition.TruncateExisting = codes "TRUNCATE_EXISTING"

-- the word of a durability
abbrev pub durability_spelling : Durability → List ℕ
durability_spelling durability.Volatile = codes "volatile"
durability_spelling durability.Durable = codes "durable"

-- the word of a kind of enlistment
abbrev pub kind_spelling : EnlistmentKind → List ℕ
kind_spelling kind.Plain = codes "plain"
kind_spelling kind.PrePrepare = codes "preprepare"
kind_spelling kind.SinglePhase = codes "singlephase"
kind_spelling kind.Both = codes "both"
kind_spelling kind.Superior = codes "superior"

-- a command: its name, and its values behind a space each; no line spells whole units that are put
abbrev pub command_spelling : Command → List ℕ
command_spelling (CreateTransaction label timeout) = codes "CreateTransaction" ␣ label_spelling label ␣ decimal timeout
command_spelling (OpenTransaction label guid) = codes "OpenTransaction" ␣ label_spelling label ␣ guid_spelling guid
command_spelling (CommitTransaction transaction) = codes "CommitTransaction" ␣ label_spelling transaction
command_spelling (RollbackTransaction transaction) = codes "RollbackTransaction" ␣ label_spelling transaction
command_spelling (GetTransactionInformation transaction) = codes "GetTransactionInformation" ␣ label_spelling transaction
command_spelling (CreateResourceManager label durability) = codes "CreateResourceManager" ␣ label_spelling label ␣ durability_spelling durability
command_spelling (OpenResourceManager label guid) = codes "OpenResourceManager" ␣ label_spelling label ␣ guid_spelling guid
command_spelling (RecoverResourceManager manager) = codes "RecoverResourceManager" ␣ label_spelling manager
command_spelling (GetNotificationResourceManager manager) = codes "GetNotificationResourceManager" ␣ label_spelling manager
command_spelling (CreateEnlistment label manager transaction kind) = codes "CreateEnlistment" ␣ label_spelling label ␣ label_spelling manager ␣ label_spelling transaction ␣ kind_spelling kind
command_spelling (OpenEnlistment label manager guid) = codes "OpenEnlistment" ␣ label_spelling label ␣ label_spelling manager ␣ guid_spelling guid
command_spelling (RecoverEnlistment enlistment) = codes "RecoverEnlistment" ␣ label_spelling enlistment
command_spelling (PrePrepareComplete enlistment) = codes "PrePrepareComplete" ␣ label_spelling enlistment
command_spelling (PrepareComplete enlistment) = codes "PrepareComplete" ␣ label_spelling enlistment
command_spelling (ReadOnlyEnlistment enlistment) = codes "ReadOnlyEnlistment" ␣ label_spelling enlistment
command_spelling (CommitComplete enlistment) = codes "CommitComplete" ␣ label_spelling enlistment
command_spelling (RollbackComplete enlistment) = codes "RollbackComplete" ␣ label_spelling enlistment
command_spelling (SinglePhaseReject enlistment) = codes "SinglePhaseReject" ␣ label_spelling enlistment
command_spelling (RollbackEnlistment enlistment) = codes "RollbackEnlistment" ␣ label_spelling enlistment
command_spelling (PrePrepareEnlistment enlistment) = codes "PrePrepareEnlistment" ␣ label_spelling enlistment
command_spelling (PrepareEnlistment enlistment) = codes "PrepareEnlistment" ␣ label_spelling enlistment
command_spelling (CommitEnlistment enlistment) = codes "CommitEnlistment" ␣ label_spelling enlistment
command_spelling (SetEnlistmentRecoveryInformation enlistment information) = codes "SetEnlistmentRecoveryInformation" ␣ label_spelling enlistment ␣ hex_or_dash information
command_spelling (GetEnlistmentRecoveryInformation enlistment) = codes "GetEnlistmentRecoveryInformation" ␣ label_spelling enlistment
command_spelling (CreateFile label path access share disposition) = codes "CreateFile" ␣ label_spelling label ␣ quoted path ␣ access_spelling access ␣ share_spelling share ␣ disposition_spelling disposition
command_spelling (CreateFileTransacted label path access share disposition transaction) = codes "CreateFileTransacted" ␣ label_spelling label ␣ quoted path ␣ access_spelling access ␣ share_spelling share ␣ disposition_spelling disposition ␣ label_spelling transaction
command_spelling (ReadFile file offset many) = codes "ReadFile" ␣ label_spelling file ␣ decimal offset ␣ decimal many
command_spelling (WriteFile file offset bytes) = codes "WriteFile" ␣ label_spelling file ␣ decimal offset ␣ hex_or_dash bytes
command_spelling (SetEndOfFile file size) = codes "SetEndOfFile" ␣ label_spelling file ␣ decimal size
command_spelling (WriteUnits file start contents) = []
command_spelling (GetFileSizeEx file) = codes "GetFileSizeEx" ␣ label_spelling file
command_spelling (FlushFileBuffers file) = codes "FlushFileBuffers" ␣ label_spelling file
command_spelling (DeleteFile path) = codes "DeleteFile" ␣ quoted path
command_spelling (CreateDirectory path) = codes "CreateDirectory" ␣ quoted path
command_spelling (RemoveDirectory path) = codes "RemoveDirectory" ␣ quoted path
command_spelling (MoveFile source target) = codes "MoveFile" ␣ quoted source ␣ quoted target
command_spelling (DeleteFileTransacted path transaction) = codes "DeleteFileTransacted" ␣ quoted path ␣ label_spelling transaction
command_spelling (CreateDirectoryTransacted path transaction) = codes "CreateDirectoryTransacted" ␣ quoted path ␣ label_spelling transaction
command_spelling (RemoveDirectoryTransacted path transaction) = codes "RemoveDirectoryTransacted" ␣ quoted path ␣ label_spelling transaction
command_spelling (MoveFileTransacted source target transaction) = codes "MoveFileTransacted" ␣ quoted source ␣ quoted target ␣ label_spelling transaction
command_spelling (FindFiles searched) = codes "FindFiles" ␣ quoted searched
command_spelling (FindFilesTransacted searched transaction) = codes "FindFilesTransacted" ␣ quoted searched ␣ label_spelling transaction
command_spelling (KvSet transaction key value) = codes "KvSet" ␣ label_spelling transaction ␣ quoted key ␣ hex_or_dash value
command_spelling (KvUnset transaction key) = codes "KvUnset" ␣ label_spelling transaction ␣ quoted key
command_spelling (KvGet view key) = codes "KvGet" ␣ view_spelling view ␣ quoted key
command_spelling (KvList view) = codes "KvList" ␣ view_spelling view
command_spelling (CloseHandle label) = codes "CloseHandle" ␣ label_spelling label
command_spelling (DuplicateHandle label process source) = codes "DuplicateHandle" ␣ label_spelling label ␣ process_spelling process ␣ label_spelling source
command_spelling Exit = codes "exit"

-- the one spelling of a line, without its newline: what happens to the machine, or a process and its command
abbrev pub spelling : Line → List ℕ
spelling (Tick milliseconds) = codes "tick" ␣ decimal milliseconds
spelling (Cut calls) = codes "cut" ␣ decimal calls
spelling Crash = codes "crash"
spelling (Restart seed) = codes "restart" ␣ decimal seed
spelling (Process process command) = process_spelling process ␣ command_spelling command

-- a line with its values in the ranges of the grammar
abbrev pub IsInRange : Line → Type 0
IsInRange (Tick milliseconds) = milliseconds < 2 ^ 32
IsInRange (Cut calls) = calls < 2 ^ 64
IsInRange Crash = Unit {0}
IsInRange (Restart seed) = seed < 2 ^ 64
IsInRange (Process process command) = IsPid process × IsCommand command

-- a line of the grammar
pub record IsLine (line : Line) : Type 0 where
  pub in_range : IsInRange line
  pub short : length (spelling line) ≤ MOST_LINE_BYTES
