-- The values that the parts of a command may have.
use Rattle.std.specs.Prelude.{◌≡◌, ℕ, ◌^◌, ◌<◌, ◌≤◌, ◌≢◌, List, length}
use Rattle.std.specs.List.{AllByRecursion}
use Rattle.ktm_base.specs.declared.limits.TheConstants.{MOST_PROCESS}
use Rattle.ktm_base.specs.declared.id.Label.{Label}
use Rattle.ktm_base.specs.declared.id.Pid.{Pid}
use Rattle.ktm_base.specs.Bytes.{AreBytes}
use Rattle.ktm_world.specs.declared.command.Command.{Command}
use Rattle.ktm_world.specs.declared.command.Command.TheVariants.{CreateTransaction, OpenTransaction, CommitTransaction, RollbackTransaction, GetTransactionInformation, CreateResourceManager, OpenResourceManager, RecoverResourceManager, GetNotificationResourceManager, CreateEnlistment, OpenEnlistment, RecoverEnlistment, PrePrepareComplete, PrepareComplete, ReadOnlyEnlistment, CommitComplete, RollbackComplete, SinglePhaseReject, RollbackEnlistment, PrePrepareEnlistment, PrepareEnlistment, CommitEnlistment, SetEnlistmentRecoveryInformation, GetEnlistmentRecoveryInformation, CreateFile, CreateFileTransacted, ReadFile, WriteFile, SetEndOfFile, WriteUnits, GetFileSizeEx, FlushFileBuffers, DeleteFile, CreateDirectory, RemoveDirectory, MoveFile, DeleteFileTransacted, CreateDirectoryTransacted, RemoveDirectoryTransacted, MoveFileTransacted, FindFiles, FindFilesTransacted, KvSet, KvUnset, KvGet, KvList, CloseHandle, DuplicateHandle, Exit}
use Rattle.ktm_world.specs.declared.command.View.{View}
use Rattle.ktm_world.specs.declared.command.View.TheVariants.{Plain, Transaction}

-- the quotation mark
abbrev pub quotation_mark : ℕ
quotation_mark = 34

-- a character of a text: from 0x20 to 0x7E, and no quotation mark
pub record IsTextByte (c : ℕ) : Type 0 where
  pub from : 0x20 ≤ c
  pub to : c ≤ 0x7E
  pub other : c ≢ quotation_mark

-- a text has only such characters
abbrev pub IsText : List ℕ → Type 0
IsText text = AllByRecursion IsTextByte text

-- processes are numbered from 1 to 64
pub record IsPid (process : Pid) : Type 0 where
  pub from : 1 ≤ process.0
  pub to : process.0 ≤ MOST_PROCESS

-- labels are numbered from 1 to 65,535
pub record IsLabel (label : Label) : Type 0 where
  pub from : 1 ≤ label.0
  pub to : label.0 ≤ 65535

-- a view is plain, or through a label
abbrev pub IsView : View → Type 0
IsView Plain = Unit {0}
IsView (Transaction label) = IsLabel label

-- a GUID has 16 bytes
pub record IsGuid (guid : List ℕ) : Type 0 where
  pub long : length guid ≡ 16
  pub bytes : AreBytes guid

-- a number of a file's bytes: an offset, a length or a size
abbrev pub IsSize : ℕ → Type 0
IsSize n = n < 2 ^ 64

-- a command of the grammar, with its values in their ranges
abbrev pub IsCommand : Command → Type 0
IsCommand (CreateTransaction label timeout) = IsLabel label × (timeout < 2 ^ 32)
IsCommand (OpenTransaction label guid) = IsLabel label × IsGuid guid
IsCommand (CommitTransaction transaction) = IsLabel transaction
IsCommand (RollbackTransaction transaction) = IsLabel transaction
IsCommand (GetTransactionInformation transaction) = IsLabel transaction
IsCommand (CreateResourceManager label durability) = IsLabel label
IsCommand (OpenResourceManager label guid) = IsLabel label × IsGuid guid
IsCommand (RecoverResourceManager manager) = IsLabel manager
IsCommand (GetNotificationResourceManager manager) = IsLabel manager
IsCommand (CreateEnlistment label manager transaction kind) = IsLabel label × IsLabel manager × IsLabel transaction
IsCommand (OpenEnlistment label manager guid) = IsLabel label × IsLabel manager × IsGuid guid
IsCommand (RecoverEnlistment enlistment) = IsLabel enlistment
IsCommand (PrePrepareComplete enlistment) = IsLabel enlistment
IsCommand (PrepareComplete enlistment) = IsLabel enlistment
IsCommand (ReadOnlyEnlistment enlistment) = IsLabel enlistment
IsCommand (CommitComplete enlistment) = IsLabel enlistment
IsCommand (RollbackComplete enlistment) = IsLabel enlistment
IsCommand (SinglePhaseReject enlistment) = IsLabel enlistment
IsCommand (RollbackEnlistment enlistment) = IsLabel enlistment
IsCommand (PrePrepareEnlistment enlistment) = IsLabel enlistment
IsCommand (PrepareEnlistment enlistment) = IsLabel enlistment
IsCommand (CommitEnlistment enlistment) = IsLabel enlistment
IsCommand (SetEnlistmentRecoveryInformation enlistment information) = IsLabel enlistment × AreBytes information
IsCommand (GetEnlistmentRecoveryInformation enlistment) = IsLabel enlistment
IsCommand (CreateFile label path access share disposition) = IsLabel label × IsText path
IsCommand (CreateFileTransacted label path access share disposition transaction) = IsLabel label × IsText path × IsLabel transaction
IsCommand (ReadFile file offset many) = IsLabel file × IsSize offset × IsSize many
IsCommand (WriteFile file offset bytes) = IsLabel file × IsSize offset × AreBytes bytes
IsCommand (SetEndOfFile file size) = IsLabel file × IsSize size
IsCommand (WriteUnits file start contents) = ⊥
IsCommand (GetFileSizeEx file) = IsLabel file
IsCommand (FlushFileBuffers file) = IsLabel file
IsCommand (DeleteFile path) = IsText path
IsCommand (CreateDirectory path) = IsText path
IsCommand (RemoveDirectory path) = IsText path
IsCommand (MoveFile source target) = IsText source × IsText target
IsCommand (DeleteFileTransacted path transaction) = IsText path × IsLabel transaction
IsCommand (CreateDirectoryTransacted path transaction) = IsText path × IsLabel transaction
IsCommand (RemoveDirectoryTransacted path transaction) = IsText path × IsLabel transaction
IsCommand (MoveFileTransacted source target transaction) = IsText source × IsText target × IsLabel transaction
IsCommand (FindFiles searched) = IsText searched
IsCommand (FindFilesTransacted searched transaction) = IsText searched × IsLabel transaction
IsCommand (KvSet transaction key value) = IsLabel transaction × IsText key × AreBytes value
IsCommand (KvUnset transaction key) = IsLabel transaction × IsText key
IsCommand (KvGet view key) = IsView view × IsText key
IsCommand (KvList view) = IsView view
IsCommand (CloseHandle label) = IsLabel label
IsCommand (DuplicateHandle label process source) = IsLabel label × IsPid process × IsLabel source
IsCommand Exit = Unit {0}

-- a command that a machine is given: one that a line spells, or units that are put
abbrev pub IsGiven : Command → Type 0
IsGiven (WriteUnits file start contents) = IsLabel file × (1 ≤ length contents) × (length contents < 2 ^ 32)
IsGiven command = IsCommand command
