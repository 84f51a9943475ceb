-- What a call on files comes to that is not refused, and what may be relied on then.
use Rattle.std.specs.Prelude.{◌≡◌, ℕ, ◌+◌, ◌<◌, ◌^◌, true, Option, Some, None}
use Rattle.ktm_base.specs.declared.id.Id.{Id}
use Rattle.ktm_base.specs.declared.id.Pid.{Pid}
use Rattle.ktm_world.specs.declared.change.Change.{Change}
use Rattle.ktm_world.specs.declared.command.Command.{Command}
use Rattle.ktm_world.specs.declared.command.Command.TheVariants.{CreateFile, CreateFileTransacted, ReadFile, WriteFile, SetEndOfFile, WriteUnits, GetFileSizeEx, FlushFileBuffers, DeleteFile, CreateDirectory, RemoveDirectory, MoveFile, DeleteFileTransacted, CreateDirectoryTransacted, RemoveDirectoryTransacted, MoveFileTransacted, FindFiles, FindFilesTransacted}
use Rattle.ktm_world.specs.declared.object.Transaction.{Transaction}
use Rattle.ktm_world.specs.Changes.{applies, is_make, node_of}
use Rattle.ktm_world.specs.Decide.{caller, refusal_of}
use Rattle.ktm_world.specs.FileCalls.{create_file, read_file, write_file, set_end, get_size, flush_file, delete_file, create_directory, remove_directory, move_file, find_files}
use Rattle.ktm_world.specs.FileOutcome.{FileOutcome, files_after}
use Rattle.ktm_world.specs.Files.{OpenFile, first_open_of, tree_seen}
use Rattle.ktm_world.specs.Labels.{file_named}
use Rattle.ktm_world.specs.Lawful.{undecided}
use Rattle.ktm_world.specs.Present.{Present}
use Rattle.ktm_world.specs.Tree.{is_file}
use Rattle.txf_laws.specs.Elements.{IsIn}
use Rattle.ktm_records.specs.Kept.{IsKept}
use Rattle.txf_laws.specs.Reservations.{IsLeft}

-- a call on an open file is made in the transaction in which the file is open
abbrev pub on_open : Option OpenFile → (OpenFile → FileOutcome) → Option (Option Id × FileOutcome)
on_open None call = None
on_open (Some o) call = Some (o.transaction, call o)

-- a call that names its transaction is made in it
abbrev pub in_caller : Option Id → (Option Id → FileOutcome) → Option (Option Id × FileOutcome)
in_caller who call = Some (who, call who)

-- what a command on files comes to where it is not refused: the transaction in which it is made, if it is made in one, and its outcome
abbrev pub file_call : Present → Pid → Command → Option (Option Id × FileOutcome)
file_call x process (CreateFile label path access share disposition) = Some (None, create_file x.files None path access share disposition)
file_call x process (CreateFileTransacted label path access share disposition transaction) = in_caller (caller x process transaction) (λ who. create_file x.files who path access share disposition)
file_call x process (ReadFile file offset many) = on_open (file_named x process file) (λ o. read_file x.files o offset many)
file_call x process (WriteFile file offset bytes) = on_open (file_named x process file) (λ o. write_file o offset bytes)
file_call x process (SetEndOfFile file size) = on_open (file_named x process file) (λ o. set_end o size)
file_call x process (WriteUnits file start contents) = on_open (file_named x process file) (λ o. write_file o start contents)
file_call x process (GetFileSizeEx file) = on_open (file_named x process file) (λ o. get_size x.files o)
file_call x process (FlushFileBuffers file) = on_open (file_named x process file) (λ o. flush_file)
file_call x process (DeleteFile path) = Some (None, delete_file x.files None path)
file_call x process (CreateDirectory path) = Some (None, create_directory x.files None path)
file_call x process (RemoveDirectory path) = Some (None, remove_directory x.files None path)
file_call x process (MoveFile source target) = Some (None, move_file x.files None source target)
file_call x process (DeleteFileTransacted path transaction) = in_caller (caller x process transaction) (λ who. delete_file x.files who path)
file_call x process (CreateDirectoryTransacted path transaction) = in_caller (caller x process transaction) (λ who. create_directory x.files who path)
file_call x process (RemoveDirectoryTransacted path transaction) = in_caller (caller x process transaction) (λ who. remove_directory x.files who path)
file_call x process (MoveFileTransacted source target transaction) = in_caller (caller x process transaction) (λ who. move_file x.files who source target)
file_call x process (FindFiles searched) = Some (None, find_files x.files None searched)
file_call x process (FindFilesTransacted searched transaction) = in_caller (caller x process transaction) (λ who. find_files x.files who searched)
file_call x process _ = None

-- what may be relied on
pub record IsRightCall (x : Present) (who : Option Id) (o : FileOutcome) : Type 0 where
  -- its change applies to what its caller sees
  pub applies : (c : Change) → o.change ≡ Some c → applies (tree_seen x.files who) c ≡ true
  -- a node that it makes has the next number
  pub fresh : (c : Change) → o.change ≡ Some c → is_make c ≡ true → node_of c ≡ x.files.table.next_node
  -- a plain change leaves what undecided transactions changed and hold
  pub leaves : (c : Change) (u : Transaction) → who ≡ None → o.change ≡ Some c → IsIn u (undecided x) → IsLeft x.files (files_after x.files None o) u.id
  -- a file that is first opened is a committed one, and the transaction had not opened it
  pub first : (id : Id) (file : ℕ) → who ≡ Some id → o.first ≡ Some file → (first_open_of x.files.first_opens id file ≡ None) × (is_file x.files.tree file ≡ true)
  -- an open file is one of the caller's, with the next number
  pub opened : (p : OpenFile) → o.opened ≡ Some p → (p.transaction ≡ who) × (p.number ≡ x.files.table.last_open + 1) × (p.number < 2 ^ 32)

-- a call on files that a kept machine does not refuse is such a one
abbrev pub FileCallsLaw : Type 0
FileCallsLaw = (x : Present) (process : Pid) (command : Command) (who : Option Id) (o : FileOutcome) → IsKept x → refusal_of x process command ≡ None → file_call x process command ≡ Some (who, o) → IsRightCall x who o
