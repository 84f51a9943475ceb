-- What an undecided transaction did to the files is reserved for it, whatever others call and however much time passes.
use Rattle.std.specs.Prelude.{◌≡◌, ℕ, ◌&&◌, Bool, true, false, List, filter}
use Rattle.std.specs.List.{list_any}
use Rattle.ktm_base.specs.declared.id.Id.{Id}
use Rattle.ktm_base.specs.declared.id.Pid.{Pid}
use Rattle.ktm_world.specs.declared.command.Command.{Command}
use Rattle.ktm_world.specs.declared.command.Command.TheVariants.{CreateFileTransacted, WriteFile, SetEndOfFile, WriteUnits, DeleteFileTransacted, CreateDirectoryTransacted, RemoveDirectoryTransacted, MoveFileTransacted, CloseHandle, Exit}
use Rattle.ktm_world.specs.declared.object.Handle.{Handle}
use Rattle.ktm_world.specs.declared.object.Object.TheVariants.{File as FileObject}
use Rattle.ktm_world.specs.Decide.{caller, decide}
use Rattle.ktm_world.specs.Files.{FilesNow, OpenFile}
use Rattle.ktm_world.specs.HandleCalls.{has_handle, is_handle, is_of_process}
use Rattle.ktm_world.specs.Logs.{Power}
use Rattle.ktm_world.specs.Outcome.{Outcome, apply}
use Rattle.ktm_world.specs.Present.{Present}
use Rattle.ktm_world.specs.Transactions.{is_of}
use Rattle.ktm_world.specs.World.{World, present, decide_tick}
use Rattle.txf_laws.specs.Reservations.{IsLeft}
use Rattle.txf_laws.specs.SoundFiles.{is_undecided_in}
use Rattle.ktm_records.specs.Kept.{IsKept}

-- do some of these handles name a file that is open in the transaction
abbrev pub name_file_of : Present → Id → List Handle → Bool
name_file_of x id handles = list_any (λ o. is_of id o.transaction && has_handle handles (FileObject o.number)) x.files.table.opens

-- is the call one by which the transaction changes, opens or closes a file: it names its files by a label of the transaction, it writes, cuts
-- or closes by a label of a file that is open in it, or it ends a process that has a handle of such a file
abbrev pub is_by : Present → Pid → Command → Id → Bool
is_by x process (CreateFileTransacted label path access share disposition transaction) id = is_of id (caller x process transaction)
is_by x process (DeleteFileTransacted path transaction) id = is_of id (caller x process transaction)
is_by x process (CreateDirectoryTransacted path transaction) id = is_of id (caller x process transaction)
is_by x process (RemoveDirectoryTransacted path transaction) id = is_of id (caller x process transaction)
is_by x process (MoveFileTransacted source target transaction) id = is_of id (caller x process transaction)
is_by x process (WriteFile file offset bytes) id = name_file_of x id (filter (is_handle process file) x.handles)
is_by x process (SetEndOfFile file size) id = name_file_of x id (filter (is_handle process file) x.handles)
is_by x process (WriteUnits file start contents) id = name_file_of x id (filter (is_handle process file) x.handles)
is_by x process (CloseHandle label) id = name_file_of x id (filter (is_handle process label) x.handles)
is_by x process Exit id = name_file_of x id (filter (is_of_process process) x.handles)
is_by x process _ id = false

-- is it a call that closes handles
abbrev pub closes_handles : Command → Bool
closes_handles (CloseHandle label) = true
closes_handles Exit = true
closes_handles _ = false

-- the transaction is there and undecided, and is so after the outcome
pub record StaysUndecided (x : Present) (o : Outcome) (id : Id) : Type 0 where
  pub before : is_undecided_in x.transactions.items id ≡ true
  pub after : is_undecided_in o.transactions.items id ≡ true

-- the files, where these are open
abbrev pub with_opens : FilesNow → List OpenFile → FilesNow
with_opens files opens = record files { table = record files.table { opens = opens } }

-- to an undecided transaction is left what it changed and holds of the files, and the bytes that it sees of those that it made, changed or
-- first opened, in a machine that is kept, as it is in every world of a run
pub record ReservedFilesLaw : Type 0 where
  -- by a command that is not one of its own
  pub commands : (x : Present) (process : Pid) (command : Command) (id : Id) → IsKept x → StaysUndecided x (decide x process command) id → is_by x process command id ≡ false
      → IsLeft x.files (apply x (decide x process command)).files id
  -- by the end of any handle and of any process, but that of its open files it then holds those alone that are still open
  pub closings : (x : Present) (process : Pid) (command : Command) (id : Id) → IsKept x → StaysUndecided x (decide x process command) id → closes_handles command ≡ true
      → IsLeft (with_opens x.files (decide x process command).table.opens) (apply x (decide x process command)).files id
  -- by the passing of time
  pub ticks : (x : Present) (ms : ℕ) (id : Id) → IsKept x → StaysUndecided x (decide_tick x ms) id → IsLeft x.files (apply x (decide_tick x ms)).files id
  -- by the loss of power, until the restart
  pub falls : (w : World) (power : Power) (id : Id) → IsKept (present w) → IsLeft (present w).files (present (record w { power = power })).files id
