-- What each command does. The tests of each form stand in the order in which it is tested.
use Rattle.std.specs.Prelude.{Bool, not, List, [], ◌∷◌, ◌++◌, Option, Some, None}
use Rattle.ktm_base.specs.declared.id.Id.{Id}
use Rattle.ktm_base.specs.declared.id.Label.{Label}
use Rattle.ktm_base.specs.declared.id.Pid.{Pid}
use Rattle.ktm_base.specs.declared.refusal.Refusal.{Refusal}
use Rattle.ktm_base.specs.declared.refusal.Refusal.TheVariants.{MachineDown}
use Rattle.ktm_world.specs.declared.change.Change.{Change}
use Rattle.ktm_world.specs.declared.command.Command.{Command}
use Rattle.ktm_world.specs.declared.command.Command.TheVariants.{CreateTransaction, OpenTransaction, CommitTransaction, RollbackTransaction, GetTransactionInformation, CreateResourceManager, OpenResourceManager, RecoverResourceManager, GetNotificationResourceManager, CreateEnlistment, OpenEnlistment, RecoverEnlistment, PrePrepareComplete, PrepareComplete, ReadOnlyEnlistment, CommitComplete, RollbackComplete, SinglePhaseReject, RollbackEnlistment, PrePrepareEnlistment, PrepareEnlistment, CommitEnlistment, SetEnlistmentRecoveryInformation, GetEnlistmentRecoveryInformation, CreateFile, CreateFileTransacted, ReadFile, WriteFile, SetEndOfFile, WriteUnits, GetFileSizeEx, FlushFileBuffers, DeleteFile, CreateDirectory, RemoveDirectory, MoveFile, DeleteFileTransacted, CreateDirectoryTransacted, RemoveDirectoryTransacted, MoveFileTransacted, FindFiles, FindFilesTransacted, KvSet, KvUnset, KvGet, KvList, CloseHandle, DuplicateHandle, Exit}
use Rattle.ktm_world.specs.declared.event.Event.{Event}
use Rattle.ktm_world.specs.declared.event.Event.TheVariants.{Plain}
use Rattle.ktm_world.specs.declared.object.Object.{Object}
use Rattle.ktm_world.specs.declared.reply.Reply.TheVariants.{Done}
use Rattle.ktm_world.specs.Outcome.{first_refusal, Outcome, only_reply, refuse_or}
use Rattle.ktm_world.specs.Enlistments.{is_live_enlistment, owes_pre_prepare, owes_prepare, owes_commit, owes_rollback}
use Rattle.ktm_world.specs.FileCalls.{create_file_tests, create_file, read_file_tests, read_file, write_access_test, write_file_tests, write_file, set_end_tests, set_end, write_units_tests, get_size, flush_file, delete_file_tests, delete_file, create_directory_tests, create_directory, remove_directory_tests, remove_directory, move_file_tests, move_file, find_files_tests, find_files}
use Rattle.ktm_world.specs.FileOutcome.{FileOutcome, works_of, openings_of, table_after}
use Rattle.ktm_world.specs.Files.{OpenFile}
use Rattle.ktm_world.specs.HandleCalls.{close_handle_tests, close_handle, exit, duplicate_handle_tests, duplicate_handle}
use Rattle.ktm_world.specs.KeyCalls.{KeyOutcome, kv_set_tests, kv_set, kv_unset_tests, kv_unset, kv_get_tests, kv_get, kv_list}
use Rattle.ktm_world.specs.Labels.{transaction_named, manager_named, enlistment_named, file_named, invalid_handle, transaction_tests, view_tests, viewer, file_tests, id_of_named, binding}
use Rattle.ktm_world.specs.Present.{Present}
use Rattle.ktm_world.specs.Uses.{file_room, key_room}
use Rattle.ktm_world.specs.TransactionCalls.{bound_test, create_transaction_tests, create_transaction, open_transaction_tests, open_transaction, commit_transaction, rollback_transaction_tests, rollback_transaction, get_transaction_information, create_resource_manager_tests, create_resource_manager, open_resource_manager_tests, open_resource_manager, recover_resource_manager, get_notification_tests, get_notification, create_enlistment_tests, create_enlistment, open_enlistment_tests, open_enlistment, enlistment_tests, superior_tests, may_recover, may_vote, may_reject_one_phase, may_roll_back_by, before_pre_prepare, before_prepare, waits_for_superior, recover_enlistment, pre_prepare_complete, prepare_complete, read_only_enlistment, commit_complete, rollback_complete, single_phase_reject, rollback_enlistment, pre_prepare_enlistment, prepare_enlistment, commit_enlistment, set_information_tests, set_information, get_information}

-- the transaction in which a call is made
abbrev pub caller : Present → Pid → Label → Option Id
caller x process label = id_of_named (transaction_named x process label)

-- the tests of a call that is made in a transaction: those on its handle, and then those of the plain call
abbrev pub transacted : Present → Pid → Label → List (Bool × Refusal) → List (Bool × Refusal)
transacted x process label tests = transaction_tests (transaction_named x process label) ++ tests

-- what a call on keys makes of the machine
abbrev pub of_keys : Present → KeyOutcome → Outcome
of_keys x o = record (only_reply x o.reply) { own = o.own }

-- the event of a plain change
abbrev pub events_of : Option Id → Option Change → List Event
events_of None (Some change) = Plain change ∷ []
events_of _ _ = []

-- what a call on files makes of the machine: a plain change is committed and recorded
abbrev pub of_files : Present → Option Id → FileOutcome → Outcome
of_files x who o = record (only_reply x o.reply) {
  events = events_of who o.change;
  works = works_of who o.change;
  openings = openings_of who o.first;
  table = table_after x.files who o;
}

-- what a call on files that is made in a transaction makes of the machine
abbrev pub in_transaction : Present → Pid → Label → (Option Id → FileOutcome) → Outcome
in_transaction x process transaction call = of_files x (caller x process transaction) (call (caller x process transaction))

-- the label is bound to the file that is opened
abbrev pub bound_file : Pid → Label → Option OpenFile → Outcome → Outcome
bound_file process label None o = o
bound_file process label (Some file) o = binding process label (Object.File file.number) o

-- what a call that opens a file makes of the machine
abbrev pub opening : Present → Pid → Label → Option Id → FileOutcome → Outcome
opening x process label who o = bound_file process label o.opened (of_files x who o)

-- the tests of a call on an open file, where there is one
abbrev pub own_tests : Option OpenFile → (OpenFile → List (Bool × Refusal)) → List (Bool × Refusal)
own_tests None tests = []
own_tests (Some o) tests = tests o

-- the tests of a call on an open file: those on its handle, and then its own
abbrev pub on_file_tests : Present → Pid → Label → (OpenFile → List (Bool × Refusal)) → List (Bool × Refusal)
on_file_tests x process label tests = file_tests x process label ++ own_tests (file_named x process label) tests

-- what a call on an open file makes of the machine: it is one of the transaction in which the file is open
abbrev pub on_file : Present → Option OpenFile → (OpenFile → FileOutcome) → Outcome
on_file x None call = only_reply x Done
on_file x (Some o) call = of_files x o.transaction (call o)

-- each call: its tests on a machine that is up, in their order, and what it does where none of them fails
abbrev pub call_of : Present → Pid → Command → List (Bool × Refusal) × Outcome
call_of x process (CreateTransaction label timeout) = (create_transaction_tests x process label, create_transaction x process label timeout)
call_of x process (OpenTransaction label guid) = (open_transaction_tests x process label guid, open_transaction x process label guid)
call_of x process (CommitTransaction label) = (transaction_tests (transaction_named x process label), commit_transaction x (transaction_named x process label))
call_of x process (RollbackTransaction label) = (rollback_transaction_tests (transaction_named x process label), rollback_transaction x (transaction_named x process label))
call_of x process (GetTransactionInformation label) = (
  invalid_handle (transaction_named x process label) ∷ [],
  get_transaction_information x (transaction_named x process label),
)
call_of x process (CreateResourceManager label durability) = (create_resource_manager_tests x process label, create_resource_manager x process label durability)
call_of x process (OpenResourceManager label guid) = (open_resource_manager_tests x process label guid, open_resource_manager x process label guid)
call_of x process (RecoverResourceManager label) = (invalid_handle (manager_named x process label) ∷ [], recover_resource_manager x (manager_named x process label))
call_of x process (GetNotificationResourceManager label) = (get_notification_tests (manager_named x process label), get_notification x (manager_named x process label))
call_of x process (CreateEnlistment label manager transaction kind) = (
  create_enlistment_tests x process label (manager_named x process manager) (transaction_named x process transaction) kind,
  create_enlistment x process label (manager_named x process manager) (transaction_named x process transaction) kind,
)
call_of x process (OpenEnlistment label manager guid) = (
  open_enlistment_tests x process label (manager_named x process manager) guid,
  open_enlistment x process label (manager_named x process manager) guid,
)
call_of x process (RecoverEnlistment label) = (enlistment_tests (enlistment_named x process label) (may_recover x), recover_enlistment x (enlistment_named x process label))
call_of x process (PrePrepareComplete label) = (
  enlistment_tests (enlistment_named x process label) owes_pre_prepare,
  pre_prepare_complete x (enlistment_named x process label),
)
call_of x process (PrepareComplete label) = (enlistment_tests (enlistment_named x process label) owes_prepare, prepare_complete x (enlistment_named x process label))
call_of x process (ReadOnlyEnlistment label) = (enlistment_tests (enlistment_named x process label) (may_vote x), read_only_enlistment x (enlistment_named x process label))
call_of x process (CommitComplete label) = (enlistment_tests (enlistment_named x process label) owes_commit, commit_complete x (enlistment_named x process label))
call_of x process (RollbackComplete label) = (enlistment_tests (enlistment_named x process label) owes_rollback, rollback_complete x (enlistment_named x process label))
call_of x process (SinglePhaseReject label) = (
  enlistment_tests (enlistment_named x process label) (may_reject_one_phase x),
  single_phase_reject x (enlistment_named x process label),
)
call_of x process (RollbackEnlistment label) = (
  enlistment_tests (enlistment_named x process label) (may_roll_back_by x),
  rollback_enlistment x (enlistment_named x process label),
)
call_of x process (PrePrepareEnlistment label) = (
  superior_tests x (enlistment_named x process label) before_pre_prepare,
  pre_prepare_enlistment x (enlistment_named x process label),
)
call_of x process (PrepareEnlistment label) = (superior_tests x (enlistment_named x process label) before_prepare, prepare_enlistment x (enlistment_named x process label))
call_of x process (CommitEnlistment label) = (superior_tests x (enlistment_named x process label) waits_for_superior, commit_enlistment x (enlistment_named x process label))
call_of x process (SetEnlistmentRecoveryInformation label information) = (
  set_information_tests x (enlistment_named x process label) information,
  set_information x (enlistment_named x process label) information,
)
call_of x process (GetEnlistmentRecoveryInformation label) = (
  enlistment_tests (enlistment_named x process label) (is_live_enlistment x.transactions.items),
  get_information x (enlistment_named x process label),
)
call_of x process (CreateFile label path access share disposition) = (
  bound_test x process label ∷ create_file_tests x.files (file_room x) None path access share disposition,
  opening x process label None (create_file x.files None path access share disposition),
)
call_of x process (CreateFileTransacted label path access share disposition transaction) = (
  transacted x process transaction (bound_test x process label ∷ create_file_tests x.files (file_room x) (caller x process transaction) path access share disposition),
  opening x process label (caller x process transaction) (create_file x.files (caller x process transaction) path access share disposition),
)
call_of x process (ReadFile file offset many) = (
  on_file_tests x process file (λ o. read_file_tests o many),
  on_file x (file_named x process file) (λ o. read_file x.files o offset many),
)
call_of x process (WriteFile file offset bytes) = (
  on_file_tests x process file (λ o. write_file_tests x.files (file_room x) o offset bytes),
  on_file x (file_named x process file) (λ o. write_file o offset bytes),
)
call_of x process (SetEndOfFile file size) = (
  on_file_tests x process file (λ o. set_end_tests x.files (file_room x) o size),
  on_file x (file_named x process file) (λ o. set_end o size),
)
call_of x process (WriteUnits file start contents) = (
  on_file_tests x process file (λ o. write_units_tests x.files (file_room x) o start contents),
  on_file x (file_named x process file) (λ o. write_file o start contents),
)
call_of x process (GetFileSizeEx file) = (file_tests x process file, on_file x (file_named x process file) (λ o. get_size x.files o))
call_of x process (FlushFileBuffers file) = (on_file_tests x process file (λ o. write_access_test o ∷ []), on_file x (file_named x process file) (λ o. flush_file))
call_of x process (DeleteFile path) = (delete_file_tests x.files (file_room x) None path, of_files x None (delete_file x.files None path))
call_of x process (CreateDirectory path) = (create_directory_tests x.files (file_room x) None path, of_files x None (create_directory x.files None path))
call_of x process (RemoveDirectory path) = (remove_directory_tests x.files (file_room x) None path, of_files x None (remove_directory x.files None path))
call_of x process (MoveFile source target) = (move_file_tests x.files (file_room x) None source target, of_files x None (move_file x.files None source target))
call_of x process (DeleteFileTransacted path transaction) = (
  transacted x process transaction (delete_file_tests x.files (file_room x) (caller x process transaction) path),
  in_transaction x process transaction (λ who. delete_file x.files who path),
)
call_of x process (CreateDirectoryTransacted path transaction) = (
  transacted x process transaction (create_directory_tests x.files (file_room x) (caller x process transaction) path),
  in_transaction x process transaction (λ who. create_directory x.files who path),
)
call_of x process (RemoveDirectoryTransacted path transaction) = (
  transacted x process transaction (remove_directory_tests x.files (file_room x) (caller x process transaction) path),
  in_transaction x process transaction (λ who. remove_directory x.files who path),
)
call_of x process (MoveFileTransacted source target transaction) = (
  transacted x process transaction (move_file_tests x.files (file_room x) (caller x process transaction) source target),
  in_transaction x process transaction (λ who. move_file x.files who source target),
)
call_of x process (FindFiles searched) = (find_files_tests x.files None searched, of_files x None (find_files x.files None searched))
call_of x process (FindFilesTransacted searched transaction) = (
  transacted x process transaction (find_files_tests x.files (caller x process transaction) searched),
  in_transaction x process transaction (λ who. find_files x.files who searched),
)
call_of x process (KvSet transaction key value) = (
  transacted x process transaction (kv_set_tests x.keys (key_room x) (caller x process transaction) key value),
  of_keys x (kv_set x.keys (caller x process transaction) key value),
)
call_of x process (KvUnset transaction key) = (
  transacted x process transaction (kv_unset_tests x.keys (key_room x) (caller x process transaction) key),
  of_keys x (kv_unset x.keys (caller x process transaction) key),
)
call_of x process (KvGet view key) = (view_tests x process view ++ kv_get_tests x.keys (viewer x process view) key, of_keys x (kv_get x.keys (viewer x process view) key))
call_of x process (KvList view) = (view_tests x process view, of_keys x (kv_list x.keys (viewer x process view)))
call_of x process (CloseHandle label) = (close_handle_tests x process label, close_handle x process label)
call_of x process (DuplicateHandle label from source) = (duplicate_handle_tests x process label from source, duplicate_handle x process label from source)
call_of x process Exit = ([], exit x process)

-- the tests of a command on a machine that is up
abbrev pub command_tests : Present → Pid → Command → List (Bool × Refusal)
command_tests x process command = (call_of x process command).0

-- what a command does that is not refused
abbrev pub command_effect : Present → Pid → Command → Outcome
command_effect x process command = (call_of x process command).1

-- the refusal of a command, if it has one
abbrev pub refusal_of : Present → Pid → Command → Option Refusal
refusal_of x process command = first_refusal ((not x.machine.is_up, MachineDown) ∷ command_tests x process command)

-- a command is decided once, on what is so now
abbrev pub decide : Present → Pid → Command → Outcome
decide x process command = refuse_or x (refusal_of x process command) (command_effect x process command)
