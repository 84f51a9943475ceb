-- What commands with other bytes come to: the tests of each, and what it does.
use Rattle.std.proofs.Common.{◌≡◌, ℕ, ◌-◌, ◌&&◌, not, Bool, List, [], ◌∷◌, ◌++◌, map, Option, Some, None, is_none, refl, sym, ◌∙◌, ap}
use Rattle.std.specs.Prelude.{option_map}
use Rattle.ktm_base.specs.declared.id.Id.{Id}
use Rattle.ktm_base.specs.declared.id.Label.{Label}
use Rattle.ktm_base.specs.declared.id.Pid.{Pid}
use Rattle.ktm_base.specs.declared.refusal.Refusal.{Refusal}
use Rattle.ktm_base.specs.declared.refusal.Refusal.TheVariants.{MachineDown, HandleNoLongerValid, TransactionNotActive}
use Rattle.ktm_world.specs.declared.change.Change.{Change}
use Rattle.ktm_world.specs.declared.command.Command.{Command}
use Rattle.ktm_world.specs.declared.command.Command.TheVariants.{CreateTransaction, OpenTransaction, CommitTransaction, RollbackTransaction, GetTransactionInformation, CreateResourceManager, OpenResourceManager, RecoverResourceManager, GetNotificationResourceManager, CreateEnlistment, OpenEnlistment, RecoverEnlistment, PrePrepareComplete, PrepareComplete, ReadOnlyEnlistment, CommitComplete, RollbackComplete, SinglePhaseReject, RollbackEnlistment, PrePrepareEnlistment, PrepareEnlistment, CommitEnlistment, SetEnlistmentRecoveryInformation, GetEnlistmentRecoveryInformation, CreateFile, CreateFileTransacted, ReadFile, WriteFile, SetEndOfFile, WriteUnits, GetFileSizeEx, FlushFileBuffers, DeleteFile, CreateDirectory, RemoveDirectory, MoveFile, DeleteFileTransacted, CreateDirectoryTransacted, RemoveDirectoryTransacted, MoveFileTransacted, FindFiles, FindFilesTransacted, KvSet, KvUnset, KvGet, KvList, CloseHandle, DuplicateHandle, Exit}
use Rattle.ktm_world.specs.declared.event.Event.TheVariants.{MadeRm}
use Rattle.ktm_world.specs.declared.input.PhaseInput.{PhaseInput}
use Rattle.ktm_world.specs.declared.object.Object.{Object}
use Rattle.ktm_world.specs.declared.object.Transaction.{Transaction}
use Rattle.ktm_world.specs.declared.options.Durability.{Durability}
use Rattle.ktm_world.specs.declared.options.EnlistmentKind.{EnlistmentKind}
use Rattle.ktm_world.specs.declared.reply.Reply.TheVariants.{Refused}
use Rattle.ktm_world.specs.Decide.{caller, events_of, of_files, bound_file, opening, own_tests, on_file_tests, on_file, transacted, command_tests, command_effect, refusal_of, decide}
use Rattle.ktm_world.specs.Enlistments.{Enlistment, Manager, Note}
use Rattle.ktm_world.specs.FileCalls.{create_file, read_file, write_file, write_access_test, set_end, get_size, flush_file, delete_file, create_directory, remove_directory, move_file, find_files, set_end_tests, write_file_tests, write_units_tests, read_file_tests}
use Rattle.ktm_world.specs.FileOutcome.{FileOutcome, openings_of}
use Rattle.ktm_world.specs.Files.{FilesNow, OpenFile}
use Rattle.ktm_world.specs.HandleCalls.{bind_to, duplicate_handle, duplicate_handle_tests}
use Rattle.ktm_world.specs.Handles.{object_at}
use Rattle.ktm_world.specs.KeyCalls.{kv_set_tests, kv_unset_tests}
use Rattle.ktm_world.specs.Labels.{transaction_named, manager_named, enlistment_named, file_named, invalid_handle, file_number, holds_of, is_dead, is_dead_file, is_suspended, open_file_at, file_tests}
use Rattle.ktm_world.specs.Outcome.{Outcome, first_refusal, only_reply, refuse_or}
use Rattle.ktm_world.specs.Present.{Present}
use Rattle.ktm_world.specs.Steps.{share_of}
use Rattle.ktm_world.specs.TransactionCalls.{bound_test, handle_test, new_id, create_transaction_tests, create_transaction, open_transaction_tests, transaction_with, open_to_transaction, open_transaction, commit_transaction, rollback_transaction, information_of, get_transaction_information, is_durable, create_resource_manager_tests, create_resource_manager, open_resource_manager_tests, manager_with, open_to_manager, open_resource_manager, recover_all, recover_resource_manager, note_reply, take_first, get_notification, enlist, create_enlistment, create_enlistment_tests, enlistment_with, open_to_enlistment, open_enlistment, open_enlistment_tests, pre_prepare_complete, prepare_complete, read_only_enlistment, commit_complete, rollback_complete, single_phase_reject, rollback_enlistment, pre_prepare_enlistment, prepare_enlistment, commit_enlistment, recovery_of, recover_enlistment, keep_information, set_information, get_information}
use Rattle.ktm_world.specs.Tree.{Tree}
use Rattle.ktm_world.specs.Uses.{file_room, key_room}
use Rattle.ktm_world.specs.World.{decide_tick}
use Rattle.ktm_mapped.specs.Mapped.{IsBlank, mapped_tree, mapped_change, mapped_group}
use Rattle.ktm_mapped.proofs.offered.Lists.{cond-mapped}
use Rattle.ktm_mapped.proofs.offered.Trees.{is_file-mapped}
use Rattle.ktm_alike.specs.Alike.{mapped_files, mapped_file_outcome, mapped_present, mapped_command, mapped_read, mapped_reply, mapped_outcome, mapped_answer}
use Rattle.ktm_alike.proofs.Calls.{create_file-mapped, create_file_tests-mapped, delete_file-mapped, delete_file_tests-mapped, create_directory-mapped, create_directory_tests-mapped, remove_directory-mapped, remove_directory_tests-mapped, move_file-mapped, move_file_tests-mapped, find_files-mapped, find_files_tests-mapped, read_file-mapped, write_file-mapped, write_file_tests-mapped, write_units_tests-mapped, set_end-mapped, set_end_tests-mapped, get_size-mapped}
use Rattle.ktm_alike.proofs.Courses.{commit_of-mapped, rollback_of-mapped, answering-mapped}
use Rattle.ktm_alike.proofs.offered.Outcomes.{works_of-mapped, table_after-mapped, file_changes_waiting-mapped}
use Rattle.ktm_alike.proofs.Presents.{close_handle-mapped, exit-mapped, tick-mapped}

-- tests that tell no difference
holds_of-same : {T : Type 0} (test before : T → Bool) → ((t : T) → test t ≡ before t) → (o : Option T) → holds_of test o ≡ holds_of before o
holds_of-same test before same None = refl
holds_of-same test before same (Some t) = same t

own_tests-same : (tests before : OpenFile → List (Bool × Refusal)) → ((o : OpenFile) → tests o ≡ before o) → (o : Option OpenFile) → own_tests o tests ≡ own_tests o before
own_tests-same tests before same None = refl
own_tests-same tests before same (Some o) = same o

module _ (f : ℕ → ℕ) where
  -- ---- the room that the keys have

  key_room-mapped : (x : Present) → key_room (mapped_present f x) ≡ key_room x
  unfolding key_room
  key_room-mapped x = λ i. record { keys = x.recorded.units; changes = x.recorded.units - file_changes_waiting-mapped f x.files i }

  -- ---- labels of files

  is_dead_file-mapped : (tree : Tree) (o : Option OpenFile) → is_dead_file (mapped_tree f tree) o ≡ is_dead_file tree o
  is_dead_file-mapped tree None = refl
  is_dead_file-mapped tree (Some o) = λ i. is_none o.transaction && not (is_file-mapped f tree o.node i)

  is_dead-mapped : (files : FilesNow) (number : ℕ) → is_dead (mapped_files f files) number ≡ is_dead files number
  is_dead-mapped files number = is_dead_file-mapped files.tree (open_file_at files.table.opens number)

  dead-mapped : (files : FilesNow) (number : Option ℕ) → holds_of (is_dead (mapped_files f files)) number ≡ holds_of (is_dead files) number
  dead-mapped files number = holds_of-same (is_dead (mapped_files f files)) (is_dead files) (is_dead-mapped files) number

  file_tests-mapped : (x : Present) (process : Pid) (label : Label) → file_tests (mapped_present f x) process label ≡ file_tests x process label
  file_tests-mapped x process label = λ i.
      invalid_handle (file_number (object_at x.handles process label))
      ∷ (dead-mapped x.files (file_number (object_at x.handles process label)) i, HandleNoLongerValid)
      ∷ (holds_of (is_suspended x) (file_named x process label), TransactionNotActive)
      ∷ []

  on_file_tests-mapped : (x : Present) (process : Pid) (label : Label) (tests before : OpenFile → List (Bool × Refusal)) → ((o : OpenFile) → tests o ≡ before o)
      → on_file_tests (mapped_present f x) process label tests ≡ on_file_tests x process label before
  on_file_tests-mapped x process label tests before same = λ i. file_tests-mapped x process label i ++ own_tests-same tests before same (file_named x process label) i

  duplicate_handle_tests-mapped : (x : Present) (process : Pid) (label : Label) (from : Pid) (source : Label)
      → duplicate_handle_tests (mapped_present f x) process label from source ≡ duplicate_handle_tests x process label from source
  unfolding duplicate_handle_tests
  duplicate_handle_tests-mapped x process label from source = λ i.
      invalid_handle (object_at x.handles from source)
      ∷ (dead-mapped x.files (file_number (object_at x.handles from source)) i, HandleNoLongerValid)
      ∷ bound_test x process label
      ∷ handle_test x
      ∷ []

  -- ---- calls that leave the files alone

  open_to_transaction-mapped : (x : Present) (process : Pid) (label : Label) (t : Option Transaction) → open_to_transaction (mapped_present f x) process label t ≡ mapped_outcome f (open_to_transaction x process label t)
  open_to_transaction-mapped x process label None = refl
  open_to_transaction-mapped x process label (Some t) = refl

  information_of-mapped : (x : Present) (t : Option Transaction) → information_of (mapped_present f x) t ≡ information_of x t
  information_of-mapped x None = refl
  information_of-mapped x (Some t) = refl

  create_resource_manager-mapped : (x : Present) (process : Pid) (label : Label) (durability : Durability)
      → create_resource_manager (mapped_present f x) process label durability ≡ mapped_outcome f (create_resource_manager x process label durability)
  unfolding create_resource_manager
  create_resource_manager-mapped x process label durability = λ i. record (create_resource_manager (mapped_present f x) process label durability) {
    events = cond-mapped (mapped_group f) (is_durable durability) (MadeRm (new_id x x.transactions.last_manager) ∷ []) [] i;
  }

  open_to_manager-mapped : (x : Present) (process : Pid) (label : Label) (m : Option Manager) → open_to_manager (mapped_present f x) process label m ≡ mapped_outcome f (open_to_manager x process label m)
  open_to_manager-mapped x process label None = refl
  open_to_manager-mapped x process label (Some m) = refl

  recover_all-mapped : (x : Present) (m : Option Manager) → recover_all (mapped_present f x) m ≡ mapped_outcome f (recover_all x m)
  recover_all-mapped x None = refl
  recover_all-mapped x (Some m) = refl

  note_reply-mapped : (x : Present) (notes : List Note) → note_reply (mapped_present f x) notes ≡ note_reply x notes
  note_reply-mapped x [] = refl
  note_reply-mapped x (note ∷ notes) = refl

  take_first-mapped : (x : Present) (m : Option Manager) → take_first (mapped_present f x) m ≡ mapped_outcome f (take_first x m)
  take_first-mapped x None = refl
  take_first-mapped x (Some m) = λ i. record (only_reply (mapped_present f x) (note_reply-mapped x m.queue i)) { took = Some m.id }

  enlist-mapped : (x : Present) (process : Pid) (label : Label) (m : Option Manager) (t : Option Transaction) (kind : EnlistmentKind)
      → enlist (mapped_present f x) process label m t kind ≡ mapped_outcome f (enlist x process label m t kind)
  enlist-mapped x process label None t kind = refl
  enlist-mapped x process label (Some m) None kind = refl
  enlist-mapped x process label (Some m) (Some t) kind = refl

  open_to_enlistment-mapped : (x : Present) (process : Pid) (label : Label) (e : Option Enlistment) → open_to_enlistment (mapped_present f x) process label e ≡ mapped_outcome f (open_to_enlistment x process label e)
  open_to_enlistment-mapped x process label None = refl
  open_to_enlistment-mapped x process label (Some e) = refl

  enlistment_with-mapped : (x : Present) (m : Option Manager) (guid : List ℕ) → enlistment_with (mapped_present f x) m guid ≡ enlistment_with x m guid
  enlistment_with-mapped x None guid = refl
  enlistment_with-mapped x (Some m) guid = refl

  open_enlistment_tests-mapped : (x : Present) (process : Pid) (label : Label) (m : Option Manager) (guid : List ℕ)
      → open_enlistment_tests (mapped_present f x) process label m guid ≡ open_enlistment_tests x process label m guid
  unfolding open_enlistment_tests
  open_enlistment_tests-mapped x process label None guid = refl
  open_enlistment_tests-mapped x process label (Some m) guid = refl

  keep_information-mapped : (x : Present) (e : Option Enlistment) (information : List ℕ) → keep_information (mapped_present f x) e information ≡ mapped_outcome f (keep_information x e information)
  keep_information-mapped x None information = refl
  keep_information-mapped x (Some e) information = refl

  bind_to-mapped : (x : Present) (process : Pid) (label : Label) (object : Option Object) → bind_to (mapped_present f x) process label object ≡ mapped_outcome f (bind_to x process label object)
  bind_to-mapped x process label None = refl
  bind_to-mapped x process label (Some object) = refl

  -- ---- calls on files

  events_of-mapped : (who : Option Id) (change : Option Change) → events_of who (option_map (mapped_change f) change) ≡ mapped_group f (events_of who change)
  events_of-mapped None None = refl
  events_of-mapped None (Some change) = refl
  events_of-mapped (Some id) None = refl
  events_of-mapped (Some id) (Some change) = refl

  bound_file-mapped : (process : Pid) (label : Label) (file : Option OpenFile) (o : Outcome) → bound_file process label file (mapped_outcome f o) ≡ mapped_outcome f (bound_file process label file o)
  bound_file-mapped process label None o = refl
  bound_file-mapped process label (Some file) o = refl

module _ (f : ℕ → ℕ) (blank : IsBlank f) (x : Present) where
  of_files-mapped : (who : Option Id) (o before : FileOutcome) → o ≡ mapped_file_outcome f before → of_files (mapped_present f x) who o ≡ mapped_outcome f (of_files x who before)
  of_files-mapped who o before same = ap (of_files (mapped_present f x) who) same ∙ (λ i. record (only_reply (mapped_present f x) before.reply) {
    events = events_of-mapped f who before.change i;
    works = works_of-mapped f who before.change i;
    openings = openings_of who before.first;
    table = table_after-mapped f blank x.files who before i;
  })

  opening-mapped : (process : Pid) (label : Label) (who : Option Id) (o before : FileOutcome) → o ≡ mapped_file_outcome f before
      → opening (mapped_present f x) process label who o ≡ mapped_outcome f (opening x process label who before)
  opening-mapped process label who o before same =
      ap (opening (mapped_present f x) process label who) same
      ∙ ap (bound_file process label before.opened) (of_files-mapped who (mapped_file_outcome f before) before refl)
      ∙ bound_file-mapped f process label before.opened (of_files x who before)

  on_file-mapped : (o : Option OpenFile) (call before : OpenFile → FileOutcome) → ((o : OpenFile) → call o ≡ mapped_file_outcome f (before o))
      → on_file (mapped_present f x) o call ≡ mapped_outcome f (on_file x o before)
  on_file-mapped None call before same = refl
  on_file-mapped (Some o) call before same = of_files-mapped o.transaction (call o) (before o) (same o)

  on_file-read : (o : Option OpenFile) (offset many : ℕ)
      → on_file (mapped_present f x) o (λ o. read_file (mapped_files f x.files) o offset many)
      ≡ record (mapped_outcome f (on_file x o (λ o. read_file x.files o offset many))) { reply = mapped_read f (on_file x o (λ o. read_file x.files o offset many)).reply }
  on_file-read None offset many = refl
  on_file-read (Some o) offset many =
      ap (of_files (mapped_present f x) o.transaction) (read_file-mapped f blank x.files o offset many)
      ∙ (λ i. record (of_files-mapped o.transaction (mapped_file_outcome f (read_file x.files o offset many)) (read_file x.files o offset many) refl i) { reply = mapped_read f (read_file x.files o offset many).reply })

  -- ---- the tests of each command

  tests-mapped : (process : Pid) (c : Command) → command_tests (mapped_present f x) process (mapped_command f c) ≡ command_tests x process c
  unfolding file_room create_transaction_tests open_transaction_tests create_resource_manager_tests open_resource_manager_tests create_enlistment_tests
  tests-mapped process (OpenEnlistment label manager guid) = open_enlistment_tests-mapped f x process label (manager_named x process manager) guid
  tests-mapped process (CreateFile label path access share disposition) = λ i. bound_test x process label ∷ create_file_tests-mapped f blank x.files None (file_room x) path access share disposition i
  tests-mapped process (CreateFileTransacted label path access share disposition transaction) = λ i.
      transacted x process transaction (bound_test x process label ∷ create_file_tests-mapped f blank x.files (caller x process transaction) (file_room x) path access share disposition i)
  tests-mapped process (ReadFile file offset many) = on_file_tests-mapped f x process file (λ o. read_file_tests o many) (λ o. read_file_tests o many) (λ o. refl)
  tests-mapped process (WriteFile file offset bytes) =
      on_file_tests-mapped f x process file (λ o. write_file_tests (mapped_files f x.files) (file_room x) o offset (map f bytes)) (λ o. write_file_tests x.files (file_room x) o offset bytes) (λ o. write_file_tests-mapped f blank x.files o (file_room x) offset bytes)
  tests-mapped process (SetEndOfFile file size) =
      on_file_tests-mapped f x process file (λ o. set_end_tests (mapped_files f x.files) (file_room x) o size) (λ o. set_end_tests x.files (file_room x) o size) (λ o. set_end_tests-mapped f blank x.files o (file_room x) size)
  tests-mapped process (WriteUnits file start contents) =
      on_file_tests-mapped f x process file (λ o. write_units_tests (mapped_files f x.files) (file_room x) o start (map f contents)) (λ o. write_units_tests x.files (file_room x) o start contents) (λ o. write_units_tests-mapped f blank x.files o (file_room x) start contents)
  tests-mapped process (GetFileSizeEx file) = file_tests-mapped f x process file
  tests-mapped process (FlushFileBuffers file) = on_file_tests-mapped f x process file (λ o. write_access_test o ∷ []) (λ o. write_access_test o ∷ []) (λ o. refl)
  tests-mapped process (DeleteFile path) = delete_file_tests-mapped f blank x.files None (file_room x) path
  tests-mapped process (CreateDirectory path) = create_directory_tests-mapped f blank x.files None (file_room x) path
  tests-mapped process (RemoveDirectory path) = remove_directory_tests-mapped f blank x.files None (file_room x) path
  tests-mapped process (MoveFile source target) = move_file_tests-mapped f blank x.files None (file_room x) source target
  tests-mapped process (DeleteFileTransacted path transaction) = ap (transacted x process transaction) (delete_file_tests-mapped f blank x.files (caller x process transaction) (file_room x) path)
  tests-mapped process (CreateDirectoryTransacted path transaction) = ap (transacted x process transaction) (create_directory_tests-mapped f blank x.files (caller x process transaction) (file_room x) path)
  tests-mapped process (RemoveDirectoryTransacted path transaction) = ap (transacted x process transaction) (remove_directory_tests-mapped f blank x.files (caller x process transaction) (file_room x) path)
  tests-mapped process (MoveFileTransacted source target transaction) = ap (transacted x process transaction) (move_file_tests-mapped f blank x.files (caller x process transaction) (file_room x) source target)
  tests-mapped process (FindFiles searched) = find_files_tests-mapped f blank x.files None searched
  tests-mapped process (FindFilesTransacted searched transaction) = ap (transacted x process transaction) (find_files_tests-mapped f blank x.files (caller x process transaction) searched)
  tests-mapped process (KvSet transaction key value) = ap (λ room. transacted x process transaction (kv_set_tests x.keys room (caller x process transaction) key value)) (key_room-mapped f x)
  tests-mapped process (KvUnset transaction key) = ap (λ room. transacted x process transaction (kv_unset_tests x.keys room (caller x process transaction) key)) (key_room-mapped f x)
  tests-mapped process (DuplicateHandle label from source) = duplicate_handle_tests-mapped f x process label from source
  tests-mapped process _ = refl

  -- ---- what each command does

  effect-mapped : (process : Pid) (c : Command) → command_effect (mapped_present f x) process (mapped_command f c) ≡ mapped_answer f c (command_effect x process c)
  unfolding create_transaction open_transaction commit_transaction rollback_transaction get_transaction_information open_resource_manager recover_resource_manager get_notification create_enlistment open_enlistment pre_prepare_complete prepare_complete read_only_enlistment commit_complete rollback_complete single_phase_reject rollback_enlistment pre_prepare_enlistment prepare_enlistment commit_enlistment recover_enlistment set_information get_information duplicate_handle
  effect-mapped process (CreateTransaction label timeout) = refl
  effect-mapped process (OpenTransaction label guid) = open_to_transaction-mapped f x process label (transaction_with x guid)
  effect-mapped process (CommitTransaction label) = commit_of-mapped f x (transaction_named x process label)
  effect-mapped process (RollbackTransaction label) = rollback_of-mapped f x (transaction_named x process label)
  effect-mapped process (GetTransactionInformation label) = ap (only_reply (mapped_present f x)) (information_of-mapped f x (transaction_named x process label))
  effect-mapped process (CreateResourceManager label durability) = create_resource_manager-mapped f x process label durability
  effect-mapped process (OpenResourceManager label guid) = open_to_manager-mapped f x process label (manager_with x guid)
  effect-mapped process (RecoverResourceManager label) = recover_all-mapped f x (manager_named x process label)
  effect-mapped process (GetNotificationResourceManager label) = take_first-mapped f x (manager_named x process label)
  effect-mapped process (CreateEnlistment label manager transaction kind) = enlist-mapped f x process label (manager_named x process manager) (transaction_named x process transaction) kind
  effect-mapped process (OpenEnlistment label manager guid) =
      ap (open_to_enlistment (mapped_present f x) process label) (enlistment_with-mapped f x (manager_named x process manager) guid)
      ∙ open_to_enlistment-mapped f x process label (enlistment_with x (manager_named x process manager) guid)
  effect-mapped process (RecoverEnlistment label) = answering-mapped f x (enlistment_named x process label) recovery_of
  effect-mapped process (PrePrepareComplete label) = answering-mapped f x (enlistment_named x process label) (λ e. PhaseInput.PrePrepareComplete)
  effect-mapped process (PrepareComplete label) = answering-mapped f x (enlistment_named x process label) (λ e. PhaseInput.PrepareComplete)
  effect-mapped process (ReadOnlyEnlistment label) = answering-mapped f x (enlistment_named x process label) (λ e. PhaseInput.ReadOnly (share_of e))
  effect-mapped process (CommitComplete label) = answering-mapped f x (enlistment_named x process label) (λ e. PhaseInput.CommitComplete)
  effect-mapped process (RollbackComplete label) = answering-mapped f x (enlistment_named x process label) (λ e. PhaseInput.RollbackComplete)
  effect-mapped process (SinglePhaseReject label) = answering-mapped f x (enlistment_named x process label) (λ e. PhaseInput.SinglePhaseReject)
  effect-mapped process (RollbackEnlistment label) = answering-mapped f x (enlistment_named x process label) (λ e. PhaseInput.Rollback)
  effect-mapped process (PrePrepareEnlistment label) = answering-mapped f x (enlistment_named x process label) (λ e. PhaseInput.PrePrepare)
  effect-mapped process (PrepareEnlistment label) = answering-mapped f x (enlistment_named x process label) (λ e. PhaseInput.Prepare)
  effect-mapped process (CommitEnlistment label) = answering-mapped f x (enlistment_named x process label) (λ e. PhaseInput.Commit)
  effect-mapped process (SetEnlistmentRecoveryInformation label information) = keep_information-mapped f x (enlistment_named x process label) information
  effect-mapped process (GetEnlistmentRecoveryInformation label) = refl
  effect-mapped process (CreateFile label path access share disposition) =
      opening-mapped process label None (create_file (mapped_files f x.files) None path access share disposition) (create_file x.files None path access share disposition) (create_file-mapped f blank x.files None path access share disposition)
  effect-mapped process (CreateFileTransacted label path access share disposition transaction) =
      let who = caller x process transaction in
      opening-mapped process label who (create_file (mapped_files f x.files) who path access share disposition) (create_file x.files who path access share disposition) (create_file-mapped f blank x.files who path access share disposition)
  effect-mapped process (ReadFile file offset many) = on_file-read (file_named x process file) offset many
  effect-mapped process (WriteFile file offset bytes) = on_file-mapped (file_named x process file) (λ o. write_file o offset (map f bytes)) (λ o. write_file o offset bytes) (λ o. write_file-mapped f blank x.files o offset bytes)
  effect-mapped process (SetEndOfFile file size) = on_file-mapped (file_named x process file) (λ o. set_end o size) (λ o. set_end o size) (λ o. set_end-mapped f blank x.files o size)
  effect-mapped process (WriteUnits file start contents) = on_file-mapped (file_named x process file) (λ o. write_file o start (map f contents)) (λ o. write_file o start contents) (λ o. write_file-mapped f blank x.files o start contents)
  effect-mapped process (GetFileSizeEx file) = on_file-mapped (file_named x process file) (λ o. get_size (mapped_files f x.files) o) (λ o. get_size x.files o) (λ o. get_size-mapped f blank x.files o)
  effect-mapped process (FlushFileBuffers file) = on_file-mapped (file_named x process file) (λ o. flush_file) (λ o. flush_file) (λ o. refl)
  effect-mapped process (DeleteFile path) = of_files-mapped None (delete_file (mapped_files f x.files) None path) (delete_file x.files None path) (delete_file-mapped f blank x.files None path)
  effect-mapped process (CreateDirectory path) = of_files-mapped None (create_directory (mapped_files f x.files) None path) (create_directory x.files None path) (create_directory-mapped f blank x.files None path)
  effect-mapped process (RemoveDirectory path) = of_files-mapped None (remove_directory (mapped_files f x.files) None path) (remove_directory x.files None path) (remove_directory-mapped f blank x.files None path)
  effect-mapped process (MoveFile source target) = of_files-mapped None (move_file (mapped_files f x.files) None source target) (move_file x.files None source target) (move_file-mapped f blank x.files None source target)
  effect-mapped process (DeleteFileTransacted path transaction) =
      let who = caller x process transaction in of_files-mapped who (delete_file (mapped_files f x.files) who path) (delete_file x.files who path) (delete_file-mapped f blank x.files who path)
  effect-mapped process (CreateDirectoryTransacted path transaction) =
      let who = caller x process transaction in of_files-mapped who (create_directory (mapped_files f x.files) who path) (create_directory x.files who path) (create_directory-mapped f blank x.files who path)
  effect-mapped process (RemoveDirectoryTransacted path transaction) =
      let who = caller x process transaction in of_files-mapped who (remove_directory (mapped_files f x.files) who path) (remove_directory x.files who path) (remove_directory-mapped f blank x.files who path)
  effect-mapped process (MoveFileTransacted source target transaction) =
      let who = caller x process transaction in of_files-mapped who (move_file (mapped_files f x.files) who source target) (move_file x.files who source target) (move_file-mapped f blank x.files who source target)
  effect-mapped process (FindFiles searched) = of_files-mapped None (find_files (mapped_files f x.files) None searched) (find_files x.files None searched) (find_files-mapped f blank x.files None searched)
  effect-mapped process (FindFilesTransacted searched transaction) =
      let who = caller x process transaction in of_files-mapped who (find_files (mapped_files f x.files) who searched) (find_files x.files who searched) (find_files-mapped f blank x.files who searched)
  effect-mapped process (KvSet transaction key value) = refl
  effect-mapped process (KvUnset transaction key) = refl
  effect-mapped process (KvGet view key) = refl
  effect-mapped process (KvList view) = refl
  effect-mapped process (CloseHandle label) = close_handle-mapped f blank x process label
  effect-mapped process (DuplicateHandle label from source) = bind_to-mapped f x process label (object_at x.handles from source)
  effect-mapped process Exit = exit-mapped f blank x process

  -- ---- refused or not

  refused-same : (c : Command) (refusal : Refusal) → mapped_reply f c (Refused refusal) ≡ Refused refusal
  refused-same (ReadFile file offset many) refusal = refl
  refused-same _ refusal = refl

  refuse_or-mapped : (c : Command) (refusal : Option Refusal) (effect : Outcome) → refuse_or (mapped_present f x) refusal (mapped_answer f c effect) ≡ mapped_answer f c (refuse_or x refusal effect)
  refuse_or-mapped c None effect = refl
  refuse_or-mapped c (Some refusal) effect = λ i. only_reply (mapped_present f x) (sym (refused-same c refusal) i)

  pub refusal_of-mapped : (process : Pid) (c : Command) → refusal_of (mapped_present f x) process (mapped_command f c) ≡ refusal_of x process c
  refusal_of-mapped process c = λ i. first_refusal ((not x.machine.is_up, MachineDown) ∷ tests-mapped process c i)

  pub decide-mapped : (process : Pid) (c : Command) → decide (mapped_present f x) process (mapped_command f c) ≡ mapped_answer f c (decide x process c)
  decide-mapped process c =
      (λ i. refuse_or (mapped_present f x) (refusal_of-mapped process c i) (effect-mapped process c i)) ∙ refuse_or-mapped c (refusal_of x process c) (command_effect x process c)

  tick_or-mapped : (refusal : Option Refusal) (effect : Outcome) → refuse_or (mapped_present f x) refusal (mapped_outcome f effect) ≡ mapped_outcome f (refuse_or x refusal effect)
  tick_or-mapped None effect = refl
  tick_or-mapped (Some refusal) effect = refl

  pub decide_tick-mapped : (ms : ℕ) → decide_tick (mapped_present f x) ms ≡ mapped_outcome f (decide_tick x ms)
  decide_tick-mapped ms =
      ap (refuse_or (mapped_present f x) (first_refusal ((not x.machine.is_up, MachineDown) ∷ []))) (tick-mapped f blank x ms) ∙ tick_or-mapped (first_refusal ((not x.machine.is_up, MachineDown) ∷ [])) _
