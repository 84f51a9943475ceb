-- Every call, and the passing of time, keep sound what undecided transactions own of the files.
use Rattle.std.proofs.Common.{◌≡◌, ℕ, not, Bool, true, false, List, [], ◌∷◌, Option, Some, None, refl, sym, subst, is_none, ◌∙◌, ◌++◌}
use Rattle.std.proofs.lemmas.Option.{none-some}
use Rattle.ktm_base.specs.declared.id.Id.{Id}
use Rattle.ktm_base.specs.declared.id.Label.{Label}
use Rattle.ktm_base.specs.declared.id.Pid.{Pid}
use Rattle.ktm_base.specs.declared.refusal.Refusal.{Refusal}
use Rattle.ktm_base.specs.declared.refusal.Refusal.TheVariants.{MachineDown}
use Rattle.std.specs.Prelude.{option_and_then}
use Rattle.ktm_world.specs.declared.command.Command.{Command}
use Rattle.ktm_world.specs.declared.command.Command.TheVariants.{CreateFile, CreateFileTransacted, WriteFile, SetEndOfFile, WriteUnits, DeleteFileTransacted, CreateDirectoryTransacted, RemoveDirectoryTransacted, MoveFileTransacted, Exit, CloseHandle, MoveFile, RemoveDirectory, CreateDirectory, DeleteFile, OpenTransaction, CommitTransaction, RollbackTransaction, GetTransactionInformation, CreateResourceManager, OpenResourceManager, RecoverResourceManager, GetNotificationResourceManager, CreateEnlistment, OpenEnlistment, RecoverEnlistment, PrePrepareComplete, PrepareComplete, ReadOnlyEnlistment, CommitComplete, RollbackComplete, SinglePhaseReject, RollbackEnlistment, PrePrepareEnlistment, PrepareEnlistment, CommitEnlistment, SetEnlistmentRecoveryInformation, GetEnlistmentRecoveryInformation, ReadFile, GetFileSizeEx, FlushFileBuffers, FindFiles, FindFilesTransacted, KvSet, KvUnset, KvGet, KvList, DuplicateHandle, CreateTransaction}
use Rattle.ktm_world.specs.declared.input.PhaseInput.{PhaseInput}
use Rattle.ktm_world.specs.declared.object.Object.{Object}
use Rattle.ktm_world.specs.declared.object.Transaction.{Transaction}
use Rattle.ktm_world.specs.declared.options.Durability.{Durability}
use Rattle.ktm_world.specs.declared.options.EnlistmentKind.{EnlistmentKind}
use Rattle.ktm_world.specs.declared.reply.Reply.{Reply}
use Rattle.ktm_world.specs.declared.reply.Reply.TheVariants.{Done, Refused}
use Rattle.ktm_world.specs.Decide.{of_files, on_file, opening, caller, transacted, refusal_of, command_tests, command_effect}
use Rattle.ktm_world.specs.Enlistments.{Enlistment, Manager}
use Rattle.ktm_world.specs.FileCalls.{read_file, get_size, flush_file, find_files, create_file, create_file_tests, delete_file, delete_file_tests, create_directory, create_directory_tests, remove_directory, remove_directory_tests, move_file, move_file_tests}
use Rattle.ktm_world.specs.Files.{OpenFile}
use Rattle.ktm_world.specs.HandleCalls.{exit, close_handle, duplicate_handle, bind_to}
use Rattle.ktm_world.specs.Handles.{object_at, transaction_id}
use Rattle.ktm_world.specs.Labels.{transaction_named, manager_named, enlistment_named, file_named}
use Rattle.ktm_world.specs.Outcome.{apply, Outcome, first_refusal, refuse_or}
use Rattle.ktm_world.specs.Phases.{Course}
use Rattle.ktm_world.specs.Present.{Present}
use Rattle.ktm_world.specs.Steps.{led, share_of}
use Rattle.ktm_world.specs.TransactionCalls.{bound_test, course_of, arrived, open_transaction, open_to_transaction, transaction_with, commit_transaction, commit_reply, rollback_transaction, get_transaction_information, information_of, information_in, create_resource_manager, open_resource_manager, open_to_manager, manager_with, recover_resource_manager, get_notification, create_enlistment, open_enlistment, open_to_enlistment, enlistment_with, answering, pre_prepare_complete, prepare_complete, read_only_enlistment, commit_complete, rollback_complete, single_phase_reject, rollback_enlistment, pre_prepare_enlistment, prepare_enlistment, commit_enlistment, recover_enlistment, set_information, get_information, tick, new_id, create_transaction, recovery_of}
use Rattle.ktm_world.specs.Transactions.{transaction_at}
use Rattle.ktm_world.specs.Uses.{file_room}
use Rattle.txf_laws.specs.Elements.{IsIn}
use Rattle.txf_laws.specs.Footprint.{ListsLaw}
use Rattle.ktm_owned.specs.FilesKept.{FilesKeptLaw}
use Rattle.ktm_courses.specs.SoundCourse.{IsSoundCourse, is_counted}
use Rattle.ktm_courses.proofs.offered.Calls.{Passes, passed, transaction_at-found, of-answering}
use Rattle.ktm_courses.proofs.offered.FileSteps.{units-pass}
use Rattle.txf_laws.proofs.offered.Elements.{list_all-at, filter-true}
use Rattle.ktm_courses.proofs.offered.NewObjects.{counted-before}
use Rattle.ktm_owned.proofs.offered.OpenCalls.{creates-file, creates-own, writes-file, sets-end}
use Rattle.ktm_owned.proofs.offered.OwnCalls.{Caller, caller-may, keeps-own, own-deleted, own-made, own-moved, own-removed}
use Rattle.txf_laws.proofs.offered.Tables.{before_other}
use Rattle.txf_laws.specs.Formed.{FormedLaw}
use Rattle.txf_laws.proofs.offered.Reservations.{named}
use Rattle.ktm_owned.proofs.offered.OwnedAfterCourses.{Goes, course-goes, tick-sound}
use Rattle.ktm_owned.proofs.offered.Restarts.{files-opened}
use Rattle.ktm_owned.proofs.offered.EndedTransactions.{AreInOrder, transaction_at-in, unchanged}
use Rattle.ktm_owned.proofs.offered.PlainCalls.{deletes-file, creates-directory, removes-directory, moves-file}
use Rattle.ktm_owned.proofs.offered.ClosedFiles.{close_handle-goes, exit-goes}
use Rattle.ktm_owned.proofs.UnchangedFiles.{KeepsFiles, replies, leaves, labelled, more-handles, answers_file}
use Rattle.std.proofs.lemmas.List.{append-nil}
use Rattle.ktm_world.specs.declared.object.Phase.{Phase}
use Rattle.ktm_world.specs.declared.object.TransactionOutcome.{TransactionOutcome}
use Rattle.txf_laws.specs.SoundFiles.{IsSoundFiles}
use Rattle.ktm_owned.proofs.NewTransactions.{begun-sound}

module _ (lists : ListsLaw) (formed : FormedLaw) where
  abbrev Keeps : Present → Outcome → Type 0
  Keeps x o = KeepsFiles x o

  by : (x : Present) (o : Outcome) → Goes lists formed x o → Keeps x o
  by x o goes order sound = (goes.keeps order sound).1

  step : (x : Present) (t : Transaction) (caller : Option Enlistment) (input : PhaseInput) (reply : Course → Reply) → IsIn t x.transactions.items → Keeps x (arrived x (led input (course_of x t caller)) (reply (led input (course_of x t caller))))
  step x t caller input reply there = by x _ (course-goes lists formed x t caller input reply there)

  answers : (x : Present) (e : Option Enlistment) (input : Enlistment → PhaseInput) → Keeps x (answering x e input)
  answers x e input = of-answering (Keeps x) x e input (replies lists formed x Done) (λ e is t there own found. step x t (Some e) (input e) (λ c. Done) there)

  -- the transaction that a label names is there
  named-there : (x : Present) (process : Pid) (label : Label) (t : Transaction) → transaction_named x process label ≡ Some t → IsIn t x.transactions.items
  named-there x process label t is = go (transaction_id (object_at x.handles process label)) is
    where
      go : (id : Option Id) → option_and_then (transaction_at x.transactions.items) id ≡ Some t → IsIn t x.transactions.items
      go None none = absurd (none-some t none)
      go (Some id) found = transaction_at-in x.transactions.items id t found

  commits : (x : Present) (t : Option Transaction) → ((u : Transaction) → t ≡ Some u → IsIn u x.transactions.items) → Keeps x (commit_transaction x t)
  unfolding commit_transaction
  commits x None there = replies lists formed x Done
  commits x (Some t) there = step x t None PhaseInput.CommitTransaction commit_reply (there t refl)

  rolls_back : (x : Present) (t : Option Transaction) → ((u : Transaction) → t ≡ Some u → IsIn u x.transactions.items) → Keeps x (rollback_transaction x t)
  unfolding rollback_transaction
  rolls_back x None there = replies lists formed x Done
  rolls_back x (Some t) there = step x t None PhaseInput.Rollback (λ c. Done) (there t refl)

  opens_transaction : (x : Present) (process : Pid) (label : Label) (guid : List ℕ) → Keeps x (open_transaction x process label guid)
  unfolding open_transaction
  opens_transaction x process label guid = go (transaction_with x guid)
    where
      go : (t : Option Transaction) → Keeps x (open_to_transaction x process label t)
      go None = replies lists formed x Done
      go (Some t) = labelled lists formed x process label (Object.Transaction t.id) Done

  tells : (x : Present) (t : Option Transaction) → Keeps x (get_transaction_information x t)
  unfolding get_transaction_information
  tells x t = replies lists formed x (information_of x t)

  makes_manager : (x : Present) (process : Pid) (label : Label) (durability : Durability) → Keeps x (create_resource_manager x process label durability)
  unfolding create_resource_manager
  makes_manager x process label Durability.Volatile = leaves lists formed x (create_resource_manager x process label Durability.Volatile) refl refl refl refl refl (more-handles lists formed x.handles process label _) refl
  makes_manager x process label Durability.Durable = leaves lists formed x (create_resource_manager x process label Durability.Durable) refl refl refl refl refl (more-handles lists formed x.handles process label _) refl

  opens_manager : (x : Present) (process : Pid) (label : Label) (guid : List ℕ) → Keeps x (open_resource_manager x process label guid)
  unfolding open_resource_manager
  opens_manager x process label guid = go (manager_with x guid)
    where
      go : (m : Option Manager) → Keeps x (open_to_manager x process label m)
      go None = replies lists formed x Done
      go (Some m) = labelled lists formed x process label (Object.Manager m.id) Done

  recovers_manager : (x : Present) (m : Option Manager) → Keeps x (recover_resource_manager x m)
  unfolding recover_resource_manager
  recovers_manager x None = replies lists formed x Done
  recovers_manager x (Some m) = leaves lists formed x (recover_resource_manager x (Some m)) refl refl refl refl refl (λ object has. has) refl

  takes : (x : Present) (m : Option Manager) → Keeps x (get_notification x m)
  unfolding get_notification
  takes x None = replies lists formed x Done
  takes x (Some m) = leaves lists formed x (get_notification x (Some m)) refl refl refl refl refl (λ object has. has) refl

  enlists : (x : Present) (process : Pid) (label : Label) (m : Option Manager) (t : Option Transaction) (kind : EnlistmentKind) → Keeps x (create_enlistment x process label m t kind)
  unfolding create_enlistment
  enlists x process label (Some m) (Some t) kind = leaves lists formed x (create_enlistment x process label (Some m) (Some t) kind) refl refl refl refl refl (more-handles lists formed x.handles process label _) refl
  enlists x process label None t kind = replies lists formed x Done
  enlists x process label (Some m) None kind = replies lists formed x Done

  opens_enlistment : (x : Present) (process : Pid) (label : Label) (m : Option Manager) (guid : List ℕ) → Keeps x (open_enlistment x process label m guid)
  unfolding open_enlistment
  opens_enlistment x process label m guid = go (enlistment_with x m guid)
    where
      go : (e : Option Enlistment) → Keeps x (open_to_enlistment x process label e)
      go None = replies lists formed x Done
      go (Some e) = labelled lists formed x process label (Object.Enlistment e.id) Done

  keeps_information : (x : Present) (e : Option Enlistment) (information : List ℕ) → Keeps x (set_information x e information)
  unfolding set_information
  keeps_information x None information = replies lists formed x Done
  keeps_information x (Some e) information = leaves lists formed x (set_information x (Some e) information) refl refl refl refl refl (λ object has. has) refl

  tells_information : (x : Present) (e : Option Enlistment) → Keeps x (get_information x e)
  unfolding get_information
  tells_information x e = replies lists formed x (information_in e)

  duplicates : (x : Present) (process : Pid) (label : Label) (from : Pid) (source : Label) → Keeps x (duplicate_handle x process label from source)
  unfolding duplicate_handle
  duplicates x process label from source = go (object_at x.handles from source)
    where
      go : (object : Option Object) → Keeps x (bind_to x process label object)
      go None = replies lists formed x Done
      go (Some object) = labelled lists formed x process label object Done

  reads_file : (x : Present) (o : Option OpenFile) (offset many : ℕ) → Keeps x (on_file x o (λ o. read_file x.files o offset many))
  unfolding read_file
  reads_file x None offset many = replies lists formed x Done
  reads_file x (Some o) offset many = answers_file lists formed x o.transaction (read_file x.files o offset many) refl refl refl

  tells_size : (x : Present) (o : Option OpenFile) → Keeps x (on_file x o (λ o. get_size x.files o))
  unfolding get_size
  tells_size x None = replies lists formed x Done
  tells_size x (Some o) = answers_file lists formed x o.transaction (get_size x.files o) refl refl refl

  flushes : (x : Present) (o : Option OpenFile) → Keeps x (on_file x o (λ o. flush_file))
  flushes x None = replies lists formed x Done
  flushes x (Some o) = answers_file lists formed x o.transaction flush_file refl refl refl

  finds : (x : Present) (who : Option Id) (searched : List ℕ) → Keeps x (of_files x who (find_files x.files who searched))
  unfolding find_files
  finds x who searched = answers_file lists formed x who (find_files x.files who searched) refl refl refl

  begins : (x : Present) (process : Pid) (label : Label) (timeout : ℕ) → is_none (transaction_at x.transactions.items (new_id x x.transactions.last_transaction)) ≡ true → IsSoundFiles x → IsSoundFiles (apply x (create_transaction x process label timeout))
  unfolding create_transaction
  begins x process label timeout new sound =
      let id = new_id x x.transactions.last_transaction in
      let t : Transaction = record { id = id; timeout = timeout; created = x.transactions.clock; phase = Phase.Active; outcome = TransactionOutcome.Undetermined; is_recorded = false } in
      let begun = begun-sound x sound t new in
      unchanged lists formed (record x { transactions = record x.transactions { items = x.transactions.items ++ t ∷ [] } }) (apply x (create_transaction x process label timeout))
      (λ i. record x.files { first_opens = (filter-true (x.files.first_opens ++ []) ∙ append-nil x.files.first_opens) i }) refl
      (λ o there. more-handles lists formed x.handles process label (Object.Transaction id) (Object.File o.number) (named x sound o there)) (λ i was. was) (λ u there. (u, there, refl)) begun

  -- a transaction that begins has an Id that none has
  new-begins : (x : Present) → IsSoundCourse x → is_none (transaction_at x.transactions.items (new_id x x.transactions.last_transaction)) ≡ true
  new-begins x course = go (transaction_at x.transactions.items (new_id x x.transactions.last_transaction)) refl
    where
      go : (t : Option Transaction) → transaction_at x.transactions.items (new_id x x.transactions.last_transaction) ≡ t → is_none t ≡ true
      go None found = refl
      go (Some t) found =
          let there = transaction_at-found x.transactions.items (new_id x x.transactions.last_transaction) t found in
          absurd (before_other t.id (new_id x x.transactions.last_transaction) (counted-before x.recorded.boots x.transactions.last_transaction t.id
          (list_all-at (λ (t : Transaction). is_counted x.recorded.boots x.transactions.last_transaction t.id) x.transactions.items course.transactions.counted t there.0)) there.1)

  -- the tests of a command on a machine that is up
  pub up-passes : (x : Present) (process : Pid) (command : Command) → refusal_of x process command ≡ None → Passes (command_tests x process command)
  up-passes x process command none = let all : Passes ((not x.machine.is_up, MachineDown) ∷ command_tests x process command) = record { none = none } in (passed all).1

  -- a call that is made in a transaction
  made-in-one : (x : Present) (process : Pid) (label : Label) (tests : Option Id → List (Bool × Refusal)) (call : Option Id → Outcome) → IsSoundCourse x → Passes (transacted x process label (tests (caller x process label)))
      → ((id : Id) → Caller x id → Passes (tests (Some id)) → IsSoundFiles (apply x (call (Some id)))) → IsSoundFiles (apply x (call (caller x process label)))
  made-in-one x process label tests call course passes by' =
      let may = caller-may x process label (tests (caller x process label)) course passes in
      subst (λ who. IsSoundFiles (apply x (call who))) (sym may.1) (by' may.0 may.2 (subst (λ who. Passes (tests who)) may.1 may.3))

  -- ---- every call

  effect : (x : Present) (process : Pid) (command : Command) → IsSoundCourse x → refusal_of x process command ≡ None → Keeps x (command_effect x process command)
  unfolding recover_enlistment pre_prepare_complete prepare_complete read_only_enlistment commit_complete rollback_complete single_phase_reject rollback_enlistment pre_prepare_enlistment prepare_enlistment commit_enlistment
  effect x process (CreateTransaction label timeout) course none = λ order sound. begins x process label timeout (new-begins x course) sound
  effect x process (OpenTransaction label guid) course none = opens_transaction x process label guid
  effect x process (CommitTransaction label) course none = commits x (transaction_named x process label) (named-there x process label)
  effect x process (RollbackTransaction label) course none = rolls_back x (transaction_named x process label) (named-there x process label)
  effect x process (GetTransactionInformation label) course none = tells x (transaction_named x process label)
  effect x process (CreateResourceManager label durability) course none = makes_manager x process label durability
  effect x process (OpenResourceManager label guid) course none = opens_manager x process label guid
  effect x process (RecoverResourceManager label) course none = recovers_manager x (manager_named x process label)
  effect x process (GetNotificationResourceManager label) course none = takes x (manager_named x process label)
  effect x process (CreateEnlistment label manager transaction kind) course none = enlists x process label (manager_named x process manager) (transaction_named x process transaction) kind
  effect x process (OpenEnlistment label manager guid) course none = opens_enlistment x process label (manager_named x process manager) guid
  effect x process (RecoverEnlistment label) course none = answers x (enlistment_named x process label) recovery_of
  effect x process (PrePrepareComplete label) course none = answers x (enlistment_named x process label) (λ e. PhaseInput.PrePrepareComplete)
  effect x process (PrepareComplete label) course none = answers x (enlistment_named x process label) (λ e. PhaseInput.PrepareComplete)
  effect x process (ReadOnlyEnlistment label) course none = answers x (enlistment_named x process label) (λ e. PhaseInput.ReadOnly (share_of e))
  effect x process (CommitComplete label) course none = answers x (enlistment_named x process label) (λ e. PhaseInput.CommitComplete)
  effect x process (RollbackComplete label) course none = answers x (enlistment_named x process label) (λ e. PhaseInput.RollbackComplete)
  effect x process (SinglePhaseReject label) course none = answers x (enlistment_named x process label) (λ e. PhaseInput.SinglePhaseReject)
  effect x process (RollbackEnlistment label) course none = answers x (enlistment_named x process label) (λ e. PhaseInput.Rollback)
  effect x process (PrePrepareEnlistment label) course none = answers x (enlistment_named x process label) (λ e. PhaseInput.PrePrepare)
  effect x process (PrepareEnlistment label) course none = answers x (enlistment_named x process label) (λ e. PhaseInput.Prepare)
  effect x process (CommitEnlistment label) course none = answers x (enlistment_named x process label) (λ e. PhaseInput.Commit)
  effect x process (SetEnlistmentRecoveryInformation label information) course none = keeps_information x (enlistment_named x process label) information
  effect x process (GetEnlistmentRecoveryInformation label) course none = tells_information x (enlistment_named x process label)
  effect x process (ReadFile file offset many) course none = reads_file x (file_named x process file) offset many
  effect x process (GetFileSizeEx file) course none = tells_size x (file_named x process file)
  effect x process (FlushFileBuffers file) course none = flushes x (file_named x process file)
  effect x process (FindFiles searched) course none = finds x None searched
  effect x process (FindFilesTransacted searched transaction) course none = finds x (caller x process transaction) searched
  effect x process (KvSet transaction key value) course none = leaves lists formed x (command_effect x process (KvSet transaction key value)) refl refl refl refl refl (λ object has. has) refl
  effect x process (KvUnset transaction key) course none = leaves lists formed x (command_effect x process (KvUnset transaction key)) refl refl refl refl refl (λ object has. has) refl
  effect x process (KvGet view key) course none = leaves lists formed x (command_effect x process (KvGet view key)) refl refl refl refl refl (λ object has. has) refl
  effect x process (KvList view) course none = leaves lists formed x (command_effect x process (KvList view)) refl refl refl refl refl (λ object has. has) refl
  effect x process (DuplicateHandle label from source) course none = duplicates x process label from source
  effect x process (DeleteFile path) course none = deletes-file lists formed x path (not x.machine.is_up, MachineDown) none
  effect x process (CreateDirectory path) course none = creates-directory lists formed x path (not x.machine.is_up, MachineDown) none
  effect x process (RemoveDirectory path) course none = removes-directory lists formed x path (not x.machine.is_up, MachineDown) none
  effect x process (MoveFile source target) course none = moves-file lists formed x source target (not x.machine.is_up, MachineDown) none
  effect x process (CloseHandle label) course none = by x (close_handle x process label) (close_handle-goes lists formed x process label)
  effect x process Exit course none = by x (exit x process) (exit-goes lists formed x process)
  effect x process (CreateFile label path access share disposition) course none = λ order sound.
      creates-file lists formed x order sound process label path access share disposition (passed (up-passes x process (CreateFile label path access share disposition) none)).1
  effect x process (CreateFileTransacted label path access share disposition transaction) course none = λ order sound.
      made-in-one x process transaction (λ who. bound_test x process label ∷ create_file_tests x.files (file_room x) who path access share disposition) (λ who. opening x process label who (create_file x.files who path access share disposition)) course
      (up-passes x process (CreateFileTransacted label path access share disposition transaction) none)
      (λ id may passes. creates-own lists formed x order sound process label id may path access share disposition (passed passes).1)
  effect x process (WriteFile file offset bytes) course none = λ order sound.
      writes-file lists formed x process file offset bytes order sound (units-pass x process file offset bytes (up-passes x process (WriteFile file offset bytes) none))
  effect x process (SetEndOfFile file size) course none = λ order sound.
      sets-end lists formed x process file size order sound (up-passes x process (SetEndOfFile file size) none)
  effect x process (WriteUnits file start contents) course none = λ order sound.
      writes-file lists formed x process file start contents order sound (up-passes x process (WriteUnits file start contents) none)
  effect x process (DeleteFileTransacted path transaction) course none = λ order sound.
      made-in-one x process transaction (λ who. delete_file_tests x.files (file_room x) who path) (λ who. of_files x who (delete_file x.files who path)) course
      (up-passes x process (DeleteFileTransacted path transaction) none)
      (λ id may passes. keeps-own lists formed x order sound id (delete_file x.files (Some id) path) (own-deleted formed x sound id may.who path passes))
  effect x process (CreateDirectoryTransacted path transaction) course none = λ order sound.
      made-in-one x process transaction (λ who. create_directory_tests x.files (file_room x) who path) (λ who. of_files x who (create_directory x.files who path)) course
      (up-passes x process (CreateDirectoryTransacted path transaction) none)
      (λ id may passes. keeps-own lists formed x order sound id (create_directory x.files (Some id) path) (own-made formed x sound id may.who path passes))
  effect x process (RemoveDirectoryTransacted path transaction) course none = λ order sound.
      made-in-one x process transaction (λ who. remove_directory_tests x.files (file_room x) who path) (λ who. of_files x who (remove_directory x.files who path)) course
      (up-passes x process (RemoveDirectoryTransacted path transaction) none)
      (λ id may passes. keeps-own lists formed x order sound id (remove_directory x.files (Some id) path) (own-removed formed x sound id may.who path passes))
  effect x process (MoveFileTransacted source target transaction) course none = λ order sound.
      made-in-one x process transaction (λ who. move_file_tests x.files (file_room x) who source target) (λ who. of_files x who (move_file x.files who source target)) course
      (up-passes x process (MoveFileTransacted source target transaction) none)
      (λ id may passes. keeps-own lists formed x order sound id (move_file x.files (Some id) source target) (own-moved formed x sound id may.who source target passes))

  refuse_or-keeps : (x : Present) (refusal : Option Refusal) (effect : Outcome) → (refusal ≡ None → Keeps x effect) → Keeps x (refuse_or x refusal effect)
  refuse_or-keeps x (Some refusal) effect keeps = replies lists formed x (Refused refusal)
  refuse_or-keeps x None effect keeps = keeps refl

  order-of : (x : Present) → IsSoundCourse x → AreInOrder x
  order-of x course = record { transactions_rise = course.transactions.rise; labels_differ = course.handles.labels_differ }

  pub files_kept_law : FilesKeptLaw
  files_kept_law = record {
    commands = λ x process command course. refuse_or-keeps x (refusal_of x process command) (command_effect x process command) (effect x process command course) (order-of x course);
    ticks = λ x ms course. refuse_or-keeps x (first_refusal ((not x.machine.is_up, MachineDown) ∷ [])) (tick x ms) (λ none. tick-sound lists formed x ms) (order-of x course);
    restarts = files-opened;
  }
