-- Every command leaves a machine sound, and so does the passing of time.
use Rattle.std.proofs.Common.{◌≡◌, ℕ, Bool, List, [], ◌∷◌, Option, Some, None, refl, not, sym, subst}
use Rattle.ktm_courses.specs.NamedObjects.{NamedLaw}
use Rattle.ktm_base.specs.declared.id.Label.{Label}
use Rattle.ktm_base.specs.declared.id.Pid.{Pid}
use Rattle.ktm_base.specs.declared.refusal.Refusal.{Refusal}
use Rattle.ktm_base.specs.declared.refusal.Refusal.TheVariants.{MachineDown}
use Rattle.ktm_world.specs.declared.command.Command.{Command}
use Rattle.ktm_world.specs.declared.command.Command.TheVariants.{CreateTransaction, OpenTransaction, CommitTransaction, RollbackTransaction, GetTransactionInformation, CreateResourceManager, OpenResourceManager, RecoverResourceManager, GetNotificationResourceManager, CreateEnlistment, OpenEnlistment, RecoverEnlistment, PrePrepareComplete, PrepareComplete, ReadOnlyEnlistment, CommitComplete, RollbackComplete, SinglePhaseReject, RollbackEnlistment, PrePrepareEnlistment, PrepareEnlistment, CommitEnlistment, SetEnlistmentRecoveryInformation, GetEnlistmentRecoveryInformation, CreateFile, CreateFileTransacted, ReadFile, WriteFile, SetEndOfFile, WriteUnits, GetFileSizeEx, FlushFileBuffers, DeleteFile, CreateDirectory, RemoveDirectory, MoveFile, DeleteFileTransacted, CreateDirectoryTransacted, RemoveDirectoryTransacted, MoveFileTransacted, FindFiles, FindFilesTransacted, KvSet, KvUnset, KvGet, KvList, CloseHandle, DuplicateHandle, Exit}
use Rattle.ktm_world.specs.declared.input.PhaseInput.{PhaseInput}
use Rattle.ktm_world.specs.declared.reply.Reply.{Reply}
use Rattle.ktm_world.specs.declared.reply.Reply.TheVariants.{Refused}
use Rattle.ktm_world.specs.Decide.{decide, caller, command_tests, command_effect}
use Rattle.ktm_world.specs.Enlistments.{Enlistment}
use Rattle.ktm_world.specs.FileCalls.{create_file, read_file, write_file, set_end, get_size, flush_file, delete_file, create_directory, remove_directory, move_file, find_files}
use Rattle.ktm_world.specs.KeyCalls.{kv_get, kv_list}
use Rattle.ktm_world.specs.Labels.{transaction_named, manager_named, enlistment_named, viewer, file_tests}
use Rattle.ktm_world.specs.Laws.{StepLaw}
use Rattle.ktm_world.specs.Outcome.{Outcome, only_reply, first_refusal, refuse_or}
use Rattle.ktm_world.specs.Present.{Present}
use Rattle.ktm_world.specs.TransactionCalls.{answering, commit_transaction, rollback_transaction, get_transaction_information, information_of, recover_resource_manager, get_notification, pre_prepare_complete, prepare_complete, read_only_enlistment, commit_complete, rollback_complete, single_phase_reject, rollback_enlistment, pre_prepare_enlistment, prepare_enlistment, commit_enlistment, recover_enlistment, set_information, get_information, information_in, tick}
use Rattle.ktm_world.specs.World.{present, decide_tick}
use Rattle.ktm_courses.specs.SoundCourse.{IsSoundCourse}
use Rattle.ktm_courses.specs.SoundCourses.{CoursesLaw}
use Rattle.ktm_courses.specs.Outcomes.{OutcomesLaw}
use Rattle.ktm_courses.proofs.offered.Views.{sound-alike}
use Rattle.ktm_courses.proofs.offered.OutcomesMade.{IsSoundOutcome, sound-only_reply, Keeps, keeps-from}
use Rattle.ktm_courses.proofs.offered.Calls.{Answers, sound-answering, Passes, passed, transaction-named, manager-named, enlistment-named, sound-commit_of, sound-rollback_of, goes-pre_prepare_complete, goes-prepare_complete, goes-read_only, goes-commit_complete, goes-rollback_complete, goes-single_phase_reject, goes-rollback_enlistment, goes-pre_prepare_enlistment, goes-prepare_enlistment, goes-commit_enlistment, goes-recover_enlistment, sound-recover_all, sound-take_first}
use Rattle.ktm_courses.proofs.offered.Bindings.{sound-create_transaction, sound-open_transaction, sound-create_manager, sound-open_manager, sound-create_enlistment, sound-open_enlistment, sound-duplicate, sound-keep_information, sound-close_handle, sound-exit, sound-tick}
use Rattle.ktm_courses.proofs.offered.SoundRestarts.{sound-opened}
use Rattle.ktm_courses.proofs.offered.FileSteps.{plain-caller, caller-active, passes-left, sound-of_files, sound-opening, sound-on_file, sound-of_keys, sound-with_setting}

module _ (x : Present) (sound : IsSoundCourse x) where
  -- an outcome of this machine
  go : (o : Outcome) → IsSoundOutcome x o → Keeps x o
  go o is = keeps-from x o is

  replies : (reply : Reply) → Keeps x (only_reply x reply)
  replies reply = keeps-from x (only_reply x reply) (sound-only_reply x reply sound)

  -- the transaction of an enlistment goes on by what comes from it
  answers : (process : Pid) (label : Label) (input : Enlistment → PhaseInput) → ((e : Enlistment) → enlistment_named x process label ≡ Some e → Answers x (input e) e) → Keeps x (answering x (enlistment_named x process label) input)
  answers process label input goes = go _ (sound-answering x (enlistment_named x process label) input sound (enlistment-named x process label) goes)

  sound-command : (process : Pid) (command : Command) → Passes (command_tests x process command) → Keeps x (command_effect x process command)
  unfolding commit_transaction rollback_transaction get_transaction_information recover_resource_manager get_notification pre_prepare_complete prepare_complete read_only_enlistment commit_complete rollback_complete single_phase_reject rollback_enlistment pre_prepare_enlistment prepare_enlistment commit_enlistment recover_enlistment set_information get_information
  sound-command process (CreateTransaction label timeout) passes = go _ (sound-create_transaction x process label timeout sound passes)
  sound-command process (OpenTransaction label guid) passes = go _ (sound-open_transaction x process label guid sound passes)
  sound-command process (CommitTransaction label) passes = go _ (sound-commit_of x (transaction_named x process label) sound (transaction-named x process label) passes)
  sound-command process (RollbackTransaction label) passes = go _ (sound-rollback_of x (transaction_named x process label) sound (transaction-named x process label) passes)
  sound-command process (GetTransactionInformation label) passes = replies (information_of x (transaction_named x process label))
  sound-command process (CreateResourceManager label durability) passes = sound-create_manager x process label durability sound passes
  sound-command process (OpenResourceManager label guid) passes = go _ (sound-open_manager x process label guid sound passes)
  sound-command process (RecoverResourceManager label) passes = go _ (sound-recover_all x (manager_named x process label) sound)
  sound-command process (GetNotificationResourceManager label) passes = go _ (sound-take_first x (manager_named x process label) sound)
  sound-command process (CreateEnlistment label manager transaction kind) passes =
      go _ (sound-create_enlistment x process label (manager_named x process manager) (transaction_named x process transaction) kind sound (manager-named x process manager) (transaction-named x process transaction) passes)
  sound-command process (OpenEnlistment label manager guid) passes = go _ (sound-open_enlistment x process label (manager_named x process manager) guid sound passes)
  sound-command process (RecoverEnlistment label) passes = answers process label _ (goes-recover_enlistment x sound (enlistment_named x process label) (enlistment-named x process label) passes)
  sound-command process (PrePrepareComplete label) passes = answers process label _ (goes-pre_prepare_complete x sound (enlistment_named x process label) (enlistment-named x process label) passes)
  sound-command process (PrepareComplete label) passes = answers process label _ (goes-prepare_complete x sound (enlistment_named x process label) (enlistment-named x process label) passes)
  sound-command process (ReadOnlyEnlistment label) passes = answers process label _ (goes-read_only x sound (enlistment_named x process label) (enlistment-named x process label) passes)
  sound-command process (CommitComplete label) passes = answers process label _ (goes-commit_complete x sound (enlistment_named x process label) (enlistment-named x process label) passes)
  sound-command process (RollbackComplete label) passes = answers process label _ (goes-rollback_complete x sound (enlistment_named x process label) (enlistment-named x process label) passes)
  sound-command process (SinglePhaseReject label) passes = answers process label _ (goes-single_phase_reject x sound (enlistment_named x process label) (enlistment-named x process label) passes)
  sound-command process (RollbackEnlistment label) passes = answers process label _ (goes-rollback_enlistment x sound (enlistment_named x process label) (enlistment-named x process label) passes)
  sound-command process (PrePrepareEnlistment label) passes = answers process label _ (goes-pre_prepare_enlistment x sound (enlistment_named x process label) (enlistment-named x process label) passes)
  sound-command process (PrepareEnlistment label) passes = answers process label _ (goes-prepare_enlistment x sound (enlistment_named x process label) (enlistment-named x process label) passes)
  sound-command process (CommitEnlistment label) passes = answers process label _ (goes-commit_enlistment x sound (enlistment_named x process label) (enlistment-named x process label) passes)
  sound-command process (SetEnlistmentRecoveryInformation label information) passes = go _ (sound-keep_information x (enlistment_named x process label) information sound passes)
  sound-command process (GetEnlistmentRecoveryInformation label) passes = replies (information_in (enlistment_named x process label))
  sound-command process (CreateFile label path access share disposition) passes =
      go _ (sound-opening x process label None (create_file x.files None path access share disposition) sound (plain-caller x) (passed passes).0)
  sound-command process (CreateFileTransacted label path access share disposition transaction) passes =
      let is = caller-active x process transaction _ sound passes in
      go _ (sound-opening x process label (caller x process transaction) (create_file x.files (caller x process transaction) path access share disposition) sound is.0 (passed is.1).0)
  sound-command process (ReadFile file offset many) passes = go _ (sound-on_file x process file (λ o. read_file x.files o offset many) sound (passes-left (file_tests x process file) _ passes))
  sound-command process (WriteFile file offset bytes) passes = go _ (sound-on_file x process file (λ o. write_file o offset bytes) sound (passes-left (file_tests x process file) _ passes))
  sound-command process (SetEndOfFile file size) passes = go _ (sound-on_file x process file (λ o. set_end o size) sound (passes-left (file_tests x process file) _ passes))
  sound-command process (WriteUnits file start contents) passes = go _ (sound-on_file x process file (λ o. write_file o start contents) sound (passes-left (file_tests x process file) _ passes))
  sound-command process (GetFileSizeEx file) passes = go _ (sound-on_file x process file (λ o. get_size x.files o) sound passes)
  sound-command process (FlushFileBuffers file) passes = go _ (sound-on_file x process file (λ o. flush_file) sound (passes-left (file_tests x process file) _ passes))
  sound-command process (DeleteFile path) passes = go _ (sound-of_files x None (delete_file x.files None path) sound (plain-caller x))
  sound-command process (CreateDirectory path) passes = go _ (sound-of_files x None (create_directory x.files None path) sound (plain-caller x))
  sound-command process (RemoveDirectory path) passes = go _ (sound-of_files x None (remove_directory x.files None path) sound (plain-caller x))
  sound-command process (MoveFile source target) passes = go _ (sound-of_files x None (move_file x.files None source target) sound (plain-caller x))
  sound-command process (DeleteFileTransacted path transaction) passes =
      go _ (sound-of_files x (caller x process transaction) (delete_file x.files (caller x process transaction) path) sound (caller-active x process transaction _ sound passes).0)
  sound-command process (CreateDirectoryTransacted path transaction) passes =
      go _ (sound-of_files x (caller x process transaction) (create_directory x.files (caller x process transaction) path) sound (caller-active x process transaction _ sound passes).0)
  sound-command process (RemoveDirectoryTransacted path transaction) passes =
      go _ (sound-of_files x (caller x process transaction) (remove_directory x.files (caller x process transaction) path) sound (caller-active x process transaction _ sound passes).0)
  sound-command process (MoveFileTransacted source target transaction) passes =
      go _ (sound-of_files x (caller x process transaction) (move_file x.files (caller x process transaction) source target) sound (caller-active x process transaction _ sound passes).0)
  sound-command process (FindFiles searched) passes = go _ (sound-of_files x None (find_files x.files None searched) sound (plain-caller x))
  sound-command process (FindFilesTransacted searched transaction) passes =
      go _ (sound-of_files x (caller x process transaction) (find_files x.files (caller x process transaction) searched) sound (caller-active x process transaction _ sound passes).0)
  sound-command process (KvSet transaction key value) passes = go _ (sound-with_setting x (caller x process transaction) key (Some value) sound (caller-active x process transaction _ sound passes).0)
  sound-command process (KvUnset transaction key) passes = go _ (sound-with_setting x (caller x process transaction) key None sound (caller-active x process transaction _ sound passes).0)
  sound-command process (KvGet view key) passes = go _ (sound-of_keys x (kv_get x.keys (viewer x process view) key) sound (λ t there one. refl))
  sound-command process (KvList view) passes = go _ (sound-of_keys x (kv_list x.keys (viewer x process view)) sound (λ t there one. refl))
  sound-command process (CloseHandle label) passes = sound-close_handle x process label sound
  sound-command process (DuplicateHandle label from source) passes = go _ (sound-duplicate x process label from source sound passes)
  sound-command process Exit passes = sound-exit x process sound

  -- refused or not
  sound-refuse_or : (tests : List (Bool × Refusal)) (effect : Outcome) → (Passes tests → Keeps x effect) → Keeps x (refuse_or x (first_refusal tests) effect)
  sound-refuse_or tests effect is = or_refused (first_refusal tests) refl
    where
      or_refused : (refusal : Option Refusal) → first_refusal tests ≡ refusal → Keeps x (refuse_or x refusal effect)
      or_refused (Some refusal) refused = replies (Refused refusal)
      or_refused None none = is (record { none = none })

  sound-decided : (process : Pid) (command : Command) → Keeps x (decide x process command)
  sound-decided process command = sound-refuse_or ((not (x.machine).is_up, MachineDown) ∷ command_tests x process command) (command_effect x process command) (λ passes. sound-command process command (passed passes).1)

  sound-decide_tick : (ms : ℕ) → Keeps x (decide_tick x ms)
  sound-decide_tick ms = sound-refuse_or ((not (x.machine).is_up, MachineDown) ∷ []) (tick x ms) (λ passes. sound-tick x ms sound)

pub courses_law : StepLaw → CoursesLaw
courses_law step = record {
  commands = λ x process command sound. (sound-decided x sound process command).sound;
  ticks = λ x ms sound. (sound-decide_tick x sound ms).sound;
  falls = λ w power sound. sound-alike (present w) (present (record w { power = power })) (record { boots = refl; image = refl; transactions = refl; managers = refl; handles = refl; own = refl; settings = refl }) sound;
  worlds = λ w process command within sound. subst IsSoundCourse (sym (step.1 w process command within)) ((sound-decided (present w) sound process command).sound);
  later_worlds = λ w ms within sound. subst IsSoundCourse (sym (step.2 w ms within)) ((sound-decide_tick (present w) sound ms).sound);
  restarts = sound-opened;
}

pub outcomes_law : OutcomesLaw
outcomes_law = record {
  commands = λ x process command sound. (sound-decided x sound process command).outcomes;
  ticks = λ x ms sound. (sound-decide_tick x sound ms).outcomes;
}

pub named_law : NamedLaw
named_law = record { commands = λ x process command sound. (sound-decided x sound process command).objects; ticks = λ x ms sound. (sound-decide_tick x sound ms).objects }
