-- Every command, and the passing of time, passes no limit, and leaves the versions fixed that were first opened.
use Rattle.std.proofs.Common.{◌≡◌, ℕ, not, Bool, List, [], ◌∷◌, length, take, drop, Option, Some, None, refl, sym, subst}
use Rattle.ktm_base.specs.declared.id.Pid.{Pid}
use Rattle.ktm_base.specs.declared.refusal.Refusal.{Refusal}
use Rattle.ktm_base.specs.declared.refusal.Refusal.TheVariants.{MachineDown}
use Rattle.ktm_world.specs.declared.command.Command.{Command}
use Rattle.ktm_world.specs.declared.command.Command.TheVariants.{CreateTransaction, OpenTransaction, CommitTransaction, RollbackTransaction, GetTransactionInformation, CreateResourceManager, OpenResourceManager, RecoverResourceManager, GetNotificationResourceManager, CreateEnlistment, OpenEnlistment, RecoverEnlistment, PrePrepareComplete, PrepareComplete, ReadOnlyEnlistment, CommitComplete, RollbackComplete, SinglePhaseReject, RollbackEnlistment, PrePrepareEnlistment, PrepareEnlistment, CommitEnlistment, SetEnlistmentRecoveryInformation, GetEnlistmentRecoveryInformation, CreateFile, CreateFileTransacted, ReadFile, WriteFile, SetEndOfFile, WriteUnits, GetFileSizeEx, FlushFileBuffers, DeleteFile, CreateDirectory, RemoveDirectory, MoveFile, DeleteFileTransacted, CreateDirectoryTransacted, RemoveDirectoryTransacted, MoveFileTransacted, FindFiles, FindFilesTransacted, KvSet, KvUnset, KvGet, KvList, CloseHandle, DuplicateHandle, Exit}
use Rattle.ktm_world.specs.declared.reply.Reply.TheVariants.{Contents as Bytes, Done, Refused, Size}
use Rattle.ktm_world.specs.Decide.{opening, caller, command_tests, command_effect, decide}
use Rattle.ktm_world.specs.FileCalls.{create_file, create_file_tests, read_file, get_size, find_files}
use Rattle.ktm_world.specs.Files.{bytes_seen}
use Rattle.ktm_world.specs.KeyCalls.{kv_get, kv_list}
use Rattle.ktm_world.specs.Labels.{transaction_named, manager_named, enlistment_named, file_named, viewer}
use Rattle.ktm_world.specs.Outcome.{Outcome, apply, first_refusal, refuse_or}
use Rattle.ktm_world.specs.Present.{Present}
use Rattle.ktm_world.specs.TransactionCalls.{commit_transaction, rollback_transaction, get_transaction_information, information_of, recover_resource_manager, get_notification, pre_prepare_complete, prepare_complete, read_only_enlistment, commit_complete, rollback_complete, single_phase_reject, rollback_enlistment, pre_prepare_enlistment, prepare_enlistment, commit_enlistment, recover_enlistment, set_information, get_information, information_in, tick}
use Rattle.ktm_world.specs.Uses.{file_room}
use Rattle.ktm_world.specs.World.{decide_tick}
use Rattle.txf_laws.specs.Footprint.{ListsLaw}
use Rattle.txf_laws.specs.Formed.{FormedLaw}
use Rattle.ktm_records.specs.SoundWorlds.{IsSound}
use Rattle.ktm_courses.proofs.offered.Calls.{Passes, passed, transaction-named, enlistment-named}
use Rattle.ktm_courses.proofs.offered.FileSteps.{units-pass}
use Rattle.ktm_limits.proofs.LimitsCalls.{Stays, stays-reply, stays-recover_all, stays-take_first, stays-open_transaction, stays-open_manager, stays-open_enlistment, stays-duplicate, stays-information, stays-create_transaction, stays-create_manager, stays-create_enlistment, stays-set, stays-unset, stays-spent, stays-commit, stays-rollback, stays-pre_prepare_complete, stays-prepare_complete, stays-commit_complete, stays-rollback_complete, stays-read_only, stays-single_phase_reject, stays-rollback_enlistment, stays-pre_prepare_enlistment, stays-prepare_enlistment, stays-commit_enlistment, stays-recover_enlistment}
use Rattle.ktm_limits.proofs.LimitsFiles.{stays-answers, stays-create_file, stays-create_own, stays-delete, stays-remove, stays-move, stays-create_directory, stays-write, stays-set_end, stays-on_file}
use Rattle.ktm_records.proofs.offered.NoMore.{Fits, no_more-fits}
use Rattle.txf_laws.proofs.offered.OlderVersions.{AreFixed}
use Rattle.ktm_owned.proofs.offered.OwnCalls.{caller-may}
use Rattle.ktm_owned.proofs.offered.EndedTransactions.{AreInOrder}
use Rattle.ktm_limits.proofs.EndedCounts.{close_handle-spends, exit-spends, tick-fixed, tick-less}

module _ (lists : ListsLaw) (formed : FormedLaw) (x : Present) (sound : IsSound x) (fits : Fits x) (fixed : AreFixed x.files.first_opens) where
  order : AreInOrder x
  order = record { transactions_rise = sound.course.transactions.rise; labels_differ = sound.course.handles.labels_differ }

  effect-stays : (process : Pid) (command : Command) → Passes (command_tests x process command) → Stays x (command_effect x process command)
  unfolding commit_transaction rollback_transaction get_transaction_information recover_resource_manager get_notification pre_prepare_complete prepare_complete read_only_enlistment commit_complete rollback_complete single_phase_reject rollback_enlistment pre_prepare_enlistment prepare_enlistment commit_enlistment recover_enlistment set_information get_information read_file get_size find_files
  effect-stays process (CreateTransaction label timeout) passes = stays-create_transaction x fits sound.course process label timeout passes
  effect-stays process (OpenTransaction label guid) passes = stays-open_transaction x fits process label guid passes
  effect-stays process (CommitTransaction label) passes = stays-commit lists formed x sound.course sound.files fits fixed (transaction_named x process label) (transaction-named x process label) passes
  effect-stays process (RollbackTransaction label) passes = stays-rollback lists formed x sound.course sound.files fits fixed (transaction_named x process label) (transaction-named x process label) passes
  effect-stays process (GetTransactionInformation label) passes = stays-reply x fits (information_of x (transaction_named x process label))
  effect-stays process (CreateResourceManager label durability) passes = stays-create_manager x fits process label durability passes
  effect-stays process (OpenResourceManager label guid) passes = stays-open_manager x fits process label guid passes
  effect-stays process (RecoverResourceManager label) passes = stays-recover_all x fits (manager_named x process label)
  effect-stays process (GetNotificationResourceManager label) passes = stays-take_first x fits (manager_named x process label)
  effect-stays process (CreateEnlistment label manager transaction kind) passes = stays-create_enlistment x fits process label (manager_named x process manager) (transaction_named x process transaction) kind passes
  effect-stays process (OpenEnlistment label manager guid) passes = stays-open_enlistment x fits process label (manager_named x process manager) guid passes
  effect-stays process (RecoverEnlistment label) passes = stays-recover_enlistment lists formed x sound.course sound.files fits fixed (enlistment_named x process label) (enlistment-named x process label) passes
  effect-stays process (PrePrepareComplete label) passes = stays-pre_prepare_complete lists formed x sound.course sound.files fits fixed (enlistment_named x process label) (enlistment-named x process label) passes
  effect-stays process (PrepareComplete label) passes = stays-prepare_complete lists formed x sound.course sound.files fits fixed (enlistment_named x process label) (enlistment-named x process label) passes
  effect-stays process (ReadOnlyEnlistment label) passes = stays-read_only lists formed x sound.course sound.files fits fixed (enlistment_named x process label) (enlistment-named x process label) passes
  effect-stays process (CommitComplete label) passes = stays-commit_complete lists formed x sound.course sound.files fits fixed (enlistment_named x process label) (enlistment-named x process label) passes
  effect-stays process (RollbackComplete label) passes = stays-rollback_complete lists formed x sound.course sound.files fits fixed (enlistment_named x process label) (enlistment-named x process label) passes
  effect-stays process (SinglePhaseReject label) passes = stays-single_phase_reject lists formed x sound.course sound.files fits fixed (enlistment_named x process label) (enlistment-named x process label) passes
  effect-stays process (RollbackEnlistment label) passes = stays-rollback_enlistment lists formed x sound.course sound.files fits fixed (enlistment_named x process label) (enlistment-named x process label) passes
  effect-stays process (PrePrepareEnlistment label) passes = stays-pre_prepare_enlistment lists formed x sound.course sound.files fits fixed (enlistment_named x process label) (enlistment-named x process label) passes
  effect-stays process (PrepareEnlistment label) passes = stays-prepare_enlistment lists formed x sound.course sound.files fits fixed (enlistment_named x process label) (enlistment-named x process label) passes
  effect-stays process (CommitEnlistment label) passes = stays-commit_enlistment lists formed x sound.course sound.files fits fixed (enlistment_named x process label) (enlistment-named x process label) passes
  effect-stays process (SetEnlistmentRecoveryInformation label information) passes = stays-information x fits (enlistment_named x process label) information
  effect-stays process (GetEnlistmentRecoveryInformation label) passes = stays-reply x fits (information_in (enlistment_named x process label))
  effect-stays process (CreateFile label path access share disposition) passes = stays-create_file formed x sound.files fits process label path access share disposition (passed passes).1
  effect-stays process (CreateFileTransacted label path access share disposition transaction) passes =
      let is = caller-may x process transaction _ sound.course passes in
      subst (λ who. Stays x (opening x process label who (create_file x.files who path access share disposition))) (sym is.1)
      (stays-create_own formed x sound.files fits process label is.0 path access share disposition (subst (λ who. Passes (create_file_tests x.files (file_room x) who path access share disposition)) is.1 (passed is.3).1))
  effect-stays process (ReadFile file offset many) passes = stays-on_file formed x sound.files fits (file_named x process file) (λ o. Bytes (take many (drop offset (bytes_seen x.files o.transaction o.node))))
  effect-stays process (WriteFile file offset bytes) passes = stays-write formed x sound.files fits process file offset bytes (units-pass x process file offset bytes passes)
  effect-stays process (SetEndOfFile file size) passes = stays-set_end formed x sound.files fits process file size passes
  effect-stays process (WriteUnits file start contents) passes = stays-write formed x sound.files fits process file start contents passes
  effect-stays process (GetFileSizeEx file) passes = stays-on_file formed x sound.files fits (file_named x process file) (λ o. Size (length (bytes_seen x.files o.transaction o.node)))
  effect-stays process (FlushFileBuffers file) passes = stays-on_file formed x sound.files fits (file_named x process file) (λ o. Done)
  effect-stays process (DeleteFile path) passes = stays-delete formed x sound.files fits None path passes
  effect-stays process (CreateDirectory path) passes = stays-create_directory formed x sound.files fits None path passes
  effect-stays process (RemoveDirectory path) passes = stays-remove formed x sound.files fits None path passes
  effect-stays process (MoveFile source target) passes = stays-move formed x sound.files fits None source target passes
  effect-stays process (DeleteFileTransacted path transaction) passes = stays-delete formed x sound.files fits (caller x process transaction) path (passed (passed (passed (passed passes).1).1).1).1
  effect-stays process (CreateDirectoryTransacted path transaction) passes = stays-create_directory formed x sound.files fits (caller x process transaction) path (passed (passed (passed (passed passes).1).1).1).1
  effect-stays process (RemoveDirectoryTransacted path transaction) passes = stays-remove formed x sound.files fits (caller x process transaction) path (passed (passed (passed (passed passes).1).1).1).1
  effect-stays process (MoveFileTransacted source target transaction) passes = stays-move formed x sound.files fits (caller x process transaction) source target (passed (passed (passed (passed passes).1).1).1).1
  effect-stays process (FindFiles searched) passes = stays-answers formed x sound.files fits None _
  effect-stays process (FindFilesTransacted searched transaction) passes = stays-answers formed x sound.files fits (caller x process transaction) _
  effect-stays process (KvSet transaction key value) passes = stays-set x fits process transaction key value passes
  effect-stays process (KvUnset transaction key) passes = stays-unset x fits process transaction key passes
  effect-stays process (KvGet view key) passes = stays-reply x fits (kv_get x.keys (viewer x process view) key).reply
  effect-stays process (KvList view) passes = stays-reply x fits (kv_list x.keys (viewer x process view)).reply
  effect-stays process (CloseHandle label) passes = stays-spent lists formed x sound.course sound.files fits fixed _ (close_handle-spends lists formed x process label)
  effect-stays process (DuplicateHandle label from source) passes = stays-duplicate x fits process label from source passes
  effect-stays process Exit passes = stays-spent lists formed x sound.course sound.files fits fixed _ (exit-spends lists formed x process)

  -- refused or not
  refuse_or-stays : (tests : List (Bool × Refusal)) (effect : Outcome) → (Passes tests → Stays x effect) → Stays x (refuse_or x (first_refusal tests) effect)
  refuse_or-stays tests effect is = go (first_refusal tests) refl
    where
      go : (refusal : Option Refusal) → first_refusal tests ≡ refusal → Stays x (refuse_or x refusal effect)
      go (Some refusal) refused = stays-reply x fits (Refused refusal)
      go None none = is (record { none = none })

  pub decided-stays : (process : Pid) (command : Command) → Stays x (decide x process command)
  decided-stays process command = refuse_or-stays ((not x.machine.is_up, MachineDown) ∷ command_tests x process command) (command_effect x process command) (λ passes. effect-stays process command (passed passes).1)

  pub later-stays : (ms : ℕ) → Stays x (decide_tick x ms)
  later-stays ms = refuse_or-stays ((not x.machine.is_up, MachineDown) ∷ []) (tick x ms) (λ passes. record {
    fits = no_more-fits x (apply x (tick x ms)) (tick-less lists formed x ms order sound.files fixed) fits;
    fixed = tick-fixed lists formed x ms;
  })
