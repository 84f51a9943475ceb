-- Completions and the passing of time record no more than the debts fall by, and only a command that may owe more raises them.
use Rattle.std.proofs.Common.{◌≡◌, ℕ, ◌+◌, ◌≤◌, not, Bool, true, false, List, [], ◌∷◌, ◌++◌, Option, Some, None, refl, sym, arith}
use Rattle.std.proofs.lemmas.Bool.{true≢false}
use Rattle.std.proofs.lemmas.List.Sums.{sum_by-append}
use Rattle.ktm_base.specs.declared.id.Pid.{Pid}
use Rattle.ktm_base.specs.declared.refusal.Refusal.{Refusal}
use Rattle.ktm_base.specs.declared.refusal.Refusal.TheVariants.{MachineDown}
use Rattle.ktm_world.specs.declared.command.Command.{Command}
use Rattle.ktm_world.specs.declared.command.Command.TheVariants.{OpenTransaction, CommitTransaction, RollbackTransaction, GetTransactionInformation, CreateResourceManager, OpenResourceManager, RecoverResourceManager, GetNotificationResourceManager, OpenEnlistment, RecoverEnlistment, PrePrepareComplete, PrepareComplete, ReadOnlyEnlistment, CommitComplete, RollbackComplete, SinglePhaseReject, RollbackEnlistment, PrePrepareEnlistment, PrepareEnlistment, CommitEnlistment, SetEnlistmentRecoveryInformation, GetEnlistmentRecoveryInformation, CreateFile, CreateTransaction, CreateEnlistment, CreateFileTransacted, ReadFile, WriteFile, SetEndOfFile, WriteUnits, GetFileSizeEx, FlushFileBuffers, DeleteFile, CreateDirectory, RemoveDirectory, MoveFile, DeleteFileTransacted, CreateDirectoryTransacted, RemoveDirectoryTransacted, MoveFileTransacted, FindFiles, FindFilesTransacted, KvSet, KvUnset, KvGet, KvList, CloseHandle, DuplicateHandle, Exit}
use Rattle.ktm_world.specs.declared.event.Event.{Event}
use Rattle.ktm_world.specs.declared.reply.Reply.TheVariants.{Done, Refused}
use Rattle.ktm_world.specs.Decide.{caller, command_effect, command_tests, decide}
use Rattle.ktm_world.specs.Enlistments.{Manager}
use Rattle.ktm_world.specs.FileCalls.{create_directory, create_file, delete_file, find_files, flush_file, get_size, move_file, read_file, remove_directory}
use Rattle.ktm_world.specs.HandleCalls.{closed_file, without_handle, duplicate_handle}
use Rattle.ktm_world.specs.Handles.{object_at}
use Rattle.ktm_world.specs.Labels.{enlistment_named, file_named, manager_named, transaction_named}
use Rattle.ktm_world.specs.Outcome.{Outcome, apply, first_refusal, only_reply, refuse_or}
use Rattle.ktm_world.specs.Present.{Present}
use Rattle.ktm_world.specs.Sizes.{event_size}
use Rattle.ktm_world.specs.TransactionCalls.{commit_complete, commit_enlistment, commit_transaction, enlistment_with, get_information, get_notification, get_transaction_information, manager_with, open_enlistment, open_resource_manager, open_transaction, pre_prepare_complete, pre_prepare_enlistment, prepare_complete, prepare_enlistment, read_only_enlistment, recover_enlistment, recover_resource_manager, rollback_complete, rollback_enlistment, rollback_transaction, set_information, single_phase_reject, take_first, tick, transaction_with}
use Rattle.ktm_world.specs.World.{decide_tick}
use Rattle.ktm_courses.specs.SoundCourse.{IsSoundCourse}
use Rattle.ktm_courses.proofs.offered.Beginnings.{sound-clock}
use Rattle.ktm_courses.proofs.offered.Bindings.{StaysSound, stays-closing, stays-then}
use Rattle.ktm_courses.proofs.offered.Calls.{Passes, enlistment-named, passed, transaction-named}
use Rattle.ktm_courses.proofs.offered.HandlesAndTime.{Closes, close_handle-so, exit-so, tick-so}
use Rattle.ktm_debts.specs.Debts.{completes, debts, frame_of, may_owe_more}
use Rattle.ktm_debts.proofs.AnswerDebts.{pays-aborted, pays-commit, pays-commit_complete, pays-decide, pays-pre_prepare, pays-pre_prepare_complete, pays-prepare, pays-prepare_complete, pays-read_only, pays-recover, pays-reject, pays-rollback, pays-rollback_complete, pays-rollback_enlistment}
use Rattle.ktm_debts.proofs.CourseDebts.{Pays}
use Rattle.ktm_debts.proofs.UnchangedDebts.{Rests, pays-owned, pays-reply, pays-rests, rests-bind, rests-create_manager, rests-information, rests-keys, rests-on_file, rests-open_enlistment, rests-open_manager, rests-open_transaction, rests-opening, rests-plain, rests-recover_all, rests-reply, rests-silent}

-- ---- handles and time

-- two frames as one take no more
frame-joined : (es fs : List Event) → frame_of (es ++ fs) ≤ frame_of es + frame_of fs
frame-joined [] fs = omega arith
frame-joined (e ∷ es) [] = let both = sum_by-append event_size (e ∷ es) [] in omega arith
frame-joined (e ∷ es) (f ∷ fs) = let both = sum_by-append event_size (e ∷ es) (f ∷ fs) in omega arith

-- a sound machine stays so, and pays
record Closing (x : Present) (o : Outcome) : Type 0 where
  sound : StaysSound x o
  pays : Pays x o

pays-closing : Closes IsSoundCourse Closing
unfolding debts
pays-closing = record {
  rolls = record {
    reply = λ x sound. record { sound = stays-closing.rolls.reply x sound; pays = pays-reply x Done };
    rolls = λ x t sound there can. record { sound = stays-closing.rolls.rolls x t sound there can; pays = pays-aborted x t sound there can };
    goes_on = λ x a next first second.
        let rest = second first.sound.sound in
        record {
          sound = stays-then x a next first.sound (λ sound. (second sound).sound);
          pays = record { paid = let before = first.pays.paid in let after = rest.pays.paid in let frame = frame-joined a.events (next (apply x a)).events in omega arith };
        };
  };
  unbinds = λ x process label sound. record { sound = stays-closing.unbinds x process label sound; pays = pays-owned x (record (only_reply x Done) { handles = without_handle x.handles process label }) refl refl refl refl refl };
  ends = λ x number sound. record { sound = stays-closing.ends x number sound; pays = pays-owned x (record (only_reply x Done) { table = closed_file x.files.table number }) refl refl refl refl refl };
}

pays-tick : (x : Present) (ms : ℕ) → IsSoundCourse x → Pays x (tick x ms)
unfolding debts
pays-tick x ms sound = record { paid = (tick-so IsSoundCourse Closing pays-closing.rolls x ms (sound-clock x ms sound)).pays.paid }

-- ---- commands

pays-take_first : (x : Present) (o : Option Manager) → Pays x (take_first x o)
pays-take_first x None = pays-reply x Done
pays-take_first x (Some m) = pays-owned x (take_first x (Some m)) refl refl refl refl refl

module _ (x : Present) (sound : IsSoundCourse x) (process : Pid) where
  -- completions
  effect-pays : (command : Command) → completes command ≡ true → Passes (command_tests x process command) → Pays x (command_effect x process command)
  unfolding commit_transaction rollback_transaction get_transaction_information get_notification pre_prepare_complete prepare_complete read_only_enlistment commit_complete rollback_complete single_phase_reject rollback_enlistment pre_prepare_enlistment prepare_enlistment commit_enlistment
  effect-pays (CommitTransaction label) is passes = pays-commit x (transaction_named x process label) sound (transaction-named x process label) passes
  effect-pays (RollbackTransaction label) is passes = pays-rollback x (transaction_named x process label) sound (transaction-named x process label) passes
  effect-pays (GetTransactionInformation label) is passes = pays-reply x _
  effect-pays (GetNotificationResourceManager label) is passes = pays-take_first x (manager_named x process label)
  effect-pays (PrePrepareComplete label) is passes = pays-pre_prepare_complete x sound (enlistment_named x process label) (enlistment-named x process label) passes
  effect-pays (PrepareComplete label) is passes = pays-prepare_complete x sound (enlistment_named x process label) (enlistment-named x process label) passes
  effect-pays (ReadOnlyEnlistment label) is passes = pays-read_only x sound (enlistment_named x process label) (enlistment-named x process label) passes
  effect-pays (CommitComplete label) is passes = pays-commit_complete x sound (enlistment_named x process label) (enlistment-named x process label) passes
  effect-pays (RollbackComplete label) is passes = pays-rollback_complete x sound (enlistment_named x process label) (enlistment-named x process label)
  effect-pays (SinglePhaseReject label) is passes = pays-reject x sound (enlistment_named x process label) (enlistment-named x process label) passes
  effect-pays (RollbackEnlistment label) is passes = pays-rollback_enlistment x sound (enlistment_named x process label) (enlistment-named x process label) passes
  effect-pays (PrePrepareEnlistment label) is passes = pays-pre_prepare x sound (enlistment_named x process label) (enlistment-named x process label) passes
  effect-pays (PrepareEnlistment label) is passes = pays-prepare x sound (enlistment_named x process label) (enlistment-named x process label) passes
  effect-pays (CommitEnlistment label) is passes = pays-decide x sound (enlistment_named x process label) (enlistment-named x process label) passes
  effect-pays (CloseHandle label) is passes = (close_handle-so IsSoundCourse Closing pays-closing x process label sound).pays
  effect-pays Exit is passes = (exit-so IsSoundCourse Closing pays-closing x process sound).pays
  effect-pays _ is passes = absurd (true≢false (sym is))

  -- those that may not owe more
  effect-rests : (command : Command) → may_owe_more command ≡ false → Passes (command_tests x process command) → Rests x (command_effect x process command)
  unfolding open_transaction open_resource_manager recover_resource_manager open_enlistment recover_enlistment set_information get_information read_file get_size find_files duplicate_handle
  effect-rests (CreateTransaction label timeout) owes passes = absurd (true≢false owes)
  effect-rests (CreateEnlistment label manager transaction kind) owes passes = absurd (true≢false owes)
  effect-rests (CreateFileTransacted label path access share disposition transaction) owes passes = absurd (true≢false owes)
  effect-rests (WriteFile file offset bytes) owes passes = absurd (true≢false owes)
  effect-rests (SetEndOfFile file size) owes passes = absurd (true≢false owes)
  effect-rests (WriteUnits file start contents) owes passes = absurd (true≢false owes)
  effect-rests (DeleteFileTransacted path transaction) owes passes = absurd (true≢false owes)
  effect-rests (CreateDirectoryTransacted path transaction) owes passes = absurd (true≢false owes)
  effect-rests (RemoveDirectoryTransacted path transaction) owes passes = absurd (true≢false owes)
  effect-rests (MoveFileTransacted source target transaction) owes passes = absurd (true≢false owes)
  effect-rests (KvSet transaction key value) owes passes = absurd (true≢false owes)
  effect-rests (KvUnset transaction key) owes passes = absurd (true≢false owes)
  effect-rests (OpenTransaction label guid) owes passes = rests-open_transaction x process label (transaction_with x guid)
  effect-rests (CreateResourceManager label durability) owes passes = rests-create_manager x process label durability
  effect-rests (OpenResourceManager label guid) owes passes = rests-open_manager x process label (manager_with x guid)
  effect-rests (RecoverResourceManager label) owes passes = rests-recover_all x (manager_named x process label)
  effect-rests (OpenEnlistment label manager guid) owes passes = rests-open_enlistment x process label (enlistment_with x (manager_named x process manager) guid)
  effect-rests (RecoverEnlistment label) owes passes = pays-rests x _ (pays-recover x sound (enlistment_named x process label) (enlistment-named x process label))
  effect-rests (SetEnlistmentRecoveryInformation label information) owes passes = rests-information x (enlistment_named x process label) information
  effect-rests (GetEnlistmentRecoveryInformation label) owes passes = rests-reply x _
  effect-rests (CreateFile label path access share disposition) owes passes = rests-opening x process label (create_file x.files None path access share disposition)
  effect-rests (ReadFile file offset many) owes passes = rests-on_file x (file_named x process file) (λ o. read_file x.files o offset many) (λ f. refl)
  effect-rests (GetFileSizeEx file) owes passes = rests-on_file x (file_named x process file) (λ o. get_size x.files o) (λ f. refl)
  effect-rests (FlushFileBuffers file) owes passes = rests-on_file x (file_named x process file) (λ o. flush_file) (λ f. refl)
  effect-rests (DeleteFile path) owes passes = rests-plain x (delete_file x.files None path)
  effect-rests (CreateDirectory path) owes passes = rests-plain x (create_directory x.files None path)
  effect-rests (RemoveDirectory path) owes passes = rests-plain x (remove_directory x.files None path)
  effect-rests (MoveFile source target) owes passes = rests-plain x (move_file x.files None source target)
  effect-rests (FindFiles searched) owes passes = rests-plain x (find_files x.files None searched)
  effect-rests (FindFilesTransacted searched transaction) owes passes = rests-silent x (caller x process transaction) (find_files x.files (caller x process transaction) searched) refl
  effect-rests (KvGet view key) owes passes = rests-keys x _ refl
  effect-rests (KvList view) owes passes = rests-keys x _ refl
  effect-rests (DuplicateHandle label from source) owes passes = rests-bind x process label (object_at x.handles from source)
  effect-rests command owes passes = pays-rests x _ (effect-pays command refl passes)

-- ---- refused or not

-- what is so of each refusal, and of the effect where no test fails
refuse_or-so : (P : Outcome → Type 0) (x : Present) (tests : List (Bool × Refusal)) (effect : Outcome) → ((refusal : Refusal) → P (only_reply x (Refused refusal))) → (Passes tests → P effect) → P (refuse_or x (first_refusal tests) effect)
refuse_or-so P x tests effect refused done = go (first_refusal tests) refl
  where
    go : (refusal : Option Refusal) → first_refusal tests ≡ refusal → P (refuse_or x refusal effect)
    go (Some refusal) is = refused refusal
    go None none = done (record { none = none })

module _ (x : Present) (sound : IsSoundCourse x) where
  pub completion-pays : (process : Pid) (command : Command) → completes command ≡ true → Pays x (decide x process command)
  completion-pays process command is = refuse_or-so (Pays x) x ((not x.machine.is_up, MachineDown) ∷ command_tests x process command) (command_effect x process command) (λ refusal. pays-reply x (Refused refusal))
      (λ passes. effect-pays x sound process command is (passed passes).1)

  pub tick-pays : (ms : ℕ) → Pays x (decide_tick x ms)
  tick-pays ms = refuse_or-so (Pays x) x ((not x.machine.is_up, MachineDown) ∷ []) (tick x ms) (λ refusal. pays-reply x (Refused refusal)) (λ passes. pays-tick x ms sound)

  pub command-rests : (process : Pid) (command : Command) → may_owe_more command ≡ false → Rests x (decide x process command)
  command-rests process command owes = refuse_or-so (Rests x) x ((not x.machine.is_up, MachineDown) ∷ command_tests x process command) (command_effect x process command) (λ refusal. rests-reply x (Refused refusal))
      (λ passes. effect-rests x sound process command owes (passed passes).1)
