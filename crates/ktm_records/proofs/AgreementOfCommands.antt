-- What was recorded agrees with what is so now after every command, and after time.
use Rattle.std.proofs.Common.{◌≡◌, ℕ, Bool, true, List, [], ◌∷◌, Option, Some, None, refl, sym, ap, subst, not, ◌++◌, arith, ◌&&◌}
use Rattle.std.proofs.lemmas.Bool.{and_parts, not-true}
use Rattle.ktm_base.specs.declared.id.Id.{Id}
use Rattle.ktm_base.specs.declared.id.Label.{Label}
use Rattle.ktm_base.specs.declared.id.Pid.{Pid}
use Rattle.ktm_base.specs.declared.refusal.Refusal.{Refusal}
use Rattle.ktm_base.specs.declared.refusal.Refusal.TheVariants.{MachineDown}
use Rattle.ktm_world.specs.declared.command.Command.{Command}
use Rattle.ktm_world.specs.declared.command.Command.TheVariants.{CommitEnlistment, CreateTransaction, OpenTransaction, RollbackTransaction, GetTransactionInformation, CreateResourceManager, OpenResourceManager, RecoverResourceManager, GetNotificationResourceManager, CreateEnlistment, OpenEnlistment, RecoverEnlistment, RollbackComplete, SinglePhaseReject, RollbackEnlistment, SetEnlistmentRecoveryInformation, GetEnlistmentRecoveryInformation, CreateFile, CreateFileTransacted, ReadFile, WriteFile, SetEndOfFile, WriteUnits, GetFileSizeEx, FlushFileBuffers, DeleteFile, CreateDirectory, RemoveDirectory, MoveFile, DeleteFileTransacted, CreateDirectoryTransacted, RemoveDirectoryTransacted, MoveFileTransacted, FindFiles, FindFilesTransacted, KvSet, KvUnset, KvGet, KvList, CloseHandle, DuplicateHandle, Exit, CommitTransaction, PrePrepareComplete, PrepareComplete, ReadOnlyEnlistment, CommitComplete, PrePrepareEnlistment, PrepareEnlistment}
use Rattle.ktm_world.specs.declared.input.PhaseInput.{PhaseInput}
use Rattle.ktm_world.specs.declared.object.Object.{Object}
use Rattle.ktm_world.specs.declared.object.Phase.TheVariants.{Active}
use Rattle.ktm_world.specs.declared.object.Transaction.{Transaction}
use Rattle.ktm_world.specs.declared.reply.Reply.{Reply}
use Rattle.ktm_world.specs.declared.reply.Reply.TheVariants.{Done, Refused}
use Rattle.ktm_world.specs.declared.step.Owed.{Owed}
use Rattle.ktm_world.specs.Decide.{bound_file, caller, command_effect, command_tests, decide, of_files, of_keys, on_file, opening}
use Rattle.ktm_world.specs.Enlistments.{Enlistment, Manager, is_superior, owes_commit, owes_rollback, is_open_for_votes, owes_pre_prepare, owes_prepare}
use Rattle.ktm_world.specs.FileCalls.{create_file, read_file, write_file, set_end, get_size, flush_file, delete_file, create_directory, remove_directory, move_file, find_files}
use Rattle.ktm_world.specs.FileOutcome.{FileOutcome}
use Rattle.ktm_world.specs.Files.{OpenFile}
use Rattle.ktm_world.specs.HandleCalls.{bind_to, duplicate_handle}
use Rattle.ktm_world.specs.Handles.{object_at}
use Rattle.ktm_world.specs.KeyCalls.{kv_get, kv_list, with_setting}
use Rattle.ktm_world.specs.Labels.{enlistment_named, file_named, file_tests, manager_named, transaction_named, transaction_tests, viewer, binding}
use Rattle.ktm_world.specs.Lawful.{Agrees}
use Rattle.ktm_world.specs.Laws.{StepLaw}
use Rattle.ktm_world.specs.Outcome.{Outcome, apply, first_refusal, only_reply, refuse_or}
use Rattle.ktm_world.specs.Phases.{is_single_phase}
use Rattle.ktm_world.specs.Present.{Present, Transactions}
use Rattle.ktm_world.specs.Steps.{led, share_of}
use Rattle.ktm_world.specs.TransactionCalls.{answering, arrived, commit_enlistment, course_of, superior_tests, waits_for_superior, may_recover, may_reject_one_phase, phase_passes, recover_enlistment, rollback_complete, single_phase_reject, create_enlistment_tests, enlistment_tests, enlistment_with, get_information, get_notification, get_transaction_information, information_in, information_of, manager_with, may_roll_back_by, open_enlistment, open_resource_manager, open_to_enlistment, open_to_manager, open_to_transaction, open_transaction, recover_all, recover_resource_manager, rollback_enlistment, rollback_of, rollback_transaction, rollback_transaction_tests, set_information, take_first, tick, transaction_in, transaction_with, before_prepare, before_pre_prepare, commit_complete, commit_of, commit_reply, commit_transaction, is_voting, may_vote, pre_prepare_complete, pre_prepare_enlistment, prepare_complete, prepare_enlistment, read_only_enlistment, recovery_of}
use Rattle.ktm_world.specs.Transactions.{same_id}
use Rattle.ktm_world.specs.World.{decide_tick, present}
use Rattle.ktm_records.specs.Agreement.{AgreeingLaw}
use Rattle.txf_laws.specs.Elements.{IsIn}
use Rattle.txf_laws.specs.GoodState.{IsGoodState}
use Rattle.ktm_records.specs.Kept.{are_carried_out}
use Rattle.ktm_courses.specs.SoundCourse.{IsSoundCourse, is_recorded_as}
use Rattle.txf_laws.specs.SoundFiles.{IsSoundFiles}
use Rattle.ktm_records.proofs.offered.Agreement.{Agreed, agreed-of_files, agreed-reply, agreed-still, as-owned, managers-stay, recorded-later, summaries-stay}
use Rattle.ktm_records.proofs.AgreementOfAnswers.{follows-commit, follows-pre_prepare, follows-pre_prepare_complete, follows-prepare, follows-prepare_complete, follows-read_only}
use Rattle.ktm_records.proofs.AgreementOfCalls.{agreed-alike, agreed-closed, agreed-create_enlistment, agreed-create_manager, agreed-create_transaction, agreed-exit, agreed-keep_information, agreed-only_reply, agreed-tick}
use Rattle.ktm_courses.proofs.offered.EnlistmentAnswers.{is-aborting, owed-rollback, phase-owing}
use Rattle.ktm_courses.proofs.offered.Arrivals.{brought-now, stands-now}
use Rattle.ktm_courses.proofs.offered.Calls.{Answers, goes-pre_prepare_complete, goes-prepare_complete, goes-read_only, goes-commit_complete, goes-rollback_complete, goes-single_phase_reject, goes-pre_prepare_enlistment, goes-prepare_enlistment, goes-commit_enlistment, goes-recover_enlistment, superior-allowed, Passes, active-phase, phase-passed, single-phase, enlistment-allowed, enlistment-named, may-roll, passed, rolls, transaction-named, fresh-active, of-answering}
use Rattle.ktm_records.proofs.AgreementOfDecisions.{follows-commit_complete, follows-decision}
use Rattle.txf_laws.proofs.offered.Elements.{list_all-at, not-not}
use Rattle.ktm_courses.proofs.offered.FileSteps.{IsActiveCaller, caller-active, file-active, passes-left, plain-caller, with_setting-same}
use Rattle.ktm_records.proofs.offered.AgreementOfCourses.{Follows, agreed-arrived, was}
use Rattle.ktm_courses.proofs.offered.CommitsBegun.{arrives-to_commit}
use Rattle.ktm_records.proofs.AgreementOfSilentSteps.{IsSilent, agreed-silent, silent-recovered, silent-rollback_complete, silent-single_phase_reject}
use Rattle.ktm_records.proofs.AgreementOfRestarts.{agreed-opened}
use Rattle.ktm_records.proofs.offered.AgreementOfRollbacks.{agreed-aborted_by}
use Rattle.ktm_records.proofs.offered.Stages.{early-pre_prepare, early-prepare, is_early, waiting-held, waiting-recorded}

module _ (x : Present) (sound : IsSoundCourse x) (agreed : Agreed x) where
  replies : (reply : Reply) → Agreed (apply x (only_reply x reply))
  replies reply = agreed-only_reply x reply agreed

  -- an outcome that changes no more than handles, notifications and the reply
  still : (o : Outcome) → o.events ≡ [] → o.works ≡ [] → o.made ≡ [] → o.transactions ≡ x.transactions → o.table ≡ x.files.table → o.own ≡ x.keys.own → Agreed (apply x o)
  still o no_events no_works none transactions table own = agreed-reply x o agreed no_events no_works none (ap (λ (ts : Transactions). ts.items) transactions) (ap (λ (ts : Transactions). ts.enlistments) transactions) table own

  opened-transaction : (process : Pid) (label : Label) (t : Option Transaction) → Agreed (apply x (open_to_transaction x process label t))
  opened-transaction process label None = replies Done
  opened-transaction process label (Some t) = still (open_to_transaction x process label (Some t)) refl refl refl refl refl refl

  opened-manager : (process : Pid) (label : Label) (m : Option Manager) → Agreed (apply x (open_to_manager x process label m))
  opened-manager process label None = replies Done
  opened-manager process label (Some m) = still (open_to_manager x process label (Some m)) refl refl refl refl refl refl

  opened-enlistment : (process : Pid) (label : Label) (e : Option Enlistment) → Agreed (apply x (open_to_enlistment x process label e))
  opened-enlistment process label None = replies Done
  opened-enlistment process label (Some e) = still (open_to_enlistment x process label (Some e)) refl refl refl refl refl refl

  bound : (process : Pid) (label : Label) (object : Option Object) → Agreed (apply x (bind_to x process label object))
  bound process label None = replies Done
  bound process label (Some object) = still (bind_to x process label (Some object)) refl refl refl refl refl refl

  told : (m : Option Manager) → Agreed (apply x (recover_all x m))
  told None = replies Done
  told (Some m) = still (recover_all x (Some m)) refl refl refl refl refl refl

  taken : (m : Option Manager) → Agreed (apply x (take_first x m))
  taken None = replies Done
  taken (Some m) = still (take_first x (Some m)) refl refl refl refl refl refl

  rolled : (o : Option Transaction) → ((t : Transaction) → o ≡ Some t → IsIn t x.transactions.items) → Passes (rollback_transaction_tests o) → Agreed (apply x (rollback_of x o))
  rolled None there tests = replies Done
  rolled (Some t) there tests =
      let here = passed tests in let committed = passed here.1 in let aborted = passed committed.1 in let may = passed aborted.1 in
      agreed-aborted_by x sound agreed t (there t refl) None Done (may-roll t (not-not _ may.0))

  -- the transaction of an enlistment goes on by what comes from it, by which it agreed
  answers : (o : Option Enlistment) (input : Enlistment → PhaseInput)
      → ((e : Enlistment) → o ≡ Some e → (t : Transaction) → IsIn t x.transactions.items → same_id e.transaction t.id ≡ true → transaction_in x e ≡ Some t → Agreed (apply x (arrived x (led (input e) (course_of x t (Some e))) Done)))
      → Agreed (apply x (answering x o input))
  answers o input each = of-answering (λ o. Agreed (apply x o)) x o input (replies Done) each

  module _ (o : Option Enlistment) (there : (e : Enlistment) → o ≡ Some e → IsIn e x.transactions.enlistments) where
    rolled-by : Passes (enlistment_tests o (may_roll_back_by x)) → Agreed (apply x (answering x o (λ e. PhaseInput.Rollback)))
    rolled-by tests = answers o (λ e. PhaseInput.Rollback) (λ e is t at own found.
        agreed-aborted_by x sound agreed t at (Some e) Done (rolls x sound o there e t found (enlistment-allowed o (may_roll_back_by x) e is tests)))

    -- a call by which the log has to have what it had to have
    silently : (input : Enlistment → PhaseInput) → ((e : Enlistment) → o ≡ Some e → Answers x (input e) e)
        → ((e : Enlistment) → o ≡ Some e → (t : Transaction) → IsIn t x.transactions.items → same_id e.transaction t.id ≡ true → transaction_in x e ≡ Some t → IsSilent (course_of x t (Some e)) (led (input e) (course_of x t (Some e))))
        → Agreed (apply x (answering x o input))
    silently input goes silent = answers o input (λ e is t at own found.
        agreed-silent x t (Some e) (led (input e) (course_of x t (Some e))) Done sound agreed at (goes e is t at own found).arrives (silent e is t at own found))

    rolled-back : Passes (enlistment_tests o owes_rollback) → Agreed (apply x (answering x o (λ e. PhaseInput.RollbackComplete)))
    rolled-back tests = silently (λ e. PhaseInput.RollbackComplete) (goes-rollback_complete x sound o there tests) (λ e is t at own found.
        silent-rollback_complete (course_of x t (Some e)) e (is-aborting t.phase
        (phase-owing x.recorded.boots (course_of x t (Some e)) e (stands-now x t (Some e) sound at) (brought-now x t (Some e) sound) sound.enlistments.rise (there e is) own Owed.Rollback (owed-rollback e (enlistment-allowed o owes_rollback e is tests)))))

    rejected : Passes (enlistment_tests o (may_reject_one_phase x)) → Agreed (apply x (answering x o (λ e. PhaseInput.SinglePhaseReject)))
    rejected tests = silently (λ e. PhaseInput.SinglePhaseReject) (goes-single_phase_reject x sound o there tests) (λ e is t at own found.
        let both = and_parts (phase_passes x is_single_phase e) (owes_commit e) (enlistment-allowed o (may_reject_one_phase x) e is tests) in
        let single = single-phase t.phase (phase-passed x is_single_phase e t found both.0) in
        silent-single_phase_reject (course_of x t (Some e)) (not-true _ (subst (λ phase. is_recorded_as phase x.managers x.transactions.enlistments t.id t.is_recorded ≡ true) single
        (list_all-at (λ t. is_recorded_as t.phase x.managers x.transactions.enlistments t.id t.is_recorded) x.transactions.items sound.phases.recorded t at))))

    recovers : Passes (enlistment_tests o (may_recover x)) → Agreed (apply x (answering x o recovery_of))
    recovers tests = silently recovery_of (goes-recover_enlistment x sound o there tests) (λ e is t at own found. silent-recovered (course_of x t (Some e)) e)

  files : (who : Option Id) (o : FileOutcome) → IsActiveCaller x who → Agreed (apply x (of_files x who o))
  files who o active = agreed-of_files x who o sound agreed active

  opens : (process : Pid) (label : Label) (who : Option Id) (o : FileOutcome) → IsActiveCaller x who → Agreed (apply x (opening x process label who o))
  opens process label who o active = go o.opened
    where
      go : (opened : Option OpenFile) → Agreed (apply x (bound_file process label opened (of_files x who o)))
      go None = files who o active
      go (Some file) = let is = files who o active in agreed-alike (apply x (of_files x who o)) (apply x (binding process label (Object.File file.number) (of_files x who o))) refl is

  on-file : (process : Pid) (label : Label) (call : OpenFile → FileOutcome) → Passes (file_tests x process label) → Agreed (apply x (on_file x (file_named x process label) call))
  on-file process label call passes = go (file_named x process label) refl
    where
      go : (o : Option OpenFile) → file_named x process label ≡ o → Agreed (apply x (on_file x o call))
      go None is = replies Done
      go (Some o) is = files o.transaction (call o) (file-active x process label o sound is passes)

  sets : (who : Option Id) (key : List ℕ) (value : Option (List ℕ)) → IsActiveCaller x who → Agreed (apply x (of_keys x (record { reply = Done; own = with_setting x.keys.own who key value })))
  sets who key value active =
      let o = of_keys x (record { reply = Done; own = with_setting x.keys.own who key value }) in
      agreed-still x o agreed refl refl (managers-stay x o refl) (omega arith)
      (summaries-stay x (apply x o) refl (λ t there recorded. as-owned x o t refl refl refl (with_setting-same x who key value active t there (recorded-later x t sound there recorded))))

  enlisting : (o : Option Transaction) → ((t : Transaction) → o ≡ Some t → IsIn t x.transactions.items) → (tests : List (Bool × Refusal)) → Passes (transaction_tests o ++ tests) → (t : Transaction) → o ≡ Some t → IsIn t x.transactions.items × (t.phase ≡ Active)
  enlisting o there tests passes t is =
      let here = passed (subst (λ o. Passes (transaction_tests o ++ tests)) is passes) in let committed = passed here.1 in let aborted = passed committed.1 in let active = passed aborted.1 in
      (there t is, active-phase t (not-not _ active.0))

  -- refused or not
  agreed-refuse_or : (tests : List (Bool × Refusal)) (effect : Outcome) → (Passes tests → Agreed (apply x effect)) → Agreed (apply x (refuse_or x (first_refusal tests) effect))
  agreed-refuse_or tests effect is = or_refused (first_refusal tests) refl
    where
      or_refused : (refusal : Option Refusal) → first_refusal tests ≡ refusal → Agreed (apply x (refuse_or x refusal effect))
      or_refused (Some refusal) refused = replies (Refused refusal)
      or_refused None none = is (record { none = none })

  agreed-decide_tick : (ms : ℕ) → Agreed (apply x (decide_tick x ms))
  agreed-decide_tick ms = agreed-refuse_or ((not x.machine.is_up, MachineDown) ∷ []) (tick x ms) (λ passes. agreed-tick x ms sound agreed)

  -- ---- commands that bring a transaction further

  module _ (sound_files : IsSoundFiles x) (good : IsGoodState x.recorded) where
    commits : (o : Option Transaction) → ((t : Transaction) → o ≡ Some t → IsIn t x.transactions.items) → Passes (transaction_tests o) → Agreed (apply x (commit_of x o))
    commits None there tests = replies Done
    commits (Some t) there tests =
        let here = passed tests in let committed' = passed here.1 in let aborted = passed committed'.1 in let active = passed aborted.1 in
        let at = there t refl in
        let is = active-phase t (not-not _ active.0) in
        let c = course_of x t None in
        let arrives = arrives-to_commit x.recorded.boots c (fresh-active x sound t at None is) in
        agreed-arrived x sound agreed t at None (led PhaseInput.CommitTransaction c) arrives.moved (commit_reply (led PhaseInput.CommitTransaction c)) arrives.stands.outcome
        (follows-commit x sound sound_files good agreed t at None (ap is_early is))

    -- the transaction of an enlistment goes on by what comes from it to where it agrees
    goes : (o : Option Enlistment) (input : Enlistment → PhaseInput) → ((e : Enlistment) → o ≡ Some e → Answers x (input e) e)
        → ((e : Enlistment) → o ≡ Some e → (t : Transaction) (at : IsIn t x.transactions.items) → same_id e.transaction t.id ≡ true → transaction_in x e ≡ Some t
        → Follows x t.id (was x sound t at agreed.agrees).before (was x sound t at agreed.agrees).behind (led (input e) (course_of x t (Some e))))
        → Agreed (apply x (answering x o input))
    goes o input arrives follows = answers o input (λ e is t at own found.
        let there = (arrives e is t at own found).arrives in
        agreed-arrived x sound agreed t at (Some e) (led (input e) (course_of x t (Some e))) there.moved Done there.stands.outcome (follows e is t at own found))

    module _ (o : Option Enlistment) (there : (e : Enlistment) → o ≡ Some e → IsIn e x.transactions.enlistments) where
      pre-prepared : Passes (enlistment_tests o owes_pre_prepare) → Agreed (apply x (answering x o (λ e. PhaseInput.PrePrepareComplete)))
      pre-prepared tests = goes o (λ e. PhaseInput.PrePrepareComplete) (goes-pre_prepare_complete x sound o there tests) (λ e is t at own found.
          follows-pre_prepare_complete x sound sound_files good agreed t at e (there e is) own (enlistment-allowed o owes_pre_prepare e is tests))

      prepared : Passes (enlistment_tests o owes_prepare) → Agreed (apply x (answering x o (λ e. PhaseInput.PrepareComplete)))
      prepared tests = goes o (λ e. PhaseInput.PrepareComplete) (goes-prepare_complete x sound o there tests) (λ e is t at own found.
          follows-prepare_complete x sound sound_files good agreed t at e (there e is) own (enlistment-allowed o owes_prepare e is tests))

      left : Passes (enlistment_tests o (may_vote x)) → Agreed (apply x (answering x o (λ e. PhaseInput.ReadOnly (share_of e))))
      left tests = goes o (λ e. PhaseInput.ReadOnly (share_of e)) (goes-read_only x sound o there tests) (λ e is t at own found.
          let phase = and_parts (not (is_superior e) && is_open_for_votes e) (phase_passes x is_voting e) (enlistment-allowed o (may_vote x) e is tests) in
          let both = and_parts (not (is_superior e)) (is_open_for_votes e) phase.0 in
          follows-read_only x sound sound_files good agreed t at e (there e is) own (not-true _ both.0) both.1 (phase-passed x is_voting e t found phase.1))

      committed : Passes (enlistment_tests o owes_commit) → Agreed (apply x (answering x o (λ e. PhaseInput.CommitComplete)))
      committed tests = goes o (λ e. PhaseInput.CommitComplete) (goes-commit_complete x sound o there tests) (λ e is t at own found.
          follows-commit_complete x sound sound_files good agreed t at e (there e is) own (enlistment-allowed o owes_commit e is tests))

      pre-prepares : Passes (superior_tests x o before_pre_prepare) → Agreed (apply x (answering x o (λ e. PhaseInput.PrePrepare)))
      pre-prepares tests = goes o (λ e. PhaseInput.PrePrepare) (goes-pre_prepare_enlistment x sound o there tests) (λ e is t at own found.
          follows-pre_prepare x sound sound_files good agreed t at (Some e) (early-pre_prepare t.phase (phase-passed x before_pre_prepare e t found (superior-allowed x o before_pre_prepare e is tests))))

      prepares : Passes (superior_tests x o before_prepare) → Agreed (apply x (answering x o (λ e. PhaseInput.Prepare)))
      prepares tests = goes o (λ e. PhaseInput.Prepare) (goes-prepare_enlistment x sound o there tests) (λ e is t at own found.
          follows-prepare x sound sound_files good agreed t at (Some e) (early-prepare t.phase (phase-passed x before_prepare e t found (superior-allowed x o before_prepare e is tests))))

      decides : Passes (superior_tests x o waits_for_superior) → Agreed (apply x (answering x o (λ e. PhaseInput.Commit)))
      unfolding led
      decides tests = goes o (λ e. PhaseInput.Commit) (goes-commit_enlistment x sound o there tests) (λ e is t at own found.
          let waits = phase-passed x waits_for_superior e t found (superior-allowed x o waits_for_superior e is tests) in
          follows-decision x sound sound_files good agreed t at (Some e) (waiting-held t.phase waits)
          (waiting-recorded t.phase x.managers x.transactions.enlistments t.id t.is_recorded waits (list_all-at (λ t. is_recorded_as t.phase x.managers x.transactions.enlistments t.id t.is_recorded) x.transactions.items sound.phases.recorded t at)))

    -- ---- every command

    agreed-command : (process : Pid) (command : Command) → Passes (command_tests x process command) → Agreed (apply x (command_effect x process command))
    unfolding open_transaction rollback_transaction get_transaction_information open_resource_manager recover_resource_manager get_notification create_enlistment_tests open_enlistment rollback_enlistment set_information get_information duplicate_handle recover_enlistment rollback_complete single_phase_reject commit_transaction pre_prepare_complete prepare_complete read_only_enlistment commit_complete pre_prepare_enlistment prepare_enlistment commit_enlistment
    agreed-command process (CreateTransaction label timeout) passes = agreed-create_transaction x process label timeout agreed
    agreed-command process (OpenTransaction label guid) passes = opened-transaction process label (transaction_with x guid)
    agreed-command process (CommitTransaction label) passes = commits (transaction_named x process label) (transaction-named x process label) passes
    agreed-command process (RollbackTransaction label) passes = rolled (transaction_named x process label) (transaction-named x process label) passes
    agreed-command process (GetTransactionInformation label) passes = replies (information_of x (transaction_named x process label))
    agreed-command process (CreateResourceManager label durability) passes = agreed-create_manager x process label durability sound agreed
    agreed-command process (OpenResourceManager label guid) passes = opened-manager process label (manager_with x guid)
    agreed-command process (RecoverResourceManager label) passes = told (manager_named x process label)
    agreed-command process (GetNotificationResourceManager label) passes = taken (manager_named x process label)
    agreed-command process (CreateEnlistment label manager transaction kind) passes =
        agreed-create_enlistment x process label (manager_named x process manager) (transaction_named x process transaction) kind sound agreed
        (enlisting (transaction_named x process transaction) (transaction-named x process transaction) _ (passed passes).1)
    agreed-command process (OpenEnlistment label manager guid) passes = opened-enlistment process label (enlistment_with x (manager_named x process manager) guid)
    agreed-command process (RecoverEnlistment label) passes = recovers (enlistment_named x process label) (enlistment-named x process label) passes
    agreed-command process (PrePrepareComplete label) passes = pre-prepared (enlistment_named x process label) (enlistment-named x process label) passes
    agreed-command process (PrepareComplete label) passes = prepared (enlistment_named x process label) (enlistment-named x process label) passes
    agreed-command process (ReadOnlyEnlistment label) passes = left (enlistment_named x process label) (enlistment-named x process label) passes
    agreed-command process (CommitComplete label) passes = committed (enlistment_named x process label) (enlistment-named x process label) passes
    agreed-command process (RollbackComplete label) passes = rolled-back (enlistment_named x process label) (enlistment-named x process label) passes
    agreed-command process (SinglePhaseReject label) passes = rejected (enlistment_named x process label) (enlistment-named x process label) passes
    agreed-command process (RollbackEnlistment label) passes = rolled-by (enlistment_named x process label) (enlistment-named x process label) passes
    agreed-command process (PrePrepareEnlistment label) passes = pre-prepares (enlistment_named x process label) (enlistment-named x process label) passes
    agreed-command process (PrepareEnlistment label) passes = prepares (enlistment_named x process label) (enlistment-named x process label) passes
    agreed-command process (CommitEnlistment label) passes = decides (enlistment_named x process label) (enlistment-named x process label) passes
    agreed-command process (SetEnlistmentRecoveryInformation label information) passes = agreed-keep_information x (enlistment_named x process label) information sound agreed (enlistment-named x process label) passes
    agreed-command process (GetEnlistmentRecoveryInformation label) passes = replies (information_in (enlistment_named x process label))
    agreed-command process (CreateFile label path access share disposition) passes =
        opens process label None (create_file x.files None path access share disposition) (plain-caller x)
    agreed-command process (CreateFileTransacted label path access share disposition transaction) passes =
        let is = caller-active x process transaction _ sound passes in
        opens process label (caller x process transaction) (create_file x.files (caller x process transaction) path access share disposition) is.0
    agreed-command process (ReadFile file offset many) passes = on-file process file (λ o. read_file x.files o offset many) (passes-left (file_tests x process file) _ passes)
    agreed-command process (WriteFile file offset bytes) passes = on-file process file (λ o. write_file o offset bytes) (passes-left (file_tests x process file) _ passes)
    agreed-command process (SetEndOfFile file size) passes = on-file process file (λ o. set_end o size) (passes-left (file_tests x process file) _ passes)
    agreed-command process (WriteUnits file start contents) passes = on-file process file (λ o. write_file o start contents) (passes-left (file_tests x process file) _ passes)
    agreed-command process (GetFileSizeEx file) passes = on-file process file (λ o. get_size x.files o) passes
    agreed-command process (FlushFileBuffers file) passes = on-file process file (λ o. flush_file) (passes-left (file_tests x process file) _ passes)
    agreed-command process (DeleteFile path) passes = files None (delete_file x.files None path) (plain-caller x)
    agreed-command process (CreateDirectory path) passes = files None (create_directory x.files None path) (plain-caller x)
    agreed-command process (RemoveDirectory path) passes = files None (remove_directory x.files None path) (plain-caller x)
    agreed-command process (MoveFile source target) passes = files None (move_file x.files None source target) (plain-caller x)
    agreed-command process (DeleteFileTransacted path transaction) passes =
        files (caller x process transaction) (delete_file x.files (caller x process transaction) path) (caller-active x process transaction _ sound passes).0
    agreed-command process (CreateDirectoryTransacted path transaction) passes =
        files (caller x process transaction) (create_directory x.files (caller x process transaction) path) (caller-active x process transaction _ sound passes).0
    agreed-command process (RemoveDirectoryTransacted path transaction) passes =
        files (caller x process transaction) (remove_directory x.files (caller x process transaction) path) (caller-active x process transaction _ sound passes).0
    agreed-command process (MoveFileTransacted source target transaction) passes =
        files (caller x process transaction) (move_file x.files (caller x process transaction) source target) (caller-active x process transaction _ sound passes).0
    agreed-command process (FindFiles searched) passes = files None (find_files x.files None searched) (plain-caller x)
    agreed-command process (FindFilesTransacted searched transaction) passes =
        files (caller x process transaction) (find_files x.files (caller x process transaction) searched) (caller-active x process transaction _ sound passes).0
    agreed-command process (KvSet transaction key value) passes = sets (caller x process transaction) key (Some value) (caller-active x process transaction _ sound passes).0
    agreed-command process (KvUnset transaction key) passes = sets (caller x process transaction) key None (caller-active x process transaction _ sound passes).0
    agreed-command process (KvGet view key) passes = still (of_keys x (kv_get x.keys (viewer x process view) key)) refl refl refl refl refl refl
    agreed-command process (KvList view) passes = still (of_keys x (kv_list x.keys (viewer x process view))) refl refl refl refl refl refl
    agreed-command process (CloseHandle label) passes = agreed-closed x process label sound agreed
    agreed-command process (DuplicateHandle label from source) passes = bound process label (object_at x.handles from source)
    agreed-command process Exit passes = agreed-exit x process sound agreed

    agreed-decided : (process : Pid) (command : Command) → Agreed (apply x (decide x process command))
    agreed-decided process command = agreed-refuse_or ((not x.machine.is_up, MachineDown) ∷ command_tests x process command) (command_effect x process command) (λ passes. agreed-command process command (passed passes).1)

pub agreeing_law : StepLaw → AgreeingLaw
agreeing_law step = record {
  commands = λ x process command sound good carried agrees. let is = agreed-decided x sound.course (record { agrees = agrees; carried = carried }) sound.files good process command in (is.agrees, is.carried);
  ticks = λ x ms sound carried agrees. let is = agreed-decide_tick x sound (record { agrees = agrees; carried = carried }) ms in (is.agrees, is.carried);
  restarts = λ base log good. let is = agreed-opened base log good in (is.agrees, is.carried);
  worlds = λ w process command within sound good carried agrees.
      let is = agreed-decided (present w) sound.course (record { agrees = agrees; carried = carried }) sound.files good process command in
      subst (λ y. Agrees y × (are_carried_out y.recorded ≡ true)) (sym (step.1 w process command within)) (is.agrees, is.carried);
  later_worlds = λ w ms within sound carried agrees.
      let is = agreed-decide_tick (present w) sound (record { agrees = agrees; carried = carried }) ms in
      subst (λ y. Agrees y × (are_carried_out y.recorded ≡ true)) (sym (step.2 w ms within)) (is.agrees, is.carried);
  falls = λ w power agrees. record { tree = agrees.tree; keys = agrees.keys; managers = agrees.managers; transactions = agrees.transactions; next_node = agrees.next_node };
}
