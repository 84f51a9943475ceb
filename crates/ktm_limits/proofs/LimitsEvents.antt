-- The limits hold after each event that a command records, and that the passing of time does.
use Rattle.std.proofs.Common.{◌≡◌, ℕ, ◌+◌, not, true, List, [], ◌∷◌, drop, length, take, Option, Some, None, is_none, refl, sym, ◌∙◌, ap, subst, inl, inr, ◌⊎◌}
use Rattle.std.proofs.lemmas.Bool.{and_parts, and_from, true≢false}
use Rattle.std.specs.List.{list_all}
use Rattle.ktm_base.specs.declared.id.Id.{Id}
use Rattle.ktm_base.specs.declared.id.Label.{Label}
use Rattle.ktm_base.specs.declared.id.Pid.{Pid}
use Rattle.ktm_base.specs.declared.refusal.Refusal.{Refusal}
use Rattle.ktm_base.specs.declared.refusal.Refusal.TheVariants.{MachineDown}
use Rattle.ktm_world.specs.declared.change.Change.{Change}
use Rattle.ktm_world.specs.declared.command.Command.{Command}
use Rattle.ktm_world.specs.declared.command.Command.TheVariants.{CreateTransaction, OpenTransaction, CommitTransaction, RollbackTransaction, GetTransactionInformation, CreateResourceManager, OpenResourceManager, RecoverResourceManager, GetNotificationResourceManager, CreateEnlistment, OpenEnlistment, RecoverEnlistment, PrePrepareComplete, PrepareComplete, ReadOnlyEnlistment, CommitComplete, RollbackComplete, SinglePhaseReject, RollbackEnlistment, PrePrepareEnlistment, PrepareEnlistment, CommitEnlistment, SetEnlistmentRecoveryInformation, GetEnlistmentRecoveryInformation, CreateFile, CreateFileTransacted, ReadFile, WriteFile, SetEndOfFile, WriteUnits, GetFileSizeEx, FlushFileBuffers, DeleteFile, CreateDirectory, RemoveDirectory, MoveFile, DeleteFileTransacted, CreateDirectoryTransacted, RemoveDirectoryTransacted, MoveFileTransacted, FindFiles, FindFilesTransacted, KvSet, KvUnset, KvGet, KvList, CloseHandle, DuplicateHandle, Exit}
use Rattle.ktm_world.specs.declared.event.Event.{Event}
use Rattle.ktm_world.specs.declared.event.Event.TheVariants.{MadeRm, Plain, Undo}
use Rattle.ktm_world.specs.declared.input.PhaseInput.{PhaseInput}
use Rattle.ktm_world.specs.declared.object.Object.{Object}
use Rattle.ktm_world.specs.declared.object.Transaction.{Transaction}
use Rattle.ktm_world.specs.declared.options.Durability.{Durability}
use Rattle.ktm_world.specs.declared.options.EnlistmentKind.{EnlistmentKind}
use Rattle.ktm_world.specs.declared.reply.Reply.TheVariants.{Contents as Bytes, Done, Size}
use Rattle.ktm_world.specs.declared.step.Owed.{Owed}
use Rattle.ktm_world.specs.Decide.{of_files, opening, bound_file, on_file, caller, command_tests, command_effect, decide, events_of, refusal_of}
use Rattle.ktm_world.specs.Durable.{Durable, after_event, after_events, fact_of, is_within_limits, without_recorded}
use Rattle.ktm_world.specs.Enlistments.{Enlistment, Manager, owes_commit, owes_pre_prepare, owes_prepare}
use Rattle.ktm_world.specs.FileCalls.{create_file, create_file_tests, read_file, write_file, set_end, get_size, flush_file, delete_file, create_directory, remove_directory, move_file, find_files}
use Rattle.ktm_world.specs.FileOutcome.{FileOutcome}
use Rattle.ktm_world.specs.Files.{OpenFile, bytes_seen}
use Rattle.ktm_world.specs.HandleCalls.{bind_to, duplicate_handle}
use Rattle.ktm_world.specs.Handles.{object_at}
use Rattle.ktm_world.specs.Labels.{transaction_named, manager_named, enlistment_named, file_named, transaction_tests}
use Rattle.ktm_world.specs.Lawful.{Agrees, stage_in}
use Rattle.ktm_world.specs.Outcome.{Outcome, apply, first_refusal, refuse_or}
use Rattle.ktm_world.specs.Present.{Present}
use Rattle.ktm_world.specs.Steps.{led, share_of}
use Rattle.ktm_world.specs.TransactionCalls.{aborted_by, answering, before_pre_prepare, before_prepare, commit_of, commit_reply, commit_transaction, rollback_transaction, rollback_of, create_transaction, open_transaction, open_to_transaction, transaction_with, get_transaction_information, create_resource_manager, new_id, open_resource_manager, open_to_manager, manager_with, recover_resource_manager, recover_all, get_notification, take_first, create_enlistment, open_enlistment, open_to_enlistment, enlistment_with, course_of, enlistment_tests, superior_tests, is_voting, keep_information, may_vote, phase_passes, pre_prepare_complete, prepare_complete, read_only_enlistment, commit_complete, rollback_complete, single_phase_reject, rollback_enlistment, pre_prepare_enlistment, prepare_enlistment, commit_enlistment, recover_enlistment, set_information, get_information, tick, waits_for_superior, recovery_of}
use Rattle.ktm_world.specs.Transactions.{is_active, same_id}
use Rattle.ktm_world.specs.Uses.{file_room}
use Rattle.ktm_world.specs.World.{decide_tick}
use Rattle.ktm_steps.proofs.offered.Lists.{Pass, row_lists}
use Rattle.ktm_steps.proofs.offered.Recorded.{records_nothing, silent-led, silent-recovery}
use Rattle.ktm_records.specs.Agreement.{AgreeingLaw}
use Rattle.ktm_owned.specs.FilesKept.{FilesKeptLaw}
use Rattle.txf_laws.specs.Elements.{IsIn}
use Rattle.txf_laws.specs.Footprint.{ListsLaw}
use Rattle.txf_laws.specs.Formed.{FormedLaw}
use Rattle.ktm_records.specs.Kept.{IsKept, limits_hold}
use Rattle.ktm_courses.specs.SoundCourse.{is_part_as, is_recorded_as_asked}
use Rattle.txf_laws.specs.SoundFiles.{IsSoundFiles}
use Rattle.ktm_courses.proofs.offered.EnlistmentAnswers.{answer_in, is-committing, is-pre_preparing, is-preparing, owed-commit, owed-pre_prepare, owed-prepare, phase-owing, preparing-parts, takes_part-owing}
use Rattle.ktm_courses.proofs.offered.Arrivals.{stands-now, brought-now}
use Rattle.ktm_courses.proofs.offered.Calls.{Passes, passed, active-phase, transaction-named, enlistment-named, enlistment-allowed, superior-allowed, phase-passed, waiting-rolls}
use Rattle.ktm_courses.proofs.offered.FileSteps.{units-pass}
use Rattle.ktm_records.proofs.offered.DurableLimits.{limits-from}
use Rattle.txf_laws.proofs.offered.Elements.{list_all-at, not-not}
use Rattle.txf_laws.proofs.offered.Limits.{Less-filter, limits-less}
use Rattle.ktm_limits.proofs.LimitsBegun.{holds-arrived, holds-answering, commit-events, commit_complete-events, commit_transaction-events, pre_prepare-events, pre_prepare_complete-events, prepare-events, prepare_complete-events, read_only-events}
use Rattle.ktm_limits.proofs.LimitsCalls.{Stays, stays-create_manager}
use Rattle.ktm_limits.proofs.LimitsFiles.{stays-answers, stays-create_directory, stays-create_file, stays-create_own, stays-delete, stays-move, stays-on_file, stays-remove, stays-set_end, stays-write}
use Rattle.ktm_records.proofs.offered.NoMore.{Fits, fits-within}
use Rattle.ktm_owned.proofs.offered.OwnCalls.{caller-may}
use Rattle.ktm_courses.proofs.offered.Endings.{waiting-parts}
use Rattle.ktm_limits.proofs.RecordedLimits.{agreeing-limits}
use Rattle.ktm_limits.proofs.RecordedCourses.{uncounted}
use Rattle.txf_laws.proofs.offered.Tables.{Rises}
use Rattle.ktm_records.proofs.offered.AgreementOfRollbacks.{is_undo, undoes-aborted, undoes-closing, undoes-led}
use Rattle.ktm_records.proofs.offered.Stages.{early-pre_prepare, early-prepare, early-voting, voting-stage, waiting-held, waiting-recorded}
use Rattle.ktm_courses.proofs.offered.HandlesAndTime.{close_handle-so, exit-so, tick-so}

-- ---- what only undoes

-- the outcome records nothing but rollbacks
abbrev Undoes : Outcome → Type 0
Undoes o = list_all is_undo o.events ≡ true

undos-hold : (es : List Event) (s : Durable) → list_all is_undo es ≡ true → is_within_limits s ≡ true → limits_hold s es ≡ true
unfolding is_within_limits
undos-hold [] s undos limits = refl
undos-hold (e ∷ es) s undos limits = let parts = and_parts (is_undo e) (list_all is_undo es) undos in one e parts.0 (λ s' limits'. undos-hold es s' parts.1 limits')
  where
    one : (e : Event) → is_undo e ≡ true → ((s' : Durable) → is_within_limits s' ≡ true → limits_hold s' es ≡ true) → limits_hold s (e ∷ es) ≡ true
    one (Undo id) is rest =
        let left = limits-less s (without_recorded s.transactions id) (Less-filter (λ r. not (same_id r.id id)) s.transactions) limits in
        and_from _ _ left (rest (after_event s (Undo id)) left)
    one _ is rest = absurd (true≢false (sym is))

-- ---- what records one event

-- the outcome records nothing, or one event that leaves what was recorded of transactions
abbrev IsBrief : Outcome → Type 0
IsBrief o = (o.events ≡ []) ⊎ ((e : Event) × (o.events ≡ e ∷ []) × ((s : Durable) → (fact_of s e).transactions ≡ s.transactions))

brief-of_files : (x : Present) (who : Option Id) (o : FileOutcome) → IsBrief (of_files x who o)
brief-of_files x who o = go who o.change
  where
    go : (who : Option Id) (change : Option Change) → (events_of who change ≡ []) ⊎ ((e : Event) × (events_of who change ≡ e ∷ []) × ((s : Durable) → (fact_of s e).transactions ≡ s.transactions))
    go None None = inl refl
    go None (Some c) = inr (Plain c, refl, λ s. refl)
    go (Some id) None = inl refl
    go (Some id) (Some c) = inl refl

brief-opening : (x : Present) (process : Pid) (label : Label) (who : Option Id) (o : FileOutcome) → IsBrief (opening x process label who o)
brief-opening x process label who o = go o.opened
  where
    go : (p : Option OpenFile) → IsBrief (bound_file process label p (of_files x who o))
    go None = brief-of_files x who o
    go (Some file) = brief-of_files x who o

brief-on_file : (x : Present) (o : Option OpenFile) (call : OpenFile → FileOutcome) → IsBrief (on_file x o call)
brief-on_file x None call = inl refl
brief-on_file x (Some o) call = brief-of_files x o.transaction (call o)

brief-manager : (x : Present) (process : Pid) (label : Label) (durability : Durability) → IsBrief (create_resource_manager x process label durability)
unfolding create_resource_manager
brief-manager x process label Durability.Volatile = inl refl
brief-manager x process label Durability.Durable = inr (MadeRm (new_id x x.transactions.last_manager), refl, λ s. refl)

-- a state is within the limits by what is so then
brief-holds : (x : Present) (o : Outcome) → IsBrief o → Rises x.recorded.transactions → Agrees (apply x o) → IsSoundFiles (apply x o) → Fits (apply x o) → limits_hold x.recorded o.events ≡ true
brief-holds x o (inl none) rises agrees sound fits = subst (λ es. limits_hold x.recorded es ≡ true) (sym none) refl
brief-holds x o (inr (e, one, same)) rises agrees sound fits =
    let after : (after_events x.recorded o.events).transactions ≡ x.recorded.transactions = ap (λ es. (after_events x.recorded es).transactions) one ∙ same x.recorded in
    let limits : is_within_limits (after_events x.recorded o.events) ≡ true = limits-from _ (agreeing-limits (apply x o) agrees sound fits (subst Rises (sym after) rises)) in
    subst (λ es. limits_hold x.recorded es ≡ true) (sym one) (and_from _ _ (uncounted (fact_of x.recorded e) (x.recorded.events + 1) (subst (λ es. is_within_limits (after_events x.recorded es) ≡ true) one limits)) refl)

-- ---- calls that record nothing

silent-bound : (x : Present) (process : Pid) (label : Label) (guid : List ℕ) → (open_transaction x process label guid).events ≡ []
unfolding open_transaction
silent-bound x process label guid = go (transaction_with x guid)
  where
    go : (t : Option Transaction) → (open_to_transaction x process label t).events ≡ []
    go None = refl
    go (Some t) = refl

silent-manager : (x : Present) (process : Pid) (label : Label) (guid : List ℕ) → (open_resource_manager x process label guid).events ≡ []
unfolding open_resource_manager
silent-manager x process label guid = go (manager_with x guid)
  where
    go : (m : Option Manager) → (open_to_manager x process label m).events ≡ []
    go None = refl
    go (Some m) = refl

silent-enlistment : (x : Present) (process : Pid) (label : Label) (m : Option Manager) (guid : List ℕ) → (open_enlistment x process label m guid).events ≡ []
unfolding open_enlistment
silent-enlistment x process label m guid = go (enlistment_with x m guid)
  where
    go : (e : Option Enlistment) → (open_to_enlistment x process label e).events ≡ []
    go None = refl
    go (Some e) = refl

silent-duplicate : (x : Present) (process : Pid) (label : Label) (from : Pid) (source : Label) → (duplicate_handle x process label from source).events ≡ []
unfolding duplicate_handle
silent-duplicate x process label from source = go (object_at x.handles from source)
  where
    go : (object : Option Object) → (bind_to x process label object).events ≡ []
    go None = refl
    go (Some object) = refl

silent-recover_all : (x : Present) (m : Option Manager) → (recover_all x m).events ≡ []
silent-recover_all x None = refl
silent-recover_all x (Some m) = refl

silent-take : (x : Present) (m : Option Manager) → (take_first x m).events ≡ []
silent-take x None = refl
silent-take x (Some m) = refl

silent-enlist : (x : Present) (process : Pid) (label : Label) (m : Option Manager) (t : Option Transaction) (kind : EnlistmentKind) → (create_enlistment x process label m t kind).events ≡ []
unfolding create_enlistment
silent-enlist x process label None t kind = refl
silent-enlist x process label (Some m) None kind = refl
silent-enlist x process label (Some m) (Some t) kind = refl

silent-information : (x : Present) (e : Option Enlistment) (information : List ℕ) → (keep_information x e information).events ≡ []
silent-information x None information = refl
silent-information x (Some e) information = refl

-- ---- all commands

module _ (agreeing : AgreeingLaw) (keeping : FilesKeptLaw) (lists : ListsLaw) (formed : FormedLaw) (x : Present) (kept : IsKept x) where
  fits : Fits x
  fits = fits-within x kept.within

  -- the limits hold after each event of an outcome
  abbrev Holds : Outcome → Type 0
  Holds o = limits_hold x.recorded o.events ≡ true

  silent : (o : Outcome) → o.events ≡ [] → Holds o
  silent o none = subst (λ es. limits_hold x.recorded es ≡ true) (sym none) refl

  undoes : (o : Outcome) → Undoes o → Holds o
  undoes o undos = undos-hold o.events x.recorded undos kept.good.limits

  -- what is so after an outcome
  record After (o : Outcome) : Type 0 where
    agrees : Agrees (apply x o)
    files : IsSoundFiles (apply x o)

  brief : (o : Outcome) → IsBrief o → After o → Fits (apply x o) → Holds o
  brief o is after fits' = brief-holds x o is kept.good.transactions_rise after.agrees after.files fits'

  commits : (t : Option Transaction) → ((u : Transaction) → t ≡ Some u → IsIn u x.transactions.items) → Passes (transaction_tests t) → Holds (commit_of x t)
  commits None there passes = refl
  commits (Some t) there passes =
      let active = active-phase t (not-not (is_active t) (passed (passed (passed (passed passes).1).1).1).0) in
      holds-arrived lists x kept.sound.course kept.good kept.agrees kept.sound.files fits (led PhaseInput.CommitTransaction (course_of x t None)) (commit_reply (led PhaseInput.CommitTransaction (course_of x t None))) (commit_transaction-events lists x kept.sound.course kept.good kept.agrees kept.sound.files fits t (there t refl) None (ap stage_in active))

  rolls_back : (t : Option Transaction) → Holds (rollback_of x t)
  rolls_back None = refl
  rolls_back (Some t) = undoes (aborted_by x t None Done) (undoes-aborted x t None Done)

  -- a row that records nothing
  quiet : (o : Option Enlistment) (input : Enlistment → PhaseInput) → ((e : Enlistment) → Pass records_nothing (row_lists (input e))) → Holds (answering x o input)
  quiet o input none = holds-answering lists x kept.sound.course kept.good kept.agrees kept.sound.files fits o input (λ e is t found at own.
      subst (λ es. limits_hold x.recorded es ≡ true) (sym (silent-led (input e) (course_of x t (Some e)) refl (none e))) refl)

  module _ (o : Option Enlistment) (there : (e : Enlistment) → o ≡ Some e → IsIn e x.transactions.enlistments) where
    owing : (e : Enlistment) → o ≡ Some e → (t : Transaction) → IsIn t x.transactions.items → same_id e.transaction t.id ≡ true → (owed : Owed) → e.owes ≡ Some owed → answer_in t.phase ≡ Some owed
    owing e is t at own owed owes = phase-owing x.recorded.boots (course_of x t (Some e)) e (stands-now x t (Some e) kept.sound.course at) (brought-now x t (Some e) kept.sound.course) kept.sound.course.enlistments.rise (there e is) own owed owes

    pre_prepares : Passes (enlistment_tests o owes_pre_prepare) → Holds (answering x o (λ e. PhaseInput.PrePrepareComplete))
    pre_prepares tests = holds-answering lists x kept.sound.course kept.good kept.agrees kept.sound.files fits o (λ e. PhaseInput.PrePrepareComplete) (λ e is t found at own.
        pre_prepare_complete-events lists x kept.sound.course kept.good kept.agrees kept.sound.files fits t at (Some e) (ap stage_in (is-pre_preparing t.phase (owing e is t at own Owed.PrePrepare (owed-pre_prepare e (enlistment-allowed o owes_pre_prepare e is tests))))))

    prepares : Passes (enlistment_tests o owes_prepare) → Holds (answering x o (λ e. PhaseInput.PrepareComplete))
    prepares tests = holds-answering lists x kept.sound.course kept.good kept.agrees kept.sound.files fits o (λ e. PhaseInput.PrepareComplete) (λ e is t found at own.
        let owes = enlistment-allowed o owes_prepare e is tests in
        let phase = is-preparing t.phase (owing e is t at own Owed.Prepare (owed-prepare e owes)) in
        let part = takes_part-owing x.recorded.boots (course_of x t (Some e)) e (stands-now x t (Some e) kept.sound.course at) (brought-now x t (Some e) kept.sound.course) kept.sound.course.enlistments.rise (there e is) own Owed.Prepare (owed-prepare e owes) in
        let stands = (stands-now x t (Some e) kept.sound.course at).stand.parts e (there e is) part in
        elim (preparing-parts e (subst (λ p. is_part_as p e ≡ true) phase stands)) [
          | inl waits ↦ absurd (true≢false (sym (waiting-parts e waits).0 ∙ ap is_none (owed-prepare e owes)))
          | inr (idle, again, busy) ↦ prepare_complete-events lists x kept.sound.course kept.good kept.agrees kept.sound.files fits t at e (ap stage_in phase) (there e is) part idle busy
        ])

    reads_only : Passes (enlistment_tests o (may_vote x)) → Holds (answering x o (λ e. PhaseInput.ReadOnly (share_of e)))
    reads_only tests = holds-answering lists x kept.sound.course kept.good kept.agrees kept.sound.files fits o (λ e. PhaseInput.ReadOnly (share_of e)) (λ e is t found at own.
        read_only-events lists x kept.sound.course kept.good kept.agrees kept.sound.files fits t at (Some e) (voting-stage t.phase (phase-passed x is_voting e t found (and_parts _ (phase_passes x is_voting e) (enlistment-allowed o (may_vote x) e is tests)).1)) (share_of e))

    has_committed : Passes (enlistment_tests o owes_commit) → Holds (answering x o (λ e. PhaseInput.CommitComplete))
    has_committed tests = holds-answering lists x kept.sound.course kept.good kept.agrees kept.sound.files fits o (λ e. PhaseInput.CommitComplete) (λ e is t found at own.
        commit_complete-events lists x kept.sound.course kept.good kept.agrees kept.sound.files fits t at e (is-committing t.phase (owing e is t at own Owed.Commit (owed-commit e (enlistment-allowed o owes_commit e is tests)))))

    asks_pre_prepare : Passes (superior_tests x o before_pre_prepare) → Holds (answering x o (λ e. PhaseInput.PrePrepare))
    asks_pre_prepare tests = holds-answering lists x kept.sound.course kept.good kept.agrees kept.sound.files fits o (λ e. PhaseInput.PrePrepare) (λ e is t found at own.
        pre_prepare-events lists x kept.sound.course kept.good kept.agrees kept.sound.files fits t at (Some e) (voting-stage t.phase (early-voting t.phase (early-pre_prepare t.phase (phase-passed x before_pre_prepare e t found (superior-allowed x o before_pre_prepare e is tests))))))

    asks_prepare : Passes (superior_tests x o before_prepare) → Holds (answering x o (λ e. PhaseInput.Prepare))
    asks_prepare tests = holds-answering lists x kept.sound.course kept.good kept.agrees kept.sound.files fits o (λ e. PhaseInput.Prepare) (λ e is t found at own.
        prepare-events lists x kept.sound.course kept.good kept.agrees kept.sound.files fits t at (Some e) (voting-stage t.phase (early-voting t.phase (early-prepare t.phase (phase-passed x before_prepare e t found (superior-allowed x o before_prepare e is tests))))))

    decides : Passes (superior_tests x o waits_for_superior) → Holds (answering x o (λ e. PhaseInput.Commit))
    decides tests = holds-answering lists x kept.sound.course kept.good kept.agrees kept.sound.files fits o (λ e. PhaseInput.Commit) (λ e is t found at own.
        let waits = phase-passed x waits_for_superior e t found (superior-allowed x o waits_for_superior e is tests) in
        commit-events lists x kept.sound.course kept.good kept.agrees kept.sound.files fits t at (Some e)
        (waiting-recorded t.phase x.managers x.transactions.enlistments t.id t.is_recorded waits (list_all-at (is_recorded_as_asked x.managers x.transactions.enlistments) x.transactions.items kept.sound.course.phases.recorded t at)) (waiting-held t.phase waits) (waiting-rolls t.phase waits))

  aborts : (o : Option Enlistment) → Holds (answering x o (λ e. PhaseInput.Rollback))
  aborts o = holds-answering lists x kept.sound.course kept.good kept.agrees kept.sound.files fits o (λ e. PhaseInput.Rollback) (λ e is t found at own.
      undos-hold (led PhaseInput.Rollback (course_of x t (Some e))).events x.recorded (undoes-led (course_of x t (Some e)) refl) kept.good.limits)

  effect-holds : (process : Pid) (command : Command) → Passes (command_tests x process command) → After (command_effect x process command) → Holds (command_effect x process command)
  unfolding commit_transaction rollback_transaction get_transaction_information recover_resource_manager get_notification pre_prepare_complete prepare_complete read_only_enlistment commit_complete rollback_complete single_phase_reject rollback_enlistment pre_prepare_enlistment prepare_enlistment commit_enlistment recover_enlistment set_information get_information create_transaction read_file get_size find_files
  effect-holds process (CreateTransaction label timeout) passes after = refl
  effect-holds process (OpenTransaction label guid) passes after = silent (command_effect x process (OpenTransaction label guid)) (silent-bound x process label guid)
  effect-holds process (CommitTransaction label) passes after = commits (transaction_named x process label) (transaction-named x process label) passes
  effect-holds process (RollbackTransaction label) passes after = rolls_back (transaction_named x process label)
  effect-holds process (GetTransactionInformation label) passes after = refl
  effect-holds process (CreateResourceManager label durability) passes after = brief (command_effect x process (CreateResourceManager label durability)) (brief-manager x process label durability) after (stays-create_manager x fits process label durability passes).fits
  effect-holds process (OpenResourceManager label guid) passes after = silent (command_effect x process (OpenResourceManager label guid)) (silent-manager x process label guid)
  effect-holds process (RecoverResourceManager label) passes after = silent (command_effect x process (RecoverResourceManager label)) (silent-recover_all x (manager_named x process label))
  effect-holds process (GetNotificationResourceManager label) passes after = silent (command_effect x process (GetNotificationResourceManager label)) (silent-take x (manager_named x process label))
  effect-holds process (CreateEnlistment label manager transaction kind) passes after = silent (command_effect x process (CreateEnlistment label manager transaction kind)) (silent-enlist x process label (manager_named x process manager) (transaction_named x process transaction) kind)
  effect-holds process (OpenEnlistment label manager guid) passes after = silent (command_effect x process (OpenEnlistment label manager guid)) (silent-enlistment x process label (manager_named x process manager) guid)
  effect-holds process (RecoverEnlistment label) passes after = quiet (enlistment_named x process label) recovery_of silent-recovery
  effect-holds process (PrePrepareComplete label) passes after = pre_prepares (enlistment_named x process label) (enlistment-named x process label) passes
  effect-holds process (PrepareComplete label) passes after = prepares (enlistment_named x process label) (enlistment-named x process label) passes
  effect-holds process (ReadOnlyEnlistment label) passes after = reads_only (enlistment_named x process label) (enlistment-named x process label) passes
  effect-holds process (CommitComplete label) passes after = has_committed (enlistment_named x process label) (enlistment-named x process label) passes
  effect-holds process (RollbackComplete label) passes after = quiet (enlistment_named x process label) (λ e. PhaseInput.RollbackComplete) (λ e. (refl, tt))
  effect-holds process (SinglePhaseReject label) passes after = quiet (enlistment_named x process label) (λ e. PhaseInput.SinglePhaseReject) (λ e. (refl, tt))
  effect-holds process (RollbackEnlistment label) passes after = aborts (enlistment_named x process label)
  effect-holds process (PrePrepareEnlistment label) passes after = asks_pre_prepare (enlistment_named x process label) (enlistment-named x process label) passes
  effect-holds process (PrepareEnlistment label) passes after = asks_prepare (enlistment_named x process label) (enlistment-named x process label) passes
  effect-holds process (CommitEnlistment label) passes after = decides (enlistment_named x process label) (enlistment-named x process label) passes
  effect-holds process (SetEnlistmentRecoveryInformation label information) passes after = silent (command_effect x process (SetEnlistmentRecoveryInformation label information)) (silent-information x (enlistment_named x process label) information)
  effect-holds process (GetEnlistmentRecoveryInformation label) passes after = refl
  effect-holds process (CreateFile label path access share disposition) passes after = brief (command_effect x process (CreateFile label path access share disposition)) (brief-opening x process label None (create_file x.files None path access share disposition)) after (stays-create_file formed x kept.sound.files fits process label path access share disposition (passed passes).1).fits
  effect-holds process (CreateFileTransacted label path access share disposition transaction) passes after =
      let is = caller-may x process transaction _ kept.sound.course passes in
      brief (command_effect x process (CreateFileTransacted label path access share disposition transaction)) (brief-opening x process label (caller x process transaction) (create_file x.files (caller x process transaction) path access share disposition)) after
      (subst (λ who. Stays x (opening x process label who (create_file x.files who path access share disposition))) (sym is.1)
      (stays-create_own formed x kept.sound.files fits process label is.0 path access share disposition (subst (λ who. Passes (create_file_tests x.files (file_room x) who path access share disposition)) is.1 (passed is.3).1))).fits
  effect-holds process (ReadFile file offset many) passes after = brief (command_effect x process (ReadFile file offset many)) (brief-on_file x (file_named x process file) (λ o. read_file x.files o offset many)) after (stays-on_file formed x kept.sound.files fits (file_named x process file) (λ o. Bytes (take many (drop offset (bytes_seen x.files o.transaction o.node))))).fits
  effect-holds process (WriteFile file offset bytes) passes after = brief (command_effect x process (WriteFile file offset bytes)) (brief-on_file x (file_named x process file) (λ o. write_file o offset bytes)) after (stays-write formed x kept.sound.files fits process file offset bytes (units-pass x process file offset bytes passes)).fits
  effect-holds process (SetEndOfFile file size) passes after = brief (command_effect x process (SetEndOfFile file size)) (brief-on_file x (file_named x process file) (λ o. set_end o size)) after (stays-set_end formed x kept.sound.files fits process file size passes).fits
  effect-holds process (WriteUnits file start contents) passes after = brief (command_effect x process (WriteUnits file start contents)) (brief-on_file x (file_named x process file) (λ o. write_file o start contents)) after (stays-write formed x kept.sound.files fits process file start contents passes).fits
  effect-holds process (GetFileSizeEx file) passes after = brief (command_effect x process (GetFileSizeEx file)) (brief-on_file x (file_named x process file) (λ o. get_size x.files o)) after (stays-on_file formed x kept.sound.files fits (file_named x process file) (λ o. Size (length (bytes_seen x.files o.transaction o.node)))).fits
  effect-holds process (FlushFileBuffers file) passes after = brief (command_effect x process (FlushFileBuffers file)) (brief-on_file x (file_named x process file) (λ o. flush_file)) after (stays-on_file formed x kept.sound.files fits (file_named x process file) (λ o. Done)).fits
  effect-holds process (DeleteFile path) passes after = brief (command_effect x process (DeleteFile path)) (brief-of_files x None (delete_file x.files None path)) after (stays-delete formed x kept.sound.files fits None path passes).fits
  effect-holds process (CreateDirectory path) passes after = brief (command_effect x process (CreateDirectory path)) (brief-of_files x None (create_directory x.files None path)) after (stays-create_directory formed x kept.sound.files fits None path passes).fits
  effect-holds process (RemoveDirectory path) passes after = brief (command_effect x process (RemoveDirectory path)) (brief-of_files x None (remove_directory x.files None path)) after (stays-remove formed x kept.sound.files fits None path passes).fits
  effect-holds process (MoveFile source target) passes after = brief (command_effect x process (MoveFile source target)) (brief-of_files x None (move_file x.files None source target)) after (stays-move formed x kept.sound.files fits None source target passes).fits
  effect-holds process (FindFiles searched) passes after = brief (command_effect x process (FindFiles searched)) (brief-of_files x None (find_files x.files None searched)) after (stays-answers formed x kept.sound.files fits None (find_files x.files None searched).reply).fits
  effect-holds process (DeleteFileTransacted path transaction) passes after = brief (command_effect x process (DeleteFileTransacted path transaction)) (brief-of_files x (caller x process transaction) (delete_file x.files (caller x process transaction) path)) after (stays-delete formed x kept.sound.files fits (caller x process transaction) path (passed (passed (passed (passed passes).1).1).1).1).fits
  effect-holds process (CreateDirectoryTransacted path transaction) passes after = brief (command_effect x process (CreateDirectoryTransacted path transaction)) (brief-of_files x (caller x process transaction) (create_directory x.files (caller x process transaction) path)) after (stays-create_directory formed x kept.sound.files fits (caller x process transaction) path (passed (passed (passed (passed passes).1).1).1).1).fits
  effect-holds process (RemoveDirectoryTransacted path transaction) passes after = brief (command_effect x process (RemoveDirectoryTransacted path transaction)) (brief-of_files x (caller x process transaction) (remove_directory x.files (caller x process transaction) path)) after (stays-remove formed x kept.sound.files fits (caller x process transaction) path (passed (passed (passed (passed passes).1).1).1).1).fits
  effect-holds process (MoveFileTransacted source target transaction) passes after = brief (command_effect x process (MoveFileTransacted source target transaction)) (brief-of_files x (caller x process transaction) (move_file x.files (caller x process transaction) source target)) after (stays-move formed x kept.sound.files fits (caller x process transaction) source target (passed (passed (passed (passed passes).1).1).1).1).fits
  effect-holds process (FindFilesTransacted searched transaction) passes after = brief (command_effect x process (FindFilesTransacted searched transaction)) (brief-of_files x (caller x process transaction) (find_files x.files (caller x process transaction) searched)) after (stays-answers formed x kept.sound.files fits (caller x process transaction) (find_files x.files (caller x process transaction) searched).reply).fits
  effect-holds process (KvSet transaction key value) passes after = refl
  effect-holds process (KvUnset transaction key) passes after = refl
  effect-holds process (KvGet view key) passes after = refl
  effect-holds process (KvList view) passes after = refl
  effect-holds process (CloseHandle label) passes after = undoes (command_effect x process (CloseHandle label)) (close_handle-so _ _ undoes-closing x process label tt)
  effect-holds process (DuplicateHandle label from source) passes after = silent (command_effect x process (DuplicateHandle label from source)) (silent-duplicate x process label from source)
  effect-holds process Exit passes after = undoes (command_effect x process Exit) (exit-so _ _ undoes-closing x process tt)

  pub decided-holds : (process : Pid) (command : Command) → Holds (decide x process command)
  decided-holds process command = refused (refusal_of x process command) refl
    where
      effect : Outcome
      effect = command_effect x process command

      -- where it is not refused the command does what it does
      after : refusal_of x process command ≡ None → After effect
      after none =
          let is : decide x process command ≡ effect = ap (λ r. refuse_or x r effect) none in
          record {
            agrees = subst (λ o. Agrees (apply x o)) is (agreeing.commands x process command kept.sound kept.good kept.carried_out kept.agrees).0;
            files = subst (λ o. IsSoundFiles (apply x o)) is (keeping.commands x process command kept.sound.course kept.sound.files);
          }

      refused : (r : Option Refusal) → refusal_of x process command ≡ r → Holds (refuse_or x r effect)
      refused (Some refusal) is = refl
      refused None none = effect-holds process command (passed (record { none = none })).1 (after none)

  pub later-holds : (ms : ℕ) → Holds (decide_tick x ms)
  later-holds ms = refused (first_refusal ((not x.machine.is_up, MachineDown) ∷ []))
    where
      refused : (r : Option Refusal) → Holds (refuse_or x r (tick x ms))
      refused (Some refusal) = refl
      refused None = undoes (tick x ms) (tick-so _ _ undoes-closing.rolls x ms tt)
