-- Every command sends no more than was owed or granted, and so does the passing of time.
use Rattle.std.specs.Prelude.{if◌then◌else◌}
use Rattle.std.proofs.Common.{◌≡◌, ℕ, ◌+◌, ◌≤◌, ◌||◌, not, Bool, true, List, [], ◌∷◌, ◌++◌, count_by, filter, length, map, Option, Some, None, is_none, refl, sym, ◌∙◌, ap, subst, arith, length-append, inl, inr}
use Rattle.std.proofs.lemmas.Bool.{and_from, and_parts, cases_Bool, not-true, not_from_false, or_cases, true≢false}
use Rattle.std.proofs.lemmas.List.Sums.{sum_by_push}
use Rattle.std.proofs.lemmas.Option.{none-some, same_Some}
use Rattle.ktm_base.specs.declared.id.Id.{Id}
use Rattle.ktm_base.specs.declared.notify.Notify.{Notify}
use Rattle.ktm_base.specs.declared.id.Label.{Label}
use Rattle.ktm_base.specs.declared.id.Pid.{Pid}
use Rattle.ktm_base.specs.declared.refusal.Refusal.{Refusal}
use Rattle.ktm_base.specs.declared.refusal.Refusal.TheVariants.{MachineDown}
use Rattle.ktm_world.specs.declared.command.Command.{Command}
use Rattle.ktm_world.specs.declared.command.Command.TheVariants.{CreateTransaction, OpenTransaction, CommitTransaction, RollbackTransaction, GetTransactionInformation, CreateResourceManager, OpenResourceManager, RecoverResourceManager, GetNotificationResourceManager, CreateEnlistment, OpenEnlistment, RecoverEnlistment, PrePrepareComplete, PrepareComplete, ReadOnlyEnlistment, CommitComplete, RollbackComplete, SinglePhaseReject, RollbackEnlistment, PrePrepareEnlistment, PrepareEnlistment, CommitEnlistment, SetEnlistmentRecoveryInformation, GetEnlistmentRecoveryInformation, CreateFile, CreateFileTransacted, ReadFile, WriteFile, SetEndOfFile, WriteUnits, GetFileSizeEx, FlushFileBuffers, CloseHandle, DuplicateHandle, Exit}
use Rattle.ktm_world.specs.declared.input.PhaseInput.{PhaseInput}
use Rattle.ktm_world.specs.declared.object.Object.{Object}
use Rattle.ktm_world.specs.declared.object.Phase.{Phase}
use Rattle.ktm_world.specs.declared.object.Phase.TheVariants.{Aborting, Committing, Ended}
use Rattle.ktm_world.specs.declared.object.Transaction.{Transaction}
use Rattle.ktm_world.specs.declared.options.Durability.{Durability}
use Rattle.ktm_world.specs.declared.options.EnlistmentKind.{EnlistmentKind}
use Rattle.ktm_world.specs.declared.reply.Reply.{Reply}
use Rattle.ktm_world.specs.declared.reply.Reply.TheVariants.{Done, Refused}
use Rattle.ktm_world.specs.declared.step.Owed.{Owed}
use Rattle.ktm_world.specs.Decide.{caller, command_effect, command_tests, decide, of_files, on_file, opening, bound_file}
use Rattle.ktm_world.specs.Enlistments.{Enlistment, Manager, Sent, has_id, is_superior, owes_commit, owes_pre_prepare, owes_prepare, owes_rollback, takes_part}
use Rattle.ktm_world.specs.FileCalls.{create_file}
use Rattle.ktm_world.specs.FileOutcome.{FileOutcome}
use Rattle.ktm_world.specs.Files.{OpenFile}
use Rattle.ktm_world.specs.HandleCalls.{bind_to, duplicate_handle}
use Rattle.ktm_world.specs.Handles.{object_at}
use Rattle.ktm_world.specs.Labels.{enlistment_named, file_named, holds_of, manager_named, transaction_named, transaction_tests}
use Rattle.ktm_world.specs.Outcome.{Outcome, apply, first_refusal, only_reply, refuse_or}
use Rattle.ktm_world.specs.Phases.{Course, is_single_phase}
use Rattle.ktm_world.specs.Present.{Present}
use Rattle.ktm_world.specs.Steps.{led, share_of}
use Rattle.ktm_world.specs.TransactionCalls.{answering, is_to_recover, recover_notes, arrived, before_pre_prepare, before_prepare, commit_complete, commit_enlistment, commit_of, commit_reply, commit_transaction, course_of, create_enlistment, create_resource_manager, create_transaction, enlist, enlistment_tests, enlistment_with, get_information, get_notification, get_transaction_information, is_in_doubt, is_voting, keep_information, may_recover, may_reject_one_phase, may_roll_back_by, may_vote, open_enlistment, open_resource_manager, open_to_enlistment, open_to_manager, open_to_transaction, open_transaction, manager_with, transaction_with, phase_passes, pre_prepare_complete, pre_prepare_enlistment, prepare_complete, prepare_enlistment, read_only_enlistment, recover_all, recover_enlistment, recover_resource_manager, recovery_of, rollback_complete, rollback_enlistment, rollback_of, rollback_transaction, rollback_transaction_tests, set_information, single_phase_reject, superior_tests, take_first, tick, transaction_in, waits_for_superior}
use Rattle.ktm_world.specs.Transactions.{change_at, is_undecided, same_id, transaction_at}
use Rattle.ktm_world.specs.World.{decide_tick}
use Rattle.txf_laws.specs.Elements.{IsIn}
use Rattle.txf_laws.proofs.offered.Elements.{list_all-at, not-not}
use Rattle.txf_laws.proofs.offered.Sums.{count-cons, sum-map-by, sum-same}
use Rattle.ktm_steps.proofs.offered.Staying.{stays-led}
use Rattle.ktm_steps.proofs.offered.Ways.{if_cases}
use Rattle.ktm_courses.specs.SoundCourse.{IsSoundCourse, has_transaction, is_unrecovered_well}
use Rattle.ktm_courses.proofs.offered.Arrivals.{brought-now, stands-now}
use Rattle.ktm_courses.proofs.offered.Beginnings.{new_enlistment, sound-clock}
use Rattle.ktm_courses.proofs.offered.Bindings.{StaysSound, stays-closing, stays-then}
use Rattle.ktm_courses.proofs.offered.Calls.{Passes, active-phase, enlistment-allowed, enlistment-named, may-roll, of-answering, passed, phase-passed, rolls, superior-allowed, transaction-named}
use Rattle.ktm_courses.proofs.offered.EnlistmentAnswers.{answer_in, can_roll_back, is-aborting, is-committing, is-pre_preparing, is-preparing, owed-commit, owed-pre_prepare, owed-prepare, owed-rollback, phase-owing, takes_part-owing}
use Rattle.ktm_courses.proofs.offered.HandlesAndTime.{Closes, close_handle-so, exit-so, tick-so}
use Rattle.ktm_slots.specs.Owed.{most_owed, owed_by, owed_in, owed_slots}
use Rattle.ktm_slots.specs.Slots.{Comes, IsPaid, SlotsLaw, granted_in, is_of_recovery, is_undecided_phase, may_come_from, may_come_in}
use Rattle.ktm_slots.proofs.SlotCourses.{course-paid, few-by, few-in}

-- ---- outcomes

-- a slot for each notification of a recovery
abbrev granted_recovery : Present → Option Manager → ℕ
granted_recovery x None = 0
granted_recovery x (Some m) = length (recover_notes x m.id)

-- so many slots more are taken ahead for this command
abbrev granted : Present → Pid → Command → ℕ
granted x process (CreateEnlistment label manager transaction kind) = most_owed
granted x process (RecoverResourceManager label) = granted_recovery x (manager_named x process label)
granted x process _ = 0

-- what is sent was owed or granted
pub record Pays (x : Present) (o : Outcome) (more : ℕ) : Type 0 where
  pub paid : IsPaid x o more

-- nothing is sent, and as much is owed as before
pays-quiet : (x : Present) (o : Outcome) (more : ℕ) → o.sent ≡ [] → owed_in o.transactions.items o.transactions.enlistments ≡ owed_slots x → Pays x o more
pays-quiet x o more none same = record { paid = let sent = ap length none in omega arith }

pays-reply : (x : Present) (reply : Reply) (more : ℕ) → Pays x (only_reply x reply) more
pays-reply x reply more = pays-quiet x (only_reply x reply) more refl refl

-- where a transaction has come to
pays-arrived : (x : Present) (t : Transaction) (by : Option Enlistment) (input : PhaseInput) (reply : Reply) → IsSoundCourse x → Comes x t by input → Pays x (arrived x (led input (course_of x t by)) reply) 0
pays-arrived x t by input reply sound comes = if_cases (λ o. Pays x o 0) (is_undecided d.transaction) _ _ (λ is. record { paid = paid }) (λ is. record { paid = paid })
  where
    d : Course
    d = led input (course_of x t by)

    paid : length d.sent + owed_in (change_at x.transactions.items d.transaction.id (λ u. d.transaction)) d.enlistments ≤ owed_slots x + 0
    paid =
        let less = course-paid x t by input sound comes in
        let same = ap (λ id. owed_in (change_at x.transactions.items id (λ u. d.transaction)) d.enlistments) (stays-led input (course_of x t by)).id in
        omega arith

-- ---- calls on objects

-- a transaction that is there is found among more
at-more : (ts us : List Transaction) (id : Id) → has_transaction ts id ≡ true → transaction_at (ts ++ us) id ≡ transaction_at ts id
at-more [] us id there = absurd (true≢false (sym there))
at-more (t ∷ ts) us id there = elim (cases_Bool (same_id t.id id)) [ inl is ↦ rw is refl | inr other ↦ rw other (at-more ts us id (rw other at there)) ]

owed-more : (ts us : List Transaction) (es : List Enlistment) → ((e : Enlistment) → IsIn e es → has_transaction ts e.transaction ≡ true) → owed_in (ts ++ us) es ≡ owed_in ts es
owed-more ts us es there = sum-same (λ e. owed_by (transaction_at (ts ++ us) e.transaction) e) (λ e. owed_by (transaction_at ts e.transaction) e) es (λ e is. ap (λ o. owed_by o e) (at-more ts us e.transaction (there e is)))

pays-create_transaction : (x : Present) (process : Pid) (label : Label) (timeout : ℕ) → IsSoundCourse x → Pays x (create_transaction x process label timeout) 0
unfolding create_transaction
pays-create_transaction x process label timeout sound = pays-quiet x (create_transaction x process label timeout) 0 refl
    (owed-more x.transactions.items _ x.transactions.enlistments (list_all-at (λ (e : Enlistment). has_transaction x.transactions.items e.transaction) x.transactions.enlistments sound.enlistments.transactions_there))

pays-open_transaction : (x : Present) (process : Pid) (label : Label) (o : Option Transaction) → Pays x (open_to_transaction x process label o) 0
pays-open_transaction x process label None = pays-reply x Done 0
pays-open_transaction x process label (Some t) = pays-quiet x _ 0 refl refl

pays-create_manager : (x : Present) (process : Pid) (label : Label) (durability : Durability) → Pays x (create_resource_manager x process label durability) 0
unfolding create_resource_manager
pays-create_manager x process label durability = pays-quiet x (create_resource_manager x process label durability) 0 refl refl

pays-open_manager : (x : Present) (process : Pid) (label : Label) (o : Option Manager) → Pays x (open_to_manager x process label o) 0
pays-open_manager x process label None = pays-reply x Done 0
pays-open_manager x process label (Some m) = pays-quiet x _ 0 refl refl

pays-recover_all : (x : Present) (o : Option Manager) → Pays x (recover_all x o) (granted_recovery x o)
pays-recover_all x None = pays-reply x Done 0
pays-recover_all x (Some m) = record { paid = omega arith }

-- more may be granted
pays-more : {x : Present} {o : Outcome} {more : ℕ} → Pays x o 0 → Pays x o more
pays-more pays = record { paid = let paid = pays.paid in omega arith }

-- a RECOVER for each of these
abbrev told-again : Id → List Enlistment → List Sent
told-again manager es = map (λ e. record { manager = manager; note = record { kind = Notify.Recover; enlistment = Some e.id } }) es

all-of_recovery : (manager : Id) (es : List Enlistment)
    → count_by is_of_recovery (told-again manager es ++ record { manager = manager; note = record { kind = Notify.LastRecover; enlistment = None } } ∷ [])
    ≡ length (told-again manager es ++ record { manager = manager; note = record { kind = Notify.LastRecover; enlistment = None } } ∷ [])
all-of_recovery manager [] = refl
all-of_recovery manager (e ∷ es) = let rest = all-of_recovery manager es in let more = count-cons is_of_recovery (record { manager = manager; note = record { kind = Notify.Recover; enlistment = Some e.id } }) (told-again manager es ++ record { manager = manager; note = record { kind = Notify.LastRecover; enlistment = None } } ∷ []) in omega (arith, rest, more)

pays-recovery : (x : Present) (o : Option Manager) → Pays x (recover_all x o) (granted_in x (recover_all x o))
pays-recovery x None = pays-reply x Done _
pays-recovery x (Some m) = record { paid = let all = all-of_recovery m.id (filter (is_to_recover x m.id) x.transactions.enlistments) in omega arith }

pays-take_first : (x : Present) (o : Option Manager) → Pays x (take_first x o) 0
pays-take_first x None = pays-reply x Done 0
pays-take_first x (Some m) = pays-quiet x _ 0 refl refl

pays-enlist : (x : Present) (process : Pid) (label : Label) (m : Option Manager) (t : Option Transaction) (kind : EnlistmentKind) → Pays x (enlist x process label m t kind) most_owed
pays-enlist x process label None t kind = pays-reply x Done most_owed
pays-enlist x process label (Some m) None kind = pays-reply x Done most_owed
pays-enlist x process label (Some m) (Some t) kind =
    let e = new_enlistment x m t kind in
    record {
      paid =
          let all = sum_by_push (λ e. owed_by (transaction_at x.transactions.items e.transaction) e) x.transactions.enlistments e in
          let few = few-by (transaction_at x.transactions.items e.transaction) e in
          omega arith;
    }

pays-made : (x : Present) (process : Pid) (label : Label) (m : Option Manager) (t : Option Transaction) (kind : EnlistmentKind) → Pays x (enlist x process label m t kind) (granted_in x (enlist x process label m t kind))
pays-made x process label None t kind = pays-reply x Done _
pays-made x process label (Some m) None kind = pays-reply x Done _
pays-made x process label (Some m) (Some t) kind =
    let paid = (pays-enlist x process label (Some m) (Some t) kind).paid in
    let more = length-append x.transactions.enlistments (new_enlistment x m t kind ∷ []) in
    record { paid = omega arith }

pays-open_enlistment : (x : Present) (process : Pid) (label : Label) (o : Option Enlistment) → Pays x (open_to_enlistment x process label o) 0
pays-open_enlistment x process label None = pays-reply x Done 0
pays-open_enlistment x process label (Some e) = pays-quiet x _ 0 refl refl

-- the recovery information changes nothing of what is owed
owed-informed : (o : Option Transaction) (e : Enlistment) (information : List ℕ) → owed_by o (record e { information = information }) ≡ owed_by o e
owed-informed None e information = refl
owed-informed (Some t) e information = refl

pays-information : (x : Present) (o : Option Enlistment) (information : List ℕ) → Pays x (keep_information x o information) 0
pays-information x None information = pays-reply x Done 0
pays-information x (Some e) information = pays-quiet x _ 0 refl
    (sum-map-by (λ e. owed_by (transaction_at x.transactions.items e.transaction) e) step x.transactions.enlistments
    ∙ sum-same (λ f. owed_by (transaction_at x.transactions.items (step f).transaction) (step f)) (λ f. owed_by (transaction_at x.transactions.items f.transaction) f) x.transactions.enlistments (λ f there.
    if_cases (λ g. owed_by (transaction_at x.transactions.items g.transaction) g ≡ owed_by (transaction_at x.transactions.items f.transaction) f) (has_id e.id f) (record f { information = information }) f (λ is. owed-informed (transaction_at x.transactions.items f.transaction) f information) (λ is. refl)))
  where
    step : Enlistment → Enlistment
    step f = if has_id e.id f then record f { information = information } else f

pays-bind : (x : Present) (process : Pid) (label : Label) (o : Option Object) → Pays x (bind_to x process label o) 0
pays-bind x process label None = pays-reply x Done 0
pays-bind x process label (Some object) = pays-quiet x _ 0 refl refl

-- ---- calls on files

pays-files : (x : Present) (who : Option Id) (o : FileOutcome) → Pays x (of_files x who o) 0
pays-files x who o = pays-quiet x (of_files x who o) 0 refl refl

pays-opening : (x : Present) (process : Pid) (label : Label) (who : Option Id) (o : FileOutcome) → Pays x (opening x process label who o) 0
pays-opening x process label who o = go o.opened
  where
    go : (opened : Option OpenFile) → Pays x (bound_file process label opened (of_files x who o)) 0
    go None = pays-files x who o
    go (Some file) = pays-quiet x _ 0 refl refl

pays-on_file : (x : Present) (o : Option OpenFile) (call : OpenFile → FileOutcome) → Pays x (on_file x o call) 0
pays-on_file x None call = pays-reply x Done 0
pays-on_file x (Some o) call = pays-files x o.transaction (call o)

-- ---- transactions

undecided-phase : (phase : Phase) → can_roll_back phase ≡ true → is_undecided_phase phase ≡ true
undecided-phase Committing can = can
undecided-phase Aborting can = can
undecided-phase Ended can = can
undecided-phase _ can = refl

rolling : (x : Present) (t : Transaction) → IsIn t x.transactions.items → can_roll_back t.phase ≡ true → Comes x t None PhaseInput.Rollback
rolling x t there can = record { there = there; calls = λ e is. absurd (none-some e is); phase = undecided-phase t.phase can; from = refl }

pays-commit : (x : Present) (o : Option Transaction) → IsSoundCourse x → ((t : Transaction) → o ≡ Some t → IsIn t x.transactions.items) → Passes (transaction_tests o) → Pays x (commit_of x o) 0
pays-commit x None sound there tests = pays-reply x Done 0
pays-commit x (Some t) sound there tests =
    let here = passed tests in let committed = passed here.1 in let aborted = passed committed.1 in let active = passed aborted.1 in
    let is = active-phase t (not-not _ active.0) in
    pays-arrived x t None PhaseInput.CommitTransaction (commit_reply (led PhaseInput.CommitTransaction (course_of x t None))) sound
    (record { there = there t refl; calls = λ e none. absurd (none-some e none); phase = ap (may_come_in PhaseInput.CommitTransaction) is; from = refl })

pays-rollback : (x : Present) (o : Option Transaction) → IsSoundCourse x → ((t : Transaction) → o ≡ Some t → IsIn t x.transactions.items) → Passes (rollback_transaction_tests o) → Pays x (rollback_of x o) 0
pays-rollback x None sound there tests = pays-reply x Done 0
pays-rollback x (Some t) sound there tests =
    let here = passed tests in let committed = passed here.1 in let aborted = passed committed.1 in let may = passed aborted.1 in
    pays-arrived x t None PhaseInput.Rollback Done sound (rolling x t (there t refl) (may-roll t (not-not _ may.0)))

-- ---- enlistments

-- this may come to its transaction
abbrev Answers : Present → PhaseInput → Enlistment → Type 0
Answers x input e = (t : Transaction) → IsIn t x.transactions.items → same_id e.transaction t.id ≡ true → transaction_in x e ≡ Some t → (may_come_in input t.phase ≡ true) × (may_come_from input t.id (Some e) ≡ true)

-- one that recovers is not read-only, and a superior does so while its transaction is in doubt
recovering : (boot : ℕ) (ms : List Manager) (e : Enlistment) (t : Transaction) → same_id e.transaction t.id ≡ true → not e.is_recovered ≡ true → (not (is_superior e) || is_in_doubt t) ≡ true → is_unrecovered_well boot ms e ≡ true
    → (may_come_in (recovery_of e) t.phase ≡ true) × (may_come_from (recovery_of e) t.id (Some e) ≡ true)
recovering boot ms e t own back doubt well = if_cases (λ input. (may_come_in input t.phase ≡ true) × (may_come_from input t.id (Some e) ≡ true)) (is_superior e) PhaseInput.RecoverSuperior PhaseInput.Recover
    (λ above. (in_doubt above, and_from _ _ (and_from _ _ own above) back))
    (λ below. (refl, and_from _ _ (and_from _ _ (and_from _ _ own (not_from_false _ below)) takes) back))
  where
    in_doubt : is_superior e ≡ true → is_in_doubt t ≡ true
    in_doubt above = elim (or_cases (not (is_superior e)) (is_in_doubt t) doubt) [ inl below ↦ absurd (true≢false (sym above ∙ not-true _ below)) | inr is ↦ is ]

    takes : not e.is_read_only ≡ true
    takes = elim (or_cases e.is_recovered _ well) [
      | inl recovered ↦ absurd (true≢false (sym recovered ∙ not-true _ back))
      | inr was ↦
          let prepared = and_parts _ (is_superior e || e.is_prepared) was in
          let owing = and_parts _ (is_none e.owes) prepared.0 in
          let finished = and_parts _ (not e.is_finished) owing.0 in
          (and_parts _ (not e.is_read_only) finished.0).1
    ]

module _ (x : Present) (sound : IsSoundCourse x) (o : Option Enlistment) (there : (e : Enlistment) → o ≡ Some e → IsIn e x.transactions.enlistments) where
  pays-answering : (input : Enlistment → PhaseInput) → ((e : Enlistment) → o ≡ Some e → Answers x (input e) e) → Pays x (answering x o input) 0
  pays-answering input answers = of-answering (λ o. Pays x o 0) x o input (pays-reply x Done 0) (λ e is t at own found.
      let may = answers e is t at own found in
      pays-arrived x t (Some e) (input e) Done sound (record { there = at; calls = λ f same. subst (λ g. IsIn g x.transactions.enlistments) (same_Some e f same) (there e is); phase = may.0; from = may.1 }))

  module _ (e : Enlistment) (is : o ≡ Some e) (t : Transaction) (at : IsIn t x.transactions.items) (own : same_id e.transaction t.id ≡ true) (owed : Owed) (owes : e.owes ≡ Some owed) where
    asked : answer_in t.phase ≡ Some owed
    asked = phase-owing x.recorded.boots (course_of x t (Some e)) e (stands-now x t (Some e) sound at) (brought-now x t (Some e) sound) sound.enlistments.rise (there e is) own owed owes

    takes : takes_part t.id e ≡ true
    takes = takes_part-owing x.recorded.boots (course_of x t (Some e)) e (stands-now x t (Some e) sound at) (brought-now x t (Some e) sound) sound.enlistments.rise (there e is) own owed owes

  pays-pre_prepare_complete : Passes (enlistment_tests o owes_pre_prepare) → Pays x (answering x o (λ e. PhaseInput.PrePrepareComplete)) 0
  pays-pre_prepare_complete tests = pays-answering _ (λ e is t at own found.
      (ap (may_come_in PhaseInput.PrePrepareComplete) (is-pre_preparing t.phase (asked e is t at own Owed.PrePrepare (owed-pre_prepare e (enlistment-allowed o owes_pre_prepare e is tests)))), refl))

  pays-prepare_complete : Passes (enlistment_tests o owes_prepare) → Pays x (answering x o (λ e. PhaseInput.PrepareComplete)) 0
  pays-prepare_complete tests = pays-answering _ (λ e is t at own found.
      (ap (may_come_in PhaseInput.PrepareComplete) (is-preparing t.phase (asked e is t at own Owed.Prepare (owed-prepare e (enlistment-allowed o owes_prepare e is tests)))), refl))

  pays-read_only : Passes (enlistment_tests o (may_vote x)) → Pays x (answering x o (λ e. PhaseInput.ReadOnly (share_of e))) 0
  pays-read_only tests = pays-answering _ (λ e is t at own found. (phase-passed x is_voting e t found (and_parts _ (phase_passes x is_voting e) (enlistment-allowed o (may_vote x) e is tests)).1, refl))

  pays-commit_complete : Passes (enlistment_tests o owes_commit) → Pays x (answering x o (λ e. PhaseInput.CommitComplete)) 0
  pays-commit_complete tests = pays-answering _ (λ e is t at own found. (
    elim (is-committing t.phase (asked e is t at own Owed.Commit (owed-commit e (enlistment-allowed o owes_commit e is tests)))) [
      | inl phase ↦ ap (may_come_in PhaseInput.CommitComplete) phase
      | inr phase ↦ ap (may_come_in PhaseInput.CommitComplete) phase
    ],
    refl,
  ))

  pays-rollback_complete : Passes (enlistment_tests o owes_rollback) → Pays x (answering x o (λ e. PhaseInput.RollbackComplete)) 0
  pays-rollback_complete tests = pays-answering _ (λ e is t at own found.
      (ap (may_come_in PhaseInput.RollbackComplete) (is-aborting t.phase (asked e is t at own Owed.Rollback (owed-rollback e (enlistment-allowed o owes_rollback e is tests)))), refl))

  pays-reject : Passes (enlistment_tests o (may_reject_one_phase x)) → Pays x (answering x o (λ e. PhaseInput.SinglePhaseReject)) 0
  pays-reject tests = pays-answering _ (λ e is t at own found.
      let may = and_parts (phase_passes x is_single_phase e) (owes_commit e) (enlistment-allowed o (may_reject_one_phase x) e is tests) in
      (phase-passed x is_single_phase e t found may.0, takes e is t at own Owed.Commit (owed-commit e may.1)))

  pays-rollback_enlistment : Passes (enlistment_tests o (may_roll_back_by x)) → Pays x (answering x o (λ e. PhaseInput.Rollback)) 0
  pays-rollback_enlistment tests = pays-answering _ (λ e is t at own found. (undecided-phase t.phase (rolls x sound o there e t found (enlistment-allowed o (may_roll_back_by x) e is tests)), refl))

  pays-pre_prepare : Passes (superior_tests x o before_pre_prepare) → Pays x (answering x o (λ e. PhaseInput.PrePrepare)) 0
  pays-pre_prepare tests = pays-answering _ (λ e is t at own found. (phase-passed x before_pre_prepare e t found (superior-allowed x o before_pre_prepare e is tests), refl))

  pays-prepare : Passes (superior_tests x o before_prepare) → Pays x (answering x o (λ e. PhaseInput.Prepare)) 0
  pays-prepare tests = pays-answering _ (λ e is t at own found. (phase-passed x before_prepare e t found (superior-allowed x o before_prepare e is tests), refl))

  pays-decide : Passes (superior_tests x o waits_for_superior) → Pays x (answering x o (λ e. PhaseInput.Commit)) 0
  pays-decide tests = pays-answering _ (λ e is t at own found. (phase-passed x waits_for_superior e t found (superior-allowed x o waits_for_superior e is tests), refl))

  pays-recover : Passes (enlistment_tests o (may_recover x)) → Pays x (answering x o recovery_of) 0
  pays-recover tests = pays-answering recovery_of (λ e is t at own found.
      let may = and_parts (not e.is_recovered) (not (is_superior e) || holds_of is_in_doubt (transaction_in x e)) (enlistment-allowed o (may_recover x) e is tests) in
      let well = list_all-at (is_unrecovered_well x.recorded.boots x.managers) x.transactions.enlistments sound.enlistments.unrecovered e (there e is) in
      recovering x.recorded.boots x.managers e t own may.0 (subst (λ (u : Option Transaction). (not (is_superior e) || holds_of is_in_doubt u) ≡ true) found may.1) well)

-- ---- handles and time

-- a sound machine stays so, and what is sent was owed
record Closing (x : Present) (o : Outcome) : Type 0 where
  sound : StaysSound x o
  pays : Pays x o 0

pays-closing : Closes IsSoundCourse Closing
pays-closing = record {
  rolls = record {
    reply = λ x sound. record { sound = stays-closing.rolls.reply x sound; pays = pays-reply x Done 0 };
    rolls = λ x t sound there can. record { sound = stays-closing.rolls.rolls x t sound there can; pays = pays-arrived x t None PhaseInput.Rollback Done sound (rolling x t there can) };
    goes_on = λ x a next first second.
        let rest = second first.sound.sound in
        record {
          sound = stays-then x a next first.sound (λ sound. (second sound).sound);
          pays = record { paid = let before = first.pays.paid in let after = rest.pays.paid in let sent = length-append a.sent (next (apply x a)).sent in omega arith };
        };
  };
  unbinds = λ x process label sound. record { sound = stays-closing.unbinds x process label sound; pays = pays-quiet x _ 0 refl refl };
  ends = λ x number sound. record { sound = stays-closing.ends x number sound; pays = pays-quiet x _ 0 refl refl };
}

pays-tick : (x : Present) (ms : ℕ) → IsSoundCourse x → Pays x (tick x ms) 0
pays-tick x ms sound = record { paid = (tick-so IsSoundCourse Closing pays-closing.rolls x ms (sound-clock x ms sound)).pays.paid }

-- ---- every command

module _ (x : Present) (sound : IsSoundCourse x) where
  effect-pays : (process : Pid) (command : Command) → Passes (command_tests x process command) → Pays x (command_effect x process command) (granted x process command)
  unfolding open_transaction commit_transaction rollback_transaction get_transaction_information open_resource_manager recover_resource_manager get_notification create_enlistment open_enlistment pre_prepare_complete prepare_complete read_only_enlistment commit_complete rollback_complete single_phase_reject rollback_enlistment pre_prepare_enlistment prepare_enlistment commit_enlistment recover_enlistment set_information get_information duplicate_handle
  effect-pays process (CreateTransaction label timeout) passes = pays-create_transaction x process label timeout sound
  effect-pays process (OpenTransaction label guid) passes = pays-open_transaction x process label (transaction_with x guid)
  effect-pays process (CommitTransaction label) passes = pays-commit x (transaction_named x process label) sound (transaction-named x process label) passes
  effect-pays process (RollbackTransaction label) passes = pays-rollback x (transaction_named x process label) sound (transaction-named x process label) passes
  effect-pays process (GetTransactionInformation label) passes = pays-reply x _ 0
  effect-pays process (CreateResourceManager label durability) passes = pays-create_manager x process label durability
  effect-pays process (OpenResourceManager label guid) passes = pays-open_manager x process label (manager_with x guid)
  effect-pays process (RecoverResourceManager label) passes = pays-recover_all x (manager_named x process label)
  effect-pays process (GetNotificationResourceManager label) passes = pays-take_first x (manager_named x process label)
  effect-pays process (CreateEnlistment label manager transaction kind) passes = pays-enlist x process label (manager_named x process manager) (transaction_named x process transaction) kind
  effect-pays process (OpenEnlistment label manager guid) passes = pays-open_enlistment x process label (enlistment_with x (manager_named x process manager) guid)
  effect-pays process (RecoverEnlistment label) passes = pays-recover x sound (enlistment_named x process label) (enlistment-named x process label) passes
  effect-pays process (PrePrepareComplete label) passes = pays-pre_prepare_complete x sound (enlistment_named x process label) (enlistment-named x process label) passes
  effect-pays process (PrepareComplete label) passes = pays-prepare_complete x sound (enlistment_named x process label) (enlistment-named x process label) passes
  effect-pays process (ReadOnlyEnlistment label) passes = pays-read_only x sound (enlistment_named x process label) (enlistment-named x process label) passes
  effect-pays process (CommitComplete label) passes = pays-commit_complete x sound (enlistment_named x process label) (enlistment-named x process label) passes
  effect-pays process (RollbackComplete label) passes = pays-rollback_complete x sound (enlistment_named x process label) (enlistment-named x process label) passes
  effect-pays process (SinglePhaseReject label) passes = pays-reject x sound (enlistment_named x process label) (enlistment-named x process label) passes
  effect-pays process (RollbackEnlistment label) passes = pays-rollback_enlistment x sound (enlistment_named x process label) (enlistment-named x process label) passes
  effect-pays process (PrePrepareEnlistment label) passes = pays-pre_prepare x sound (enlistment_named x process label) (enlistment-named x process label) passes
  effect-pays process (PrepareEnlistment label) passes = pays-prepare x sound (enlistment_named x process label) (enlistment-named x process label) passes
  effect-pays process (CommitEnlistment label) passes = pays-decide x sound (enlistment_named x process label) (enlistment-named x process label) passes
  effect-pays process (SetEnlistmentRecoveryInformation label information) passes = pays-information x (enlistment_named x process label) information
  effect-pays process (GetEnlistmentRecoveryInformation label) passes = pays-reply x _ 0
  effect-pays process (CreateFile label path access share disposition) passes = pays-opening x process label None (create_file x.files None path access share disposition)
  effect-pays process (CreateFileTransacted label path access share disposition transaction) passes = pays-opening x process label (caller x process transaction) (create_file x.files (caller x process transaction) path access share disposition)
  effect-pays process (ReadFile file offset many) passes = pays-on_file x (file_named x process file) _
  effect-pays process (WriteFile file offset bytes) passes = pays-on_file x (file_named x process file) _
  effect-pays process (SetEndOfFile file size) passes = pays-on_file x (file_named x process file) _
  effect-pays process (WriteUnits file start contents) passes = pays-on_file x (file_named x process file) _
  effect-pays process (GetFileSizeEx file) passes = pays-on_file x (file_named x process file) _
  effect-pays process (FlushFileBuffers file) passes = pays-on_file x (file_named x process file) _
  effect-pays process (CloseHandle label) passes = (close_handle-so IsSoundCourse Closing pays-closing x process label sound).pays
  effect-pays process (DuplicateHandle label from source) passes = pays-bind x process label (object_at x.handles from source)
  effect-pays process Exit passes = (exit-so IsSoundCourse Closing pays-closing x process sound).pays
  effect-pays process _ passes = pays-quiet x _ 0 refl refl

  -- what is granted is seen from the outcome
  effect-grants : (process : Pid) (command : Command) → Passes (command_tests x process command) → Pays x (command_effect x process command) (granted_in x (command_effect x process command))
  unfolding recover_resource_manager create_enlistment
  effect-grants process (RecoverResourceManager label) passes = pays-recovery x (manager_named x process label)
  effect-grants process (CreateEnlistment label manager transaction kind) passes = pays-made x process label (manager_named x process manager) (transaction_named x process transaction) kind
  effect-grants process command passes = pays-more (effect-pays process command passes)

  -- refused or not
  refuse_or-pays : (more : Outcome → ℕ) (tests : List (Bool × Refusal)) (effect : Outcome) → (Passes tests → Pays x effect (more effect)) → Pays x (refuse_or x (first_refusal tests) effect) (more (refuse_or x (first_refusal tests) effect))
  refuse_or-pays more tests effect is = go (first_refusal tests) refl
    where
      go : (refusal : Option Refusal) → first_refusal tests ≡ refusal → Pays x (refuse_or x refusal effect) (more (refuse_or x refusal effect))
      go (Some refusal) refused = pays-reply x (Refused refusal) (more (only_reply x (Refused refusal)))
      go None none = is (record { none = none })

  decided-pays : (process : Pid) (command : Command) → Pays x (decide x process command) (granted_in x (decide x process command))
  decided-pays process command =
      refuse_or-pays (granted_in x) ((not x.machine.is_up, MachineDown) ∷ command_tests x process command) (command_effect x process command) (λ passes. effect-grants process command (passed passes).1)

  later-pays : (ms : ℕ) → Pays x (decide_tick x ms) 0
  later-pays ms = refuse_or-pays (λ o. 0) ((not x.machine.is_up, MachineDown) ∷ []) (tick x ms) (λ passes. pays-tick x ms sound)

pub slots_law : SlotsLaw
slots_law = record {
  courses = course-paid;
  commands = λ x process command sound. (decided-pays x sound process command).paid;
  ticks = λ x ms sound. (later-pays x sound ms).paid;
  few = λ x. few-in x.transactions.items x.transactions.enlistments;
}
