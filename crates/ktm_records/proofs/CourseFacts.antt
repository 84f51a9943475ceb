-- What the calls on transactions and enlistments record applies, but for the limits.
use Rattle.std.proofs.Common.{◌≡◌, ◌&&◌, not, true, false, nat_lt, Option, Some, None, refl, sym, ◌∙◌, ap, subst, inl, inr, []}
use Rattle.std.proofs.lemmas.Bool.{and_from, and_parts, not-true, not_from_false, or_cases, true≢false, false_from_ne_true}
use Rattle.std.proofs.lemmas.Option.{none-some, same_Some}
use Rattle.ktm_world.specs.declared.input.PhaseInput.{PhaseInput}
use Rattle.ktm_world.specs.declared.object.Phase.{Phase}
use Rattle.ktm_world.specs.declared.object.Phase.TheVariants.{Held, InDoubt, Committing, Aborting, Ended}
use Rattle.ktm_world.specs.declared.object.Transaction.{Transaction}
use Rattle.ktm_world.specs.declared.recorded.Stage.{Stage}
use Rattle.ktm_world.specs.declared.reply.Reply.TheVariants.{Done}
use Rattle.ktm_world.specs.declared.step.Owed.{Owed}
use Rattle.ktm_world.specs.Durable.{is_new_enlistment, is_ready}
use Rattle.ktm_world.specs.Enlistments.{Enlistment, is_durable_at, is_open_for_votes, is_superior, owes_commit, owes_pre_prepare, owes_prepare, takes_part}
use Rattle.ktm_world.specs.Labels.{transaction_tests}
use Rattle.ktm_world.specs.Lawful.{stage_in}
use Rattle.ktm_world.specs.Phases.{is_single_phase}
use Rattle.ktm_world.specs.Present.{Present}
use Rattle.ktm_world.specs.Steps.{led, share_of, basis, seen}
use Rattle.ktm_world.specs.TransactionCalls.{answering, before_pre_prepare, before_prepare, commit_of, commit_reply, course_of, enlistment_tests, is_voting, may_roll_back_by, may_vote, phase_passes, rollback_of, rollback_transaction_tests, superior_tests, transaction_in, waits_for_superior, recovery_of}
use Rattle.ktm_world.specs.Transactions.{is_undecided, same_id}
use Rattle.txf_laws.specs.Elements.{IsIn}
use Rattle.ktm_records.specs.Kept.{IsKept, facts_apply}
use Rattle.ktm_courses.specs.SoundCourse.{has_durable_part, is_outcome_of, is_part_as, is_phase_back, is_recorded_as, owes_until_finished}
use Rattle.ktm_courses.proofs.offered.EnlistmentAnswers.{here-from, is-committing, is-pre_preparing, owed-commit, owed-pre_prepare, part_preparing, phase-owing, phase_preparing, takes_part-owing, unprepared, until-owed}
use Rattle.ktm_courses.proofs.offered.Arrivals.{brought-now, stands-now}
use Rattle.ktm_courses.proofs.offered.Calls.{Passes, active-phase, enlistment-allowed, may-roll, passed, phase-passed, rolls, superior-allowed, of-answering}
use Rattle.txf_laws.proofs.offered.Elements.{list_all-at, list_any-from, not-not}
use Rattle.ktm_records.proofs.offered.AgreementOfCourses.{arrival}
use Rattle.ktm_records.proofs.LoggedStages.{can-decide, can-finish, may-ready, new-part}
use Rattle.ktm_courses.proofs.offered.Moves.{same-by_id, of-superior}
use Rattle.ktm_courses.proofs.offered.Endings.{Stands, part-parts}
use Rattle.ktm_records.proofs.CourseRecords.{Apply, MayReady, apply-commit_completes, apply-commits, apply-prepare_completes, apply-read_onlies, apply-ways}
use Rattle.txf_laws.proofs.offered.Tables.{same_id-equal}
use Rattle.ktm_records.proofs.UndoFacts.{FactsOf, facts-aborted_by}
use Rattle.ktm_steps.proofs.offered.Recorded.{led-events, records_nothing, silent-led, silent-recovery}
use Rattle.ktm_steps.proofs.offered.Lists.{Pass, row_lists}
use Rattle.ktm_steps.proofs.offered.Ways.{Ways, pre_prepares-by, prepares-by, proceeds-by, requests-by, if_cases}
use Rattle.ktm_world.specs.Rows.{is_last, proceeds, row}
use Rattle.ktm_records.proofs.offered.Stages.{early-pre_prepare, early-prepare, early-unrecorded, early-voting, is_early, voting-stage, waiting-held, waiting-recorded}

-- ---- phases

-- a transaction that the log may have ready is undecided, and of this boot
ready-phase : (phase : Phase) → stage_in phase ≡ Some Stage.Ready → (is_phase_back phase ≡ false) × ((t : Transaction) → is_outcome_of phase t ≡ true → is_undecided t ≡ true)
ready-phase Held is = absurd (true≢false (sym (ap is_ready (same_Some _ _ is))))
ready-phase InDoubt is = absurd (true≢false (sym (ap is_ready (same_Some _ _ is))))
ready-phase Committing is = absurd (true≢false (sym (ap is_ready (same_Some _ _ is))))
ready-phase Aborting is = absurd (none-some _ is)
ready-phase Ended is = absurd (none-some _ is)
ready-phase _ is = (refl, λ t is'. is')

module _ (x : Present) (kept : IsKept x) where
  -- ---- a transaction on its way

  module _ (t : Transaction) (there : IsIn t x.transactions.items) (caller : Option Enlistment) where
    stands : Stands x.recorded.boots (course_of x t caller)
    stands = stands-now x t caller kept.sound.course there

    is-recorded : is_recorded_as t.phase x.managers x.transactions.enlistments t.id t.is_recorded ≡ true
    is-recorded = list_all-at (λ t. is_recorded_as t.phase x.managers x.transactions.enlistments t.id t.is_recorded) x.transactions.items kept.sound.course.phases.recorded t there

    module _ (is : stage_in t.phase ≡ Some Stage.Ready) where
      here : nat_lt t.id.boot x.recorded.boots ≡ false
      here = here-from x.recorded.boots t (ready-phase t.phase is).0 stands.boots

      undecided' : is_undecided t ≡ true
      undecided' = (ready-phase t.phase is).1 t stands.outcome

      readies : MayReady x.recorded (basis (course_of x t caller)) false false
      readies = may-ready x kept t there caller is here undecided'

      -- an enlistment that is not prepared is new to the log
      is-new : (e : Enlistment) → IsIn e x.transactions.enlistments → same_id e.transaction t.id ≡ true → e.is_prepared ≡ false → is_durable_at x.managers e.manager ≡ true → is_new_enlistment x.recorded e.id e.manager e.information ≡ true
      is-new e in_es own other durable = new-part x kept t there caller is here undecided' e in_es own durable (inr other)

    is-unrecorded : is_early t.phase ≡ true → t.is_recorded ≡ false
    is-unrecorded early = early-unrecorded t.phase x.managers x.transactions.enlistments t.id t.is_recorded early is-recorded

    ways : is_early t.phase ≡ true → Ways (λ steps. Apply x.recorded steps (basis (course_of x t caller))) (seen (course_of x t caller))
    ways early = apply-ways x.recorded (basis (course_of x t caller)) (seen (course_of x t caller)) refl refl (readies (voting-stage t.phase (early-voting t.phase early))) (is-unrecorded early)

  -- ---- calls on transactions

  -- what its row records applies
  by-row : (input : PhaseInput) (t : Transaction) (caller : Option Enlistment) → Apply x.recorded (row (seen (course_of x t caller)) input) (basis (course_of x t caller)) → facts_apply x.recorded (led input (course_of x t caller)).events ≡ true
  by-row input t caller applies = ap (facts_apply x.recorded) (led-events input (course_of x t caller) refl) ∙ applies

  pub facts-commit_of : (o : Option Transaction) → ((t : Transaction) → o ≡ Some t → IsIn t x.transactions.items) → Passes (transaction_tests o) → FactsOf x (commit_of x o)
  facts-commit_of None there tests = refl
  facts-commit_of (Some t) there tests =
      let here = passed tests in let committed = passed here.1 in let aborted = passed committed.1 in let active = passed aborted.1 in
      let early = ap is_early (active-phase t (not-not _ active.0)) in
      let c = course_of x t None in
      ap (facts_apply x.recorded) (arrival x (led PhaseInput.CommitTransaction c) (commit_reply (led PhaseInput.CommitTransaction c))).events ∙ by-row PhaseInput.CommitTransaction t None (requests-by (λ steps. Apply x.recorded steps (basis c)) (seen c) (ways t (there t refl) None early))

  pub facts-rollback_of : (o : Option Transaction) → ((t : Transaction) → o ≡ Some t → IsIn t x.transactions.items) → Passes (rollback_transaction_tests o) → FactsOf x (rollback_of x o)
  facts-rollback_of None there tests = refl
  facts-rollback_of (Some t) there tests =
      let here = passed tests in let committed = passed here.1 in let aborted = passed committed.1 in let may = passed aborted.1 in
      facts-aborted_by x kept.sound.course kept.agrees t (there t refl) (may-roll t (not-not _ may.0)) None Done

  -- ---- calls of enlistments

  answers : (o : Option Enlistment) (input : Enlistment → PhaseInput)
      → ((e : Enlistment) → o ≡ Some e → (t : Transaction) → IsIn t x.transactions.items → same_id e.transaction t.id ≡ true → transaction_in x e ≡ Some t → facts_apply x.recorded (led (input e) (course_of x t (Some e))).events ≡ true)
      → FactsOf x (answering x o input)
  answers o input each = of-answering (FactsOf x) x o input refl (λ e is t at own found. ap (facts_apply x.recorded) (arrival x (led (input e) (course_of x t (Some e))) Done).events ∙ each e is t at own found)

  module _ (o : Option Enlistment) (in_es : (e : Enlistment) → o ≡ Some e → IsIn e x.transactions.enlistments) where
    pub facts-pre_prepare_complete : Passes (enlistment_tests o owes_pre_prepare) → FactsOf x (answering x o (λ e. PhaseInput.PrePrepareComplete))
    facts-pre_prepare_complete tests = answers o (λ e. PhaseInput.PrePrepareComplete) (λ e is t at own found.
        let owes = enlistment-allowed o owes_pre_prepare e is tests in
        let phase = is-pre_preparing t.phase (phase-owing x.recorded.boots (course_of x t (Some e)) e (stands t at (Some e)) (brought-now x t (Some e) kept.sound.course) kept.sound.course.enlistments.rise (in_es e is) own Owed.PrePrepare (owed-pre_prepare e owes)) in
        let early = ap is_early phase in
        let c = course_of x t (Some e) in
        by-row PhaseInput.PrePrepareComplete t (Some e) (if_cases (λ steps. Apply x.recorded steps (basis c)) (is_last (seen c)) (proceeds (seen c)) [] (λ last. proceeds-by (λ steps. Apply x.recorded steps (basis c)) (seen c) (ways t at (Some e) early)) (λ waits. refl)))

    pub facts-prepare_complete : Passes (enlistment_tests o owes_prepare) → FactsOf x (answering x o (λ e. PhaseInput.PrepareComplete))
    facts-prepare_complete tests = answers o (λ e. PhaseInput.PrepareComplete) (λ e is t at own found.
        let owes = enlistment-allowed o owes_prepare e is tests in
        let c = course_of x t (Some e) in
        let brought = brought-now x t (Some e) kept.sound.course in
        let rise = kept.sound.course.enlistments.rise in
        let phase = phase_preparing x.recorded.boots c e (stands t at (Some e)) brought rise (in_es e is) own owes in
        let part = part_preparing x.recorded.boots c e (stands t at (Some e)) brought rise (in_es e is) own owes in
        let ready : stage_in t.phase ≡ Some Stage.Ready = ap stage_in phase in
        by-row PhaseInput.PrepareComplete t (Some e) (apply-prepare_completes x.recorded (basis c) (seen c) e (readies t at (Some e) ready)
        (λ durable. is-new t at (Some e) ready e (in_es e is) own (unprepared x.recorded.boots c e (stands t at (Some e)) brought rise (in_es e is) own owes).0 durable)
        (of-superior (λ f. same_id e.id f.id ≡ false) x.transactions.enlistments t.id (λ f there above. false_from_ne_true _ (λ same.
        let one : e ≡ f = same-by_id (λ (g : Enlistment). g.id) x.transactions.enlistments rise e f (in_es e is) there (same_id-equal e.id f.id same) in
        true≢false (sym (and_parts (same_id f.transaction t.id) (is_superior f) above).1 ∙ ap is_superior (sym one) ∙ (part-parts t.id e part).1))))))

    pub facts-read_only : Passes (enlistment_tests o (may_vote x)) → FactsOf x (answering x o (λ e. PhaseInput.ReadOnly (share_of e)))
    facts-read_only tests = answers o (λ e. PhaseInput.ReadOnly (share_of e)) (λ e is t at own found.
        let may = enlistment-allowed o (may_vote x) e is tests in
        let voting = phase-passed x is_voting e t found (and_parts (not (is_superior e) && is_open_for_votes e) (phase_passes x is_voting e) may).1 in
        let c = course_of x t (Some e) in
        by-row (PhaseInput.ReadOnly (share_of e)) t (Some e) (apply-read_onlies x.recorded (basis c) (seen c) (share_of e) refl refl (readies t at (Some e) (voting-stage t.phase voting)) (λ phase. is-unrecorded t at (Some e) (ap is_early phase))))

    pub facts-commit_complete : Passes (enlistment_tests o owes_commit) → FactsOf x (answering x o (λ e. PhaseInput.CommitComplete))
    facts-commit_complete tests = answers o (λ e. PhaseInput.CommitComplete) (λ e is t at own found.
        let c = course_of x t (Some e) in
        let brought = brought-now x t (Some e) kept.sound.course in
        let rise = kept.sound.course.enlistments.rise in
        let owed = owed-commit e (enlistment-allowed o owes_commit e is tests) in
        let part = takes_part-owing x.recorded.boots c e (stands t at (Some e)) brought rise (in_es e is) own Owed.Commit owed in
        by-row PhaseInput.CommitComplete t (Some e) (apply-commit_completes x.recorded (basis c) t.phase e (λ several durable. elim (is-committing t.phase (phase-owing x.recorded.boots c e (stands t at (Some e)) brought rise (in_es e is) own Owed.Commit owed)) [
          | inr single ↦ absurd (true≢false (ap is_single_phase (sym single) ∙ several))
          | inl phase ↦
              let both = and_parts e.is_prepared (owes_until_finished owes_commit e) (subst (λ p. is_part_as p e ≡ true) phase (((stands t at (Some e)).stand).parts e (in_es e is) part)) in
              let unfinished = (until-owed owes_commit e Owed.Commit owed both.1).2 in
              can-finish x kept t at (Some e) (recorded-committing t at (Some e) phase e (in_es e is) part durable unfinished) (ap stage_in phase) e (in_es e is) part durable both.0 unfinished
        ])))
      where
        recorded-committing : (t : Transaction) (at : IsIn t x.transactions.items) (caller : Option Enlistment) → t.phase ≡ Committing → (e : Enlistment) → IsIn e x.transactions.enlistments → takes_part t.id e ≡ true → is_durable_at x.managers e.manager ≡ true
            → e.is_finished ≡ false → t.is_recorded ≡ true
        recorded-committing t at caller phase e there part durable unfinished =
            elim (or_cases t.is_recorded (not (has_durable_part x.managers x.transactions.enlistments t.id (λ e. not e.is_finished))) (subst (λ p. is_recorded_as p x.managers x.transactions.enlistments t.id t.is_recorded ≡ true) phase (is-recorded t at caller))) [
              | inl recorded ↦ recorded
              | inr none ↦ absurd (true≢false (sym (list_any-from (λ e. takes_part t.id e && (not e.is_finished && is_durable_at x.managers e.manager)) x.transactions.enlistments e there (and_from _ _ part (and_from _ _ (not_from_false _ unfinished) durable))) ∙ not-true _ none))
            ]

    -- a row that records nothing
    quiet : (input : Enlistment → PhaseInput) → ((e : Enlistment) → Pass records_nothing (row_lists (input e))) → FactsOf x (answering x o input)
    quiet input none = answers o input (λ e is t at own found. ap (facts_apply x.recorded) (silent-led (input e) (course_of x t (Some e)) refl (none e)))

    pub facts-rollback_complete : FactsOf x (answering x o (λ e. PhaseInput.RollbackComplete))
    facts-rollback_complete = quiet (λ e. PhaseInput.RollbackComplete) (λ e. (refl, tt))

    pub facts-single_phase_reject : FactsOf x (answering x o (λ e. PhaseInput.SinglePhaseReject))
    facts-single_phase_reject = quiet (λ e. PhaseInput.SinglePhaseReject) (λ e. (refl, tt))

    pub facts-recover : FactsOf x (answering x o recovery_of)
    facts-recover = quiet recovery_of silent-recovery

    pub facts-rollback_enlistment : Passes (enlistment_tests o (may_roll_back_by x)) → FactsOf x (answering x o (λ e. PhaseInput.Rollback))
    facts-rollback_enlistment tests = answers o (λ e. PhaseInput.Rollback) (λ e is t at own found.
        sym (ap (facts_apply x.recorded) (arrival x (led PhaseInput.Rollback (course_of x t (Some e))) Done).events)
        ∙ facts-aborted_by x kept.sound.course kept.agrees t at (rolls x kept.sound.course o in_es e t found (enlistment-allowed o (may_roll_back_by x) e is tests)) (Some e) Done)

    pub facts-pre_prepare_enlistment : Passes (superior_tests x o before_pre_prepare) → FactsOf x (answering x o (λ e. PhaseInput.PrePrepare))
    facts-pre_prepare_enlistment tests = answers o (λ e. PhaseInput.PrePrepare) (λ e is t at own found.
        let early = early-pre_prepare t.phase (phase-passed x before_pre_prepare e t found (superior-allowed x o before_pre_prepare e is tests)) in
        by-row PhaseInput.PrePrepare t (Some e) (pre_prepares-by (λ steps. Apply x.recorded steps (basis (course_of x t (Some e)))) (seen (course_of x t (Some e))) (ways t at (Some e) early)))

    pub facts-prepare_enlistment : Passes (superior_tests x o before_prepare) → FactsOf x (answering x o (λ e. PhaseInput.Prepare))
    facts-prepare_enlistment tests = answers o (λ e. PhaseInput.Prepare) (λ e is t at own found.
        let early = early-prepare t.phase (phase-passed x before_prepare e t found (superior-allowed x o before_prepare e is tests)) in
        by-row PhaseInput.Prepare t (Some e) (prepares-by (λ steps. Apply x.recorded steps (basis (course_of x t (Some e)))) (seen (course_of x t (Some e))) (ways t at (Some e) early)))

    pub facts-commit_enlistment : Passes (superior_tests x o waits_for_superior) → FactsOf x (answering x o (λ e. PhaseInput.Commit))
    facts-commit_enlistment tests = answers o (λ e. PhaseInput.Commit) (λ e is t at own found.
        let waits = phase-passed x waits_for_superior e t found (superior-allowed x o waits_for_superior e is tests) in
        by-row PhaseInput.Commit t (Some e) (apply-commits x.recorded (basis (course_of x t (Some e))) (can-decide x kept t at (Some e)
        (waiting-recorded t.phase x.managers x.transactions.enlistments t.id t.is_recorded waits (is-recorded t at (Some e))) (waiting-held t.phase waits))))
