-- What was recorded goes on to agree with what is so now where an enlistment answers while its transaction is being prepared.
use Rattle.std.proofs.Common.{◌≡◌, ℕ, ◌&&◌, not, Bool, true, false, List, [], Option, Some, None, is_some, refl, sym, ◌∙◌, ap, subst, inl, inr, ◌||◌}
use Rattle.std.proofs.lemmas.Bool.{and_left, and_parts, and_right, not-true, true≢false, false_from_ne_true, cases_Bool}
use Rattle.std.specs.List.{list_any}
use Rattle.ktm_world.specs.declared.event.Event.{Event}
use Rattle.ktm_world.specs.declared.input.PhaseInput.{PhaseInput}
use Rattle.ktm_world.specs.declared.object.Phase.{Phase}
use Rattle.ktm_world.specs.declared.object.Phase.TheVariants.{Active, Requested, PrePreparing, PrePrepared, Preparing, SinglePhase}
use Rattle.ktm_world.specs.declared.object.Transaction.{Transaction}
use Rattle.ktm_world.specs.declared.object.TransactionOutcome.TheVariants.{Committed as CommittedOutcome}
use Rattle.ktm_world.specs.declared.step.Owed.{Owed}
use Rattle.ktm_world.specs.Durable.{Recorded}
use Rattle.ktm_world.specs.Enlistments.{Enlistment, allows_one_phase, has_id, is_durable_at, is_open_for_votes, is_superior, owes_commit, owes_pre_prepare, owes_prepare, takes_part}
use Rattle.ktm_world.specs.Lawful.{stage_in}
use Rattle.ktm_world.specs.Phases.{Course, changing_one, ended, enlistment_part, recording, event_if}
use Rattle.ktm_world.specs.Present.{Present}
use Rattle.ktm_world.specs.Steps.{led, answered, run, seen, share_of}
use Rattle.ktm_world.specs.TransactionCalls.{course_of, is_voting}
use Rattle.ktm_world.specs.Transactions.{same_id}
use Rattle.txf_laws.specs.Elements.{IsIn}
use Rattle.txf_laws.specs.GoodState.{IsGoodState}
use Rattle.ktm_courses.specs.SoundCourse.{IsSoundCourse, has_durable_part, is_part_as, is_unrecovered_well}
use Rattle.txf_laws.specs.SoundFiles.{IsSoundFiles}
use Rattle.ktm_records.proofs.offered.Agreement.{Agreed}
use Rattle.ktm_records.proofs.AgreementOfPrepared.{follows-all_ready}
use Rattle.ktm_courses.proofs.offered.EnlistmentAnswers.{RiseEnlistments, is-pre_preparing, owed-pre_prepare, part_left, part_preparing, phase-owing, phase_preparing, stands-in, unprepared, unprepared_left, is-part, owed-prepare, takes_part-owing}
use Rattle.ktm_courses.proofs.offered.Arrivals.{brought-now, stands-now}
use Rattle.txf_laws.proofs.offered.Elements.{list_any-at, list_any-from}
use Rattle.ktm_records.proofs.offered.AgreementOfCourses.{Follows, Was, course_enlistments, none-in, placed-at, was}
use Rattle.ktm_records.proofs.AgreementOfUnprepared.{follows-nothing, follows-pre_prepared, follows-to_commit, follows-to_pre_prepare, follows-to_prepare}
use Rattle.ktm_courses.proofs.offered.Moves.{Stand, if_parts, same-by_id}
use Rattle.ktm_records.proofs.LoggedOrder.{or_new}
use Rattle.ktm_courses.proofs.offered.Endings.{Stands, idle-parts}
use Rattle.ktm_records.proofs.ReadyCourses.{Prepares, changed-one, changed-other, enlistments-other, follows-preparing, none-prepared, prepares-durable, prepares-first, readies-alike, readies-volatile}
use Rattle.ktm_records.proofs.AgreementOfSilentSteps.{enlistments-alike, is_kept, none-kept}
use Rattle.txf_laws.proofs.offered.Tables.{same_id-equal}
use Rattle.ktm_records.proofs.LoggedTransaction.{with_ready}
use Rattle.ktm_steps.specs.Laws.{someone_owes, when_none_owes}
use Rattle.ktm_steps.proofs.offered.Table.{rows_law}
use Rattle.ktm_world.specs.Rows.{all_readies, proceeds, proceeds_without}
use Rattle.ktm_world.specs.declared.step.Answered.{Answered}
use Rattle.ktm_records.proofs.offered.Stages.{early-unrecorded, early-voting, is_early, voting-stage}
use Rattle.ktm_steps.proofs.offered.Ways.{if_cases}

-- ---- a transaction of which nobody is prepared

-- nobody is prepared
unprepared-none : (c : Course) (test : Enlistment → Bool) → Stand c.enlistments c.transaction.id test → ((e : Enlistment) → test e ≡ true → e.is_prepared ≡ false) → course_enlistments c ≡ []
unprepared-none c test stand un = none-kept c (λ e there. false_from_ne_true _ (λ is.
    let prepared = and_parts (takes_part c.transaction.id e && is_durable_at c.managers e.manager) e.is_prepared (and_parts _ (not e.is_finished) is).0 in
    true≢false (sym prepared.1 ∙ un e (stand.parts e there (and_parts (takes_part c.transaction.id e) _ prepared.0).0))))

prepares-none : (x : Present) (before behind : List Recorded) (c : Course) (o : Option Recorded) → c.transaction.is_recorded ≡ false → Prepares x before behind c o → Prepares x before behind c None
prepares-none x before behind c None other prepares = prepares
prepares-none x before behind c (Some r) other prepares = absurd (true≢false (sym prepares.has ∙ other))

module _ (x : Present) (sound : IsSoundCourse x) (files : IsSoundFiles x) (good : IsGoodState x.recorded) (agreed : Agreed x) (t : Transaction) (there : IsIn t x.transactions.items) where
  abbrev boot : ℕ
  boot = x.recorded.boots

  -- what the log has of it among the others
  abbrev had : Was x t (placed-at x sound t there)
  had = was x sound t there agreed.agrees

  abbrev before : List Recorded
  before = had.before

  abbrev behind : List Recorded
  behind = had.behind

  abbrev o : Option Recorded
  o = had.o

  abbrev FollowsOn : Course → Type 0
  FollowsOn d = Follows x t.id before behind d

  module _ (caller : Option Enlistment) where
    abbrev c : Course
    c = course_of x t caller

    stands : Stands boot c
    stands = stands-now x t caller sound there

    none-first : (phase : Phase) → t.phase ≡ phase → is_voting phase ≡ true → t.is_recorded ≡ false → course_enlistments c ≡ []
    none-first Active is voting other = unprepared-none c (is_part_as Active) (stands-in boot c Active is stands).stand (λ e fits. (idle-parts e fits).1)
    none-first Requested is voting other = unprepared-none c (is_part_as Requested) (stands-in boot c Requested is stands).stand (λ e fits. (idle-parts e fits).1)
    none-first PrePrepared is voting other = unprepared-none c (is_part_as PrePrepared) (stands-in boot c PrePrepared is stands).stand (λ e fits. (idle-parts e fits).1)
    none-first PrePreparing is voting other = unprepared-none c (is_part_as PrePreparing) (stands-in boot c PrePreparing is stands).stand (λ e fits.
        not-true _ (and_parts (not e.is_prepared) (not e.is_finished) (and_parts (not e.is_prepared && not e.is_finished) _ fits).0).0)
    none-first SinglePhase is voting other = unprepared-none c (is_part_as SinglePhase) (stands-in boot c SinglePhase is stands).stand (λ e fits.
        not-true _ (and_parts (owes_commit e) (not e.is_prepared) (and_parts (owes_commit e && not e.is_prepared) (not e.is_finished) (and_parts (owes_commit e && not e.is_prepared && not e.is_finished) (allows_one_phase e) fits).0).0).1)
    none-first Preparing is voting other = elim (if_parts (has_durable_part c.managers c.enlistments t.id (λ e. e.is_prepared)) t.is_recorded (not t.is_recorded) (stands-in boot c Preparing is stands).recorded) [
      | inl both ↦ absurd (true≢false (sym both.1 ∙ other))
      | inr both ↦ none-prepared c both.0
    ]
    none-first _ is voting other = absurd (true≢false (sym voting))

    prepares : is_voting t.phase ≡ true → Prepares x before behind c o
    prepares voting = prepares-first x sound files good agreed t there caller (voting-stage t.phase voting) (none-first t.phase refl voting)

    prepares-fresh : is_early t.phase ≡ true → Prepares x before behind c None
    prepares-fresh early = prepares-none x before behind c o (early-unrecorded t.phase c.managers c.enlistments t.id t.is_recorded early stands.recorded) (prepares (early-voting t.phase early))

    -- ---- a commit begins

    pub follows-commit : is_early t.phase ≡ true → FollowsOn (led PhaseInput.CommitTransaction c)
    follows-commit early = follows-to_commit x before behind c (prepares-fresh early)

    pub follows-pre_prepare : is_early t.phase ≡ true → FollowsOn (led PhaseInput.PrePrepare c)
    follows-pre_prepare early = follows-to_pre_prepare x before behind c (prepares-fresh early)

    pub follows-prepare : is_early t.phase ≡ true → FollowsOn (led PhaseInput.Prepare c)
    follows-prepare early = follows-to_prepare x before behind c (prepares-fresh early)

  -- ---- an enlistment answers

  module _ (e : Enlistment) (in_es : IsIn e x.transactions.enlistments) (own : same_id e.transaction t.id ≡ true) where
    abbrev c_by : Course
    c_by = course_of x t (Some e)

    rises : RiseEnlistments c_by.enlistments
    rises = sound.enlistments.rise

    brought : (g : Enlistment) → IsIn g c_by.enlistments → is_unrecovered_well boot c_by.managers g ≡ true
    brought = brought-now x t (Some e) sound

    -- it has pre-prepared
    pub follows-pre_prepare_complete : owes_pre_prepare e ≡ true → FollowsOn (led PhaseInput.PrePrepareComplete c_by)
    follows-pre_prepare_complete owes = subst FollowsOn (sym (rows_law.pre_prepare_completes c_by e (is-part c_by e rises in_es part) (ap is_some (owed-pre_prepare e owes))))
        (if_cases FollowsOn (someone_owes d) d (run (proceeds (seen d)) d) (λ some. follows-preparing x before behind d None (ap stage_in phase) now) (λ none. follows-pre_prepared x before behind d now))
      where
        d : Course
        d = changing_one c_by e.id (answered Answered.PrePrepared)

        part : takes_part t.id e ≡ true
        part = takes_part-owing boot c_by e (stands (Some e)) brought rises in_es own Owed.PrePrepare (owed-pre_prepare e owes)

        phase : t.phase ≡ PrePreparing
        phase = is-pre_preparing t.phase (phase-owing boot c_by e (stands (Some e)) brought rises in_es own Owed.PrePrepare (owed-pre_prepare e owes))

        now : Prepares x before behind d None
        now = readies-alike x before behind c_by t.phase d.enlistments d.sent [] [] None (enlistments-alike c_by (has_id e.id) (answered Answered.PrePrepared) (λ g. record { back = refl; kind = refl; read_only = refl; prepared = refl; finished = refl }))
            (prepares-fresh (Some e) (ap is_early phase))

    -- it is prepared
    pub follows-prepare_complete : owes_prepare e ≡ true → FollowsOn (led PhaseInput.PrepareComplete c_by)
    follows-prepare_complete owes = subst FollowsOn (sym (rows_law.prepare_completes c_by e (is-part c_by e rises in_es part) (ap is_some (owed-prepare e owes)))) (elim (cases_Bool (is_durable_at c_by.managers e.manager)) [
      | inl durable ↦ subst (λ b. FollowsOn (when_none_owes (d b) (all_readies (seen (d b))))) (sym durable) (goes (d true) (Some (with_ready (or_new o t.id) (enlistment_part e))) refl refl refl (prepares-durable x before behind c_by rises e in_es part un.0 o durable un.2 (prepares (Some e) (ap is_voting phase))))
      | inr volatile ↦ subst (λ b. FollowsOn (when_none_owes (d b) (all_readies (seen (d b))))) (sym volatile) (goes (d false) o refl refl refl (readies-volatile x before behind c_by rises e in_es part un.0 [] [] o volatile (prepares (Some e) (ap is_voting phase))))
    ])
      where
        part : takes_part t.id e ≡ true
        part = part_preparing boot c_by e (stands (Some e)) brought rises in_es own owes

        un : (e.is_prepared ≡ false) × (owes_prepare e ≡ true) × (e.is_finished ≡ false)
        un = unprepared boot c_by e (stands (Some e)) brought rises in_es own owes

        phase : t.phase ≡ Preparing
        phase = phase_preparing boot c_by e (stands (Some e)) brought rises in_es own owes

        prepared : Enlistment → Enlistment
        prepared = answered Answered.Prepared

        -- recorded where its resource manager is durable
        d : Bool → Course
        d durable = record (recording (changing_one c_by e.id prepared) (event_if durable (Event.Ready t.id (enlistment_part e)))) { transaction = record t { is_recorded = durable || t.is_recorded } }

        goes : (d : Course) (q : Option Recorded) → d.transaction.id ≡ t.id → d.transaction.phase ≡ t.phase → d.enlistments ≡ (changing_one c_by e.id prepared).enlistments → Prepares x before behind d q → FollowsOn (when_none_owes d (all_readies (seen d)))
        goes d q id same es now = subst (λ i. Follows x i before behind (when_none_owes d (all_readies (seen d)))) id
            (if_cases (λ f. Follows x d.transaction.id before behind f) (someone_owes d) d (run (all_readies (seen d)) d) (λ some. follows-preparing x before behind d q (ap stage_in (same ∙ phase)) now) (λ none. follows-all_ready x before behind d q now (λ recorded'.
            list_any-from (takes_part d.transaction.id) d.enlistments (prepared e) (subst (IsIn (prepared e)) (sym es) (changed-one c_by.enlistments rises e in_es prepared)) (subst (λ i. takes_part i (prepared e) ≡ true) (sym id) part))))

    -- it takes no part any more
    abbrev left : Enlistment → Enlistment
    left = answered Answered.ReadOnly

    abbrev c_left : Course
    c_left = changing_one c_by e.id left

    module _ (ordinary : is_superior e ≡ false) (votes : is_open_for_votes e ≡ true) (voting : is_voting t.phase ≡ true) where
      part : takes_part t.id e ≡ true
      part = part_left boot c_by e (stands (Some e)) brought rises in_es own ordinary votes voting

      un : e.is_prepared ≡ false
      un = unprepared_left boot c_by e (stands (Some e)) brought rises in_es own ordinary votes voting

      -- one that is prepared is another one
      other-prepared : (g : Enlistment) → IsIn g c_by.enlistments → g.is_prepared ≡ true → has_id e.id g ≡ false
      other-prepared g there' prepared = false_from_ne_true _ (λ is. true≢false (sym prepared ∙ ap (λ (h : Enlistment). h.is_prepared) (same-by_id (λ (h : Enlistment). h.id) c_by.enlistments rises g e there' in_es (same_id-equal g.id e.id is)) ∙ un))

      enlistments-left : course_enlistments c_left ≡ course_enlistments c_by
      enlistments-left = enlistments-other c_by rises e in_es left (unprepared-not (left e) un) (unprepared-not e un)
        where
          unprepared-not : (g : Enlistment) → g.is_prepared ≡ false → is_kept c_by g ≡ false
          unprepared-not g other = and_left _ _ (and_right _ _ other)

      prepares-left : (q : Option Recorded) → Prepares x before behind c_by q → Prepares x before behind c_left q
      prepares-left q now = readies-alike x before behind c_by t.phase c_left.enlistments c_left.sent [] [] q enlistments-left now

      -- somebody else takes part where the log has it
      some-left : t.phase ≡ Preparing → t.is_recorded ≡ true → list_any (takes_part t.id) c_left.enlistments ≡ true
      some-left phase recorded' = elim (if_parts (has_durable_part c_by.managers c_by.enlistments t.id (λ g. g.is_prepared)) t.is_recorded (not t.is_recorded) (stands-in boot c_by Preparing phase (stands (Some e))).recorded) [
        | inr both ↦ absurd (true≢false (sym recorded' ∙ not-true _ both.1))
        | inl both ↦
            let one = list_any-at (λ g. takes_part t.id g && (g.is_prepared && is_durable_at c_by.managers g.manager)) c_by.enlistments both.0 in
            let parts = and_parts (takes_part t.id one.0) _ one.2 in
            list_any-from (takes_part t.id) c_left.enlistments one.0 (changed-other c_by.enlistments rises e in_es left one.0 one.1 (other-prepared one.0 one.1 (and_parts (one.0).is_prepared _ parts.1).0)) parts.0
      ]

      -- nothing else goes on
      stays-left : FollowsOn c_left
      stays-left = follows-preparing x before behind c_left o (voting-stage t.phase voting) (prepares-left o (prepares (Some e) voting))

      fresh-left : (phase : Phase) → t.phase ≡ phase → is_early phase ≡ true → Prepares x before behind c_left None
      fresh-left phase is early = prepares-left None (prepares-fresh (Some e) (ap is_early is ∙ early))

      goes-left : (phase : Phase) → t.phase ≡ phase → is_voting phase ≡ true → FollowsOn (when_none_owes c_left (proceeds_without phase (seen c_left)))
      unfolding ended
      goes-left PrePreparing is voting' = if_cases FollowsOn (someone_owes c_left) c_left (run (proceeds (seen c_left)) c_left) (λ some. stays-left) (λ none. follows-pre_prepared x before behind c_left (fresh-left PrePreparing is refl))
      goes-left Preparing is voting' = if_cases FollowsOn (someone_owes c_left) c_left (run (all_readies (seen c_left)) c_left) (λ some. stays-left) (λ none. follows-all_ready x before behind c_left o (prepares-left o (prepares (Some e) voting)) (some-left is))
      goes-left SinglePhase is voting' = if_cases FollowsOn (someone_owes c_left) c_left (ended c_left CommittedOutcome) (λ some. stays-left)
          (λ none. follows-nothing x before behind c_left (fresh-left SinglePhase is refl) (ended c_left CommittedOutcome) refl refl (none-in (ended c_left CommittedOutcome) refl))
      goes-left Active is voting' = if_cases FollowsOn (someone_owes c_left) c_left c_left (λ some. stays-left) (λ none. stays-left)
      goes-left Requested is voting' = if_cases FollowsOn (someone_owes c_left) c_left c_left (λ some. stays-left) (λ none. stays-left)
      goes-left PrePrepared is voting' = if_cases FollowsOn (someone_owes c_left) c_left c_left (λ some. stays-left) (λ none. stays-left)
      goes-left _ is voting' = absurd (true≢false (sym voting'))

      pub follows-read_only : FollowsOn (led (PhaseInput.ReadOnly (share_of e)) c_by)
      follows-read_only = subst FollowsOn (sym (rows_law.read_onlies c_by e (is-part c_by e rises in_es part)))
          (if_cases FollowsOn (is_some e.owes) (when_none_owes c_left (proceeds_without t.phase (seen c_left))) c_left (λ owes. goes-left t.phase refl voting) (λ silent. stays-left))
