-- What was recorded goes on to agree with what is so now where a superior decides, and where an enlistment has committed.
use Rattle.std.specs.Prelude.{if◌then◌else◌}
use Rattle.std.proofs.Common.{◌≡◌, ℕ, ◌==◌, ◌&&◌, not, Bool, true, false, List, [], ◌∷◌, length, map, filter, Option, Some, None, refl, sym, ◌∙◌, ap, subst, inl, inr, ◌⊎◌}
use Rattle.std.proofs.lemmas.Bool.{cases_Bool, and_from, and_left, and_parts, and_right, or_cases, not-true, not_from_false, true≢false, false_from_ne_true}
use Rattle.std.specs.List.{flat_map, list_all, list_any}
use Rattle.ktm_base.specs.declared.id.Id.{Id}
use Rattle.ktm_world.specs.declared.event.DonePart.{DonePart}
use Rattle.ktm_world.specs.declared.event.Event.{Event}
use Rattle.ktm_world.specs.declared.event.Part.{Part}
use Rattle.ktm_world.specs.declared.event.Part.TheVariants.{Enlistment as EnlistmentPart, Changes, Settings}
use Rattle.ktm_world.specs.declared.object.Phase.TheVariants.{Committing, SinglePhase}
use Rattle.ktm_world.specs.declared.object.Transaction.{Transaction}
use Rattle.ktm_world.specs.declared.object.TransactionOutcome.TheVariants.{Committed as CommittedOutcome}
use Rattle.ktm_world.specs.declared.recorded.RecordedPart.{RecordedPart}
use Rattle.ktm_world.specs.declared.recorded.Stage.{Stage}
use Rattle.ktm_world.specs.declared.step.Owed.{Owed}
use Rattle.ktm_world.specs.Durable.{Recorded, changes_in, changes_of, has_undone, is_decided, is_part_of, is_sole, settings_in, settings_of}
use Rattle.ktm_world.specs.Enlistments.{Enlistment, has_id, is_durable_at, is_superior, owes_commit, takes_part}
use Rattle.ktm_world.specs.Lawful.{Summary, brought_back, stage_in, stays, summary_of, superior_now}
use Rattle.ktm_world.specs.Outcome.{committed_now}
use Rattle.ktm_world.specs.Phases.{Course, ended, ended_if_finished, event_if, in_phase, is_single_phase, recording, superior, changing_one}
use Rattle.ktm_world.specs.Present.{Present}
use Rattle.ktm_world.specs.TransactionCalls.{course_of}
use Rattle.ktm_world.specs.Transactions.{same_id}
use Rattle.ktm_world.specs.World.{by_rising_id, enlistment_back, is_enlistment_part}
use Rattle.txf_laws.specs.Elements.{IsIn, each_pair}
use Rattle.txf_laws.specs.GoodState.{IsGoodState, is_decided_well, is_done_well}
use Rattle.ktm_records.specs.Kept.{is_carried_out}
use Rattle.ktm_courses.specs.SoundCourse.{IsSoundCourse, has_durable_part, is_unrecovered_well}
use Rattle.txf_laws.specs.SoundFiles.{IsSoundFiles}
use Rattle.ktm_records.proofs.offered.Agreement.{Agreed, find-step}
use Rattle.ktm_courses.proofs.offered.EnlistmentAnswers.{RiseEnlistments, is-committing, owed-commit, phase-owing, stands-in, takes_part-owing, until-owed}
use Rattle.ktm_courses.proofs.offered.Arrivals.{brought-now, stands-now}
use Rattle.ktm_records.proofs.AgreementOfCommits.{follows-committing}
use Rattle.txf_laws.proofs.offered.Elements.{IsIn-filter, IsIn-flat_map, IsIn-kept, IsIn-unflat, each_pair-flat_kept, list_all-at, list_any-from}
use Rattle.ktm_records.proofs.offered.AgreementOfCourses.{Follows, Was, begun, carried-itself, course_enlistments, course_in, course_now, course_summaries, follows-from, none-in, none-unrecorded, placed-at, summary-one, was, was-in}
use Rattle.txf_laws.proofs.offered.OwnGroups.{is_open}
use Rattle.txf_laws.proofs.offered.Parts.{gathered-filter_none}
use Rattle.ktm_records.proofs.LoggedOrder.{if_there, in-while, while_open}
use Rattle.ktm_courses.proofs.offered.Endings.{Stands, none-at}
use Rattle.ktm_records.proofs.ReadyCourses.{changed-cases, changed-other, differ-kept, differ-parts, drawn-own, enlistments-other, kept-from, kept-into, others-stay, rises-changed}
use Rattle.ktm_courses.proofs.offered.EnlistmentOrder.{IsIn-into_rising, IsIn-rising, differ_in_id, rising-same}
use Rattle.ktm_records.proofs.LoggedDecisions.{Settles, ends-if_finished, length-some, settled-carried, settled-summaries, staying}
use Rattle.ktm_records.proofs.AgreementOfSilentSteps.{is_kept}
use Rattle.ktm_records.proofs.LoggedUndecided.{AreUndone, parts-undone}
use Rattle.txf_laws.proofs.offered.Tables.{same_id-sym}
use Rattle.ktm_records.proofs.LoggedTransaction.{Tracks, done_by, tracks-done}
use Rattle.ktm_world.specs.Rows.{commits}
use Rattle.ktm_world.specs.Steps.{answered, led, run}
use Rattle.ktm_world.specs.declared.step.Answered.{Answered}
use Rattle.ktm_world.specs.declared.input.PhaseInput.{PhaseInput}
use Rattle.ktm_steps.proofs.offered.Ways.{if_cases}

-- ---- the parts of a decided transaction

-- the part that an enlistment is brought back from
part-back : (id : Id) (done : Id) (p : RecordedPart) (y : Enlistment) → IsIn y (enlistment_back id p) → is_part_of (DonePart.Enlistment done) p.part ≡ same_id done y.id
part-back id done p y = go p.part
  where
    go : (q : Part) → IsIn y (enlistment_back id (record p { part = q })) → is_part_of (DonePart.Enlistment done) q ≡ same_id done y.id
    go (EnlistmentPart e m i) (inl same) = ap (λ (x : Enlistment). same_id done x.id) same
    go (EnlistmentPart e m i) (inr none) = absurd none
    go (Changes cs) none = absurd none
    go (Settings ss) none = absurd none

-- of one that was carried out its enlistments alone are not done
undone-parts : (r : Recorded) → r.stage ≡ Stage.Decided → is_carried_out r ≡ true → list_all (is_done_well r) r.parts ≡ true → (p : RecordedPart) → IsIn p r.parts → not p.is_done ≡ is_enlistment_part p
undone-parts r decided carried well p there = go p.part refl
  where
    none : (done : DonePart) → has_undone done r ≡ false → is_part_of done p.part ≡ true → not p.is_done ≡ false
    none done undone part = false_from_ne_true _ (λ is. true≢false (sym (list_any-from (λ (p : RecordedPart). is_part_of done p.part && not p.is_done) r.parts p there (and_from _ _ part is)) ∙ sym (ap (λ stage. is_decided stage && list_any (λ (p : RecordedPart). is_part_of done p.part && not p.is_done) r.parts) decided) ∙ undone))

    both : (not (has_undone DonePart.Files r) && not (has_undone DonePart.Keys r)) ≡ true
    both = elim (or_cases (not (is_decided r.stage)) _ carried) [ inl other ↦ absurd (true≢false (sym (ap is_decided decided) ∙ not-true _ other)) | inr is ↦ is ]

    go : (q : Part) → p.part ≡ q → not p.is_done ≡ is_enlistment_part (record p { part = q })
    go (EnlistmentPart e m i) is = elim (or_cases (not p.is_done) _ (list_all-at (is_done_well r) r.parts well p there)) [
      | inl open' ↦ open'
      | inr sole ↦ absurd (true≢false (sym (and_parts (is_decided r.stage) _ sole).1 ∙ ap is_sole is))
    ]
    go (Changes cs) is = none DonePart.Files (not-true _ (and_parts (not (has_undone DonePart.Files r)) (not (has_undone DonePart.Keys r)) both).0) (ap (is_part_of DonePart.Files) is)
    go (Settings ss) is = none DonePart.Keys (not-true _ (and_parts (not (has_undone DonePart.Files r)) (not (has_undone DonePart.Keys r)) both).1) (ap (is_part_of DonePart.Keys) is)

module _ (x : Present) (sound : IsSoundCourse x) (files : IsSoundFiles x) (good : IsGoodState x.recorded) (agreed : Agreed x) (t : Transaction) (there : IsIn t x.transactions.items) where
  abbrev boot : ℕ
  boot = x.recorded.boots

  -- what the log has of it
  abbrev had : Was x t (placed-at x sound t there)
  had = was x sound t there agreed.agrees

  own-is : (caller : Option Enlistment) → map summary_of (if_there had.o) ≡ course_summaries (course_of x t caller)
  own-is caller = had.own ∙ begun x t caller

  its-record : (r : Recorded) → had.o ≡ Some r → IsIn r (if_there had.o)
  its-record r is = subst (λ o. IsIn r (if_there o)) (sym is) (inl refl)

  there-is : (r : Recorded) → had.o ≡ Some r → IsIn r x.recorded.transactions
  there-is r is = was-in x t (placed-at x sound t there) had r (its-record r is)

  -- ---- a superior decides

  pub follows-decision : (caller : Option Enlistment) → stage_in t.phase ≡ Some Stage.Held → t.is_recorded ≡ true → Follows x t.id had.before had.behind (run commits (course_of x t caller))
  follows-decision caller waits recorded = go (summary-one had.o (course_now c Stage.Held) (own-is caller ∙ has))
    where
      c : Course
      c = course_of x t caller

      has : course_summaries c ≡ course_now c Stage.Held ∷ []
      has = rw recorded (ap (course_in c) waits)

      go : (r : Recorded) × (had.o ≡ Some r) × (summary_of r ≡ course_now c Stage.Held) → Follows x t.id had.before had.behind (run commits (course_of x t caller))
      go (r, is, same) =
          let stage' : r.stage ≡ Stage.Held = ap (λ (s : Summary). s.stage) same in
          let changes' : changes_of r ≡ c.changes = ap (λ (s : Summary). s.changes) same in
          let settings' : settings_of r ≡ c.settings = ap (λ (s : Summary). s.settings) same in
          follows-committing x had.before had.behind c r (record {
            id = ap (λ (s : Summary). s.id) same;
            enlistments = ap (λ (s : Summary). s.enlistments) same;
            changes = changes';
            settings = settings';
            parts = subst (λ cs. AreUndone cs c.settings r) changes' (subst (λ ss. AreUndone (changes_of r) ss r) settings' (parts-undone x.recorded good r (there-is r is) (ap is_decided stage')));
          }) (ap (λ (s : Summary). s.superior) same) recorded (drawn-own x sound files good agreed t there caller)
          (subst (λ o. Tracks x t.id had.before had.behind o x.recorded (committed_now x)) is had.tracks)

  -- ---- an enlistment has committed

  module _ (e : Enlistment) (in_es : IsIn e x.transactions.enlistments) (own : same_id e.transaction t.id ≡ true) (owes : owes_commit e ≡ true) where
    abbrev c : Course
    c = course_of x t (Some e)

    rises : RiseEnlistments c.enlistments
    rises = sound.enlistments.rise

    stands : Stands boot c
    stands = stands-now x t (Some e) sound there

    brought : (g : Enlistment) → IsIn g c.enlistments → is_unrecovered_well boot c.managers g ≡ true
    brought = brought-now x t (Some e) sound

    part : takes_part t.id e ≡ true
    part = takes_part-owing boot c e stands brought rises in_es own Owed.Commit (owed-commit e owes)

    -- it owes nothing, and has finished
    abbrev done_now : Enlistment → Enlistment
    done_now = answered Answered.Finished

    abbrev c_finished : Course
    c_finished = changing_one c e.id done_now

    -- where it commits in one phase nothing is recorded
    pub follows-single_committed : t.phase ≡ SinglePhase → Follows x t.id had.before had.behind (ended c_finished CommittedOutcome)
    unfolding ended
    follows-single_committed phase =
        let other : t.is_recorded ≡ false = not-true _ (stands-in boot c SinglePhase phase stands).recorded in
        follows-from x t.id had.before had.behind (ended c_finished CommittedOutcome) had.o [] [] refl refl had.tracks (own-is (Some e) ∙ none-unrecorded c other ∙ sym (none-in (ended c_finished CommittedOutcome) refl)) (carried-itself x sound agreed t there)

    module _ (phase : t.phase ≡ Committing) where
      at : Stands boot (in_phase c Committing)
      at = stands-in boot c Committing phase stands

      fits : (e.is_prepared ≡ true) × (e.is_finished ≡ false)
      fits = let both = and_parts e.is_prepared _ ((at.stand).parts e in_es part) in (both.0, (until-owed owes_commit e Owed.Commit (owed-commit e owes) both.1).2)

      -- what it records
      abbrev done_events : List Event
      done_events = event_if (is_durable_at c.managers e.manager) (Event.Done t.id (DonePart.Enlistment e.id))

      abbrev d : Course
      d = recording c_finished done_events

      finished-not : is_kept c (done_now e) ≡ false
      finished-not = and_right _ false refl

      superior-same : superior_now (superior d) ≡ superior_now (superior c)
      superior-same = ap superior_now (find-step (λ g. same_id g.transaction t.id && is_superior g) (λ g. if has_id e.id g then done_now g else g) c.enlistments
          (others-stay c.enlistments rises e in_es done_now (λ g. same_id g.transaction t.id && is_superior g) none none))
        where
          none : (same_id e.transaction t.id && is_superior e) ≡ false
          none = and_right (same_id e.transaction t.id) _ (not-true _ (and_parts (same_id e.transaction t.id) _ (and_parts _ (not e.is_read_only) part).0).1)

      -- the log has nothing of one that it does not have
      follows-unrecorded : t.is_recorded ≡ false → Follows x t.id had.before had.behind (ended_if_finished d CommittedOutcome)
      follows-unrecorded other =
          let ends = ends-if_finished d phase in
          follows-from x t.id had.before had.behind (ended_if_finished d CommittedOutcome) had.o [] [] (ends.events ∙ nothing) ends.works had.tracks
          (own-is (Some e) ∙ none-unrecorded c other ∙ sym (ends.summaries ∙ (λ i. if other i then course_in d (Some Stage.Decided) else []))) (carried-itself x sound agreed t there)
        where
          volatile : is_durable_at c.managers e.manager ≡ false
          volatile = elim (or_cases t.is_recorded (not (has_durable_part c.managers c.enlistments t.id (λ g. not g.is_finished))) at.recorded) [
            | inl is ↦ absurd (true≢false (sym is ∙ other))
            | inr none ↦ false_from_ne_true _ (λ durable. true≢false (sym (and_from _ _ part (and_from _ _ (not_from_false _ fits.1) durable))
                ∙ none-at (λ g. takes_part t.id g && (not g.is_finished && is_durable_at c.managers g.manager)) c.enlistments (not-true _ none) e in_es))
          ]

          nothing : done_events ≡ []
          nothing = ap (λ b. event_if b (Event.Done t.id (DonePart.Enlistment e.id))) volatile

      module _ (recorded : t.is_recorded ≡ true) where
        has : course_summaries c ≡ course_in c (Some Stage.Decided)
        has = rw recorded (ap (λ p. course_in c (stage_in p)) phase)

        staying-is : staying d ≡ course_in d (Some Stage.Decided)
        staying-is = λ i. if recorded i then course_in d (Some Stage.Decided) else []

        -- its resource manager is not durable
        follows-volatile_done : is_durable_at c.managers e.manager ≡ false → Follows x t.id had.before had.behind (ended_if_finished d CommittedOutcome)
        follows-volatile_done volatile =
            let ends = ends-if_finished d phase in
            follows-from x t.id had.before had.behind (ended_if_finished d CommittedOutcome) had.o [] [] (ends.events ∙ ap (λ b. event_if b (Event.Done t.id (DonePart.Enlistment e.id))) volatile) ends.works had.tracks
            (own-is (Some e) ∙ has ∙ sym (ends.summaries ∙ staying-is ∙ same)) (carried-itself x sound agreed t there)
          where
            not-kept : is_kept c e ≡ false
            not-kept = and_left _ _ (and_left _ _ (and_right (takes_part t.id e) _ volatile))

            same : course_in d (Some Stage.Decided) ≡ course_in c (Some Stage.Decided)
            same = λ i. filter stays (record {
              id = t.id;
              stage = Stage.Decided;
              superior = superior-same i;
              enlistments = enlistments-other c rises e in_es done_now finished-not not-kept i;
              changes = [];
              settings = [];
            } ∷ [])

        -- it is
        module _ (durable : is_durable_at c.managers e.manager ≡ true) where
          kept : is_kept c e ≡ true
          kept = and_from _ _ (and_from _ _ (and_from _ _ part durable) fits.0) (not_from_false _ fits.1)

          some : not (length (course_enlistments c) == 0) ≡ true
          some = some-in (course_enlistments c) (kept-into c e in_es kept)
            where
              some-in : (es : List Enlistment) → IsIn (brought_back e) es → not (length es == 0) ≡ true
              some-in [] none = absurd none
              some-in (g ∷ es) there' = length-some g es

          now : course_in c (Some Stage.Decided) ≡ course_now c Stage.Decided ∷ []
          now = λ i. if some i then course_now c Stage.Decided ∷ [] else []

          module _ (r : Recorded) (is : had.o ≡ Some r) (same : summary_of r ≡ course_now c Stage.Decided) where
            abbrev done : DonePart
            done = DonePart.Enlistment e.id

            abbrev r_done : Recorded
            r_done = done_by done r

            abbrev keep : RecordedPart → Bool
            keep p = not (is_part_of done p.part)

            r-id : r.id ≡ t.id
            r-id = ap (λ (s : Summary). s.id) same

            r-stage : r.stage ≡ Stage.Decided
            r-stage = ap (λ (s : Summary). s.stage) same

            r-enlistments : by_rising_id (flat_map (enlistment_back r.id) r.parts) ≡ course_enlistments c
            r-enlistments = ap (λ (s : Summary). s.enlistments) same

            undone : (p : RecordedPart) → IsIn p r.parts → not p.is_done ≡ is_enlistment_part p
            undone = undone-parts r r-stage (carried-itself x sound agreed t there r (its-record r is)) (list_all-at (λ (t : Recorded). list_all (is_done_well t) t.parts) x.recorded.transactions good.done r (there-is r is))

            differ : each_pair differ_in_id (flat_map (enlistment_back r.id) (filter keep r.parts)) ≡ true
            differ = each_pair-flat_kept differ_in_id (enlistment_back r.id) keep r.parts (differ-parts x.recorded good r (there-is r is))

            -- the enlistments but the one that is done
            enlistments-left : by_rising_id (flat_map (enlistment_back r.id) (filter keep r.parts)) ≡ course_enlistments d
            enlistments-left = rising-same (flat_map (enlistment_back r.id) (filter keep r.parts)) (map brought_back (filter (is_kept d) d.enlistments)) differ (differ-kept d (rises-changed c.enlistments rises e in_es done_now (λ g. refl)))
                (λ y there'.
                let from = IsIn-unflat (enlistment_back r.id) (filter keep r.parts) y there' in
                let of = IsIn-filter keep r.parts from.0 from.1 in
                let old = kept-from c y (subst (IsIn y) r-enlistments (IsIn-into_rising _ y (IsIn-flat_map (enlistment_back r.id) r.parts from.0 y of.0 from.2))) in
                let other : has_id e.id old.0 ≡ false = same_id-sym e.id (old.0).id (ap (λ (z : Enlistment). same_id e.id z.id) old.3 ∙ sym (part-back r.id e.id from.0 y from.2) ∙ not-true _ of.1) in
                IsIn-rising _ y (subst (λ z. IsIn z (course_enlistments d)) old.3 (kept-into d old.0 (changed-other c.enlistments rises e in_es done_now old.0 old.1 other) old.2)))
                (λ y there'.
                let from = kept-from d y (IsIn-into_rising _ y there') in
                elim (changed-cases c.enlistments rises e in_es done_now from.0 from.1) [
                  | inl gone ↦ absurd (true≢false (sym from.2 ∙ ap (is_kept c) gone ∙ finished-not))
                  | inr old ↦
                      let was = IsIn-unflat (enlistment_back r.id) r.parts y (IsIn-rising _ y (subst (IsIn y) (sym r-enlistments) (subst (λ z. IsIn z (course_enlistments c)) from.3 (kept-into c from.0 old.0 from.2)))) in
                      IsIn-flat_map (enlistment_back r.id) (filter keep r.parts) was.0 y (IsIn-kept keep r.parts was.0 was.1
                      (not_from_false _ (part-back r.id e.id was.0 y was.2 ∙ ap (λ (z : Enlistment). same_id e.id z.id) (sym from.3) ∙ same_id-sym (from.0).id e.id old.1))) was.2
                ])

            settles : Settles d r_done
            settles = record {
              id = r-id;
              stage = r-stage;
              superior_same = ap (λ (s : Summary). s.superior) same ∙ sym superior-same;
              enlistments = enlistments-left;
              changes = gathered-filter_none changes_in keep r.parts (ap (λ (s : Summary). s.changes) same);
              settings = gathered-filter_none settings_in keep r.parts (ap (λ (s : Summary). s.settings) same);
              undone = λ p there'. undone p (IsIn-filter keep r.parts p there').0;
            }

            open-before : is_open r ≡ true
            open-before = elim (or_cases (not (is_decided r.stage)) (is_open r) (list_all-at is_decided_well x.recorded.transactions good.decided r (there-is r is))) [
              | inl other ↦ absurd (true≢false (sym (ap is_decided r-stage) ∙ not-true _ other))
              | inr open' ↦ open'
            ]

            follows-one : Follows x t.id had.before had.behind (ended_if_finished d CommittedOutcome)
            follows-one =
                let ends = ends-if_finished d phase in
                follows-from x t.id had.before had.behind (ended_if_finished d CommittedOutcome) (while_open r_done) (Event.Done t.id done ∷ []) [] (ends.events ∙ ap (λ b. event_if b (Event.Done t.id done)) durable) ends.works
                (tracks-done x t.id had.before had.behind r x.recorded (committed_now x) done r-id (subst (λ o. Tracks x t.id had.before had.behind o x.recorded (committed_now x)) (is ∙ (λ i. if sym open-before i then Some r else None)) had.tracks))
                (settled-summaries d r_done settles ∙ sym (ends.summaries ∙ staying-is)) (λ q there'. subst (λ u. is_carried_out u ≡ true) (in-while r_done q there') (settled-carried r_done settles.undone))

          follows-durable_done : Follows x t.id had.before had.behind (ended_if_finished d CommittedOutcome)
          follows-durable_done = let one = summary-one had.o (course_now c Stage.Decided) (own-is (Some e) ∙ has ∙ now) in follows-one one.0 one.1 one.2

      follows-done : Follows x t.id had.before had.behind (ended_if_finished d CommittedOutcome)
      follows-done = elim (cases_Bool t.is_recorded) [
        | inr other ↦ follows-unrecorded other
        | inl recorded ↦ elim (cases_Bool (is_durable_at c.managers e.manager)) [ inl durable ↦ follows-durable_done recorded durable | inr volatile ↦ follows-volatile_done recorded volatile ]
      ]

    pub follows-commit_complete : Follows x t.id had.before had.behind (led PhaseInput.CommitComplete c)
    unfolding led
    follows-commit_complete = if_cases (λ steps. Follows x t.id had.before had.behind (run steps c_finished)) (is_single_phase t.phase) _ _
        (λ single. elim committing-or [ inl phase ↦ absurd (true≢false (sym single ∙ ap is_single_phase phase)) | inr phase ↦ follows-single_committed phase ])
        (λ several. elim committing-or [ inr phase ↦ absurd (true≢false (sym (ap is_single_phase phase) ∙ several)) | inl phase ↦ follows-done phase ])
      where
        committing-or : (t.phase ≡ Committing) ⊎ (t.phase ≡ SinglePhase)
        committing-or = is-committing t.phase (phase-owing boot c e stands brought rises in_es own Owed.Commit (owed-commit e owes))
