-- What the log has of a transaction that gets ready, that waits for its superior, or that commits.
use Rattle.std.proofs.Common.{◌≡◌, ◌==◌, ◌&&◌, ◌||◌, not, true, false, is_none, List, [], ◌∷◌, length, nat_lt, Option, Some, None, refl, sym, ◌∙◌, ap, subst, arith, inl, inr, ◌⊎◌}
use Rattle.std.proofs.lemmas.Bool.{ne_eqb, cases_Bool, and_from, and_parts, eq-eqb, eqb-true, leb-true, ltb-false, not-true, not_from_false, or_cases, or_left, true≢false, false_from_ne_true}
use Rattle.std.proofs.lemmas.Option.{none-some, same_Some}
use Rattle.std.specs.List.{list_all, list_any}
use Rattle.ktm_base.specs.declared.id.Id.{Id}
use Rattle.ktm_world.specs.declared.event.DonePart.{DonePart}
use Rattle.ktm_world.specs.declared.event.Event.{Event}
use Rattle.ktm_world.specs.declared.event.Part.{Part}
use Rattle.ktm_world.specs.declared.event.Part.TheVariants.{Enlistment as EnlistmentPart, Changes, Settings}
use Rattle.ktm_world.specs.declared.object.Transaction.{Transaction}
use Rattle.ktm_world.specs.declared.recorded.RecordedPart.{RecordedPart}
use Rattle.ktm_world.specs.declared.recorded.Stage.{Stage}
use Rattle.ktm_world.specs.Changes.{has_changes}
use Rattle.ktm_world.specs.Durable.{Durable, Recorded, are_recorded_changes, changes_of, fact_applies, has_changes_part, has_part, has_settings_part, has_undone, is_decided, is_held, is_new_enlistment, is_part_of, is_ready, is_sole, recorded_at, recorded_or_new, settings_of}
use Rattle.ktm_world.specs.Enlistments.{Enlistment, is_durable_at, is_superior, takes_part}
use Rattle.ktm_world.specs.Keys.{OwnSettings, are_good_settings}
use Rattle.ktm_world.specs.Lawful.{Summary, brought_back, recorded_enlistments, stage_in, stays, summary_now, summary_of, undecided}
use Rattle.ktm_world.specs.Phases.{Course, has_settings}
use Rattle.ktm_world.specs.Present.{Present}
use Rattle.ktm_world.specs.TransactionCalls.{course_of}
use Rattle.ktm_world.specs.Transactions.{is_of, is_undecided, same_id}
use Rattle.ktm_world.specs.World.{enlistment_back}
use Rattle.txf_laws.specs.Elements.{IsIn}
use Rattle.txf_laws.specs.GoodState.{IsGoodState, are_kept_changes, are_kept_settings, is_done_well, is_ready_well}
use Rattle.ktm_records.specs.Kept.{IsKept}
use Rattle.ktm_courses.specs.SoundCourse.{is_counted, is_made_with_it, is_superior_durable}
use Rattle.txf_laws.proofs.offered.Elements.{IsIn-kept, IsIn-unflat, list_all-at, list_any-at, list_any-from}
use Rattle.ktm_records.proofs.Facts.{awaits, stage-found}
use Rattle.ktm_courses.proofs.offered.NewObjects.{counted-parts}
use Rattle.ktm_courses.proofs.offered.Moves.{IsIn-map, of-superior}
use Rattle.ktm_records.proofs.CourseRecords.{CanDecide, MayReady}
use Rattle.ktm_records.proofs.RecordedEnlistments.{new-in-record, recalled-as, recalled-of, summaries-at}
use Rattle.ktm_records.proofs.Recordings.{recordings_law}
use Rattle.ktm_courses.proofs.offered.EnlistmentOrder.{IsIn-into_rising, IsIn-rising}
use Rattle.txf_laws.proofs.offered.Tables.{recorded_at-found, recorded_at-there, recorded_or_new-cases, same_id-equal, same_id-from}
use Rattle.txf_laws.proofs.offered.WaitingChanges.{no_changes_part, no_settings_part}
use Rattle.ktm_world.specs.Steps.{basis}

-- ---- what is kept of a transaction that waits

module _ (s : Durable) (good : IsGoodState s) (r : Recorded) (there : IsIn r s.transactions) (waits : is_decided r.stage ≡ false) where
  kept-changes : has_changes_part r ≡ true → are_recorded_changes (changes_of r) ≡ true
  kept-changes has = elim (or_cases (is_decided r.stage || not (has_changes_part r)) (are_recorded_changes (changes_of r))
      (and_parts (not (is_decided r.stage) || not (has_changes (changes_of r))) (is_decided r.stage || not (has_changes_part r) || are_recorded_changes (changes_of r)) (list_all-at are_kept_changes s.transactions good.changes r there)).1) [
        | inr is ↦ is
        | inl neither ↦ elim (or_cases (is_decided r.stage) (not (has_changes_part r)) neither) [ inl over ↦ absurd (true≢false (sym over ∙ waits)) | inr none ↦ absurd (true≢false (sym has ∙ not-true _ none)) ]
      ]

  kept-settings : has_settings_part r ≡ true → are_good_settings (settings_of r) ≡ true
  kept-settings has = elim (or_cases (is_decided r.stage || not (has_settings_part r)) (are_good_settings (settings_of r))
      (and_parts (not (is_decided r.stage) || length (settings_of r) == 0) (is_decided r.stage || not (has_settings_part r) || are_good_settings (settings_of r)) (list_all-at are_kept_settings s.transactions good.settings r there)).1) [
        | inr is ↦ is
        | inl neither ↦ elim (or_cases (is_decided r.stage) (not (has_settings_part r)) neither) [ inl over ↦ absurd (true≢false (sym over ∙ waits)) | inr none ↦ absurd (true≢false (sym has ∙ not-true _ none)) ]
      ]

  -- no part of it is done
  undone : (done : DonePart) → list_any (λ (p : RecordedPart). is_part_of done p.part) r.parts ≡ true → awaits done r.parts ≡ true
  undone done has =
      let p = list_any-at (λ (p : RecordedPart). is_part_of done p.part) r.parts has in
      list_any-from (λ (p : RecordedPart). is_part_of done p.part && not p.is_done) r.parts p.0 p.1 (and_from _ _ p.2
      (elim (or_cases (not p.0.is_done) (is_decided r.stage && is_sole p.0.part) (list_all-at (is_done_well r) r.parts (list_all-at (λ t. list_all (is_done_well t) t.parts) s.transactions good.done r there) p.0 p.1)) [
        | inl not_done ↦ not_done
        | inr over ↦ absurd (true≢false (sym (and_parts (is_decided r.stage) (is_sole p.0.part) over).0 ∙ waits))
      ]))

length-some : {X : Type 0} (x : X) (xs : List X) → not (length (x ∷ xs) == 0) ≡ true
length-some x xs = not_from_false _ (ne_eqb (length (x ∷ xs)) 0 (λ none. absurd cc))

some-settings : (ss : OwnSettings) → has_settings ss ≡ true → not (length ss == 0) ≡ true
some-settings [] some = absurd (true≢false (sym some))
some-settings (setting ∷ ss) some = length-some setting ss

module _ (x : Present) (kept : IsKept x) (t : Transaction) (there : IsIn t x.transactions.items) (caller : Option Enlistment) where
  abbrev c : Course
  c = course_of x t caller

  -- what was recorded of it, where that is known to be so
  recalled : (stage : Stage) → t.is_recorded ≡ true → stage_in t.phase ≡ Some stage → stays (summary_now x t stage) ≡ true
      → (r : Recorded) × (summary_of r ≡ summary_now x t stage) × IsIn r x.recorded.transactions × (recorded_at x.recorded.transactions t.id ≡ Some r)
  recalled stage recorded is stays' =
      let r = recalled-of x kept.sound.course kept.agrees t there (summary_now x t stage) (subst (IsIn (summary_now x t stage)) (sym (summaries-at x t stage recorded is stays')) (inl refl)) in
      (r.0, r.1, r.2, ap (recorded_at x.recorded.transactions) (sym (ap (λ (s : Summary). s.id) r.1)) ∙ recorded_at-there x.recorded.transactions kept.good.transactions_rise r.0 r.2)

  -- ---- a transaction that waits for its superior

  pub can-decide : t.is_recorded ≡ true → stage_in t.phase ≡ Some Stage.Held → CanDecide x.recorded (basis (course_of x t caller))
  can-decide recorded is = record {
    decided = λ yes'. record {
      r = r.0;
      found = r.3;
      stage = or_left _ _ (ap (λ (s : Summary). is_held s.stage) r.1);
      files = λ some. undone x.recorded kept.good r.0 r.2 waits DonePart.Files (elim (cases_Bool (has_changes_part r.0)) [
        | inl has ↦ has
        | inr none ↦ absurd (true≢false (sym some ∙ ap has_changes (sym (ap (λ (s : Summary). s.changes) r.1) ∙ no_changes_part r.0 none)))
      ]);
      keys = λ some. undone x.recorded kept.good r.0 r.2 waits DonePart.Keys (elim (cases_Bool (has_settings_part r.0)) [
        | inl has ↦ has
        | inr none ↦ absurd (true≢false (sym some ∙ ap has_settings (sym (ap (λ (s : Summary). s.settings) r.1) ∙ no_settings_part r.0 none)))
      ]);
    };
    nothing = λ other. absurd (true≢false (sym recorded ∙ other));
  }
    where
      r : (r : Recorded) × (summary_of r ≡ summary_now x t Stage.Held) × IsIn r x.recorded.transactions × (recorded_at x.recorded.transactions t.id ≡ Some r)
      r = recalled Stage.Held recorded is refl

      waits : is_decided (r.0).stage ≡ false
      waits = ap (λ (s : Summary). is_decided s.stage) r.1

  -- ---- a transaction that gets ready

  module _ (is : stage_in t.phase ≡ Some Stage.Ready) where
    -- what was recorded of it is ready, and has neither changes nor settings
    ready-now : (r : Recorded) → IsIn r x.recorded.transactions → r.id ≡ t.id → (t.is_recorded ≡ true) × (summary_of r ≡ summary_now x t Stage.Ready)
    ready-now = recalled-as x kept.sound.course kept.agrees t there Stage.Ready is

    is-new : t.is_recorded ≡ false → recorded_at x.recorded.transactions t.id ≡ None
    is-new other = go (recorded_at x.recorded.transactions t.id) refl
      where
        go : (o : Option Recorded) → recorded_at x.recorded.transactions t.id ≡ o → o ≡ None
        go None found = refl
        go (Some r) found = let at = recorded_at-found x.recorded.transactions t.id r found in absurd (true≢false (sym (ready-now r at.0 at.1).0 ∙ other))

    is-ready : is_ready (recorded_or_new x.recorded.transactions t.id).stage ≡ true
    is-ready = elim (recorded_or_new-cases x.recorded.transactions t.id) [
      | inl known ↦ ap (λ (s : Summary). is_ready s.stage) (ready-now _ known.0 known.1).1
      | inr new ↦ ap (λ (r : Recorded). is_ready r.stage) new
    ]

    has-one : t.is_recorded ≡ true → has_part (recorded_or_new x.recorded.transactions t.id) ≡ true
    has-one recorded =
        let r = recalled Stage.Ready recorded is refl in
        let well = list_all-at is_ready_well x.recorded.transactions kept.good.ready r.0 r.2 in
        ap has_part (found-known x.recorded.transactions t.id r.0 r.3) ∙ elim (or_cases (not (is_ready r.0.stage)) _ well) [
          | inl later ↦ absurd (true≢false (sym (ap (λ (s : Summary). is_ready s.stage) r.1) ∙ not-true _ later))
          | inr both ↦ (and_parts (has_part r.0) (is_none r.0.superior) both).0
        ]
      where
        found-known : (ts : List Recorded) (id : Id) (r : Recorded) → recorded_at ts id ≡ Some r → recorded_or_new ts id ≡ r
        found-known [] id r found = absurd (none-some r found)
        found-known (a ∷ ts) id r found = elim (cases_Bool (same_id a.id id)) [
          | inl same ↦ rw same (same_Some a r (rw same at found))
          | inr other ↦ rw other (found-known ts id r (rw other at found))
        ]

    no-files : has_changes_part (recorded_or_new x.recorded.transactions t.id) ≡ false
    no-files = elim (recorded_or_new-cases x.recorded.transactions t.id) [
      | inr new ↦ ap has_changes_part new
      | inl known ↦
          let s = (ready-now _ known.0 known.1).1 in
          false_from_ne_true _ (λ has. true≢false (sym (kept-changes x.recorded kept.good _ known.0 (ap (λ (s : Summary). is_decided s.stage) s) has) ∙ ap are_recorded_changes (ap (λ (s : Summary). s.changes) s)))
    ]

    no-keys : has_settings_part (recorded_or_new x.recorded.transactions t.id) ≡ false
    no-keys = elim (recorded_or_new-cases x.recorded.transactions t.id) [
      | inr new ↦ ap has_settings_part new
      | inl known ↦
          let s = (ready-now _ known.0 known.1).1 in
          false_from_ne_true _ (λ has. true≢false (sym (kept-settings x.recorded kept.good _ known.0 (ap (λ (s : Summary). is_decided s.stage) s) has) ∙ ap are_good_settings (ap (λ (s : Summary). s.settings) s)))
    ]

    module _ (here : nat_lt t.id.boot x.recorded.boots ≡ false) (undecided' : is_undecided t ≡ true) where
      boot : t.id.boot ≡ x.recorded.boots
      boot =
          let counted = counted-parts x.recorded.boots x.transactions.last_transaction t.id (list_all-at (λ t. is_counted x.recorded.boots x.transactions.last_transaction t.id) x.transactions.items kept.sound.course.transactions.counted t there) in
          omega (arith, leb-true _ _ counted.1, ltb-false _ _ here)

      -- an enlistment of it is of this boot too
      pub boot-of : (e : Enlistment) → IsIn e x.transactions.enlistments → same_id e.transaction t.id ≡ true → e.id.boot ≡ x.recorded.boots
      boot-of e in_es own = elim (or_cases (nat_lt e.transaction.boot x.recorded.boots) (e.id.boot == x.recorded.boots) (list_all-at (is_made_with_it x.recorded.boots) x.transactions.enlistments kept.sound.course.enlistments.made e in_es)) [
        | inl earlier ↦ absurd (true≢false (sym earlier ∙ ap (λ (i : Id). nat_lt i.boot x.recorded.boots) (same_id-equal e.transaction t.id own) ∙ here))
        | inr now ↦ eqb-true _ _ now
      ]

      -- an enlistment of it is new to the log, where it is a superior's or not prepared
      pub new-part : (e : Enlistment) → IsIn e x.transactions.enlistments → same_id e.transaction t.id ≡ true → is_durable_at x.managers e.manager ≡ true → (is_superior e ≡ true) ⊎ (e.is_prepared ≡ false)
          → is_new_enlistment x.recorded e.id e.manager e.information ≡ true
      new-part e in_es own durable how = new-in-record x kept.sound.course kept.agrees e in_es (boot-of e in_es own) durable (λ r in_record its known. elim known [
        | inl part ↦ elim how [
          | inl above ↦ let ordinary = and_parts (same_id e.transaction r.id && not (is_superior e)) (not e.is_read_only) part.0 in true≢false (sym above ∙ not-true _ (and_parts (same_id e.transaction r.id) (not (is_superior e)) ordinary.0).1)
          | inr unprepared ↦ true≢false (sym part.1 ∙ unprepared)
        ]
        | inr above ↦
            let same : r.id ≡ t.id = sym (same_id-equal e.transaction r.id its) ∙ same_id-equal e.transaction t.id own in
            true≢false (sym (ap (λ (s : Summary). is_ready s.stage) (ready-now r in_record same).1) ∙ above.1)
      ])

      pub may-ready : MayReady x.recorded (basis (course_of x t caller)) false false
      may-ready = record {
        may = and_from _ _ (eq-eqb _ _ boot) is-ready;
        new = is-new;
        has = has-one;
        files = λ some. let law = recordings_law.changes x t kept.sound.files kept.agrees among some in and_from _ _ (and_from _ _ (not_from_false _ no-files) law.0) law.1;
        keys = λ some. let law = recordings_law.settings x t kept.sound.keys kept.agrees (some-settings _ some) in and_from _ _ (and_from _ _ (not_from_false _ no-keys) law.0) law.1;
        superior = of-superior (λ e. is_new_enlistment x.recorded e.id e.manager e.information ≡ true) x.transactions.enlistments t.id (λ e in_es is.
            let both = and_parts (same_id e.transaction t.id) (is_superior e) is in new-part e in_es both.0 (durable-above e in_es both.1) (inl both.1));
      }
        where
          among : IsIn t (undecided x)
          among = IsIn-kept (λ (v : Transaction). is_undecided v && not (is_of v.id None)) x.transactions.items t there (and_from _ _ undecided' refl)

          durable-above : (e : Enlistment) → IsIn e x.transactions.enlistments → is_superior e ≡ true → is_durable_at x.managers e.manager ≡ true
          durable-above e in_es above = elim (or_cases (not (is_superior e)) (is_durable_at x.managers e.manager) (list_all-at (is_superior_durable x.managers) x.transactions.enlistments kept.sound.course.enlistments.superiors_durable e in_es)) [
            | inl below ↦ absurd (true≢false (sym above ∙ not-true _ below))
            | inr durable ↦ durable
          ]

  -- ---- a transaction that commits

  -- an enlistment of it that has not finished may be done
  pub can-finish : t.is_recorded ≡ true → stage_in t.phase ≡ Some Stage.Decided → (e : Enlistment) → IsIn e x.transactions.enlistments → takes_part t.id e ≡ true → is_durable_at x.managers e.manager ≡ true → e.is_prepared ≡ true → e.is_finished ≡ false
      → fact_applies x.recorded (Event.Done t.id (DonePart.Enlistment e.id)) ≡ true
  can-finish recorded is e in_es part durable prepared unfinished =
      stage-found x.recorded t.id (r.0) (has_undone (DonePart.Enlistment e.id)) r.3 (and_from _ _ decided' (list_any-from (λ (p : RecordedPart). is_part_of (DonePart.Enlistment e.id) p.part && not p.is_done) (r.0).parts p.0 p.1 (mine p.0.part refl p.2)))
    where
      in_now : IsIn (brought_back e) (recorded_enlistments x t.id)
      in_now = IsIn-into_rising _ (brought_back e) (IsIn-map brought_back e _ (IsIn-kept (λ e. takes_part t.id e && is_durable_at x.managers e.manager && e.is_prepared && not e.is_finished) x.transactions.enlistments e in_es
          (and_from _ _ (and_from _ _ (and_from _ _ part durable) prepared) (not_from_false _ unfinished))))

      some : (es : List Enlistment) → IsIn (brought_back e) es → not (length es == 0) ≡ true
      some [] none = absurd none
      some (f ∷ es) has = length-some f es

      r : (r : Recorded) × (summary_of r ≡ summary_now x t Stage.Decided) × IsIn r x.recorded.transactions × (recorded_at x.recorded.transactions t.id ≡ Some r)
      r = recalled Stage.Decided recorded is (some (recorded_enlistments x t.id) in_now)

      decided' : is_decided (r.0).stage ≡ true
      decided' = ap (λ (s : Summary). is_decided s.stage) r.1

      p : (p : RecordedPart) × IsIn p (r.0).parts × IsIn (brought_back e) (enlistment_back (r.0).id p)
      p = IsIn-unflat (enlistment_back (r.0).id) (r.0).parts (brought_back e) (IsIn-rising _ (brought_back e) (subst (IsIn (brought_back e)) (sym (ap (λ (s : Summary). s.enlistments) r.1)) in_now))

      well : is_done_well (r.0) p.0 ≡ true
      well = list_all-at (is_done_well (r.0)) (r.0).parts (list_all-at (λ t. list_all (is_done_well t) t.parts) x.recorded.transactions kept.good.done (r.0) r.2) p.0 p.1

      mine : (q : Part) → (p.0).part ≡ q → IsIn (brought_back e) (enlistment_back (r.0).id (record p.0 { part = q })) → (is_part_of (DonePart.Enlistment e.id) (p.0).part && not (p.0).is_done) ≡ true
      mine (EnlistmentPart a m i) same (inl is') = and_from _ _ (ap (is_part_of (DonePart.Enlistment e.id)) same ∙ same_id-from e.id a (sym (ap (λ (f : Enlistment). f.id) is')))
          (elim (or_cases (not (p.0).is_done) (is_decided (r.0).stage && is_sole (p.0).part) well) [
            | inl not_done ↦ not_done
            | inr sole ↦ absurd (true≢false (sym (and_parts (is_decided (r.0).stage) (is_sole (p.0).part) sole).1 ∙ ap is_sole same))
          ])
      mine (EnlistmentPart a m i) same (inr none) = absurd none
      mine (Changes cs) same none = absurd none
      mine (Settings ss) same none = absurd none
