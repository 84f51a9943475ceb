-- The events by which a transaction gets ready, beside its course.
use Rattle.std.specs.Prelude.{if◌then◌else◌}
use Rattle.std.proofs.Common.{◌≡◌, ◌&&◌, not, Bool, true, false, List, [], ◌∷◌, ◌++◌, map, filter, Option, Some, None, is_some, refl, sym, ◌∙◌, ap, subst, inl, inr, ◌⊎◌}
use Rattle.std.proofs.lemmas.Bool.{cases_Bool, and_from, and_left, and_right, and_parts, ltb-true, not_from_false, true≢false, false_from_ne_true}
use Rattle.std.proofs.lemmas.Grind.{flat_map-append}
use Rattle.std.proofs.lemmas.List.{append-nil}
use Rattle.std.specs.List.{flat_map}
use Rattle.ktm_base.specs.declared.id.Id.{Id}
use Rattle.ktm_world.specs.declared.change.Change.{Change}
use Rattle.ktm_world.specs.declared.event.Event.{Event}
use Rattle.ktm_world.specs.declared.object.Phase.{Phase}
use Rattle.ktm_world.specs.declared.object.Transaction.{Transaction}
use Rattle.ktm_world.specs.declared.recorded.RecordedPart.{RecordedPart}
use Rattle.ktm_world.specs.declared.recorded.Stage.{Stage}
use Rattle.ktm_world.specs.Committed.{Committed, committed_with}
use Rattle.ktm_world.specs.Durable.{Durable, Recorded, after_events, changes_in, changes_of, enlistments_in, enlistments_of, is_decided, settings_in, settings_of, superior_ids}
use Rattle.ktm_world.specs.Enlistments.{Enlistment, Sent, has_id, is_durable_at, takes_part, with_enlistments}
use Rattle.ktm_world.specs.Keys.{OwnSettings}
use Rattle.ktm_world.specs.Lawful.{Summary, brought_back, stage_in, summary_of}
use Rattle.ktm_world.specs.Outcome.{committed_now}
use Rattle.ktm_world.specs.Phases.{Course, changing_one, enlistment_part, recording}
use Rattle.ktm_world.specs.Present.{Present}
use Rattle.ktm_world.specs.TransactionCalls.{course_of}
use Rattle.ktm_world.specs.Transactions.{same_id}
use Rattle.ktm_world.specs.World.{by_rising_id, enlistment_back}
use Rattle.ktm_world.proofs.offered.Durables.{after_events-append}
use Rattle.txf_laws.specs.Elements.{IsIn, each_pair}
use Rattle.txf_laws.specs.GoodState.{IsGoodState}
use Rattle.ktm_records.specs.Kept.{is_carried_out}
use Rattle.ktm_courses.specs.SoundCourse.{IsSoundCourse, has_durable_part}
use Rattle.txf_laws.specs.SoundFiles.{IsSoundFiles}
use Rattle.ktm_records.proofs.offered.Agreement.{Agreed, filter-step}
use Rattle.ktm_courses.proofs.offered.EnlistmentAnswers.{RiseEnlistments}
use Rattle.txf_laws.proofs.offered.Diamonds.{IsIn-map, IsIn-right}
use Rattle.txf_laws.proofs.offered.Elements.{IsIn-filter, IsIn-kept, each_pair-append, each_pair-filter, each_pair-right, each_pair-unflat}
use Rattle.ktm_records.proofs.offered.AgreementOfCourses.{Follows, Was, begun, course_enlistments, course_in, course_now, course_summaries, none-unrecorded, placed-at, summary-none, summary-one, was, was-in}
use Rattle.txf_laws.proofs.offered.Lists.{IsIn-cases, IsIn-left, IsIn-unmap}
use Rattle.ktm_courses.proofs.offered.Moves.{same-by_id}
use Rattle.txf_laws.proofs.offered.CommitsOfOthers.{drawn-made}
use Rattle.ktm_records.proofs.LoggedOrder.{if_there, or_new}
use Rattle.ktm_courses.proofs.offered.Endings.{none-at}
use Rattle.ktm_courses.proofs.offered.EnlistmentOrder.{IsIn-into_rising, IsIn-rising, differ-rising, differ_in_id, earlier, ids-part, map-flat, rising-same}
use Rattle.ktm_records.proofs.AgreementOfSilentSteps.{is_kept, none-kept}
use Rattle.ktm_records.proofs.LoggedUndecided.{AreDone, AreUndone, Stores, parts-undone}
use Rattle.txf_laws.proofs.offered.Tables.{same_id-equal, same_id-from}
use Rattle.ktm_records.proofs.LoggedTransaction.{AreDrawn, Tracks, tracks-ready, with_ready}
use Rattle.ktm_courses.proofs.offered.Views.{each_pair-map}

-- ---- one enlistment is changed

module _ (es : List Enlistment) (rises : RiseEnlistments es) (e : Enlistment) (there : IsIn e es) (f : Enlistment → Enlistment) where
  abbrev step : Enlistment → Enlistment
  step g = if has_id e.id g then f g else g

  pub changed-one : IsIn (f e) (with_enlistments (has_id e.id) f es)
  changed-one = subst (λ g. IsIn g (map step es)) (rw (same_id-from e.id e.id refl) refl) (IsIn-map step e es there)

  pub changed-other : (g : Enlistment) → IsIn g es → has_id e.id g ≡ false → IsIn g (with_enlistments (has_id e.id) f es)
  changed-other g there' other = subst (λ h. IsIn h (map step es)) (rw other refl) (IsIn-map step g es there')

  pub changed-cases : (g : Enlistment) → IsIn g (with_enlistments (has_id e.id) f es) → (g ≡ f e) ⊎ (IsIn g es × (has_id e.id g ≡ false))
  changed-cases g there' =
      let from = IsIn-unmap step g es there' in
      elim (cases_Bool (has_id e.id from.0)) [
        | inl is ↦
            let same : f from.0 ≡ g = rw is at from.1 in
            inl (sym same ∙ ap f (same-by_id (λ (x : Enlistment). x.id) es rises from.0 e from.2 there (same_id-equal (from.0).id e.id is)))
        | inr other ↦ let same : from.0 ≡ g = rw other at from.1 in inr (subst (λ h. IsIn h es) same from.2, subst (λ h. has_id e.id h ≡ false) same other)
      ]

  -- what is not so of it, before and behind, is so of the same others
  pub others-stay : (test : Enlistment → Bool) → test (f e) ≡ false → test e ≡ false → (g : Enlistment) → IsIn g es → ((test (step g) ≡ false) × (test g ≡ false)) ⊎ (step g ≡ g)
  others-stay test behind before g there' = elim (cases_Bool (has_id e.id g)) [
    | inr other ↦ inr (rw other refl)
    | inl is ↦
        let same : g ≡ e = same-by_id (λ (x : Enlistment). x.id) es rises g e there' there (same_id-equal g.id e.id is) in
        let stepped : step g ≡ f g = rw is refl in
        inl (ap test (stepped ∙ ap f same) ∙ behind, ap test same ∙ before)
  ]

  pub rises-changed : ((g : Enlistment) → (f g).id ≡ g.id) → RiseEnlistments (with_enlistments (has_id e.id) f es)
  rises-changed same = each_pair-map earlier earlier step (λ a b i. earlier (record a { id = step-id a i }) (record b { id = step-id b i })) es ∙ rises
    where
      step-id : (g : Enlistment) → (step g).id ≡ g.id
      step-id g = elim (cases_Bool (has_id e.id g)) [ inl is ↦ rw is (same g) | inr other ↦ rw other refl ]

-- ---- the enlistments that the log has of a course

-- each is one of the course, as it would be brought back
pub kept-from : (c : Course) (x : Enlistment) → IsIn x (course_enlistments c) → (e : Enlistment) × IsIn e c.enlistments × (is_kept c e ≡ true) × (brought_back e ≡ x)
kept-from c x there =
    let from = IsIn-unmap brought_back x (filter (is_kept c) c.enlistments) (IsIn-rising (map brought_back (filter (is_kept c) c.enlistments)) x there) in
    let kept = IsIn-filter (is_kept c) c.enlistments from.0 from.2 in
    (from.0, kept.0, kept.1, from.1)

pub kept-into : (c : Course) (e : Enlistment) → IsIn e c.enlistments → is_kept c e ≡ true → IsIn (brought_back e) (course_enlistments c)
kept-into c e there kept = IsIn-into_rising (map brought_back (filter (is_kept c) c.enlistments)) (brought_back e) (IsIn-map brought_back e (filter (is_kept c) c.enlistments) (IsIn-kept (is_kept c) c.enlistments e there kept))

pub differ-kept : (c : Course) → RiseEnlistments c.enlistments → each_pair differ_in_id (map brought_back (filter (is_kept c) c.enlistments)) ≡ true
differ-kept c rises = each_pair-map differ_in_id differ_in_id brought_back (λ a b. refl) (filter (is_kept c) c.enlistments) ∙ each_pair-filter differ_in_id (is_kept c) c.enlistments (differ-rising c.enlistments rises)

-- the log has to have the same where one is changed that it does not have to have
pub enlistments-other : (c : Course) → RiseEnlistments c.enlistments → (e : Enlistment) → IsIn e c.enlistments → (f : Enlistment → Enlistment) → is_kept c (f e) ≡ false → is_kept c e ≡ false → course_enlistments (changing_one c e.id f) ≡ course_enlistments c
enlistments-other c rises e there f behind before = ap (λ es. by_rising_id (map brought_back es)) (filter-step (is_kept c) (λ g. if has_id e.id g then f g else g) c.enlistments (others-stay c.enlistments rises e there f (is_kept c) behind before))

-- the log has no enlistments of it where none with a durable resource manager is prepared
pub none-prepared : (c : Course) → has_durable_part c.managers c.enlistments c.transaction.id (λ e. e.is_prepared) ≡ false → course_enlistments c ≡ []
none-prepared c none = none-kept c (λ e there. false_from_ne_true _ (λ is.
    let finished = and_parts (takes_part c.transaction.id e && is_durable_at c.managers e.manager && e.is_prepared) (not e.is_finished) is in
    let prepared = and_parts (takes_part c.transaction.id e && is_durable_at c.managers e.manager) e.is_prepared finished.0 in
    let durable = and_parts (takes_part c.transaction.id e) (is_durable_at c.managers e.manager) prepared.0 in
    true≢false (sym (and_from _ _ durable.0 (and_from _ _ prepared.1 durable.1)) ∙ none-at (λ e. takes_part c.transaction.id e && (e.is_prepared && is_durable_at c.managers e.manager)) c.enlistments none e there)))

-- no two of what the log has of a transaction of a good state have one Id
pub differ-parts : (s : Durable) → IsGoodState s → (r : Recorded) → IsIn r s.transactions → each_pair differ_in_id (flat_map (enlistment_back r.id) r.parts) ≡ true
differ-parts s good r there =
    sym (each_pair-map (λ a b. not (same_id a b)) differ_in_id (λ (e : Enlistment). e.id) (λ a b. refl) (flat_map (enlistment_back r.id) r.parts))
    ∙ ap (each_pair (λ a b. not (same_id a b))) (map-flat (λ (e : Enlistment). e.id) (enlistment_back r.id) (λ (p : RecordedPart). enlistments_in p.part) (ids-part r.id) r.parts)
    ∙ each_pair-right (λ a b. not (same_id a b)) (superior_ids r.superior) (flat_map (λ (p : RecordedPart). enlistments_in p.part) r.parts)
    (each_pair-unflat (λ a b. not (same_id a b)) enlistments_of s.transactions good.enlistments_differ r there)

-- ---- a transaction that gets ready

-- what the log has of a transaction that gets ready: some of its enlistments, and what it changed and set if that is asked
pub record Readies (x : Present) (before behind : List Recorded) (c : Course) (cs : List Change) (ss : OwnSettings) (o : Option Recorded) : Type 0 where
  pub tracks : Tracks x c.transaction.id before behind o (after_events x.recorded c.events) (committed_with (committed_now x) c.works)
  pub stores : Stores c cs ss (or_new o c.transaction.id)
  pub stage : (or_new o c.transaction.id).stage ≡ Stage.Ready
  pub alone : (or_new o c.transaction.id).superior ≡ None
  pub differ : each_pair differ_in_id (flat_map (enlistment_back (or_new o c.transaction.id).id) (or_new o c.transaction.id).parts) ≡ true
  pub has : c.transaction.is_recorded ≡ is_some o
  pub drawn : AreDrawn x c.changes

-- enlistments alone
abbrev pub Prepares : Present → List Recorded → List Recorded → Course → Option Recorded → Type 0
Prepares x before behind c o = Readies x before behind c [] [] o

-- at first
module _ (x : Present) (sound : IsSoundCourse x) (files : IsSoundFiles x) (good : IsGoodState x.recorded) (agreed : Agreed x) (t : Transaction) (there : IsIn t x.transactions.items) (caller : Option Enlistment) where
  abbrev c : Course
  c = course_of x t caller

  -- what the log has of it
  abbrev had : Was x t (placed-at x sound t there)
  had = was x sound t there agreed.agrees

  pub drawn-own : AreDrawn x c.changes
  drawn-own n made = ltb-true _ _ (and_parts _ _ (drawn-made x files t.id n made)).1

  pub prepares-first : stage_in t.phase ≡ Some Stage.Ready → (t.is_recorded ≡ false → course_enlistments c ≡ []) → Prepares x had.before had.behind c had.o
  prepares-first phase none = elim (cases_Bool t.is_recorded) [ inl recorded' ↦ known recorded' (summary-one had.o (course_now c Stage.Ready) (own ∙ there-is recorded')) | inr other ↦ new other (summary-none had.o (own ∙ none-unrecorded c other)) ]
    where
      own : map summary_of (if_there had.o) ≡ course_summaries c
      own = had.own ∙ begun x t caller

      there-is : t.is_recorded ≡ true → course_summaries c ≡ course_now c Stage.Ready ∷ []
      there-is recorded' = rw recorded' (ap (course_in c) phase)

      new : t.is_recorded ≡ false → had.o ≡ None → Prepares x had.before had.behind c had.o
      new other is = subst (λ o. Prepares x had.before had.behind c o) (sym is) (record {
        tracks = subst (λ o. Tracks x t.id had.before had.behind o x.recorded (committed_now x)) is had.tracks;
        stores = record { id = refl; enlistments = sym (none other); changes = refl; settings = refl; parts = λ p none'. absurd none' };
        stage = refl;
        alone = refl;
        differ = refl;
        has = other;
        drawn = drawn-own;
      })

      known : t.is_recorded ≡ true → (r : Recorded) × (had.o ≡ Some r) × (summary_of r ≡ course_now c Stage.Ready) → Prepares x had.before had.behind c had.o
      known recorded' (r, is, same) =
          let in_all : IsIn r x.recorded.transactions = was-in x t (placed-at x sound t there) had r (subst (λ o. IsIn r (if_there o)) (sym is) (inl refl)) in
          let stage' : r.stage ≡ Stage.Ready = ap (λ (s : Summary). s.stage) same in
          let changes' : changes_of r ≡ [] = ap (λ (s : Summary). s.changes) same in
          let settings' : settings_of r ≡ [] = ap (λ (s : Summary). s.settings) same in
          subst (λ o. Prepares x had.before had.behind c o) (sym is) (record {
            tracks = subst (λ o. Tracks x t.id had.before had.behind o x.recorded (committed_now x)) is had.tracks;
            stores = record {
              id = ap (λ (s : Summary). s.id) same;
              enlistments = ap (λ (s : Summary). s.enlistments) same;
              changes = changes';
              settings = settings';
              parts = subst (λ cs. AreUndone cs [] r) changes' (subst (λ ss. AreUndone (changes_of r) ss r) settings' (parts-undone x.recorded good r in_all (ap is_decided stage')));
            };
            stage = stage';
            alone = ap (λ (s : Summary). s.superior) same;
            differ = differ-parts x.recorded good r in_all;
            has = recorded';
            drawn = drawn-own;
          })

-- ---- steps

module _ (x : Present) (before behind : List Recorded) (c : Course) where
  abbrev id : Id
  id = c.transaction.id

  abbrev s : Durable
  s = after_events x.recorded c.events

  abbrev committed : Committed
  committed = committed_with (committed_now x) c.works

  -- enlistments are changed by which the log has to have the same ones
  pub readies-alike : (phase : Phase) (es : List Enlistment) (sent : List Sent) (cs : List Change) (ss : OwnSettings) (o : Option Recorded)
      → course_enlistments (record c { transaction = record c.transaction { phase = phase }; enlistments = es; sent = sent }) ≡ course_enlistments c → Readies x before behind c cs ss o
      → Readies x before behind (record c { transaction = record c.transaction { phase = phase }; enlistments = es; sent = sent }) cs ss o
  readies-alike phase es sent cs ss o same readies = record {
    tracks = readies.tracks;
    stores = record { id = (readies.stores).id; enlistments = (readies.stores).enlistments ∙ sym same; changes = (readies.stores).changes; settings = (readies.stores).settings; parts = (readies.stores).parts };
    stage = readies.stage;
    alone = readies.alone;
    differ = readies.differ;
    has = readies.has;
    drawn = readies.drawn;
  }

  -- what the log has to have while it is being prepared
  pub follows-preparing : (o : Option Recorded) → stage_in c.transaction.phase ≡ Some Stage.Ready → Prepares x before behind c o → Follows x id before behind c
  follows-preparing o phase prepares = record { o = o; tracks = prepares.tracks; summaries = summaries o prepares; carried = carried o prepares }
    where
      summaries : (o : Option Recorded) → Prepares x before behind c o → map summary_of (if_there o) ≡ course_summaries c
      summaries None prepares = sym (none-unrecorded c prepares.has)
      summaries (Some r) prepares =
          let stores = prepares.stores in
          let now : summary_of r ≡ course_now c Stage.Ready = λ i. record { id = stores.id i; stage = prepares.stage i; superior = prepares.alone i; enlistments = stores.enlistments i; changes = stores.changes i; settings = stores.settings i } in
          ap (λ s. s ∷ []) now ∙ (λ i. if sym prepares.has i then course_in c (sym phase i) else [])

      carried : (o : Option Recorded) → Prepares x before behind c o → (r : Recorded) → IsIn r (if_there o) → is_carried_out r ≡ true
      carried None prepares r none = absurd none
      carried (Some q) prepares r (inr none) = absurd none
      carried (Some q) prepares r (inl same) = subst (λ r. is_carried_out r ≡ true) same (ap (λ stage. is_carried_out (record q { stage = stage })) prepares.stage)

  -- an enlistment is prepared
  module _ (rises : RiseEnlistments c.enlistments) (e : Enlistment) (there : IsIn e c.enlistments) (part : takes_part id e ≡ true) (unprepared : e.is_prepared ≡ false) where
    abbrev prepared : Enlistment → Enlistment
    prepared g = record g { owes = None; is_prepared = true }

    abbrev c_prepared : Course
    c_prepared = changing_one c e.id prepared

    its-own : same_id e.transaction id ≡ true
    its-own = (and_parts (same_id e.transaction id) _ (and_parts _ (not e.is_read_only) part).0).0

    not-kept : is_kept c e ≡ false
    not-kept = false_from_ne_true _ (λ is. true≢false (sym (and_parts _ e.is_prepared (and_parts _ (not e.is_finished) is).0).1 ∙ unprepared))

    -- a kept one is another one
    kept-other : (g : Enlistment) → IsIn g c.enlistments → is_kept c g ≡ true → has_id e.id g ≡ false
    kept-other g there' kept = false_from_ne_true _ (λ is. true≢false (sym kept ∙ ap (is_kept c) (same-by_id (λ (h : Enlistment). h.id) c.enlistments rises g e there' there (same_id-equal g.id e.id is)) ∙ not-kept))

    -- where it is not recorded
    pub readies-volatile : (cs : List Change) (ss : OwnSettings) (o : Option Recorded) → is_durable_at c.managers e.manager ≡ false → Readies x before behind c cs ss o → Readies x before behind c_prepared cs ss o
    readies-volatile cs ss o volatile readies = readies-alike c.transaction.phase c_prepared.enlistments c.sent cs ss o (enlistments-other c rises e there prepared (volatile-not (prepared e) volatile) not-kept) readies
      where
        volatile-not : (g : Enlistment) → is_durable_at c.managers g.manager ≡ false → is_kept c g ≡ false
        volatile-not g other = and_left _ _ (and_left _ _ (and_right (takes_part id g) _ other))

    -- where it is
    abbrev c_ready : Course
    c_ready = record (recording c_prepared (Event.Ready id (enlistment_part e) ∷ [])) { transaction = record c.transaction { is_recorded = true } }

    pub prepares-durable : (o : Option Recorded) → is_durable_at c.managers e.manager ≡ true → e.is_finished ≡ false → Prepares x before behind c o → Prepares x before behind c_ready (Some (with_ready (or_new o id) (enlistment_part e)))
    prepares-durable o durable unfinished prepares = record {
      tracks = subst (λ s'. Tracks x id before behind (Some (with_ready r (enlistment_part e))) s' committed) (sym (after_events-append x.recorded c.events (Event.Ready id (enlistment_part e) ∷ [])))
          (tracks-ready x id before behind o s committed (enlistment_part e) (λ n none. absurd none) prepares.tracks);
      stores = record {
        id = stores.id;
        enlistments = ap by_rising_id pushed ∙ rising-same (xs ++ back ∷ []) (map brought_back (filter (is_kept c_ready) c_ready.enlistments)) differ' (differ-kept c_ready rises') to from;
        changes = flat_map-append (λ (p : RecordedPart). changes_in p.part) r.parts _ ∙ append-nil (changes_of r) ∙ stores.changes;
        settings = flat_map-append (λ (p : RecordedPart). settings_in p.part) r.parts _ ∙ append-nil (settings_of r) ∙ stores.settings;
        parts = λ p in_parts. elim (IsIn-cases p r.parts _ in_parts) [
          | inl old ↦ stores.parts p old
          | inr (inl same) ↦ subst (λ (q : RecordedPart). (q.is_done ≡ false) × AreDone false false q.part) same (refl, (λ is. is, λ is. is))
          | inr (inr none) ↦ absurd none
        ];
      };
      stage = prepares.stage;
      alone = prepares.alone;
      differ = ap (each_pair differ_in_id) pushed ∙ differ';
      has = refl;
      drawn = prepares.drawn;
    }
      where
        stores : Stores c [] [] (or_new o id)
        stores = prepares.stores

        r : Recorded
        r = or_new o id

        xs : List Enlistment
        xs = flat_map (enlistment_back r.id) r.parts

        back : Enlistment
        back = record (brought_back e) { transaction = r.id }

        is-back : back ≡ brought_back e
        is-back = λ i. record (brought_back e) { transaction = (stores.id ∙ sym (same_id-equal e.transaction id its-own)) i }

        pushed : flat_map (enlistment_back r.id) (r.parts ++ record { is_done = false; part = enlistment_part e } ∷ []) ≡ xs ++ back ∷ []
        pushed = flat_map-append (enlistment_back r.id) r.parts (record { is_done = false; part = enlistment_part e } ∷ [])

        rises' : RiseEnlistments c_ready.enlistments
        rises' = rises-changed c.enlistments rises e there prepared (λ g. refl)

        -- those that it had
        old : (y : Enlistment) → IsIn y xs → (g : Enlistment) × IsIn g c.enlistments × (is_kept c g ≡ true) × (brought_back g ≡ y)
        old y in_xs = kept-from c y (subst (IsIn y) stores.enlistments (IsIn-into_rising xs y in_xs))

        differ' : each_pair differ_in_id (xs ++ back ∷ []) ≡ true
        differ' = each_pair-append differ_in_id xs (back ∷ []) prepares.differ refl (λ a b in_xs in_one.
            let from = old a in_xs in
            let other : has_id e.id a ≡ false = ap (λ (y : Enlistment). has_id e.id y) (sym from.3) ∙ kept-other from.0 from.1 from.2 in
            elim in_one [ inl same ↦ subst (λ (y : Enlistment). not (same_id a.id y.id) ≡ true) same (not_from_false _ other) | inr none ↦ absurd none ])

        to : (y : Enlistment) → IsIn y (xs ++ back ∷ []) → IsIn y (map brought_back (filter (is_kept c_ready) c_ready.enlistments))
        to y in_all = elim (IsIn-cases y xs (back ∷ []) in_all) [
          | inl in_xs ↦
              let from = old y in_xs in
              IsIn-rising _ y (subst (λ z. IsIn z (course_enlistments c_ready)) from.3 (kept-into c_ready from.0 (changed-other c.enlistments rises e there prepared from.0 from.1 (kept-other from.0 from.1 from.2)) from.2))
          | inr (inl same) ↦ IsIn-rising _ y (subst (λ z. IsIn z (course_enlistments c_ready)) (sym is-back ∙ same) (kept-into c_ready (prepared e) (changed-one c.enlistments rises e there prepared)
              (and_from _ _ (and_from _ _ (and_from _ _ part durable) refl) (not_from_false _ unfinished))))
          | inr (inr none) ↦ absurd none
        ]

        from : (y : Enlistment) → IsIn y (map brought_back (filter (is_kept c_ready) c_ready.enlistments)) → IsIn y (xs ++ back ∷ [])
        from y in_kept =
            let at = kept-from c_ready y (IsIn-into_rising _ y in_kept) in
            elim (changed-cases c.enlistments rises e there prepared at.0 at.1) [
              | inl same ↦ IsIn-right y xs (back ∷ []) (inl (is-back ∙ ap brought_back (sym same) ∙ at.3))
              | inr other ↦ IsIn-left y xs (back ∷ []) (IsIn-rising xs y (subst (IsIn y) (sym stores.enlistments) (subst (λ z. IsIn z (course_enlistments c)) at.3 (kept-into c at.0 other.0 at.2))))
            ]
