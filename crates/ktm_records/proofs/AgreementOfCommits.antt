-- What was recorded goes on to agree with what is so now where a transaction commits.
use Rattle.std.specs.Prelude.{if◌then◌else◌}
use Rattle.std.proofs.Common.{◌≡◌, ◌&&◌, ◌||◌, not, Bool, true, false, List, [], ◌∷◌, ◌++◌, map, Some, None, refl, sym, ◌∙◌, ap, subst, append_assoc}
use Rattle.std.proofs.lemmas.Bool.{true≢false}
use Rattle.std.proofs.lemmas.List.Sums.{fold-append}
use Rattle.std.proofs.lemmas.List.{append-nil}
use Rattle.std.specs.List.{flat_map}
use Rattle.ktm_base.specs.declared.id.Id.{Id}
use Rattle.ktm_base.specs.declared.notify.Notify.{Notify}
use Rattle.ktm_world.specs.declared.change.Change.{Change}
use Rattle.ktm_world.specs.declared.event.Event.{Event}
use Rattle.ktm_world.specs.declared.event.DonePart.{DonePart}
use Rattle.ktm_world.specs.declared.event.Part.{Part}
use Rattle.ktm_world.specs.declared.event.Part.TheVariants.{Enlistment as EnlistmentPart, Changes, Settings}
use Rattle.ktm_world.specs.declared.object.Phase.TheVariants.{Committing}
use Rattle.ktm_world.specs.declared.object.TransactionOutcome.TheVariants.{Committed as CommittedOutcome}
use Rattle.ktm_world.specs.declared.recorded.Stage.{Stage}
use Rattle.ktm_world.specs.declared.recorded.RecordedPart.{RecordedPart}
use Rattle.ktm_world.specs.declared.step.Owed.{Owed}
use Rattle.ktm_world.specs.Changes.{changed_all, has_changes}
use Rattle.ktm_world.specs.Committed.{Committed, committed_with, with_work}
use Rattle.ktm_world.specs.Durable.{Durable, Recorded, after_event, after_events, changes_in, emptied_part, settings_in}
use Rattle.ktm_world.specs.Enlistments.{Enlistment, takes_part}
use Rattle.ktm_world.specs.Keys.{OwnSettings, stored_all}
use Rattle.ktm_world.specs.Lawful.{superior_now}
use Rattle.ktm_world.specs.Outcome.{committed_now}
use Rattle.ktm_world.specs.Phases.{Course, event_if, has_settings, owing, superior, telling, work_of}
use Rattle.ktm_world.specs.Present.{Present}
use Rattle.ktm_world.specs.World.{by_rising_id, enlistment_back, is_enlistment_part}
use Rattle.ktm_world.proofs.offered.Durables.{after_events-append}
use Rattle.ktm_records.specs.Kept.{is_carried_out}
use Rattle.ktm_records.proofs.offered.AgreementOfCourses.{Follows, course_in, course_summaries, follows-from}
use Rattle.txf_laws.proofs.offered.Lists.{IsIn-unmap}
use Rattle.ktm_records.proofs.LoggedOrder.{in-while, while_open}
use Rattle.txf_laws.proofs.offered.Reservations.{tree-of}
use Rattle.ktm_records.proofs.LoggedDecisions.{Settles, ends-if_finished, settled-carried, settled-summaries, staying}
use Rattle.ktm_records.proofs.AgreementOfSilentSteps.{alike-stepped, in-alike}
use Rattle.ktm_records.proofs.LoggedUndecided.{AreDone, Stores}
use Rattle.ktm_records.proofs.LoggedTransaction.{AreDrawn, Tracks, as_decided, mark_if, tracks-decided, tracks-if}
use Rattle.ktm_world.specs.Rows.{commits}
use Rattle.ktm_world.specs.Steps.{run}
use Rattle.ktm_world.specs.declared.step.Fact.{Fact}
use Rattle.ktm_world.specs.declared.step.Step.{Step}

-- ---- the parts of a decided transaction

-- emptied, and marked where the files and where the keys are done
abbrev settled_part : Bool → Bool → RecordedPart → RecordedPart
settled_part a b p = mark_if b DonePart.Keys (mark_if a DonePart.Files (emptied_part p))

-- a settled part is not done exactly where it is an enlistment's
open-each : (a b d : Bool) (q : Part) → d ≡ false → AreDone a b q → not (settled_part a b (record { is_done = d; part = q })).is_done ≡ is_enlistment_part (settled_part a b (record { is_done = d; part = q }))
open-each a b true q undone are = absurd (true≢false undone)
open-each true true false (EnlistmentPart e m i) undone are = refl
open-each true false false (EnlistmentPart e m i) undone are = refl
open-each false true false (EnlistmentPart e m i) undone are = refl
open-each false false false (EnlistmentPart e m i) undone are = refl
open-each true true false (Changes cs) undone are = refl
open-each true false false (Changes cs) undone are = refl
open-each false b false (Changes cs) undone are = absurd (true≢false (sym (are.0 refl)))
open-each true true false (Settings ss) undone are = refl
open-each false true false (Settings ss) undone are = refl
open-each a false false (Settings ss) undone are = absurd (true≢false (sym (are.1 refl)))

-- it changes and sets nothing, and its enlistment is as it was
record IsSettledOf (id : Id) (p q : RecordedPart) : Type 0 where
  changes : changes_in q.part ≡ []
  settings : settings_in q.part ≡ []
  back : enlistment_back id q ≡ enlistment_back id p

settled-each : (id : Id) (a b d : Bool) (q : Part) → IsSettledOf id (record { is_done = d; part = q }) (settled_part a b (record { is_done = d; part = q }))
settled-each id true true d (EnlistmentPart e m i) = record { changes = refl; settings = refl; back = refl }
settled-each id true false d (EnlistmentPart e m i) = record { changes = refl; settings = refl; back = refl }
settled-each id false true d (EnlistmentPart e m i) = record { changes = refl; settings = refl; back = refl }
settled-each id false false d (EnlistmentPart e m i) = record { changes = refl; settings = refl; back = refl }
settled-each id true true d (Changes cs) = record { changes = refl; settings = refl; back = refl }
settled-each id true false d (Changes cs) = record { changes = refl; settings = refl; back = refl }
settled-each id false true d (Changes cs) = record { changes = refl; settings = refl; back = refl }
settled-each id false false d (Changes cs) = record { changes = refl; settings = refl; back = refl }
settled-each id true true d (Settings ss) = record { changes = refl; settings = refl; back = refl }
settled-each id true false d (Settings ss) = record { changes = refl; settings = refl; back = refl }
settled-each id false true d (Settings ss) = record { changes = refl; settings = refl; back = refl }
settled-each id false false d (Settings ss) = record { changes = refl; settings = refl; back = refl }

-- all of them
abbrev settled_parts : Bool → Bool → List RecordedPart → List RecordedPart
settled_parts a b ps = map (mark_if b DonePart.Keys) (map (mark_if a DonePart.Files) (map emptied_part ps))

gathered-none : {X : Type 0} (f : RecordedPart → List X) (a b : Bool) (ps : List RecordedPart) → ((p : RecordedPart) → f (settled_part a b p) ≡ []) → flat_map f (settled_parts a b ps) ≡ []
gathered-none f a b [] each = refl
gathered-none f a b (p ∷ ps) each = λ i. each p i ++ gathered-none f a b ps each i

back-all : (id : Id) (a b : Bool) (ps : List RecordedPart) → flat_map (enlistment_back id) (settled_parts a b ps) ≡ flat_map (enlistment_back id) ps
back-all id a b [] = refl
back-all id a b (p ∷ ps) = λ i. (settled-each id a b p.is_done p.part).back i ++ back-all id a b ps i

-- ---- the course

-- those that are told to commit
abbrev is_told : Course → Enlistment → Bool
is_told c e = takes_part c.transaction.id e && e.is_prepared && e.is_recovered

-- what is recorded of a decision, where the log has the transaction
abbrev deciding : Id → Bool → Bool → Bool → List Event
deciding id has a b = event_if has (Event.Decide id) ++ event_if a (Event.Done id DonePart.Files) ++ event_if b (Event.Done id DonePart.Keys)

-- a course that was decided
record HasCommitted (c d : Course) : Type 0 where
  events : d.events ≡ c.events ++ deciding c.transaction.id c.transaction.is_recorded (has_changes c.changes) (has_settings c.settings)
  works : d.works ≡ c.works ++ work_of c
  summaries : course_summaries d ≡ staying c

committing-committed : (c : Course) → HasCommitted c (run commits c)
committing-committed c =
    let ends = ends-if_finished d refl in record {
      events = ends.events ∙ ap (λ es. es ++ keys) (append_assoc c.events (event_if c.transaction.is_recorded (Event.Decide c.transaction.id)) files)
          ∙ append_assoc c.events (event_if c.transaction.is_recorded (Event.Decide c.transaction.id) ++ files) keys;
      works = ends.works;
      summaries = ends.summaries ∙ (λ i. if c.transaction.is_recorded then same i else []);
    }
  where
    files : List Event
    files = event_if (has_changes c.changes) (Event.Done c.transaction.id DonePart.Files)

    keys : List Event
    keys = event_if (has_settings c.settings) (Event.Done c.transaction.id DonePart.Keys)

    d : Course
    d = telling (run (Step.Record Fact.Decide ∷ Step.Record Fact.DoneFiles ∷ Step.Record Fact.DoneKeys ∷ Step.Commit ∷ Step.Decide CommittedOutcome ∷ Step.Enter Committing ∷ []) c) (is_told c) Notify.Commit (owing Owed.Commit)

    same : course_in d (Some Stage.Decided) ≡ course_in c (Some Stage.Decided)
    same = in-alike c (λ e. if is_told c e then owing Owed.Commit e else e) d.sent (alike-stepped (is_told c) (owing Owed.Commit) (λ e. record { back = refl; kind = refl; read_only = refl; prepared = refl; finished = refl })) (Some Stage.Decided)

-- what it commits
works-tree : (c : Course) (committed : Committed) → (committed_with committed (work_of c)).tree ≡ changed_all committed.tree c.changes
works-tree c committed = go c.changes c.settings
  where
    go : (cs : List Change) (ss : OwnSettings) → (committed_with committed (work_of (record c { changes = cs; settings = ss }))).tree ≡ changed_all committed.tree cs
    go [] [] = refl
    go [] (s ∷ ss) = refl
    go (change ∷ cs) ss = tree-of (change ∷ cs) committed

works-keys : (c : Course) (committed : Committed) → (committed_with committed (work_of c)).store ≡ stored_all committed.store c.settings
works-keys c committed = go c.changes c.settings
  where
    go : (cs : List Change) (ss : OwnSettings) → (committed_with committed (work_of (record c { changes = cs; settings = ss }))).store ≡ stored_all committed.store ss
    go [] [] = refl
    go [] (s ∷ ss) = refl
    go (change ∷ cs) ss = refl

-- ---- after the decision

-- the work of a course commits its changes and settings where the course has committed something before
pub works-done : (x : Present) (c : Course) → ((committed_with (committed_now x) (c.works ++ work_of c)).tree ≡ changed_all (committed_with (committed_now x) c.works).tree c.changes)
    × ((committed_with (committed_now x) (c.works ++ work_of c)).store ≡ stored_all (committed_with (committed_now x) c.works).store c.settings)
works-done x c = let at-end = fold-append with_work (committed_now x) c.works (work_of c) in (
  ap (λ (k : Committed). k.tree) at-end ∙ works-tree c (committed_with (committed_now x) c.works),
  ap (λ (k : Committed). k.store) at-end ∙ works-keys c (committed_with (committed_now x) c.works),
)

module _ (x : Present) (before behind : List Recorded) (c : Course) where
  abbrev id : Id
  id = c.transaction.id

  abbrev s : Durable
  s = after_events x.recorded c.events

  -- what was committed before, and then
  abbrev committed : Committed
  committed = committed_with (committed_now x) c.works

  abbrev committed' : Committed
  committed' = committed_with (committed_now x) (c.works ++ work_of c)

  module _ (r : Recorded) (stores : Stores c c.changes c.settings r) where
    abbrev a : Bool
    a = has_changes c.changes

    abbrev b : Bool
    b = has_settings c.settings

    -- it, once it is decided and its files and its keys are done
    abbrev r_settled : Recorded
    r_settled = record r { stage = Stage.Decided; parts = settled_parts a b r.parts }

    settles : r.superior ≡ superior_now (superior c) → Settles c r_settled
    settles superior_same = record {
      id = stores.id;
      stage = refl;
      superior_same = superior_same;
      enlistments = ap by_rising_id (back-all r.id a b r.parts) ∙ stores.enlistments;
      changes = gathered-none (λ p. changes_in p.part) a b r.parts (λ p. (settled-each r.id a b p.is_done p.part).changes);
      settings = gathered-none (λ p. settings_in p.part) a b r.parts (λ p. (settled-each r.id a b p.is_done p.part).settings);
      undone = λ p there.
          let keys = IsIn-unmap (mark_if b DonePart.Keys) p (map (mark_if a DonePart.Files) (map emptied_part r.parts)) there in
          let files = IsIn-unmap (mark_if a DonePart.Files) keys.0 (map emptied_part r.parts) keys.2 in
          let from = IsIn-unmap emptied_part files.0 r.parts files.2 in
          let is = stores.parts from.0 from.2 in
          let same : settled_part a b from.0 ≡ p = ap (λ q. mark_if b DonePart.Keys (mark_if a DonePart.Files q)) from.1 ∙ ap (mark_if b DonePart.Keys) files.1 ∙ keys.1 in
          subst (λ (q : RecordedPart). not q.is_done ≡ is_enlistment_part q) same (open-each a b (from.0).is_done (from.0).part is.0 is.1);
    }

    tracks-settled : AreDrawn x c.changes → Tracks x id before behind (Some r) s committed → Tracks x id before behind (while_open r_settled) (after_events s (deciding id true a b)) committed'
    tracks-settled drawn tracks = subst (λ s'. Tracks x id before behind (while_open r_settled) s' committed') (sym (after_events-append s_decided (event_if a (Event.Done id DonePart.Files)) (event_if b (Event.Done id DonePart.Keys))))
        (tracks-if x id before behind (record r { stage = Stage.Decided; parts = map (mark_if a DonePart.Files) (map emptied_part r.parts) }) s_files committed' b DonePart.Keys refl stores.id
        (tracks-if x id before behind (as_decided r) s_decided committed' a DonePart.Files refl stores.id decided_now))
      where
        s_decided : Durable
        s_decided = after_event s (Event.Decide id)

        s_files : Durable
        s_files = after_events s_decided (event_if a (Event.Done id DonePart.Files))

        decided_now : Tracks x id before behind (while_open (as_decided r)) s_decided committed'
        decided_now = tracks-decided x id before behind r s committed committed' (subst (AreDrawn x) (sym stores.changes) drawn)
            ((works-done x c).0 ∙ ap (changed_all committed.tree) (sym stores.changes))
            ((works-done x c).1 ∙ ap (stored_all committed.store) (sym stores.settings)) tracks

    -- one that the log has
    pub follows-committing : r.superior ≡ superior_now (superior c) → c.transaction.is_recorded ≡ true → AreDrawn x c.changes → Tracks x id before behind (Some r) s committed → Follows x id before behind (run commits c)
    follows-committing superior_same recorded drawn tracks =
        let is = committing-committed c in
        let all : after_events x.recorded (run commits c).events ≡ after_events s (deciding id true a b) = ap (after_events x.recorded) (is.events ∙ ap (λ has. c.events ++ deciding id has a b) recorded) ∙ after_events-append x.recorded c.events (deciding id true a b) in
        record {
          o = while_open r_settled;
          tracks = subst (λ s'. Tracks x id before behind (while_open r_settled) s' (committed_with (committed_now x) (run commits c).works)) (sym all)
              (subst (λ ws. Tracks x id before behind (while_open r_settled) (after_events s (deciding id true a b)) (committed_with (committed_now x) ws)) (sym is.works) (tracks-settled drawn tracks));
          summaries = settled-summaries c r_settled (settles superior_same) ∙ (λ i. if sym recorded i then course_in c (Some Stage.Decided) else []) ∙ sym is.summaries;
          carried = λ q there. subst (λ u. is_carried_out u ≡ true) (in-while r_settled q there) (settled-carried r_settled (settles superior_same).undone);
        }

  -- one that the log does not have, and that changed and set nothing
  pub follows-volatile : c.transaction.is_recorded ≡ false → has_changes c.changes ≡ false → has_settings c.settings ≡ false → Tracks x id before behind None s committed → Follows x id before behind (run commits c)
  follows-volatile other changes settings tracks =
      let is = committing-committed c in
      follows-from x id before behind (run commits c) None c.events c.works
      (is.events ∙ (λ i. c.events ++ deciding id (other i) (changes i) (settings i)) ∙ append-nil c.events)
      (is.works ∙ (λ i. c.works ++ (if changes i || settings i then record { transaction = Some id; changes = c.changes; settings = c.settings } ∷ [] else [])) ∙ append-nil c.works)
      tracks (sym (is.summaries ∙ (λ i. if other i then course_in c (Some Stage.Decided) else []))) (λ r none. absurd none)
