-- When events apply one after another, but for the limits.
use Rattle.std.proofs.Common.{◌≡◌, ◌&&◌, ◌||◌, not, Bool, true, false, List, [], ◌∷◌, ◌++◌, map, Some, refl, sym, ◌∙◌, ap, inl, inr}
use Rattle.std.proofs.lemmas.Bool.{and_from, and_parts, true≢false, cases_Bool}
use Rattle.std.specs.List.{list_any}
use Rattle.ktm_base.specs.declared.id.Id.{Id}
use Rattle.ktm_world.specs.declared.event.DonePart.{DonePart}
use Rattle.ktm_world.specs.declared.event.Event.{Event}
use Rattle.ktm_world.specs.declared.event.Part.{Part}
use Rattle.ktm_world.specs.declared.event.Part.TheVariants.{Enlistment, Changes, Settings}
use Rattle.ktm_world.specs.declared.recorded.RecordedPart.{RecordedPart}
use Rattle.ktm_world.specs.declared.recorded.Stage.{Stage}
use Rattle.ktm_world.specs.Durable.{Durable, Recorded, after_event, after_events, decide_recorded, emptied, emptied_part, fact_applies, finish_recorded, has_part, has_undone, is_before, is_held, is_part_of, is_ready, recorded_at, stage_passes, while_not_done, with_recorded}
use Rattle.ktm_world.specs.Phases.{event_if}
use Rattle.ktm_world.specs.Transactions.{same_id}
use Rattle.ktm_records.specs.Kept.{facts_apply}
use Rattle.txf_laws.proofs.offered.Elements.{list_any-at, list_any-from}
use Rattle.txf_laws.proofs.offered.DoneEvents.{marked}
use Rattle.ktm_courses.proofs.offered.Moves.{IsIn-map}
use Rattle.txf_laws.proofs.offered.OwnGroups.{is_open}
use Rattle.txf_laws.proofs.offered.Tables.{recorded_at-found, same_id-from}

-- ---- events one after another

pub facts-append : (a b : List Event) (s : Durable) → facts_apply s a ≡ true → facts_apply (after_events s a) b ≡ true → facts_apply s (a ++ b) ≡ true
facts-append [] b s first rest = rest
facts-append (event ∷ a) b s first rest =
    let parts = and_parts (fact_applies s event) (facts_apply (after_event s event) a) first in
    and_from _ _ parts.0 (facts-append a b (after_event s event) parts.1 rest)

pub facts-one : (s : Durable) (event : Event) → fact_applies s event ≡ true → facts_apply s (event ∷ []) ≡ true
facts-one s event is = and_from _ _ is refl

-- an event that is recorded where this is so
pub facts-if : (s : Durable) (b : Bool) (event : Event) → (b ≡ true → fact_applies s event ≡ true) → facts_apply s (event_if b event) ≡ true
facts-if s true event is = facts-one s event (is refl)
facts-if s false event is = refl

-- ---- a transaction that passes a test

pub stage-found : (s : Durable) (id : Id) (r : Recorded) (test : Recorded → Bool) → recorded_at s.transactions id ≡ Some r → test r ≡ true → stage_passes s id test ≡ true
stage-found s id r test found is =
    let at = recorded_at-found s.transactions id r found in
    list_any-from (λ (t : Recorded). same_id t.id id && test t) s.transactions r at.0 (and_from _ _ (same_id-from r.id id at.1) is)

-- one that was put in its place is there
pub recorded_at-with : (ts : List Recorded) (r : Recorded) → recorded_at (with_recorded ts r) r.id ≡ Some r
recorded_at-with [] r = rw (same_id-from r.id r.id refl) refl
recorded_at-with (a ∷ ts) r = elim (cases_Bool (same_id a.id r.id)) [
  | inl same ↦ rw (same, same_id-from r.id r.id refl) refl
  | inr other ↦ elim (cases_Bool (is_before r.id a.id)) [
    | inl before ↦ rw (other, before, same_id-from r.id r.id refl) refl
    | inr behind ↦ rw (other, behind, other) (recorded_at-with ts r)
  ]
]

-- it stays while a part of it is not done
while-found : (ts : List Recorded) (r : Recorded) (id : Id) → r.id ≡ id → is_open r ≡ true → recorded_at (while_not_done ts r) id ≡ Some r
while-found ts r id is open' = ap (recorded_at (while_not_done ts r)) (sym is) ∙ rw open' (recorded_at-with ts r)

-- ---- parts that are not done

-- is the part of this participant there, and not done
abbrev pub awaits : DonePart → List RecordedPart → Bool
awaits done ps = list_any (λ (p : RecordedPart). is_part_of done p.part && not p.is_done) ps

awaits-open : (done : DonePart) (ps : List RecordedPart) → awaits done ps ≡ true → list_any (λ (p : RecordedPart). not p.is_done) ps ≡ true
awaits-open done ps is =
    let p = list_any-at (λ (p : RecordedPart). is_part_of done p.part && not p.is_done) ps is in
    list_any-from (λ (p : RecordedPart). not p.is_done) ps p.0 p.1 (and_parts (is_part_of done p.0.part) (not p.0.is_done) p.2).1

part-emptied : (done : DonePart) (part : Part) → is_part_of done (emptied part) ≡ is_part_of done part
part-emptied (DonePart.Enlistment id) (Enlistment e m i) = refl
part-emptied DonePart.Files (Enlistment e m i) = refl
part-emptied DonePart.Keys (Enlistment e m i) = refl
part-emptied (DonePart.Enlistment id) (Changes cs) = refl
part-emptied DonePart.Files (Changes cs) = refl
part-emptied DonePart.Keys (Changes cs) = refl
part-emptied (DonePart.Enlistment id) (Settings ss) = refl
part-emptied DonePart.Files (Settings ss) = refl
part-emptied DonePart.Keys (Settings ss) = refl

awaits-emptied : (done : DonePart) (ps : List RecordedPart) → awaits done (map emptied_part ps) ≡ awaits done ps
awaits-emptied done [] = refl
awaits-emptied done (p ∷ ps) = λ i. (part-emptied done p.part i && not p.is_done) || awaits-emptied done ps i

-- the keys' part is not the files'
not-files : (part : Part) → is_part_of DonePart.Keys part ≡ true → is_part_of DonePart.Files part ≡ false
not-files (Enlistment e m i) is = absurd (true≢false (sym is))
not-files (Changes cs) is = absurd (true≢false (sym is))
not-files (Settings ss) is = refl

awaits-marked : (ps : List RecordedPart) → awaits DonePart.Keys ps ≡ true → awaits DonePart.Keys (map (marked DonePart.Files) ps) ≡ true
awaits-marked ps is =
    let p = list_any-at (λ (p : RecordedPart). is_part_of DonePart.Keys p.part && not p.is_done) ps is in
    let both = and_parts (is_part_of DonePart.Keys p.0.part) (not p.0.is_done) p.2 in
    list_any-from (λ (p : RecordedPart). is_part_of DonePart.Keys p.part && not p.is_done) (map (marked DonePart.Files) ps) (marked DonePart.Files p.0) (IsIn-map (marked DonePart.Files) p.0 ps p.1)
    (and_from _ _ both.0 (left (p.0).is_done (is_part_of DonePart.Files p.0.part) both.1 (not-files p.0.part both.0)))
  where
    left : (a b : Bool) → not a ≡ true → b ≡ false → not (a || b) ≡ true
    left true b is other = absurd (true≢false (sym is))
    left false true is other = absurd (true≢false other)
    left false false is other = refl

-- ---- a decision, and the files and the keys that are done by it

-- a transaction that may be decided, where the files and the keys take part if they are to be done
pub record MayDecide (s : Durable) (id : Id) (a b : Bool) : Type 0 where
  pub r : Recorded
  pub found : recorded_at s.transactions id ≡ Some r
  pub stage : (is_held r.stage || (is_ready r.stage && has_part r)) ≡ true
  pub files : a ≡ true → awaits DonePart.Files r.parts ≡ true
  pub keys : b ≡ true → awaits DonePart.Keys r.parts ≡ true

-- what is recorded of it
abbrev pub decision : Id → Bool → Bool → List Event
decision id files keys = Event.Decide id ∷ [] ++ event_if files (Event.Done id DonePart.Files) ++ event_if keys (Event.Done id DonePart.Keys)

module _ (s : Durable) (id : Id) (files keys : Bool) (may : MayDecide s id files keys) where
  abbrev r : Recorded
  r = may.r

  r-id : r.id ≡ id
  r-id = (recorded_at-found s.transactions id r may.found).1

  abbrev r_decided : Recorded
  r_decided = record r { stage = Stage.Decided; parts = map emptied_part r.parts }

  abbrev r_files : Recorded
  r_files = record r_decided { parts = map (marked DonePart.Files) (map emptied_part r.parts) }

  abbrev s_decided : Durable
  s_decided = after_event s (Event.Decide id)

  abbrev s_files : Durable
  s_files = after_event s_decided (Event.Done id DonePart.Files)

  decided-found : is_open r_decided ≡ true → recorded_at s_decided.transactions id ≡ Some r_decided
  decided-found open' = ap (λ o. recorded_at (decide_recorded s o).transactions id) may.found ∙ while-found s.transactions r_decided id r-id open'

  files-open : files ≡ true → awaits DonePart.Files (map emptied_part r.parts) ≡ true
  files-open is = awaits-emptied DonePart.Files r.parts ∙ may.files is

  keys-open : keys ≡ true → awaits DonePart.Keys (map emptied_part r.parts) ≡ true
  keys-open is = awaits-emptied DonePart.Keys r.parts ∙ may.keys is

  decides : fact_applies s (Event.Decide id) ≡ true
  decides = stage-found s id r (λ t. is_held t.stage || (is_ready t.stage && has_part t)) may.found may.stage

  files-done : files ≡ true → fact_applies s_decided (Event.Done id DonePart.Files) ≡ true
  files-done is = stage-found s_decided id r_decided (has_undone DonePart.Files) (decided-found (awaits-open DonePart.Files (map emptied_part r.parts) (files-open is))) (files-open is)

  keys-done : keys ≡ true → fact_applies s_decided (Event.Done id DonePart.Keys) ≡ true
  keys-done is = stage-found s_decided id r_decided (has_undone DonePart.Keys) (decided-found (awaits-open DonePart.Keys (map emptied_part r.parts) (keys-open is))) (keys-open is)

  files-found : keys ≡ true → recorded_at s_files.transactions id ≡ Some r_files
  files-found is =
      let undone = keys-open is in
      ap (λ o. recorded_at (finish_recorded s_decided DonePart.Files o).transactions id) (decided-found (awaits-open DonePart.Keys (map emptied_part r.parts) undone))
      ∙ while-found s_decided.transactions r_files id r-id (awaits-open DonePart.Keys r_files.parts (awaits-marked (map emptied_part r.parts) undone))

  keys-then : keys ≡ true → fact_applies s_files (Event.Done id DonePart.Keys) ≡ true
  keys-then is = stage-found s_files id r_files (has_undone DonePart.Keys) (files-found is) (awaits-marked (map emptied_part r.parts) (keys-open is))

  pub decision-applies : facts_apply s (decision id files keys) ≡ true
  decision-applies = facts-append (Event.Decide id ∷ [] ++ event_if files (Event.Done id DonePart.Files)) (event_if keys (Event.Done id DonePart.Keys)) s
      (facts-append (Event.Decide id ∷ []) (event_if files (Event.Done id DonePart.Files)) s (facts-one s (Event.Decide id) decides) (facts-if s_decided files (Event.Done id DonePart.Files) files-done))
      (last files refl)
    where
      last : (b : Bool) → files ≡ b → facts_apply (after_events s (Event.Decide id ∷ [] ++ event_if files (Event.Done id DonePart.Files))) (event_if keys (Event.Done id DonePart.Keys)) ≡ true
      last true is = rw is (facts-if s_files keys (Event.Done id DonePart.Keys) keys-then)
      last false is = rw is (facts-if s_decided keys (Event.Done id DonePart.Keys) keys-done)
