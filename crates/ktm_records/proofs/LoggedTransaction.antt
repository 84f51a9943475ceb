-- What the durable state has of one transaction, event by event, while the rest of it stays.
use Rattle.std.proofs.Common.{if◌then◌else◌, ◌≡◌, ℕ, ◌≤◌, ◌<◌, ◌||◌, not, Bool, true, false, List, [], ◌∷◌, ◌++◌, filter, map, Option, Some, None, refl, sym, ◌∙◌, ap, subst, arith, inl, inr}
use Rattle.std.proofs.lemmas.Bool.{cases_Bool, true≢false}
use Rattle.std.proofs.lemmas.List.{map-id}
use Rattle.ktm_base.specs.declared.id.Id.{Id}
use Rattle.ktm_world.specs.declared.change.Change.{Change}
use Rattle.ktm_world.specs.declared.event.DonePart.{DonePart}
use Rattle.ktm_world.specs.declared.event.Event.{Event}
use Rattle.ktm_world.specs.declared.event.Part.{Part}
use Rattle.ktm_world.specs.declared.recorded.RecordedPart.{RecordedPart}
use Rattle.ktm_world.specs.declared.recorded.Stage.{Stage}
use Rattle.ktm_world.specs.declared.recorded.Superior.{Superior}
use Rattle.ktm_world.specs.Changes.{changed_all}
use Rattle.ktm_world.specs.Committed.{Committed}
use Rattle.ktm_world.specs.Durable.{Durable, Recorded, after_event, after_events, changes_in, changes_of, decide_recorded, emptied_part, finish_recorded, is_of_enlistment, is_part_of, next_after_all, parts_done, recorded_at, settings_in, settings_of, with_recorded}
use Rattle.ktm_world.specs.Keys.{stored_all}
use Rattle.ktm_world.specs.Phases.{event_if}
use Rattle.ktm_world.specs.Present.{Present}
use Rattle.txf_laws.specs.Elements.{IsIn}
use Rattle.txf_laws.specs.SoundFiles.{numbers_made}
use Rattle.ktm_records.proofs.offered.Agreement.{next_after-both}
use Rattle.txf_laws.proofs.offered.Diamonds.{none-from}
use Rattle.txf_laws.proofs.offered.Elements.{IsIn-filter}
use Rattle.txf_laws.proofs.offered.DoneEvents.{marked}
use Rattle.txf_laws.proofs.offered.Lists.{IsIn-unmap}
use Rattle.txf_laws.proofs.offered.OwnGroups.{is_open}
use Rattle.txf_laws.proofs.offered.CommitsOfOthers.{next-enough}
use Rattle.ktm_records.proofs.LoggedOrder.{Among, among-while, among-with, among-without, or_new, or_new-id, recorded_at-among, recorded_or_new-among, while_open}
use Rattle.ktm_courses.proofs.offered.Endings.{none-at}

-- ---- node numbers

-- a number that was drawn is below the next one
abbrev pub AreDrawn : Present → List Change → Type 0
AreDrawn x cs = (n : ℕ) → IsIn n (numbers_made cs) → n < x.files.table.next_node

next-both : (cs : List Change) (m n : ℕ) → m ≤ n → next_after_all m cs ≤ next_after_all n cs
next-both [] m n less = less
next-both (c ∷ cs) m n less = next-both cs _ _ (next_after-both c m n less)

next-within : (cs : List Change) (m n : ℕ) → m ≤ n → ((k : ℕ) → IsIn k (numbers_made cs) → k < n) → next_after_all m cs ≤ n
next-within cs m n less below = omega (arith, next-both cs m n less, next-enough cs n below)

-- ---- the transaction after an event

-- with one part more
abbrev pub with_ready : Recorded → Part → Recorded
with_ready r part = record r { parts = r.parts ++ record { is_done = false; part = part } ∷ [] }

-- held for a superior
abbrev pub as_held : Recorded → Superior → Recorded
as_held r superior = record r { stage = Stage.Held; superior = Some superior }

-- decided
abbrev pub as_decided : Recorded → Recorded
as_decided r = record r { stage = Stage.Decided; parts = map emptied_part r.parts }

-- with the part of a participant done
abbrev pub done_by : DonePart → Recorded → Recorded
done_by done r = record r { parts = parts_done done r.parts }

-- the part is marked, where this is so
abbrev pub mark_if : Bool → DonePart → RecordedPart → RecordedPart
mark_if b done p = if b then marked done p else p

-- where no part is left to be done none is left then
closed-done : (done : DonePart) (r : Recorded) → is_open r ≡ false → is_open (done_by done r) ≡ false
closed-done done r closed = go (is_of_enlistment done) refl
  where
    go : (b : Bool) → is_of_enlistment done ≡ b → is_open (done_by done r) ≡ false
    go true is = rw is (none-from (λ (p : RecordedPart). not p.is_done) (filter (λ p. not (is_part_of done p.part)) r.parts) (λ p there.
        none-at (λ (p : RecordedPart). not p.is_done) r.parts closed p (IsIn-filter (λ p. not (is_part_of done p.part)) r.parts p there).0))
    go false is = rw is (none-from (λ (p : RecordedPart). not p.is_done) (map (marked done) r.parts) (λ q there.
        let from = IsIn-unmap (marked done) q r.parts there in
        subst (λ (p : RecordedPart). not p.is_done ≡ false) from.1 (not-or (from.0).is_done (is_part_of done (from.0).part) (none-at (λ (p : RecordedPart). not p.is_done) r.parts closed from.0 from.2))))
      where
        not-or : (a b : Bool) → not a ≡ false → not (a || b) ≡ false
        not-or true b is = refl
        not-or false b is = absurd (true≢false is)

-- ---- the state after an event

-- the state has this of the transaction, among the others, and what was committed is this
pub record Tracks (x : Present) (id : Id) (before behind : List Recorded) (o : Option Recorded) (s : Durable) (c : Committed) : Type 0 where
  pub place : Among s.transactions id before o behind
  pub tree : s.tree ≡ c.tree
  pub keys : s.keys ≡ c.store
  pub managers : s.managers ≡ x.recorded.managers
  pub next_node : s.next_node ≤ x.files.table.next_node

module _ (x : Present) (id : Id) (before behind : List Recorded) where
  pub tracks-ready : (o : Option Recorded) (s : Durable) (c : Committed) (part : Part) → AreDrawn x (changes_in part) → Tracks x id before behind o s c
      → Tracks x id before behind (Some (with_ready (or_new o id) part)) (after_event s (Event.Ready id part)) c
  tracks-ready o s c part drawn tracks = record {
    place = subst (λ r. Among (with_recorded s.transactions (with_ready r part)) id before (Some (with_ready (or_new o id) part)) behind) (sym (recorded_or_new-among tracks.place))
        (among-with tracks.place (with_ready (or_new o id) part) (or_new-id o id (tracks.place).itself));
    tree = tracks.tree;
    keys = tracks.keys;
    managers = tracks.managers;
    next_node = next-within (changes_in part) s.next_node x.files.table.next_node tracks.next_node drawn;
  }

  pub tracks-held : (o : Option Recorded) (s : Durable) (c : Committed) (e : Superior) → Tracks x id before behind o s c
      → Tracks x id before behind (Some (as_held (or_new o id) e)) (after_event s (Event.Held id e.enlistment e.manager e.information)) c
  tracks-held o s c e tracks = record {
    place = subst (λ r. Among (with_recorded s.transactions (as_held r e)) id before (Some (as_held (or_new o id) e)) behind) (sym (recorded_or_new-among tracks.place))
        (among-with tracks.place (as_held (or_new o id) e) (or_new-id o id (tracks.place).itself));
    tree = tracks.tree;
    keys = tracks.keys;
    managers = tracks.managers;
    next_node = tracks.next_node;
  }

  pub tracks-decided : (r : Recorded) (s : Durable) (c c' : Committed) → AreDrawn x (changes_of r) → c'.tree ≡ changed_all c.tree (changes_of r) → c'.store ≡ stored_all c.store (settings_of r)
      → Tracks x id before behind (Some r) s c → Tracks x id before behind (while_open (as_decided r)) (after_event s (Event.Decide id)) c'
  tracks-decided r s c c' drawn tree keys tracks =
      let found = recorded_at-among tracks.place in
      record {
        place = subst (λ o. Among (decide_recorded s o).transactions id before (while_open (as_decided r)) behind) (sym found) (among-while tracks.place (as_decided r) ((tracks.place).itself r refl));
        tree = ap (λ o. (decide_recorded s o).tree) found ∙ ap (λ t. changed_all t (changes_of r)) tracks.tree ∙ sym tree;
        keys = ap (λ o. (decide_recorded s o).keys) found ∙ ap (λ k. stored_all k (settings_of r)) tracks.keys ∙ sym keys;
        managers = ap (λ o. (decide_recorded s o).managers) found ∙ tracks.managers;
        next_node = subst (λ o. (decide_recorded s o).next_node ≤ x.files.table.next_node) (sym found) (next-within (changes_of r) s.next_node x.files.table.next_node tracks.next_node drawn);
      }

  pub tracks-undone : (o : Option Recorded) (s : Durable) (c : Committed) → Tracks x id before behind o s c → Tracks x id before behind None (after_event s (Event.Undo id)) c
  tracks-undone o s c tracks = record { place = among-without tracks.place; tree = tracks.tree; keys = tracks.keys; managers = tracks.managers; next_node = tracks.next_node }

  pub tracks-done : (r : Recorded) (s : Durable) (c : Committed) (done : DonePart) → r.id ≡ id → Tracks x id before behind (while_open r) s c → Tracks x id before behind (while_open (done_by done r)) (after_event s (Event.Done id done)) c
  tracks-done r s c done same tracks = elim (cases_Bool (is_open r)) [
    | inl stays ↦
        let found : recorded_at s.transactions id ≡ Some r = recorded_at-among tracks.place ∙ rw stays refl in
        record {
          place = subst (λ o. Among (finish_recorded s done o).transactions id before (while_open (done_by done r)) behind) (sym found) (among-while tracks.place (done_by done r) same);
          tree = ap (λ o. (finish_recorded s done o).tree) found ∙ tracks.tree;
          keys = ap (λ o. (finish_recorded s done o).keys) found ∙ tracks.keys;
          managers = ap (λ o. (finish_recorded s done o).managers) found ∙ tracks.managers;
          next_node = subst (λ o. (finish_recorded s done o).next_node ≤ x.files.table.next_node) (sym found) tracks.next_node;
        }
    | inr closed ↦
        let found : recorded_at s.transactions id ≡ None = recorded_at-among tracks.place ∙ rw closed refl in
        let none : while_open r ≡ while_open (done_by done r) = rw (closed, closed-done done r closed) refl in
        record {
          place = subst (λ o. Among (finish_recorded s done o).transactions id before (while_open (done_by done r)) behind) (sym found) (subst (λ o. Among s.transactions id before o behind) none tracks.place);
          tree = ap (λ o. (finish_recorded s done o).tree) found ∙ tracks.tree;
          keys = ap (λ o. (finish_recorded s done o).keys) found ∙ tracks.keys;
          managers = ap (λ o. (finish_recorded s done o).managers) found ∙ tracks.managers;
          next_node = subst (λ o. (finish_recorded s done o).next_node ≤ x.files.table.next_node) (sym found) tracks.next_node;
        }
  ]

  -- an event that the parts of one kind are done, where they take part
  pub tracks-if : (r : Recorded) (s : Durable) (k : Committed) (b : Bool) (done : DonePart) → is_of_enlistment done ≡ false → r.id ≡ id → Tracks x id before behind (while_open r) s k
      → Tracks x id before behind (while_open (record r { parts = map (mark_if b done) r.parts })) (after_events s (event_if b (Event.Done id done))) k
  tracks-if r s k true done other same tracks =
      subst (λ ps. Tracks x id before behind (while_open (record r { parts = ps })) (after_event s (Event.Done id done)) k) (marks (is_of_enlistment done) other) (tracks-done r s k done same tracks)
    where
      marks : (b : Bool) → b ≡ false → (if b then filter (λ (p : RecordedPart). not (is_part_of done p.part)) r.parts else map (marked done) r.parts) ≡ map (marked done) r.parts
      marks true is = absurd (true≢false is)
      marks false is = refl
  tracks-if r s k false done other same tracks = subst (λ ps. Tracks x id before behind (while_open (record r { parts = ps })) s k) (sym (map-id r.parts)) tracks

  -- changes and settings that commit by themselves
  pub tracks-single : (o : Option Recorded) (s : Durable) (c c' : Committed) (part : Part) → AreDrawn x (changes_in part) → c'.tree ≡ changed_all c.tree (changes_in part) → c'.store ≡ stored_all c.store (settings_in part)
      → Tracks x id before behind o s c → Tracks x id before behind o (after_event s (Event.Single id part)) c'
  tracks-single o s c c' part drawn tree keys tracks = record {
    place = tracks.place;
    tree = ap (λ t. changed_all t (changes_in part)) tracks.tree ∙ sym tree;
    keys = ap (λ k. stored_all k (settings_in part)) tracks.keys ∙ sym keys;
    managers = tracks.managers;
    next_node = next-within (changes_in part) s.next_node x.files.table.next_node tracks.next_node drawn;
  }
