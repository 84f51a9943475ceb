-- What events with other bytes make of states.
use Rattle.std.proofs.Common.{◌≡◌, ℕ, ◌+◌, ◌||◌, not, List, [], ◌∷◌, ◌++◌, map, filter, Option, Some, None, false, refl, sym, ◌∙◌, ap}
use Rattle.std.specs.Prelude.{option_map, if◌then◌else◌}
use Rattle.std.specs.List.{list_any}
use Rattle.std.proofs.lemmas.List.{map-append}
use Rattle.ktm_base.specs.declared.id.Id.{Id}
use Rattle.ktm_world.specs.declared.change.Change.{Change}
use Rattle.ktm_world.specs.declared.recorded.RecordedPart.{RecordedPart}
use Rattle.ktm_world.specs.declared.recorded.Superior.{Superior}
use Rattle.ktm_world.specs.declared.recorded.Stage.{Stage}
use Rattle.ktm_world.specs.declared.event.DonePart.{DonePart}
use Rattle.ktm_world.specs.declared.event.Event.{Event}
use Rattle.ktm_world.specs.declared.event.Event.TheVariants.{Boot, MadeRm, Plain, Ready, Single, Held, Decide, Undo, Done}
use Rattle.ktm_world.specs.declared.event.Part.{Part}
use Rattle.ktm_world.specs.declared.event.Part.TheVariants.{Enlistment, Changes, Settings}
use Rattle.ktm_world.specs.Durable.{Durable, Recorded, is_ready, changes_in, settings_in, enlistments_in, changes_of, settings_of, superior_ids, enlistments_of, recorded_at, is_before, with_recorded, without_recorded, recorded_or_new, with_committed, emptied, emptied_part, while_not_done, decide_recorded, is_part_of, is_of_enlistment, parts_done, finish_recorded, with_part, hold_recorded, next_after_all, fact_of, after_event, after_events, stand}
use Rattle.ktm_world.specs.Keys.{OwnSettings, stored_all}
use Rattle.ktm_world.specs.Logs.{Group}
use Rattle.ktm_world.specs.Transactions.{same_id}
use Rattle.ktm_mapped.specs.Mapped.{IsBlank, mapped_change, mapped_part, mapped_event, mapped_group, mapped_log, mapped_recorded_part, mapped_recorded, mapped_durable}
use Rattle.ktm_mapped.proofs.offered.Lists.{cond-mapped, fold-mapped, list_any-mapped, find-mapped, filter-mapped, flat_map-same, flat_map-mapped, map-swapped}
use Rattle.ktm_mapped.proofs.offered.Trees.{changed_all-mapped}
use Rattle.ktm_mapped.proofs.offered.Holds.{next_after_all-mapped}

module _ (f : ℕ → ℕ) where
  -- ---- parts

  pub changes_in-mapped : (part : Part) → changes_in (mapped_part f part) ≡ map (mapped_change f) (changes_in part)
  changes_in-mapped (Changes changes) = refl
  changes_in-mapped _ = refl

  pub settings_in-mapped : (part : Part) → settings_in (mapped_part f part) ≡ settings_in part
  settings_in-mapped (Changes changes) = refl
  settings_in-mapped _ = refl

  enlistments_in-mapped : (part : Part) → enlistments_in (mapped_part f part) ≡ enlistments_in part
  enlistments_in-mapped (Changes changes) = refl
  enlistments_in-mapped _ = refl

  emptied-mapped : (part : Part) → emptied (mapped_part f part) ≡ mapped_part f (emptied part)
  emptied-mapped (Changes changes) = refl
  emptied-mapped (Enlistment enlistment manager information) = refl
  emptied-mapped (Settings settings) = refl

  pub is_part_of-mapped : (done : DonePart) (part : Part) → is_part_of done (mapped_part f part) ≡ is_part_of done part
  is_part_of-mapped (DonePart.Enlistment id) (Changes changes) = refl
  is_part_of-mapped DonePart.Files (Changes changes) = refl
  is_part_of-mapped DonePart.Keys (Changes changes) = refl
  is_part_of-mapped done (Enlistment enlistment manager information) = refl
  is_part_of-mapped done (Settings settings) = refl

  -- ---- transactions

  pub changes_of-mapped : (t : Recorded) → changes_of (mapped_recorded f t) ≡ map (mapped_change f) (changes_of t)
  changes_of-mapped t = flat_map-mapped _ _ (mapped_recorded_part f) (mapped_change f) (λ p. changes_in-mapped p.part) t.parts

  pub settings_of-mapped : (t : Recorded) → settings_of (mapped_recorded f t) ≡ settings_of t
  settings_of-mapped t = flat_map-same _ _ (mapped_recorded_part f) (λ p. settings_in-mapped p.part) t.parts

  pub enlistments_of-mapped : (t : Recorded) → enlistments_of (mapped_recorded f t) ≡ enlistments_of t
  enlistments_of-mapped t = λ i.
      superior_ids t.superior ++ flat_map-same (λ p. enlistments_in p.part) (λ p. enlistments_in p.part) (mapped_recorded_part f) (λ p. enlistments_in-mapped p.part) t.parts i

  pub recorded_at-mapped : (ts : List Recorded) (id : Id) → recorded_at (map (mapped_recorded f) ts) id ≡ option_map (mapped_recorded f) (recorded_at ts id)
  recorded_at-mapped ts id = find-mapped _ _ (mapped_recorded f) (λ t. refl) ts

  pub recorded_or_new-mapped : (ts : List Recorded) (id : Id) → recorded_or_new (map (mapped_recorded f) ts) id ≡ mapped_recorded f (recorded_or_new ts id)
  recorded_or_new-mapped [] id = refl
  recorded_or_new-mapped (t ∷ ts) id =
      (λ i. if same_id t.id id then mapped_recorded f t else recorded_or_new-mapped ts id i) ∙ cond-mapped (mapped_recorded f) (same_id t.id id) t (recorded_or_new ts id)

  with_recorded-mapped : (ts : List Recorded) (t : Recorded) → with_recorded (map (mapped_recorded f) ts) (mapped_recorded f t) ≡ map (mapped_recorded f) (with_recorded ts t)
  with_recorded-mapped [] t = refl
  with_recorded-mapped (a ∷ ts) t =
      (λ i. if same_id a.id t.id then map (mapped_recorded f) (t ∷ ts) else (if is_before t.id a.id then map (mapped_recorded f) (t ∷ a ∷ ts) else mapped_recorded f a ∷ with_recorded-mapped ts t i))
      ∙ (λ i. if same_id a.id t.id then map (mapped_recorded f) (t ∷ ts) else cond-mapped (map (mapped_recorded f)) (is_before t.id a.id) (t ∷ a ∷ ts) (a ∷ with_recorded ts t) i)
      ∙ cond-mapped (map (mapped_recorded f)) (same_id a.id t.id) (t ∷ ts) (if is_before t.id a.id then t ∷ a ∷ ts else a ∷ with_recorded ts t)

  without_recorded-mapped : (ts : List Recorded) (id : Id) → without_recorded (map (mapped_recorded f) ts) id ≡ map (mapped_recorded f) (without_recorded ts id)
  without_recorded-mapped ts id = filter-mapped _ _ (mapped_recorded f) (λ t. refl) ts

  -- is a part not done
  pub is_left-mapped : (parts : List RecordedPart) → list_any (λ p. not p.is_done) (map (mapped_recorded_part f) parts) ≡ list_any (λ p. not p.is_done) parts
  is_left-mapped parts = list_any-mapped _ _ (mapped_recorded_part f) (λ p. refl) parts

  while_not_done-mapped : (ts : List Recorded) (t : Recorded) → while_not_done (map (mapped_recorded f) ts) (mapped_recorded f t) ≡ map (mapped_recorded f) (while_not_done ts t)
  while_not_done-mapped ts t =
      (λ i. if is_left-mapped t.parts i then with_recorded-mapped ts t i else without_recorded-mapped ts t.id i)
      ∙ cond-mapped (map (mapped_recorded f)) (list_any (λ p. not p.is_done) t.parts) (with_recorded ts t) (without_recorded ts t.id)

  parts_done-mapped : (done : DonePart) (parts : List RecordedPart) → parts_done done (map (mapped_recorded_part f) parts) ≡ map (mapped_recorded_part f) (parts_done done parts)
  parts_done-mapped done parts =
      (λ i. if is_of_enlistment done then taken i else marked i)
      ∙ cond-mapped (map (mapped_recorded_part f)) (is_of_enlistment done) (filter (λ p. not (is_part_of done p.part)) parts) (map (λ (p : RecordedPart). record p { is_done = p.is_done || is_part_of done p.part }) parts)
    where
      taken : filter (λ p. not (is_part_of done p.part)) (map (mapped_recorded_part f) parts) ≡ map (mapped_recorded_part f) (filter (λ p. not (is_part_of done p.part)) parts)
      taken = filter-mapped _ _ (mapped_recorded_part f) (λ p i. not (is_part_of-mapped done p.part i)) parts

      marked : map (λ (p : RecordedPart). record p { is_done = p.is_done || is_part_of done p.part }) (map (mapped_recorded_part f) parts)
          ≡ map (mapped_recorded_part f) (map (λ (p : RecordedPart). record p { is_done = p.is_done || is_part_of done p.part }) parts)
      marked = map-swapped _ _ (mapped_recorded_part f)
          (λ p i. record p { is_done = p.is_done || is_part_of-mapped done p.part i; part = mapped_part f p.part }) parts

  emptied_parts-mapped : (parts : List RecordedPart) → map emptied_part (map (mapped_recorded_part f) parts) ≡ map (mapped_recorded_part f) (map emptied_part parts)
  emptied_parts-mapped parts = map-swapped _ _ (mapped_recorded_part f) (λ p i. record p { part = emptied-mapped p.part i }) parts

-- ---- events, where zero stays zero

module _ (f : ℕ → ℕ) (blank : IsBlank f) where
  with_committed-mapped : (s : Durable) (changes : List Change) (settings : OwnSettings)
      → with_committed (mapped_durable f s) (map (mapped_change f) changes) settings ≡ mapped_durable f (with_committed s changes settings)
  with_committed-mapped s changes settings = λ i. record (mapped_durable f s) {
    tree = changed_all-mapped f blank s.tree changes i;
    keys = stored_all s.keys settings;
    next_node = next_after_all-mapped f s.next_node changes i;
  }

  decided-mapped : (s : Durable) (o : Option Recorded) → decide_recorded (mapped_durable f s) (option_map (mapped_recorded f) o) ≡ mapped_durable f (decide_recorded s o)
  decided-mapped s None = refl
  decided-mapped s (Some t) = (λ i. record (with_committed (mapped_durable f s) (changes_of-mapped f t i) (settings_of-mapped f t i)) {
    transactions = while_not_done (map (mapped_recorded f) s.transactions) (record t { stage = Stage.Decided; parts = emptied_parts-mapped f t.parts i });
  }) ∙ (λ i. record (with_committed-mapped s (changes_of t) (settings_of t) i) {
    transactions = while_not_done-mapped f s.transactions (record t { stage = Stage.Decided; parts = map emptied_part t.parts }) i;
  })

  finished-mapped : (s : Durable) (done : DonePart) (o : Option Recorded) → finish_recorded (mapped_durable f s) done (option_map (mapped_recorded f) o) ≡ mapped_durable f (finish_recorded s done o)
  finished-mapped s done None = refl
  finished-mapped s done (Some t) = (λ i. record (mapped_durable f s) {
    transactions = while_not_done (map (mapped_recorded f) s.transactions) (record t { parts = parts_done-mapped f done t.parts i });
  }) ∙ (λ i. record (mapped_durable f s) { transactions = while_not_done-mapped f s.transactions (record t { parts = parts_done done t.parts }) i })

  with_part-mapped : (s : Durable) (id : Id) (part : Part) → with_part (mapped_durable f s) id (mapped_part f part) ≡ mapped_durable f (with_part s id part)
  with_part-mapped s id part = λ i. record (mapped_durable f s) {
    transactions = ((λ j. with_recorded (map (mapped_recorded f) s.transactions) (grown-mapped j)) ∙ with_recorded-mapped f s.transactions (grown (recorded_or_new s.transactions id))) i;
    next_node = (ap (next_after_all s.next_node) (changes_in-mapped f part) ∙ next_after_all-mapped f s.next_node (changes_in part)) i;
  }
    where
      grown : Recorded → Recorded
      grown t = record t { parts = t.parts ++ record { is_done = false; part = part } ∷ [] }

      grown-mapped : (let t = recorded_or_new (map (mapped_recorded f) s.transactions) id in record t { parts = t.parts ++ record { is_done = false; part = mapped_part f part } ∷ [] }) ≡ mapped_recorded f (grown (recorded_or_new s.transactions id))
      grown-mapped =
          ap (λ (t : Recorded). record t { parts = t.parts ++ record { is_done = false; part = mapped_part f part } ∷ [] }) (recorded_or_new-mapped f s.transactions id)
          ∙ (λ i. let t = recorded_or_new s.transactions id in record t { parts = sym (map-append (mapped_recorded_part f) t.parts (record { is_done = false; part = part } ∷ [])) i })

  held-mapped : (s : Durable) (id : Id) (superior : Superior) → hold_recorded (mapped_durable f s) id superior ≡ mapped_durable f (hold_recorded s id superior)
  held-mapped s id superior = λ i. record (mapped_durable f s) {
    transactions = (
        ap (λ (t : Recorded). with_recorded (map (mapped_recorded f) s.transactions) (record t { stage = Stage.Held; superior = Some superior })) (recorded_or_new-mapped f s.transactions id)
        ∙ with_recorded-mapped f s.transactions (let t = recorded_or_new s.transactions id in record t { stage = Stage.Held; superior = Some superior })
        ) i;
  }

  pub fact_of-mapped : (s : Durable) (event : Event) → fact_of (mapped_durable f s) (mapped_event f event) ≡ mapped_durable f (fact_of s event)
  fact_of-mapped s (Boot boot) = λ i. record (mapped_durable f s) {
    boots = boot;
    transactions = filter-mapped (λ t. not (is_ready t.stage)) (λ t. not (is_ready t.stage)) (mapped_recorded f) (λ t. refl) s.transactions i;
  }
  fact_of-mapped s (MadeRm manager) = refl
  fact_of-mapped s (Plain change) = with_committed-mapped s (change ∷ []) []
  fact_of-mapped s (Ready transaction part) = with_part-mapped s transaction part
  fact_of-mapped s (Single transaction part) =
      (λ i. with_committed (mapped_durable f s) (changes_in-mapped f part i) (settings_in-mapped f part i)) ∙ with_committed-mapped s (changes_in part) (settings_in part)
  fact_of-mapped s (Held transaction enlistment manager information) = held-mapped s transaction (record { enlistment = enlistment; manager = manager; information = information })
  fact_of-mapped s (Decide transaction) = ap (decide_recorded (mapped_durable f s)) (recorded_at-mapped f s.transactions transaction) ∙ decided-mapped s (recorded_at s.transactions transaction)
  fact_of-mapped s (Undo transaction) = λ i. record (mapped_durable f s) { transactions = without_recorded-mapped f s.transactions transaction i }
  fact_of-mapped s (Done transaction done) =
      ap (finish_recorded (mapped_durable f s) done) (recorded_at-mapped f s.transactions transaction) ∙ finished-mapped s done (recorded_at s.transactions transaction)

  pub after_event-mapped : (s : Durable) (event : Event) → after_event (mapped_durable f s) (mapped_event f event) ≡ mapped_durable f (after_event s event)
  after_event-mapped s event = λ i. record (fact_of-mapped s event i) { events = s.events + 1 }

  pub after_events-mapped : (s : Durable) (events : Group) → after_events (mapped_durable f s) (mapped_group f events) ≡ mapped_durable f (after_events s events)
  after_events-mapped s events = fold-mapped after_event after_event (mapped_durable f) (mapped_event f) after_event-mapped s events

  pub stand-mapped : (base : Durable) (log : List Group) → stand (mapped_durable f base) (mapped_log f log) ≡ mapped_durable f (stand base log)
  stand-mapped base log = fold-mapped after_events after_events (mapped_durable f) (mapped_group f) after_events-mapped base log
