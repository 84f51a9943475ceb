-- States whose contents go on to lie on the pages that there are.
use Rattle.std.specs.Prelude.{◌^◌, nat_lt}
use Rattle.std.proofs.Common.{◌≡◌, ℕ, ◌+◌, ◌-◌, ◌*◌, ◌/◌, ◌<◌, ◌≤◌, ◌&&◌, ◌||◌, not, true, false, List, [], ◌∷◌, ◌++◌, get_or, length, map, Option, Some, None, All, refl, sym, ◌∙◌, subst, arith, inl, inr}
use Rattle.std.specs.List.{list_any, list_all, flat_map}
use Rattle.std.proofs.lemmas.Bool.{cases_Bool, and_parts, ltb-true, true≢false}
use Rattle.std.proofs.lemmas.List.{append-nil}
use Rattle.std.proofs.lemmas.List.Elements.{All-cons, All-filter, All-head, All-map, All-nil, All-push, All-tail}
use Rattle.ktm_base.specs.declared.id.Id.{Id}
use Rattle.ktm_world.specs.declared.change.Change.{Change}
use Rattle.ktm_world.specs.declared.change.Change.TheVariants.{Make, Put, Cut, Move, Drop}
use Rattle.ktm_world.specs.declared.change.Contents.TheVariants.{Whole, Paged}
use Rattle.ktm_world.specs.declared.event.DonePart.{DonePart}
use Rattle.ktm_world.specs.declared.event.Event.{Event}
use Rattle.ktm_world.specs.declared.event.Event.TheVariants.{Boot, MadeRm, Plain, Ready, Single, Held, Decide, Undo, Done}
use Rattle.ktm_world.specs.declared.event.Part.{Part}
use Rattle.ktm_world.specs.declared.event.Part.TheVariants.{Enlistment, Changes, Settings}
use Rattle.ktm_world.specs.declared.recorded.RecordedPart.{RecordedPart}
use Rattle.ktm_world.specs.declared.recorded.Stage.{Stage}
use Rattle.ktm_world.specs.declared.recorded.Superior.{Superior}
use Rattle.ktm_world.specs.Changes.{changed_all, changes_apply, has_changes}
use Rattle.ktm_world.specs.Durable.{Durable, Recorded, after_event, are_recorded_changes, changes_in, changes_of, decide_recorded, emptied, emptied_part, ends_in_bytes, event_applies, fact_applies, fact_of, finish_recorded, gives_bytes, has_changes_part, hold_recorded, is_before, is_decided, is_of_enlistment, is_part_of, is_ready, is_within_limits, made_files, parts_done, part_applies, recorded_at, recorded_changes_apply, recorded_or_new, while_not_done, with_part, with_recorded}
use Rattle.ktm_world.specs.Logs.{Group}
use Rattle.ktm_world.specs.Transactions.{same_id}
use Rattle.ktm_world.specs.Tree.{Tree}
use Rattle.ktm_world.proofs.offered.Lookups.{Rises, Rises-from}
use Rattle.txf_laws.specs.Elements.{IsIn}
use Rattle.txf_laws.proofs.offered.CommitsOfOthers.{All-in}
use Rattle.txf_laws.proofs.offered.Elements.{find-in, list_all-at}
use Rattle.txf_laws.specs.GoodState.{IsGoodState, are_kept_changes}
use Rattle.txf_laws.specs.Grammatical.{changes_of_event, is_grammatical}
use Rattle.txf_laws.proofs.offered.WaitingChanges.{no_changes-left, no_changes_part, recorded_changes_apply-all}
use Rattle.ktm_each.proofs.offered.Trees.{All-flat_map, All-one}
use Rattle.ktm_paged.specs.Meaning.{first_unit, has_event_its_pages, has_its_pages, has_work_pages, meant, meant_event, meant_part, pages_in, pages_of_event, put_on, size_before, units_from}
use Rattle.ktm_paged.specs.Paged.{CanAllBeMade, GroupApplies, IsPlainlyMade, LieBelow, LogApplies, PagedApplies, PutLiesBelow, RecordedLiesBelow, paged_after, paged_after_all, paged_stand}
use Rattle.ktm_paged.proofs.offered.Lying.{NodeLies, changed_all-lies, lies-on}
use Rattle.ktm_paged.proofs.offered.Meanings.{cut-pages, ends-can, meant-can, put-pages, work-paged}
use Rattle.ktm_paged.proofs.offered.Units.{units-touched}

-- ---- lists

pub All-left : {X : Type 0} (P : X → Type 0) (xs ys : List X) → All P (xs ++ ys) → All P xs
All-left P [] ys all = All-nil P
All-left P (x ∷ xs) ys all = All-cons P x xs (All-head P x (xs ++ ys) all) (All-left P xs ys (All-tail P x (xs ++ ys) all))

pub All-right : {X : Type 0} (P : X → Type 0) (xs ys : List X) → All P (xs ++ ys) → All P ys
All-right P [] ys all = all
All-right P (x ∷ xs) ys all = All-right P xs ys (All-tail P x (xs ++ ys) all)

-- changes that are recorded end in the bytes of files
pub recorded-form : (cs : List Change) → are_recorded_changes cs ≡ true → ends_in_bytes cs ≡ true
recorded-form cs is = (and_parts (has_changes cs) (ends_in_bytes cs) (and_parts (has_changes cs && ends_in_bytes cs) (list_all (gives_bytes cs) (made_files cs)) is).0).1

-- ---- transactions that come, are found, and end

module _ (P : Recorded → Type 0) where
  with_recorded-lie : (ts : List Recorded) (t : Recorded) → P t → All P ts → All P (with_recorded ts t)
  with_recorded-lie [] t is all = All-one P t is
  with_recorded-lie (a ∷ ts) t is all = elim (cases_Bool (same_id a.id t.id)) [
    | inl same ↦ rw same (All-cons P t ts is (All-tail P a ts all))
    | inr other ↦ elim (cases_Bool (is_before t.id a.id)) [
      | inl before ↦ rw (other, before) (All-cons P t (a ∷ ts) is all)
      | inr behind ↦ rw (other, behind) (All-cons P a (with_recorded ts t) (All-head P a ts all) (with_recorded-lie ts t is (All-tail P a ts all)))
    ]
  ]

  while_not_done-lie : (ts : List Recorded) (t : Recorded) → P t → All P ts → All P (while_not_done ts t)
  while_not_done-lie ts t is all = elim (cases_Bool (list_any (λ part. not part.is_done) t.parts)) [
    | inl left ↦ rw left (with_recorded-lie ts t is all)
    | inr over ↦ rw over (All-filter (λ u. not (same_id u.id t.id)) P ts all)
  ]

-- ---- what events put

-- what an event means that has its pages is made unit by unit
pub event-made : (tree : Tree) (event : Event) → has_event_its_pages tree event ≡ true → IsPlainlyMade tree (meant_event tree event)
event-made tree (Plain change) is = meant-can tree change is
event-made tree event is = tt

module _ (count : ℕ) where
  -- the changes of a part lie so
  abbrev PartLies : RecordedPart → Type 0
  PartLies part = All (PutLiesBelow count) (changes_in part.part)

  abbrev BelowCount : ℕ → Type 0
  BelowCount page = page < count

  on-unit : (node unit end : ℕ) (pages : List ℕ) → length pages ≡ units_from unit end → unit * 4096 ≤ end → All BelowCount pages → PutLiesBelow count (put_on node unit end pages)
  on-unit node unit end pages many order below = lies-on count pages (end - unit * 4096) (omega (arith, many, order)) below

  pub meant-lies : (size : ℕ) (c : Change) → has_its_pages size c ≡ true → All BelowCount (pages_in c) → PutLiesBelow count (meant size c)
  meant-lies size (Make node parent kind name) is below = tt
  meant-lies size (Put node offset (Whole bytes)) is below = absurd (true≢false (sym is))
  meant-lies size (Put node offset (Paged len pages)) is below =
      let first = first_unit size offset in
      on-unit node first _ pages (put-pages size offset len pages is ∙ sym (units-touched first size (offset + len))) (omega arith) below
  meant-lies size (Cut node end pages) is below = elim (cases_Bool (nat_lt size end)) [
    | inl grows ↦ rw grows (on-unit node (size / 4096) end pages (cut-pages size end node pages grows is) (omega (arith, ltb-true _ _ grows)) below)
    | inr less ↦ rw less tt
  ]
  meant-lies size (Move node parent name) is below = tt
  meant-lies size (Drop node) is below = tt

  all-meant-lie : (cs : List Change) → list_all has_work_pages cs ≡ true → All BelowCount (flat_map pages_in cs) → All (PutLiesBelow count) (map (meant 0) cs)
  all-meant-lie [] is below = All-nil (PutLiesBelow count)
  all-meant-lie (c ∷ cs) is below =
      let parts = and_parts (has_work_pages c) (list_all has_work_pages cs) is in
      All-cons (PutLiesBelow count) (meant 0 c) (map (meant 0) cs)
      (meant-lies 0 c (work-paged c parts.0) (All-left BelowCount (pages_in c) (flat_map pages_in cs) below))
      (all-meant-lie cs parts.1 (All-right BelowCount (pages_in c) (flat_map pages_in cs) below))

  part-meant-lies : (part : Part) → list_all has_work_pages (changes_in part) ≡ true → All BelowCount (flat_map pages_in (changes_in part)) → All (PutLiesBelow count) (changes_in (meant_part part))
  part-meant-lies (Enlistment enlistment manager information) is below = All-nil (PutLiesBelow count)
  part-meant-lies (Changes cs) is below = all-meant-lie cs is below
  part-meant-lies (Settings settings) is below = All-nil (PutLiesBelow count)

  -- ---- transactions

  recorded_or_new-lies : (ts : List Recorded) (id : Id) → All (RecordedLiesBelow count) ts → RecordedLiesBelow count (recorded_or_new ts id)
  recorded_or_new-lies [] id all = All-nil PartLies
  recorded_or_new-lies (t ∷ ts) id all = elim (cases_Bool (same_id t.id id)) [
    | inl same ↦ rw same (All-head (RecordedLiesBelow count) t ts all)
    | inr other ↦ rw other (recorded_or_new-lies ts id (All-tail (RecordedLiesBelow count) t ts all))
  ]

  emptied-lies : (part : Part) → All (PutLiesBelow count) (changes_in (emptied part))
  emptied-lies (Enlistment enlistment manager information) = All-nil (PutLiesBelow count)
  emptied-lies (Changes changes) = All-nil (PutLiesBelow count)
  emptied-lies (Settings settings) = All-nil (PutLiesBelow count)

  parts_done-lie : (done : DonePart) (parts : List RecordedPart) → All PartLies parts → All PartLies (parts_done done parts)
  parts_done-lie done parts all = elim (cases_Bool (is_of_enlistment done)) [
    | inl taken ↦ rw taken (All-filter (λ part. not (is_part_of done part.part)) PartLies parts all)
    | inr marked ↦ rw marked (All-map PartLies (λ (part : RecordedPart). record part { is_done = part.is_done || is_part_of done part.part }) parts all)
  ]

  -- ---- committed changes

  module _ (s : Durable) (good : IsGoodState s) (lie : LieBelow count s) where
    rises : Rises s.tree
    rises = Rises-from s.tree good.files.rise

    pub committed-lie : (cs : List Change) → changes_apply s.tree cs ≡ true → CanAllBeMade s.tree cs → All (PutLiesBelow count) cs → All (NodeLies count) (changed_all s.tree cs)
    committed-lie cs apply can puts = changed_all-lies count s.tree cs rises apply can puts lie.files

    -- a part alone
    sole-lies : (id : Id) (part : Part) → part_applies s id part ≡ true → All (PutLiesBelow count) (changes_in part) → All (NodeLies count) (changed_all s.tree (changes_in part))
    sole-lies id (Enlistment enlistment manager information) applies puts = lie.files
    sole-lies id (Changes cs) applies puts =
        let parts = and_parts (not (has_changes_part (recorded_or_new s.transactions id)) && are_recorded_changes cs) (recorded_changes_apply s (Some id) cs) applies in
        committed-lie cs (recorded_changes_apply-all s (Some id) cs parts.1) (ends-can s.tree cs (recorded-form cs (and_parts (not (has_changes_part (recorded_or_new s.transactions id))) (are_recorded_changes cs) parts.0).1)) puts
    sole-lies id (Settings settings) applies puts = lie.files

    -- what waits has the form in which it is recorded, and none is left of what is decided
    kept-can : (t : Recorded) → are_kept_changes t ≡ true → CanAllBeMade s.tree (changes_of t)
    kept-can t kept = elim (cases_Bool (is_decided t.stage)) [
      | inl decided ↦ subst (CanAllBeMade s.tree) (sym (no_changes-left t kept decided)) tt
      | inr waits ↦ elim (cases_Bool (has_changes_part t)) [
        | inl has ↦ ends-can s.tree (changes_of t) (recorded-form (changes_of t) (rw (waits, has) at form))
        | inr none ↦ subst (CanAllBeMade s.tree) (sym (no_changes_part t none)) tt
      ]
    ]
      where
        form : (is_decided t.stage || not (has_changes_part t) || are_recorded_changes (changes_of t)) ≡ true
        form = (and_parts (not (is_decided t.stage) || not (has_changes (changes_of t))) (is_decided t.stage || not (has_changes_part t) || are_recorded_changes (changes_of t)) kept).1

    decided-lie : (o : Option Recorded) → ((t : Recorded) → o ≡ Some t → IsIn t s.transactions) → LieBelow count (decide_recorded s o)
    decided-lie None found = lie
    decided-lie (Some t) found = record {
      files = committed-lie (changes_of t) (list_all-at (λ u. changes_apply s.tree (changes_of u)) s.transactions good.apply t there) (kept-can t (list_all-at are_kept_changes s.transactions good.changes t there))
          (All-flat_map (PutLiesBelow count) (λ (part : RecordedPart). changes_in part.part) t.parts (All-in (RecordedLiesBelow count) s.transactions lie.works t there));
      works = while_not_done-lie (RecordedLiesBelow count) s.transactions (record t { stage = Stage.Decided; parts = map emptied_part t.parts })
          (All-map PartLies emptied_part t.parts (λ k d low. emptied-lies (get_or t.parts k d).part)) lie.works;
    }
      where
        there : IsIn t s.transactions
        there = found t refl

    finished-lie : (done : DonePart) (o : Option Recorded) → ((t : Recorded) → o ≡ Some t → IsIn t s.transactions) → LieBelow count (finish_recorded s done o)
    finished-lie done None found = lie
    finished-lie done (Some t) found = record {
      files = lie.files;
      works = while_not_done-lie (RecordedLiesBelow count) s.transactions (record t { parts = parts_done done t.parts })
          (parts_done-lie done t.parts (All-in (RecordedLiesBelow count) s.transactions lie.works t (found t refl))) lie.works;
    }

    with_part-lie : (id : Id) (part : Part) → All (PutLiesBelow count) (changes_in part) → LieBelow count (with_part s id part)
    with_part-lie id part puts = record {
      files = lie.files;
      works = with_recorded-lie (RecordedLiesBelow count) s.transactions (record t { parts = t.parts ++ record { is_done = false; part = part } ∷ [] })
          (All-push PartLies t.parts (record { is_done = false; part = part }) (recorded_or_new-lies s.transactions id lie.works) puts) lie.works;
    }
      where
        t : Recorded
        t = recorded_or_new s.transactions id

    held-lie : (id : Id) (superior : Superior) → LieBelow count (hold_recorded s id superior)
    held-lie id superior = record {
      files = lie.files;
      works = with_recorded-lie (RecordedLiesBelow count) s.transactions (record t { stage = Stage.Held; superior = Some superior }) (recorded_or_new-lies s.transactions id lie.works) lie.works;
    }
      where
        t : Recorded
        t = recorded_or_new s.transactions id

    found-in : (id : Id) (t : Recorded) → recorded_at s.transactions id ≡ Some t → IsIn t s.transactions
    found-in id t is = (find-in (λ u. same_id u.id id) s.transactions t is).0

    -- ---- events

    fact-lie : (event : Event) → IsPlainlyMade s.tree event → All (PutLiesBelow count) (changes_of_event event) → fact_applies s event ≡ true → LieBelow count (fact_of s event)
    fact-lie (Boot boot) made puts applies = record { files = lie.files; works = All-filter (λ t. not (is_ready t.stage)) (RecordedLiesBelow count) s.transactions lie.works }
    fact-lie (MadeRm manager) made puts applies = record { files = lie.files; works = lie.works }
    fact-lie (Plain change) made puts applies = record {
      files = committed-lie (change ∷ []) (recorded_changes_apply-all s None (change ∷ []) applies) (made, tt) puts;
      works = lie.works;
    }
    fact-lie (Ready transaction part) made puts applies = with_part-lie transaction part puts
    fact-lie (Single transaction part) made puts applies = record {
      files = sole-lies transaction part (and_parts _ (part_applies s transaction part) applies).1 puts;
      works = lie.works;
    }
    fact-lie (Held transaction enlistment manager information) made puts applies = held-lie transaction (record { enlistment = enlistment; manager = manager; information = information })
    fact-lie (Decide transaction) made puts applies = decided-lie (recorded_at s.transactions transaction) (found-in transaction)
    fact-lie (Undo transaction) made puts applies = record { files = lie.files; works = All-filter (λ t. not (same_id t.id transaction)) (RecordedLiesBelow count) s.transactions lie.works }
    fact-lie (Done transaction done) made puts applies = finished-lie done (recorded_at s.transactions transaction) (found-in transaction)

  -- after an event over the places of bytes, which applies
  pub event-lies : (s : Durable) (event : Event) → IsGoodState s → LieBelow count s → IsPlainlyMade s.tree event → All (PutLiesBelow count) (changes_of_event event) → event_applies s event ≡ true → LieBelow count (after_event s event)
  event-lies s event good lie made puts applies =
      let facts = and_parts (fact_applies s event && is_within_limits (fact_of s event)) (nat_lt (s.events + 1) (2 ^ 63)) applies in
      let lies = fact-lie s good lie event made puts (and_parts (fact_applies s event) (is_within_limits (fact_of s event)) facts.0).0 in
      record { files = lies.files; works = lies.works }

  -- what an event means that has its pages puts bytes on them
  pub event-puts : (tree : Tree) (event : Event) → has_event_its_pages tree event ≡ true → All BelowCount (pages_of_event event) → All (PutLiesBelow count) (changes_of_event (meant_event tree event))
  event-puts tree (Plain change) is below =
      All-one (PutLiesBelow count) (meant (size_before tree change) change) (meant-lies (size_before tree change) change is (subst (All BelowCount) (append-nil (pages_in change)) below))
  event-puts tree (Ready transaction part) is below = part-meant-lies part is below
  event-puts tree (Single transaction part) is below = part-meant-lies part is below
  event-puts tree event is below = All-nil (PutLiesBelow count)

  pub after-lie : (s : Durable) (event : Event) → IsGoodState s → PagedApplies count s event → LieBelow count s → LieBelow count (paged_after s event)
  after-lie s event good applies lie =
      event-lies s (meant_event s.tree event) good lie (event-made s.tree event applies.paged) (event-puts s.tree event applies.paged applies.below) applies.applies

-- ---- groups and logs

module _ (count : ℕ) (stays : (s : Durable) (event : Event) → IsGoodState s → is_grammatical event ≡ true → PagedApplies count s event → IsGoodState (paged_after s event)) where
  pub all-good : (s : Durable) (events : Group) → IsGoodState s → list_all is_grammatical events ≡ true → GroupApplies count s events → IsGoodState (paged_after_all s events)
  all-good s [] good spelled apply = good
  all-good s (event ∷ events) good spelled apply =
      let parts = and_parts (is_grammatical event) (list_all is_grammatical events) spelled in
      all-good (paged_after s event) events (stays s event good parts.0 apply.0) parts.1 apply.1

  pub all-lie : (s : Durable) (events : Group) → IsGoodState s → list_all is_grammatical events ≡ true → GroupApplies count s events → LieBelow count s → LieBelow count (paged_after_all s events)
  all-lie s [] good spelled apply lie = lie
  all-lie s (event ∷ events) good spelled apply lie =
      let parts = and_parts (is_grammatical event) (list_all is_grammatical events) spelled in
      all-lie (paged_after s event) events (stays s event good parts.0 apply.0) parts.1 apply.1 (after-lie count s event good apply.0 lie)

  pub log-good : (base : Durable) (groups : List Group) → IsGoodState base → list_all (list_all is_grammatical) groups ≡ true → LogApplies count base groups → IsGoodState (paged_stand base groups)
  log-good base [] good spelled apply = good
  log-good base (group ∷ groups) good spelled apply =
      let parts = and_parts (list_all is_grammatical group) (list_all (list_all is_grammatical) groups) spelled in
      log-good (paged_after_all base group) groups (all-good base group good parts.0 apply.0) parts.1 apply.1

  pub log-lie : (base : Durable) (groups : List Group) → IsGoodState base → list_all (list_all is_grammatical) groups ≡ true → LogApplies count base groups → LieBelow count base → LieBelow count (paged_stand base groups)
  log-lie base [] good spelled apply lie = lie
  log-lie base (group ∷ groups) good spelled apply lie =
      let parts = and_parts (list_all is_grammatical group) (list_all (list_all is_grammatical) groups) spelled in
      log-lie (paged_after_all base group) groups (all-good base group good parts.0 apply.0) parts.1 apply.1 (all-lie base group good parts.0 apply.0 lie)
