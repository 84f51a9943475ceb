-- The owners of pages after an event over the places of bytes, once the pages that it names were given, or were not.
use Rattle.std.proofs.Common.{◌≡◌, ℕ, ◌+◌, ◌^◌, ◌<◌, ◌==◌, ◌&&◌, not, true, nat_lt, is_none, List, [], ◌∷◌, ◌++◌, Some, None, All, length, map, slice_set, arith, refl, sym, ◌∙◌, ap, subst, inl, inr}
use Rattle.std.specs.List.{list_all}
use Rattle.std.proofs.lemmas.Bool.{and_parts, cases_Bool, true≢false}
use Rattle.std.proofs.lemmas.List.{append-nil, length-set}
use Rattle.std.proofs.lemmas.List.Elements.{All-cons, All-head, All-nil, All-tail}
use Rattle.ktm_base.specs.declared.id.Id.{Id}
use Rattle.ktm_content.proofs.offered.Bytes.{one-list}
use Rattle.ktm_owners.specs.declared.owners.Named.{Named}
use Rattle.ktm_owners.specs.declared.owners.Owner.{Owner}
use Rattle.ktm_owners.specs.Owners.{AreAllNamedBy, AreNamedBy, AreOwnersOf, AreThere, BeginsUnit, all_given, may_give, named_from}
use Rattle.ktm_owners.proofs.GoodStates.{good-starts}
use Rattle.ktm_owners.proofs.Naming.{in-turn-all, named-after}
use Rattle.ktm_owners.proofs.OwningStates.{state-given}
use Rattle.ktm_owners.proofs.Present.{IsPresent, plain-present, ready-present}
use Rattle.ktm_owners.proofs.Sharing.{refused-shared}
use Rattle.ktm_owners.proofs.Singles.{committed-present, ends-begin}
use Rattle.ktm_paged.specs.Meaning.{has_event_its_pages, has_its_pages, has_work_pages, meant, meant_event, size_before}
use Rattle.ktm_paged.specs.Paged.{IsApart, LieBelow, PutLiesBelow}
use Rattle.ktm_paged.proofs.offered.LyingStates.{recorded-form}
use Rattle.ktm_paged.proofs.offered.Meanings.{work-paged}
use Rattle.txf_laws.specs.GoodState.{IsGoodState}
use Rattle.txf_laws.specs.Grammatical.{changes_of_event}
use Rattle.txf_laws.proofs.offered.WaitingChanges.{recorded_changes_apply-all}
use Rattle.ktm_world.specs.declared.change.Change.{Change}
use Rattle.ktm_world.specs.declared.change.Change.TheVariants.{Make, Put, Cut, Move, Drop}
use Rattle.ktm_world.specs.declared.change.Contents.TheVariants.{Whole, Paged}
use Rattle.ktm_world.specs.declared.event.Event.{Event}
use Rattle.ktm_world.specs.declared.event.Event.TheVariants.{Boot, MadeRm, Plain, Ready, Single, Held, Decide, Undo, Done}
use Rattle.ktm_world.specs.declared.event.Part.{Part}
use Rattle.ktm_world.specs.declared.event.Part.TheVariants.{Changes, Enlistment, Settings}
use Rattle.ktm_world.specs.Changes.{applies, changes_apply}
use Rattle.ktm_world.specs.Durable.{Durable, after_event, are_recorded_changes, changes_in, ends_in_bytes, event_applies, fact_applies, fact_of, has_changes_part, is_sole, is_within_limits, may_get_ready, part_applies, recorded_at, recorded_changes_apply, recorded_or_new}
use Rattle.ktm_world.specs.Tree.{Tree}
use Rattle.ktm_world.proofs.offered.Lookups.{Rises-from}
use Rattle.txf_laws.proofs.offered.CommitsOfOthers.{All-in}

-- ---- what is meant

-- what a change means that has its pages begins with a unit
meant-begins : (size : ℕ) (c : Change) → has_its_pages size c ≡ true → BeginsUnit (meant size c)
meant-begins size (Make node parent kind name) is = tt
meant-begins size (Put node offset (Whole bytes)) is = absurd (true≢false (sym is))
meant-begins size (Put node offset (Paged len pages)) is = omega arith
meant-begins size (Cut node end pages) is = elim (cases_Bool (nat_lt size end)) [
  | inl grows ↦ rw grows (omega arith)
  | inr less ↦ rw less tt
]
meant-begins size (Move node parent name) is = tt
meant-begins size (Drop node) is = tt

all-begin : (cs : List Change) → list_all has_work_pages cs ≡ true → All BeginsUnit (map (meant 0) cs)
all-begin [] is = All-nil BeginsUnit
all-begin (c ∷ cs) is =
    let both = and_parts (has_work_pages c) (list_all has_work_pages cs) is in
    All-cons BeginsUnit (meant 0 c) (map (meant 0) cs) (meant-begins 0 c (work-paged c both.0)) (all-begin cs both.1)

pub event-begins : (tree : Tree) (event : Event) → has_event_its_pages tree event ≡ true → All BeginsUnit (changes_of_event (meant_event tree event))
event-begins tree (Boot boot) is = All-nil BeginsUnit
event-begins tree (MadeRm manager) is = All-nil BeginsUnit
event-begins tree (Plain change) is = All-cons BeginsUnit (meant (size_before tree change) change) [] (meant-begins (size_before tree change) change is) (All-nil BeginsUnit)
event-begins tree (Ready transaction (Enlistment enlistment manager information)) is = All-nil BeginsUnit
event-begins tree (Ready transaction (Changes cs)) is = all-begin cs is
event-begins tree (Ready transaction (Settings settings)) is = All-nil BeginsUnit
event-begins tree (Single transaction (Enlistment enlistment manager information)) is = All-nil BeginsUnit
event-begins tree (Single transaction (Changes cs)) is = all-begin cs is
event-begins tree (Single transaction (Settings settings)) is = All-nil BeginsUnit
event-begins tree (Held transaction enlistment manager information) is = All-nil BeginsUnit
event-begins tree (Decide transaction) is = All-nil BeginsUnit
event-begins tree (Undo transaction) is = All-nil BeginsUnit
event-begins tree (Done transaction done) is = All-nil BeginsUnit

-- ---- what is named

-- the pages of contents that are named are there
pub named-there : (count : ℕ) (owner : Owner) (pages : List ℕ) → All (λ page. page < count) pages → AreThere count (named_from owner pages)
named-there count owner [] below = All-nil (λ (name : Named). name.page < count)
named-there count owner (page ∷ pages) below =
    All-cons (λ (name : Named). name.page < count) (record { page = page; owner = owner }) (named_from (record owner { unit = owner.unit + 1 }) pages)
    (All-head (λ n. n < count) page pages below) (named-there count (record owner { unit = owner.unit + 1 }) pages (All-tail (λ n. n < count) page pages below))

change-there : (count : ℕ) (c : Change) (names : List Named) → PutLiesBelow count c → AreNamedBy c names → AreThere count names
change-there count (Put node offset contents) names lies (pages, lie, is) =
    subst (AreThere count) (sym is) (named-there count _ pages (subst (All (λ page. page < count)) (one-list lies.pages pages _ lies.lie lie) lies.below))
change-there count (Make node parent kind name) names lies none = subst (AreThere count) (sym none) (All-nil (λ (n : Named). n.page < count))
change-there count (Cut node size pages) names lies none = subst (AreThere count) (sym none) (All-nil (λ (n : Named). n.page < count))
change-there count (Move node parent name) names lies none = subst (AreThere count) (sym none) (All-nil (λ (n : Named). n.page < count))
change-there count (Drop node) names lies none = subst (AreThere count) (sym none) (All-nil (λ (n : Named). n.page < count))

pub changes-there : (count : ℕ) (cs : List Change) (names : List Named) → All (PutLiesBelow count) cs → AreAllNamedBy cs names → AreThere count names
changes-there count cs names lie named =
    in-turn-all AreNamedBy (λ (name : Named). name.page < count) cs names (λ c own there is. change-there count c own (All-in (PutLiesBelow count) cs lie c there) is) named

-- ---- pages that are given

-- no page comes or goes
pub given-length : (s : Durable) (old : List Owner) (names : List Named) (owners : List Owner) → all_given s old names ≡ Some owners → length owners ≡ length old
given-length s old [] owners given = let same : old ≡ owners = cc in ap length (sym same)
given-length s old (name ∷ names) owners given = elim (cases_Bool (may_give s old name)) [
  | inl may ↦ given-length s (slice_set old name.page name.owner) names owners (rw may at given) ∙ length-set old name.page name.owner
  | inr not_so ↦ absurd (none-some owners (rw not_so at given))
]
  where
    none-some : (o : List Owner) → None ≡ Some o → ⊥
    none-some o is = cc

-- ---- what an event puts

-- changes that a transaction records alone end in the bytes of files, and apply
part-form : (s : Durable) (id : Id) (part : Part) → part_applies s id part ≡ true → (ends_in_bytes (changes_in part) ≡ true) × (changes_apply s.tree (changes_in part) ≡ true)
part-form s id (Enlistment enlistment manager information) does_apply = (refl, refl)
part-form s id (Changes cs) does_apply =
    let parts = and_parts (not (has_changes_part (recorded_or_new s.transactions id)) && are_recorded_changes cs) (recorded_changes_apply s (Some id) cs) does_apply in
    (recorded-form cs (and_parts (not (has_changes_part (recorded_or_new s.transactions id))) (are_recorded_changes cs) parts.0).1, recorded_changes_apply-all s (Some id) cs parts.1)
part-form s id (Settings settings) does_apply = (refl, refl)

module _ (s : Durable) where
  -- none are named
  no-names : (t : Durable) (names : List Named) → names ≡ [] → All (IsPresent t) names
  no-names t names none = subst (All (IsPresent t)) (sym none) (All-nil (IsPresent t))

  -- the units that an event names lie on their pages after it
  fact-present : (event : Event) (names : List Named) → fact_applies s event ≡ true → All BeginsUnit (changes_of_event event) → AreAllNamedBy (changes_of_event event) names → All (IsPresent (after_event s event)) names
  fact-present (Plain c) names does_apply begin (first, rest, here, none, is) =
      let all : names ≡ first = is ∙ ap (λ (l : List Named). first ++ l) none ∙ append-nil first in
      subst (All (IsPresent (after_event s (Plain c)))) (sym all)
      (plain-present s c first (and_parts (applies s.tree c) true (recorded_changes_apply-all s None (c ∷ []) does_apply)).0 (All-head BeginsUnit c [] begin) here)
  fact-present (Ready id part) names does_apply begin named =
      ready-present s id part names (ends-begin (changes_in part) (part-form s id part (and_parts (may_get_ready s id) (part_applies s id part) does_apply).1).0) named
  fact-present (Single id part) names does_apply begin named =
      let form = part-form s id part (and_parts (id.boot == s.boots && is_none (recorded_at s.transactions id) && is_sole part) (part_applies s id part) does_apply).1 in
      committed-present s (after_event s (Single id part)) (changes_in part) names refl form.0 form.1 named
  fact-present (Boot boot) names does_apply begin none = no-names (after_event s (Boot boot)) names none
  fact-present (MadeRm manager) names does_apply begin none = no-names (after_event s (MadeRm manager)) names none
  fact-present (Held id enlistment manager information) names does_apply begin none = no-names (after_event s (Held id enlistment manager information)) names none
  fact-present (Decide id) names does_apply begin none = no-names (after_event s (Decide id)) names none
  fact-present (Undo id) names does_apply begin none = no-names (after_event s (Undo id)) names none
  fact-present (Done id done) names does_apply begin none = no-names (after_event s (Done id done)) names none

  -- where the pages that it names were given or not, in the good state that it comes to, whose contents lie on the pages that there are
  module _ (event : Event) (old : List Owner) (names : List Named) (begin : All BeginsUnit (changes_of_event event)) (named : AreAllNamedBy (changes_of_event event) names) where
    pub event-known : (count : ℕ) (owners : List Owner) → IsGoodState (after_event s event) → LieBelow count (after_event s event) → AreThere (length old) names
        → all_given (after_event s event) old names ≡ Some owners → AreOwnersOf old s → AreOwnersOf owners (after_event s event)
    event-known count owners good lie there given known =
        state-given (after_event s event) count lie (Rises-from (after_event s event).tree good.files.rise) (good-starts (after_event s event) good) old names owners there given
        (named-after s event old names known begin named)

    pub event-shared : event_applies s event ≡ true → all_given (after_event s event) old names ≡ None → ¬ IsApart (after_event s event)
    event-shared does_apply none =
        let facts = and_parts (fact_applies s event && is_within_limits (fact_of s event)) (nat_lt (s.events + 1) (2 ^ 63)) does_apply in
        refused-shared (after_event s event) old names
        (fact-present event names (and_parts (fact_applies s event) (is_within_limits (fact_of s event)) facts.0).0 begin named) none
