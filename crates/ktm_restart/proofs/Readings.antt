-- What a state that is read comes to, by an event over the places of bytes, and by one as it is recorded.
use Rattle.std.specs.Prelude.{nat_lt}
use Rattle.std.proofs.Common.{◌≡◌, ℕ, ◌<◌, Bool, true, false, List, Some, None, All, length, sym, ◌∙◌, ap, subst, inl, inr}
use Rattle.std.proofs.lemmas.Bool.{cases_Bool}
use Rattle.ktm_journal.specs.Image.{page_count}
use Rattle.ktm_owners.specs.declared.owners.Named.{Named}
use Rattle.ktm_owners.specs.declared.owners.Owner.{Owner}
use Rattle.ktm_owners.specs.Owners.{AreAllNamedBy, AreOwnersOf, AreThere, BeginsUnit, LeavesGiven, all_given, byte_with}
use Rattle.ktm_owners.proofs.offered.Events.{changes-there, event-begins, event-known, event-shared, given-length}
use Rattle.ktm_owners.proofs.offered.Pages.{below-pages, pages-below}
use Rattle.ktm_paged.specs.Meaning.{has_event_its_pages, meant_event, pages_in, pages_of_event}
use Rattle.ktm_paged.specs.Paged.{IsApart, IsPlainlyMade, LieBelow, PagedApplies, PutLiesBelow, paged_after}
use Rattle.ktm_paged.proofs.offered.LyingStates.{event-lies, event-made, event-puts}
use Rattle.ktm_restart.specs.Logs.{IsOnPages}
use Rattle.ktm_restart.proofs.Giving.{given-false, given-true}
use Rattle.ktm_restart.proofs.Meant.{all-flat}
use Rattle.ktm_restart.specs.Reading.{IsReadWell, ReadingState, is_event_below, event_if_paged}
use Rattle.txf_laws.specs.GoodState.{IsGoodState}
use Rattle.txf_laws.specs.GoodStates.{GoodStatesLaw}
use Rattle.txf_laws.specs.Grammatical.{changes_of_event, is_grammatical}
use Rattle.ktm_world.specs.declared.event.Event.{Event}
use Rattle.ktm_world.specs.Durable.{Durable, after_event, event_applies}
use Rattle.ktm_world.specs.Tree.{Tree}
use Rattle.ktm_world.proofs.offered.Durables.{after_event-units}

-- ---- an event over the places of bytes

module _ (s : Durable) (old : List Owner) (event : Event) (well : IsReadWell (record { state = s; owners = old })) (puts : All (PutLiesBelow (page_count s.units)) (changes_of_event event))
    (begins : All BeginsUnit (changes_of_event event)) (names : List Named) (named : AreAllNamedBy (changes_of_event event) names) where
  pub names-there : AreThere (length old) names
  names-there = subst (λ n. AreThere n names) (sym well.many) (changes-there (page_count s.units) (changes_of_event event) names puts named)

  read-well : GoodStatesLaw → is_grammatical event ≡ true → IsPlainlyMade s.tree event → (owners : List Owner) → event_applies s event ≡ true → all_given (after_event s event) old names ≡ Some owners
      → IsReadWell (record { state = after_event s event; owners = owners })
  read-well law grammatical made owners applies given = record {
    good = good;
    below = subst (λ n. LieBelow (page_count n) (after_event s event)) (sym (after_event-units s event)) below;
    many = given-length (after_event s event) old names owners given ∙ well.many ∙ ap page_count (sym (after_event-units s event));
    known = event-known s event old names begins named (page_count s.units) owners good below names-there given well.known;
  }
    where
      good : IsGoodState (after_event s event)
      good = law.1 s event well.good grammatical applies

      below : LieBelow (page_count s.units) (after_event s event)
      below = event-lies (page_count s.units) s event well.good well.below made puts applies

  -- the pages that it names were given, or one was refused
  module _ (owners : List Owner) (b : Bool) (leaves : LeavesGiven (all_given (after_event s event) old names) owners b) (applies : event_applies s event ≡ true) where
    pub meant-read : GoodStatesLaw → is_grammatical event ≡ true → IsPlainlyMade s.tree event → b ≡ true → IsReadWell (record { state = after_event s event; owners = owners })
    meant-read law grammatical made is = read-well law grammatical made owners applies (given-true (all_given (after_event s event) old names) owners b leaves is)

    pub meant-refused : b ≡ false → ¬ IsApart (after_event s event)
    meant-refused is = event-shared s event old names begins named applies (given-false (all_given (after_event s event) old names) owners b leaves is)

-- ---- an event as it is recorded

-- its pages are among the first so many, change by change
event-below : (count : ℕ) (event : Event) → is_event_below count event ≡ true → All (λ page. page < count) (pages_of_event event)
event-below count event is = pages-below count (pages_of_event event) (all-flat (λ page. nat_lt page count) pages_in (changes_of_event event) ∙ is)

pub below-event : (count : ℕ) (event : Event) → All (λ page. page < count) (pages_of_event event) → is_event_below count event ≡ true
below-event count event all = sym (all-flat (λ page. nat_lt page count) pages_in (changes_of_event event)) ∙ below-pages count (pages_of_event event) all

-- what it means, if it has its pages
pub meant-some : (tree : Tree) (event e : Event) → Some e ≡ event_if_paged tree event → (has_event_its_pages tree event ≡ true) × (meant_event tree event ≡ e)
meant-some tree event e is = elim (cases_Bool (has_event_its_pages tree event)) [
  | inl has ↦ (has, let some : Some e ≡ Some (meant_event tree event) = rw has at is in cc)
  | inr none ↦ absurd (let some : Some e ≡ None = rw none at is in cc)
]

pub meant-none : (tree : Tree) (event : Event) → None ≡ event_if_paged tree event → has_event_its_pages tree event ≡ false
meant-none tree event is = elim (cases_Bool (has_event_its_pages tree event)) [
  | inl has ↦ absurd (let some : None ≡ Some (meant_event tree event) = rw has at is in cc)
  | inr none ↦ none
]

module _ (s : Durable) (event e : Event) (has : has_event_its_pages s.tree event ≡ true) (is : meant_event s.tree event ≡ e) where
  pub meant-made : IsPlainlyMade s.tree e
  meant-made = subst (IsPlainlyMade s.tree) is (event-made s.tree event has)

  pub meant-begins : All BeginsUnit (changes_of_event e)
  meant-begins = subst (λ (x : Event). All BeginsUnit (changes_of_event x)) is (event-begins s.tree event has)

  pub meant-puts : (count : ℕ) → is_event_below count event ≡ true → All (PutLiesBelow count) (changes_of_event e)
  meant-puts count below = subst (λ (x : Event). All (PutLiesBelow count) (changes_of_event x)) is (event-puts count s.tree event has (event-below count event below))

  pub meant-after : paged_after s event ≡ after_event s e
  meant-after = ap (after_event s) is

  pub meant-applies : (count : ℕ) → is_event_below count event ≡ true → event_applies s e ≡ true → IsApart (after_event s e) → PagedApplies count s event
  meant-applies count below applies apart = record {
    paged = has;
    below = event-below count event below;
    applies = ap (event_applies s) is ∙ applies;
    apart = subst (λ (x : Event). IsApart (after_event s x)) (sym is) apart;
  }

  pub meant-bad : (count : ℕ) → (event_applies s e ≡ true → ¬ IsApart (after_event s e)) → ¬ PagedApplies count s event
  meant-bad count bad applies = bad (ap (event_applies s) (sym is) ∙ applies.applies) (subst (λ (x : Event). IsApart (after_event s x)) is applies.apart)

-- the owners tell each place apart
pub owners-apart : (r : ReadingState) → IsReadWell r → IsApart r.state
owners-apart r well = (byte_with r.owners, well.known)

-- a good state whose contents lie on the pages that there are, with their owners
pub state-well : (s : Durable) (count : ℕ) (owners : List Owner) → IsGoodState s → LieBelow count s → count ≡ page_count s.units → length owners ≡ count → AreOwnersOf owners s → IsOnPages s × IsReadWell (record { state = s; owners = owners })
state-well s count owners good below count_is many known =
    let here = subst (λ n. LieBelow n s) count_is below in
    (record { below = here; apart = (byte_with owners, known) }, record { good = good; below = here; many = many ∙ count_is; known = known })
