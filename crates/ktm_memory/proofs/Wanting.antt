-- The pages of what is recorded are wanted.
use Rattle.std.proofs.Common.{◌≡◌, ◌≢◌, ℕ, zero, suc, ◌*◌, ◌<◌, ◌≤◌, ◌==◌, ◌||◌, Bool, true, List, [], ◌∷◌, ◌++◌, filter, get_or, All, Option, Some, None, refl, sym, ◌∙◌, ap, subst, arith, inl, inr}
use Rattle.std.proofs.lemmas.Bool.{cases_Bool, eqb-true, or_left, or_right}
use Rattle.std.proofs.lemmas.List.Elements.{All-cons, All-from_get_or, All-get_or, All-head, All-nil, All-tail, All-weaker}
use Rattle.ktm_base.specs.declared.id.Id.{Id}
use Rattle.ktm_base.specs.declared.id.Label.{Label}
use Rattle.ktm_base.specs.declared.id.Pid.{Pid}
use Rattle.arrayvec.specs.ArrayVec.{ArrayVec}
use Rattle.ktm_content.specs.Places.{LieOn}
use Rattle.ktm_event.specs.OnPages.{AreEach, IsRecordedChange}
use Rattle.ktm_each.specs.Each.{EachFrom, EachOfChange, EachOfChanges, EachOfEvent, EachOfGroup}
use Rattle.ktm_event.specs.Work.{pages_changes}
use Rattle.ktm_paged.specs.Meaning.{pages_in}
use Rattle.ktm_paged.specs.Paged.{page_at}
use Rattle.ktm_paged.proofs.offered.OnPages.{pages-each, places-each}
use Rattle.ktm_paged.proofs.offered.Recording.{change-weaker}
use Rattle.txf_laws.specs.Grammatical.{changes_of_event}
use Rattle.ktm_store.specs.Store.{IsStoredAt}
use Rattle.ktm_store.specs.Stored.{is_stored}
use Rattle.ktm_world.specs.declared.change.Change.{Change}
use Rattle.ktm_world.specs.declared.change.Change.TheVariants.{Make, Put, Cut, Move, Drop}
use Rattle.ktm_world.specs.declared.change.Contents.{Contents}
use Rattle.ktm_world.specs.declared.change.Contents.TheVariants.{Whole, Paged}
use Rattle.ktm_world.specs.declared.event.Event.{Event}
use Rattle.ktm_world.specs.declared.object.Transaction.{Transaction}
use Rattle.ktm_world.specs.declared.step.Step.{Step}
use Rattle.ktm_world.specs.Changes.{bytes_in}
use Rattle.ktm_world.specs.Decide.{events_of}
use Rattle.ktm_world.specs.FileOutcome.{FileOutcome}
use Rattle.ktm_world.specs.Logs.{Group}
use Rattle.ktm_world.specs.Present.{Present}
use Rattle.txf_overlay.specs.OverlayState.{is_of_names}
use Rattle.ktm_memory.specs.declared.settlement.Settlement.{Settlement}
use Rattle.ktm_memory.specs.declared.settlement.Settlement.TheVariants.{Nothing, Begin, Change as PlainChange, Course, Handles, Pass, MakeManager, Recover, Take, Enlist, Inform}
use Rattle.ktm_memory.specs.Rules.{Follows, PutsAlone}
use Rattle.ktm_memory.specs.Settled.{changes_put, left_to_do}
use Rattle.ktm_memory.specs.Stored.{AreEventsStored, EventsLieBelow, NamesBelow, NamesStored}
use Rattle.ktm_memory.proofs.FilesFollow.{events_put}
use Rattle.ktm_memory.proofs.WorkRecords.{IsFinal}
use Rattle.ktm_memory.proofs.offered.Opening.{events_in}

-- ---- places and pages

module _ (P : ℕ → Type 0) where
  pub each-all : (from : ℕ) (bytes : List ℕ) → EachFrom (λ index place. P place) from bytes → All P bytes
  each-all from [] each = All-nil P
  each-all from (b ∷ bs) each = All-cons P b bs each.0 (each-all (suc from) bs each.1)

  pub all-each : (from : ℕ) (bytes : List ℕ) → All P bytes → EachFrom (λ index place. P place) from bytes
  all-each from [] all = tt
  all-each from (b ∷ bs) all = (All-head P b bs all, all-each (suc from) bs (All-tail P b bs all))

on-below : (count : ℕ) (pages contents : List ℕ) → LieOn pages contents → All (λ place. place ≤ count * 4096) contents → All (λ page. page < count) pages
on-below count pages contents lie all = pages-each (λ page. page < count) pages contents lie (λ k there some. low (get_or contents k 0) some (All-get_or (λ place. place ≤ count * 4096) contents k 0 there all))
  where
    low : (place : ℕ) → 1 ≤ place → place ≤ count * 4096 → page_at place < count
    low place some below = omega (arith, some, below)

on-stored : (stored : List Bool) (pages contents : List ℕ) → LieOn pages contents → All (λ page. is_stored stored page ≡ true) pages → All (IsStoredAt stored) contents
on-stored stored pages contents lie all = All-from_get_or (IsStoredAt stored) contents 0 (λ k there some. places-each (λ page. is_stored stored page ≡ true) pages contents lie all k there)

-- ---- changes as they are recorded

recorded-below : (count : ℕ) (c recorded : Change) → IsRecordedChange c recorded → IsFinal recorded → EachOfChange (λ file index place. place ≤ count * 4096) c → NamesBelow count recorded
recorded-below count (Put node offset (Whole contents)) (Put node' offset' (Paged len pages)) r final each = on-below count pages contents r.2.lie (each-all (λ place. place ≤ count * 4096) offset contents each)
recorded-below count (Put node offset (Whole contents)) (Put node' offset' (Whole others)) r final each = absurd r.2
recorded-below count (Put node offset (Paged len pages)) (Put node' offset' contents) r final each = absurd r.2
recorded-below count (Put node offset contents) (Make node' parent kind name) r final each = absurd r
recorded-below count (Put node offset contents) (Cut node' size pages) r final each = absurd r
recorded-below count (Put node offset contents) (Move node' parent name) r final each = absurd r
recorded-below count (Put node offset contents) (Drop node') r final each = absurd r
recorded-below count (Make node parent kind name) recorded r final each = subst (NamesBelow count) (sym r) (All-nil (λ page. page < count))
recorded-below count (Cut node size pages) recorded r final each =
    let is = subst IsFinal r final in
    subst (NamesBelow count) (sym r) (subst (All (λ page. page < count)) (sym is.1) (All-nil (λ page. page < count)))
recorded-below count (Move node parent name) recorded r final each = subst (NamesBelow count) (sym r) (All-nil (λ page. page < count))
recorded-below count (Drop node) recorded r final each = subst (NamesBelow count) (sym r) (All-nil (λ page. page < count))

recorded-stored : (stored : List Bool) (c recorded : Change) → IsRecordedChange c recorded → NamesStored stored recorded → EachOfChange (λ file index place. IsStoredAt stored place) c
recorded-stored stored (Put node offset (Whole contents)) (Put node' offset' (Paged len pages)) r named = all-each (IsStoredAt stored) offset contents (on-stored stored pages contents r.2.lie named)
recorded-stored stored (Put node offset (Whole contents)) (Put node' offset' (Whole others)) r named = absurd r.2
recorded-stored stored (Put node offset (Paged len pages)) (Put node' offset' contents) r named = absurd r.2
recorded-stored stored (Put node offset contents) (Make node' parent kind name) r named = absurd r
recorded-stored stored (Put node offset contents) (Cut node' size pages) r named = absurd r
recorded-stored stored (Put node offset contents) (Move node' parent name) r named = absurd r
recorded-stored stored (Put node offset contents) (Drop node') r named = absurd r
recorded-stored stored (Make node parent kind name) recorded r named = tt
recorded-stored stored (Cut node size pages) recorded r named = tt
recorded-stored stored (Move node parent name) recorded r named = tt
recorded-stored stored (Drop node) recorded r named = tt

pub all-below : (count : ℕ) (cs rs : List Change) → AreEach IsRecordedChange cs rs → All IsFinal rs → EachOfChanges (λ file index place. place ≤ count * 4096) cs → All (NamesBelow count) rs
all-below count [] [] are final each = All-nil (NamesBelow count)
all-below count (c ∷ cs) (r ∷ rs) are final each =
    All-cons (NamesBelow count) r rs (recorded-below count c r are.0 (All-head IsFinal r rs final) (All-head (EachOfChange (λ file index place. place ≤ count * 4096)) c cs each))
    (all-below count cs rs are.1 (All-tail IsFinal r rs final) (All-tail (EachOfChange (λ file index place. place ≤ count * 4096)) c cs each))
all-below count [] (r ∷ rs) are final each = absurd are
all-below count (c ∷ cs) [] are final each = absurd are

pub all-stored : (stored : List Bool) (cs rs : List Change) → AreEach IsRecordedChange cs rs → All (NamesStored stored) rs → EachOfChanges (λ file index place. IsStoredAt stored place) cs
all-stored stored [] [] are named = All-nil (EachOfChange (λ file index place. IsStoredAt stored place))
all-stored stored (c ∷ cs) (r ∷ rs) are named =
    All-cons (EachOfChange (λ file index place. IsStoredAt stored place)) c cs (recorded-stored stored c r are.0 (All-head (NamesStored stored) r rs named)) (all-stored stored cs rs are.1 (All-tail (NamesStored stored) r rs named))
all-stored stored [] (r ∷ rs) are named = absurd are
all-stored stored (c ∷ cs) [] are named = absurd are

-- ---- those of names, and those of the files that were written

pub left-part : {X : Type 0} (P : X → Type 0) (xs ys : List X) → All P (xs ++ ys) → All P xs
left-part P [] ys all = All-nil P
left-part P (x ∷ xs) ys all = All-cons P x xs (All-head P x (xs ++ ys) all) (left-part P xs ys (All-tail P x (xs ++ ys) all))

pub right-part : {X : Type 0} (P : X → Type 0) (xs ys : List X) → All P (xs ++ ys) → All P ys
right-part P [] ys all = all
right-part P (x ∷ xs) ys all = right-part P xs ys (All-tail P x (xs ++ ys) all)

name-stored : (stored : List Bool) (c : Change) → is_of_names c ≡ true → NamesStored stored c
name-stored stored (Make node parent kind name) is = All-nil (λ page. is_stored stored page ≡ true)
name-stored stored (Put node offset contents) is = absurd (cc)
name-stored stored (Cut node size pages) is = absurd (cc)
name-stored stored (Move node parent name) is = All-nil (λ page. is_stored stored page ≡ true)
name-stored stored (Drop node) is = All-nil (λ page. is_stored stored page ≡ true)

pub names-stored : (stored : List Bool) (cs : List Change) → All (NamesStored stored) (filter is_of_names cs)
names-stored stored [] = All-nil (NamesStored stored)
names-stored stored (c ∷ cs) = elim (cases_Bool (is_of_names c)) [
  | inl name ↦ rw name (All-cons (NamesStored stored) c (filter is_of_names cs) (name-stored stored c name) (names-stored stored cs))
  | inr other ↦ rw other (names-stored stored cs)
]

-- the pages of a file that has bytes
pub file-below : (count file len : ℕ) (pages : List ℕ) → len ≢ 0 → All (NamesBelow count) (pages_changes file len pages) → All (λ page. page < count) pages
file-below count file zero pages some all = absurd (some refl)
file-below count file (suc n) pages some all =
    All-head (NamesBelow count) (Put file 0 (Paged (suc n) pages)) [] (All-tail (NamesBelow count) (Cut file 0 []) (Put file 0 (Paged (suc n) pages) ∷ []) all)

pub file-stored : (stored : List Bool) (file len : ℕ) (pages : List ℕ) → All (λ page. is_stored stored page ≡ true) pages → All (NamesStored stored) (pages_changes file len pages)
file-stored stored file zero pages all = All-cons (NamesStored stored) (Cut file 0 []) [] (All-nil (λ page. is_stored stored page ≡ true)) (All-nil (NamesStored stored))
file-stored stored file (suc n) pages all =
    All-cons (NamesStored stored) (Cut file 0 []) (Put file 0 (Paged (suc n) pages) ∷ []) (All-nil (λ page. is_stored stored page ≡ true))
    (All-cons (NamesStored stored) (Put file 0 (Paged (suc n) pages)) [] all (All-nil (NamesStored stored)))

-- one without bytes names none
pub empty-stored : (stored : List Bool) (file len : ℕ) (pages : List ℕ) → len ≡ 0 → All (NamesStored stored) (pages_changes file len pages)
empty-stored stored file zero pages none = All-cons (NamesStored stored) (Cut file 0 []) [] (All-nil (λ page. is_stored stored page ≡ true)) (All-nil (NamesStored stored))
empty-stored stored file (suc n) pages none = absurd (omega (arith, none))

-- what is stored stays so
pub still-stored : (old new : List Bool) → ((page : ℕ) → is_stored old page ≡ true → is_stored new page ≡ true) → (cs : List Change) → All (NamesStored old) cs → All (NamesStored new) cs
still-stored old new keeps cs all =
    All-weaker (NamesStored old) (NamesStored new) (λ (c : Change) named. All-weaker (λ page. is_stored old page ≡ true) (λ page. is_stored new page ≡ true) keeps (pages_in c) named) cs all

-- ---- what is left to be put

-- the pages of places, as a rule
abbrev stored_rule : List Bool → ℕ → ℕ → ℕ → Bool
stored_rule stored file index place = (place == 0) || is_stored stored (page_at place)

to-rule : (stored : List Bool) (file index place : ℕ) → IsStoredAt stored place → Follows (stored_rule stored) file index place
to-rule stored file index place is = elim (cases_Bool (place == 0)) [
  | inl none ↦ or_left (place == 0) (is_stored stored (page_at place)) none
  | inr some ↦ or_right (place == 0) (is_stored stored (page_at place)) (is (λ (zero : place ≡ 0). let both = ap (λ n. n == 0) zero in absurd (cc)))
]

from-rule : (stored : List Bool) (file index place : ℕ) → Follows (stored_rule stored) file index place → IsStoredAt stored place
from-rule stored file index place follows some = elim (cases_Bool (place == 0)) [
  | inl none ↦ absurd (some (eqb-true place 0 none))
  | inr other ↦ rw other at follows
]

group-weaker : (p q : ℕ → ℕ → ℕ → Type 0) → ((file index place : ℕ) → p file index place → q file index place) → (events : Group) → EachOfGroup p events → EachOfGroup q events
group-weaker p q weaker events each =
    All-weaker (EachOfEvent p) (EachOfEvent q) (λ (event : Event) is. All-weaker (EachOfChange p) (EachOfChange q) (change-weaker p q weaker) (changes_of_event event) is) events each

-- where what is left to be put is stored, so is what is recorded
pub puts-stored : (x : Present) (settlement : Settlement) → PutsAlone x settlement → (stored : List Bool) → EachOfChanges (λ file index place. IsStoredAt stored place) (changes_put x settlement) → AreEventsStored stored (left_to_do x settlement).events
puts-stored x settlement puts stored each =
    group-weaker (Follows (stored_rule stored)) (λ file index place. IsStoredAt stored place) (from-rule stored) (left_to_do x settlement).events
    (puts (stored_rule stored) (All-weaker (EachOfChange (λ file index place. IsStoredAt stored place)) (EachOfChange (Follows (stored_rule stored))) (change-weaker (λ file index place. IsStoredAt stored place) (Follows (stored_rule stored)) (to-rule stored)) (changes_put x settlement) each))

-- nothing is put but by a plain call and by a transaction's steps
pub others-put : (x : Present) (settlement : Settlement) → ((process : Pid) (label : Option Label) (plan : FileOutcome) (ready : Option (List ℕ)) → settlement ≡ PlainChange process label plan ready → ⊥)
    → ((t : Transaction) (caller : Option Id) (steps : ArrayVec Step) → settlement ≡ Course t caller steps → ⊥) → changes_put x settlement ≡ []
others-put x Nothing change course = refl
others-put x (Begin process label timeout) change course = refl
others-put x (PlainChange process label plan ready) change course = absurd (change process label plan ready refl)
others-put x (Course t caller steps) change course = absurd (course t caller steps refl)
others-put x (Handles process labels) change course = refl
others-put x (Pass ms) change course = refl
others-put x (MakeManager process label durability) change course = refl
others-put x (Recover manager) change course = refl
others-put x (Take manager) change course = refl
others-put x (Enlist process label manager transaction kind) change course = refl
others-put x (Inform enlistment information) change course = refl

-- a change that is left to be put is on pages that there are
pub change-low : (count : ℕ) (x : Present) (process : Pid) (label : Option Label) (plan : FileOutcome) (ready : Option (List ℕ)) (change : Change) → plan.change ≡ Some change → EventsLieBelow count (left_to_do x (PlainChange process label plan ready)).events
    → EachOfChange (λ file index place. place ≤ count * 4096) change
change-low count x process label plan ready change is below =
    events_put (λ file index place. place ≤ count * 4096) change
    (subst (EachOfGroup (λ file index place. place ≤ count * 4096)) (events_in x process None label plan ∙ ap (λ (o : Option Change). events_of None o) is) below)

-- what a change puts
pub put-low : (count node offset : ℕ) (contents : Contents) → EachOfChange (λ file index place. place ≤ count * 4096) (Put node offset contents) → All (λ place. place ≤ count * 4096) (bytes_in contents)
put-low count node offset contents each = each-all (λ place. place ≤ count * 4096) offset (bytes_in contents) each

pub put-stored : (stored : List Bool) (node offset : ℕ) (contents : Contents) → All (IsStoredAt stored) (bytes_in contents) → EachOfChange (λ file index place. IsStoredAt stored place) (Put node offset contents)
put-stored stored node offset contents all = all-each (IsStoredAt stored) offset (bytes_in contents) all
