-- Contents of which the pages come to be held, one after another.
use Rattle.std.proofs.Common.{◌≡◌, ℕ, ◌+◌, ◌*◌, ◌<◌, ◌≤◌, true, List, [], ◌∷◌, ◌++◌, length, length-append, get_or, sum_by, refl, sym, ◌∙◌, ap, subst, arith, inl, inr}
use Rattle.std.proofs.lemmas.List.{append-nil, append_assoc, get_or-append-add, get_or_append_left, get_or_default}
use Rattle.std.proofs.lemmas.List.Elements.{All-append, All-cons, All-contains, All-head, All-nil, All-weaker, Contains-append_left, Contains-append_right, Contains-get_or}
use Rattle.std.proofs.lemmas.List.Sums.{sum_by-append, sum_by-cons}
use Rattle.std.specs.Prelude.{◌⊎◌, ◌≢◌, All, Contains}
use Rattle.ktm_content.specs.Contents.{units_of}
use Rattle.ktm_content.specs.Places.{LieOn}
use Rattle.ktm_content.proofs.offered.Bytes.{place-lie}
use Rattle.ktm_store.specs.Holding.{AreAllBelow, HavePage, HoldsContents}
use Rattle.ktm_store.specs.Marks.{Holds, is_held}
use Rattle.ktm_store.specs.Store.{AreBelow, AreHeld, StoreOf, page_at}
use Rattle.ktm_store.proofs.offered.Holding.{held-lie, held-more}

-- ---- one content

-- the place of the first byte of a unit
first-place : (pages places : List ℕ) (unit : ℕ) → LieOn pages places → unit < length pages → get_or places (unit * 4096) 0 ≡ get_or pages unit 0 * 4096 + 1
first-place pages places unit lie low =
    ap (λ n. get_or places n 0) (omega arith) ∙ place-lie pages places unit 0 lie (omega arith) (omega (arith, low, lie.units)) ∙ omega arith

-- the pages of contents that are on pages that there are
pub pages-below : (count : ℕ) (pages places : List ℕ) → LieOn pages places → AreBelow count places → All (λ page. page < count) pages
pages-below count pages places lie below unit d low =
    let place = first-place pages places unit lie low in
    let most = below (unit * 4096) 0 (omega (arith, low, lie.units)) in
    let same = get_or_default pages unit d 0 low in
    omega (arith, place, most, same)

-- a page of contents has a place of theirs
page-of : (pages places : List ℕ) (page : ℕ) → LieOn pages places → Contains pages page → HavePage (places ∷ []) page
page-of pages places page lie there =
    let place = first-place pages places there.0 lie there.1 in
    let same : get_or pages there.0 0 ≡ page = get_or_default pages there.0 0 page there.1 ∙ there.2 in
    record {
      places = places;
      place = get_or places (there.0 * 4096) 0;
      among = (0, omega arith, refl);
      has = Contains-get_or places (there.0 * 4096) 0 (omega (arith, there.1, lie.units));
      on = omega (arith, place, same);
    }

pub holds-one : (pages places : List ℕ) {B : Type 0} (old new : StoreOf B) → LieOn pages places → new.seen ≡ old.seen → new.stored ≡ old.stored → new.wanted ≡ old.wanted → Holds pages old.marks new.marks
    → HoldsContents (places ∷ []) (units_of places) old new
holds-one pages places old new lie seen stored wanted holds = record {
  seen = seen;
  stored = stored;
  wanted = wanted;
  count = holds.count;
  next = holds.next;
  held = All-cons (AreHeld new.marks.held) places [] (held-lie new.marks.held pages places lie holds.these) (All-nil (AreHeld new.marks.held));
  kept = holds.kept;
  only = λ page is. elim (holds.only page is) [ inl before ↦ inl before | inr there ↦ inr (page-of pages places page lie there) ];
  free = omega (arith, holds.free, lie.units);
}

-- ---- some contents, and then others

pub all-left : {X : Type 0} (P : X → Type 0) (first second : List X) → All P (first ++ second) → All P first
all-left P first second all k d low = subst P (get_or_append_left first second d k low) (all k d (omega (arith, low, length-append first second)))

pub all-right : {X : Type 0} (P : X → Type 0) (first second : List X) → All P (first ++ second) → All P second
all-right P first second all k d low = subst P (get_or-append-add first second k d) (all (length first + k) d (omega (arith, low, length-append first second)))

pub holds-none : {B : Type 0} (now : StoreOf B) → HoldsContents [] 0 now now
holds-none now = record {
  seen = refl;
  stored = refl;
  wanted = refl;
  count = refl;
  next = refl;
  held = All-nil (AreHeld now.marks.held);
  kept = λ page is. is;
  only = λ page is. inl is;
  free = omega arith;
}

-- contents without bytes hold none
pub holds-empty : {B : Type 0} (now : StoreOf B) → HoldsContents ([] ∷ []) 0 now now
holds-empty now = record {
  seen = refl;
  stored = refl;
  wanted = refl;
  count = refl;
  next = refl;
  held = All-cons (AreHeld now.marks.held) [] [] (All-nil (λ (place : ℕ). place ≢ 0 → is_held now.marks.held (page_at place) ≡ true)) (All-nil (AreHeld now.marks.held));
  kept = λ page is. is;
  only = λ page is. inl is;
  free = omega arith;
}

module _ (first second : List (List ℕ)) where
  pub page-left : (page : ℕ) → HavePage first page → HavePage (first ++ second) page
  page-left page named = record { places = named.places; place = named.place; among = Contains-append_left first second named.places named.among; has = named.has; on = named.on }

  pub page-right : (page : ℕ) → HavePage second page → HavePage (first ++ second) page
  page-right page named = record { places = named.places; place = named.place; among = Contains-append_right first second named.places named.among; has = named.has; on = named.on }

  pub holds-both : (m n : ℕ) {B : Type 0} (old mid new : StoreOf B) → HoldsContents first m old mid → HoldsContents second n mid new → HoldsContents (first ++ second) (m + n) old new
  holds-both m n old mid new one two = record {
    seen = two.seen ∙ one.seen;
    stored = two.stored ∙ one.stored;
    wanted = two.wanted ∙ one.wanted;
    count = two.count ∙ one.count;
    next = two.next ∙ one.next;
    held = All-append (AreHeld new.marks.held) first second
        (All-weaker (AreHeld mid.marks.held) (AreHeld new.marks.held) (λ places are. held-more mid.marks.held new.marks.held places two.kept are) first one.held) two.held;
    kept = λ page is. two.kept page (one.kept page is);
    only = λ page is. elim (two.only page is) [
      | inl before ↦ elim (one.only page before) [ inl held ↦ inl held | inr named ↦ inr (page-left page named) ]
      | inr named ↦ inr (page-right page named)
    ];
    free = omega (arith, one.free, two.free);
  }

-- ---- one after another

-- the pages of those that are not left are held, and with those that are left they are all
pub record HoldsUpTo (all left : List (List ℕ)) (pages : ℕ) {B : Type 0} (old now : StoreOf B) : Type 0 where
  pub done : List (List ℕ)
  pub count : ℕ
  pub is : done ++ left ≡ all
  pub many : count + sum_by units_of left ≡ pages
  pub holds : HoldsContents done count old now

pub upto-begin : (all : List (List ℕ)) {B : Type 0} (now : StoreOf B) → HoldsUpTo all all (sum_by units_of all) now now
upto-begin all now = record { done = []; count = 0; is = refl; many = omega arith; holds = holds-none now }

module _ (all left : List (List ℕ)) (pages : ℕ) {B : Type 0} (old now : StoreOf B) where
  -- some of those that were left are held, too
  pub upto-next : (first : List (List ℕ)) (next : StoreOf B) → HoldsUpTo all (first ++ left) pages old now → HoldsContents first (sum_by units_of first) now next → HoldsUpTo all left pages old next
  upto-next first next upto more = record {
    done = upto.done ++ first;
    count = upto.count + sum_by units_of first;
    is = append_assoc upto.done first left ∙ upto.is;
    many = omega (arith, upto.many, sum_by-append units_of first left);
    holds = holds-both upto.done first upto.count (sum_by units_of first) old now next upto.holds more;
  }

  -- the places of those that are left are on pages that there are
  pub upto-below : HoldsUpTo all left pages old now → AreAllBelow old all → AreAllBelow now left
  upto-below upto below =
      let rest = all-right (AreBelow (length old.marks.held)) upto.done left (subst (All (AreBelow (length old.marks.held))) (sym upto.is) below) in
      subst (λ count. All (AreBelow count) left) (sym upto.holds.count) rest

-- one more is held
module _ (all left : List (List ℕ)) (one : List ℕ) (pages : ℕ) {B : Type 0} (old now : StoreOf B) (upto : HoldsUpTo all (one ∷ left) pages old now) where
  pub upto-one : (next : StoreOf B) → HoldsContents (one ∷ []) (units_of one) now next → HoldsUpTo all left pages old next
  upto-one next more =
      let same : units_of one ≡ sum_by units_of (one ∷ []) = omega (arith, sum_by-cons units_of one []) in
      upto-next all left pages old now (one ∷ []) next upto (subst (λ (n : ℕ). HoldsContents (one ∷ []) n now next) same more)

  pub below-one : AreAllBelow old all → AreBelow (length now.marks.held) one
  below-one below = All-head (AreBelow (length now.marks.held)) one left (upto-below all (one ∷ left) pages old now upto below)

-- none is left
pub upto-end : (all : List (List ℕ)) (pages : ℕ) {B : Type 0} (old now : StoreOf B) → HoldsUpTo all [] pages old now → HoldsContents all pages old now
upto-end all pages old now upto =
    let done : upto.done ≡ all = sym (append-nil upto.done) ∙ upto.is in
    let count : upto.count ≡ pages = omega (arith, upto.many) in
    subst (λ (contents : List (List ℕ)). HoldsContents contents pages old now) done (subst (λ (n : ℕ). HoldsContents upto.done n old now) count upto.holds)

-- ---- the same contents in other lists

-- each of these contents is among the others, or has no bytes
abbrev pub AreAmong : List (List ℕ) → List (List ℕ) → Type 0
AreAmong contents others = All (λ places. (places ≡ []) ⊎ Contains others places) contents

pub below-among : {B : Type 0} (store : StoreOf B) (contents others : List (List ℕ)) → AreAmong contents others → AreAllBelow store others → AreAllBelow store contents
below-among store contents others among below k d low = elim (among k d low) [
  | inl none ↦ subst (AreBelow (length store.marks.held)) (sym none) (All-nil (λ (place : ℕ). place ≤ length store.marks.held * 4096))
  | inr there ↦ All-contains (AreBelow (length store.marks.held)) others (get_or contents k d) below there
]

pub holds-among : (contents others : List (List ℕ)) (pages : ℕ) {B : Type 0} (old new : StoreOf B) → AreAmong contents others → AreAmong others contents → HoldsContents contents pages old new → HoldsContents others pages old new
holds-among contents others pages old new among back holds = record {
  seen = holds.seen;
  stored = holds.stored;
  wanted = holds.wanted;
  count = holds.count;
  next = holds.next;
  held = held;
  kept = holds.kept;
  only = λ page is. elim (holds.only page is) [ inl before ↦ inl before | inr named ↦ inr (named-too page named) ];
  free = holds.free;
}
  where
    held : All (AreHeld new.marks.held) others
    held k d low = elim (back k d low) [
      | inl none ↦ subst (AreHeld new.marks.held) (sym none) (All-nil (λ (place : ℕ). place ≢ 0 → is_held new.marks.held (page_at place) ≡ true))
      | inr there ↦ All-contains (AreHeld new.marks.held) contents (get_or others k d) holds.held there
    ]

    named-too : (page : ℕ) → HavePage contents page → HavePage others page
    named-too page named = elim (All-contains (λ (places : List ℕ). (places ≡ []) ⊎ Contains others places) contents named.places among named.among) [
      | inl none ↦ absurd (omega (arith, named.has.1, ap length none))
      | inr there ↦ record { places = named.places; place = named.place; among = there; has = named.has; on = named.on }
    ]
