-- How often pages stand in lists, and what takes them.
use Rattle.std.proofs.Common.{◌≡◌, ◌≢◌, ℕ, suc, ◌+◌, ◌<◌, ◌≤◌, ◌==◌, if◌then◌else◌, List, [], ◌∷◌, ◌++◌, length, get_or, take, drop, refl, sym, ◌∙◌, ap, subst, arith, inl, inr, length-take}
use Rattle.std.specs.Prelude.{AllPairs, Contains}
use Rattle.std.proofs.lemmas.Bool.{cases_eq, cases_lt}
use Rattle.std.proofs.lemmas.Bool.Decides.{nat_tests}
use Rattle.std.proofs.lemmas.List.{get_or-take, get_or_default, length_push, take_all}
use Rattle.std.proofs.lemmas.List.Sums.{get_or-le-sum_by, sum_by-append, sum_by-cons, sum_by_more, sum_by_more_le, sum_by_push, sum_by-take-drop}
use Rattle.ktm_page.specs.Space.{Gave, Shared, Took}
use Rattle.ktm_page.proofs.offered.FreePages.{free-changed, one_free}
use Rattle.ktm_extent.specs.Extent.{uses_in}
use Rattle.ktm_extent.specs.Units.{AreTaken}

-- one where the two are the same page
abbrev pub one_use : ℕ → ℕ → ℕ
one_use page p = if p == page then 1 else 0

pub one-same : (page p : ℕ) → p ≡ page → one_use page p ≡ 1
one-same page p same = grind (arith, nat_tests)

pub one-other : (page p : ℕ) → p ≢ page → one_use page p ≡ 0
one-other page p other = grind (arith, nat_tests)

pub uses-cons : (p : ℕ) (pages : List ℕ) (page : ℕ) → uses_in (p ∷ pages) page ≡ one_use page p + uses_in pages page
uses-cons p pages page = sum_by-cons (one_use page) p pages

pub uses-append : (some others : List ℕ) (page : ℕ) → uses_in (some ++ others) page ≡ uses_in some page + uses_in others page
uses-append some others page = sum_by-append (one_use page) some others

pub uses-push : (pages : List ℕ) (p page : ℕ) → uses_in (pages ++ p ∷ []) page ≡ uses_in pages page + one_use page p
uses-push pages p page = sum_by_push (one_use page) pages p

pub uses-more : (pages : List ℕ) (i page : ℕ) → i < length pages → uses_in (take (i + 1) pages) page ≡ uses_in (take i pages) page + one_use page (get_or pages i 0)
uses-more pages i page low = sum_by_more (one_use page) pages i 0 low

pub uses-part : (pages : List ℕ) (n page : ℕ) → uses_in (take n pages) page + uses_in (drop n pages) page ≡ uses_in pages page
uses-part pages n page = sum_by-take-drop (one_use page) pages n

-- with one that stands at an index, no more than in all
pub uses-within : (pages : List ℕ) (i page : ℕ) → i < length pages → uses_in (take i pages) page + one_use page (get_or pages i 0) ≤ uses_in pages page
uses-within pages i page low = sum_by_more_le (one_use page) pages i 0 low

pub uses-at : (pages : List ℕ) (i : ℕ) → i < length pages → 0 < uses_in pages (get_or pages i 0)
uses-at pages i low = omega (arith, uses-within pages i (get_or pages i 0) low, one-same (get_or pages i 0) (get_or pages i 0) refl)

pub contains-uses : (pages : List ℕ) (page : ℕ) → Contains pages page → 0 < uses_in pages page
contains-uses pages page there =
    let is : get_or pages there.0 0 ≡ page = get_or_default pages there.0 0 page there.1 ∙ there.2 in
    subst (λ p. 0 < uses_in pages p) is (uses-at pages there.0 there.1)

pub uses-contains : (pages : List ℕ) (page : ℕ) → 0 < uses_in pages page → Contains pages page
uses-contains [] page some = absurd (omega (arith, some))
uses-contains (p ∷ pages) page some =
    elim (cases_eq p page) [
      | inl is ↦ (0, omega arith, is)
      | inr other ↦ let (k, low, at) = uses-contains pages page (omega (arith, some, uses-cons p pages page, one-other page p other)) in (suc k, omega (arith, low), at)
    ]

pub distinct-once : (pages : List ℕ) → AllPairs (λ (a b : ℕ). a ≢ b) pages → (page : ℕ) → uses_in pages page ≤ 1
distinct-once [] all page = omega arith
distinct-once (p ∷ pages) all page =
    elim (cases_eq p page) [
      | inl is ↦ elim (cases_lt 0 (uses_in pages page)) [
        | inl again ↦ let (k, low, at) = uses-contains pages page again in absurd (all 0 (suc k) page (omega arith) (omega (arith, low)) (is ∙ sym at))
        | inr none ↦ omega (arith, uses-cons p pages page, one-same page p is, none)
      ]
      | inr other ↦ omega (arith, uses-cons p pages page, one-other page p other, distinct-once pages (λ i j d less low. all (suc i) (suc j) d (omega (arith, less)) (omega (arith, low))) page)
    ]

pub once-distinct : (pages : List ℕ) → ((page : ℕ) → uses_in pages page ≤ 1) → AllPairs (λ (a b : ℕ). a ≢ b) pages
once-distinct pages once i j d less low = λ same.
    let page = get_or pages j 0 in
    let first : get_or (take j pages) i 0 ≡ page = get_or-take j pages i 0 less ∙ get_or_default pages i 0 d (omega arith) ∙ same ∙ get_or_default pages j d 0 low in
    let some : one_use page (get_or (take j pages) i 0) ≤ uses_in (take j pages) page = get_or-le-sum_by (one_use page) (take j pages) i 0 (omega (arith, length-take j pages)) in
    omega (arith, some, one-same page (get_or (take j pages) i 0) first, uses-within pages j page low, one-same page (get_or pages j 0) refl, once page)

-- one page more is taken
pub taken-more : (count page : ℕ) (pages : List ℕ) (held holds after : ℕ → ℕ) → AreTaken count pages held holds → Took count holds page after → AreTaken count (pages ++ page ∷ []) held after
taken-more count page pages held holds after taken took = record {
  holders = λ p. elim (cases_eq page p) [
    | inl same ↦ subst (λ q. after q ≡ held q + uses_in (pages ++ page ∷ []) q) same (omega (arith, took.held, none, uses-push pages page page, one-same page page refl))
    | inr other ↦ omega (arith, took.others p (λ is. other (sym is)), taken.holders p, uses-push pages page p, one-other p page other)
  ];
  free =
      let changed = free-changed holds after count page took.within took.others in
      let was : one_free (holds page) ≡ 1 = ap one_free took.was_free in
      let is : one_free (after page) ≡ 0 = ap one_free took.held in
      omega (arith, taken.free, changed, was, is, length_push pages page);
  new = λ p some. elim (cases_eq page p) [
    | inl same ↦ subst (λ q. (q < count) × (held q ≡ 0)) same (took.within, omega (arith, none))
    | inr other ↦ taken.new p (omega (arith, some, uses-push pages page p, one-other p page other))
  ];
  once = λ p. elim (cases_eq page p) [
    | inl same ↦ subst (λ q. uses_in (pages ++ page ∷ []) q ≤ 1) same (omega (arith, none, uses-push pages page page, one-same page page refl))
    | inr other ↦ omega (arith, uses-push pages page p, one-other p page other, taken.once p)
  ];
}
  where
    none : held page + uses_in pages page ≡ 0
    none = sym (taken.holders page) ∙ took.was_free

-- one page more of a list is given
pub gave-more : (list : List ℕ) (i : ℕ) (before holds after : ℕ → ℕ) → i < length list → ((page : ℕ) → holds page + uses_in (take i list) page ≡ before page) → Gave holds (get_or list i 0) after
    → (page : ℕ) → after page + uses_in (take (i + 1) list) page ≡ before page
gave-more list i before holds after low so gave page =
    let p = get_or list i 0 in
    elim (cases_eq p page) [
      | inl same ↦ subst (λ q. after q + uses_in (take (i + 1) list) q ≡ before q) same (omega (arith, gave.fewer, so p, uses-more list i p low, one-same p p refl))
      | inr other ↦ omega (arith, gave.others page (λ is. other (sym is)), so page, uses-more list i page low, one-other page p other)
    ]

-- one page more of a list is shared
pub shared-more : (list : List ℕ) (i : ℕ) (before holds after : ℕ → ℕ) → i < length list → ((page : ℕ) → holds page ≡ before page + uses_in (take i list) page) → Shared holds (get_or list i 0) after
    → (page : ℕ) → after page ≡ before page + uses_in (take (i + 1) list) page
shared-more list i before holds after low so shared page =
    let p = get_or list i 0 in
    elim (cases_eq p page) [
      | inl same ↦ subst (λ q. after q ≡ before q + uses_in (take (i + 1) list) q) same (omega (arith, shared.more, so p, uses-more list i p low, one-same p p refl))
      | inr other ↦ omega (arith, shared.others page (λ is. other (sym is)), so page, uses-more list i page low, one-other page p other)
    ]

-- a list whose front is the whole
pub uses-all : (list : List ℕ) (i page : ℕ) → length list ≤ i → uses_in (take i list) page ≡ uses_in list page
uses-all list i page all = ap (λ l. uses_in l page) (take_all i list all)
