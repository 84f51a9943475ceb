-- The places of a page in a list, as they are counted from the front.
use Rattle.std.proofs.Common.{◌≡◌, ℕ, ◌+◌, ◌<◌, ◌≤◌, ◌==◌, cond, List, length, get_or, take, set, refl, sym, ◌∙◌, ap, subst, inl, inr, eq-eqb, arith, get_or-set_same, get_or-set_other}
use Rattle.std.proofs.lemmas.Bool.{cases_eq, ne_eqb}
use Rattle.std.proofs.lemmas.List.Sums.{count_by_more_no, count_by_more_yes, sum_by-take-le}
use Rattle.ktm_pages.specs.Pages.{places_of}

-- the page at an index has a place more than in front of it
pub place-more : (out : List ℕ) (i : ℕ) → i < length out → places_of (take i out) (get_or out i 0) + 1 ≤ places_of out (get_or out i 0)
place-more out i below =
    let page = get_or out i 0 in
    let more = count_by_more_yes (λ p. p == page) out i 0 below (eq-eqb page page refl) in
    let few = sum_by-take-le (λ p. cond (p == page) 1 0) out (i + 1) in
    omega (arith, more, few)

-- where each page has as many holders as places so far, and the next one of the list gets one more, it is so again
pub place-counted : (each out : List ℕ) (i : ℕ) → i < length out → get_or out i 0 < length each → ((page : ℕ) → get_or each page 0 ≡ places_of (take i out) page)
    → (page : ℕ) → get_or (set each (get_or out i 0) (get_or each (get_or out i 0) 0 + 1)) page 0 ≡ places_of (take (i + 1) out) page
place-counted each out i below within before page = elim (cases_eq page (get_or out i 0)) [
  | inl same ↦ (let more = count_by_more_yes (λ p. p == page) out i 0 below (eq-eqb (get_or out i 0) page (sym same)) in
      let here : get_or each (get_or out i 0) 0 + 1 ≡ get_or each page 0 + 1 = ap (λ p. get_or each p 0 + 1) (sym same) in
      let inside : page < length each = subst (λ p. p < length each) (sym same) within in
      subst (λ p. get_or (set each p (get_or each (get_or out i 0) 0 + 1)) page 0 ≡ places_of (take (i + 1) out) page) same
      (get_or-set_same each page (get_or each (get_or out i 0) 0 + 1) 0 inside ∙ here ∙ ap (λ n. n + 1) (before page) ∙ sym more))
  | inr other ↦ (let none = count_by_more_no (λ p. p == page) out i 0 below (ne_eqb (get_or out i 0) page (λ same. other (sym same))) in
      get_or-set_other each (get_or out i 0) page _ 0 other ∙ before page ∙ sym none)
]
