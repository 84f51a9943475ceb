-- How many pages are free, as some are held.
use Rattle.std.proofs.Common.{◌≡◌, ℕ, zero, suc, ◌+◌, ◌-◌, ◌<◌, ◌≤◌, Bool, true, false, cond, List, [], ◌∷◌, ◌++◌, length, get_or, set, take, drop, Option, Some, None, refl, sym, ◌∙◌, ap, arith, inl, inr, length-append, length-drop, length-set, get_or-set_same, get_or-set_other}
use Rattle.std.specs.Prelude.{◌⊎◌, not, count_by, position, Contains}
use Rattle.std.specs.List.{position_or_len}
use Rattle.std.proofs.lemmas.Bool.{cases_eq, cases_lt, lt-ltb}
use Rattle.std.proofs.lemmas.List.{drop-set-add, drop-set-lt, drop_all, get_or-append_right, get_or-drop, get_or_append_left, set-get_or, take_rest}
use Rattle.std.proofs.lemmas.List.Elements.{Contains-append_left, Contains-append_right}
use Rattle.std.proofs.lemmas.List.Quantifiers.{position-Some}
use Rattle.std.proofs.lemmas.List.Sums.{fails_before_first, sum_by-drop_more, sum_by-set}
use Rattle.ktm_store.specs.Marks.{Holds, MarksState, Took, free_from, is_held}

-- one where a page is free
one_free : Bool → ℕ
one_free held = cond (not held) 1 0

one-most : (held : Bool) → one_free held ≤ 1
unfolding one_free
one-most true = omega arith
one-most false = omega arith

not-true : (held : Bool) → not held ≡ true → held ≡ false
not-true true is = cc
not-true false is = refl

not-false : (held : Bool) → not held ≡ false → held ≡ true
not-false true is = refl
not-false false is = cc

free-more : (held : List Bool) (page : ℕ) → page < length held → free_from held page ≡ one_free (get_or held page false) + free_from held (page + 1)
unfolding one_free
free-more held page low = sum_by-drop_more (λ (x : Bool). cond (not x) 1 0) held page false low

-- pages that are held are none of those that are free
free-behind : (held : List Bool) (from n : ℕ) → from + n ≤ length held → ((other : ℕ) → from ≤ other → other < from + n → get_or held other false ≡ true) → free_from held from ≡ free_from held (from + n)
unfolding one_free
free-behind held from zero fits are = let is : from ≡ from + zero = omega arith in ap (free_from held) is
free-behind held from (suc n) fits are =
    let so : free_from held from ≡ free_from held (from + n) = free-behind held from n (omega (arith, fits)) (λ other low high. are other low (omega (arith, high))) in
    let next : from + n + 1 ≡ from + suc n = omega arith in
    omega (arith, so, free-more held (from + n) (omega (arith, fits)), ap one_free (are (from + n) (omega arith) (omega arith)), ap (free_from held) next)

free-none : (held : List Bool) (from : ℕ) → from ≤ length held → ((other : ℕ) → from ≤ other → other < length held → get_or held other false ≡ true) → free_from held from ≡ 0
free-none held from within are =
    let n : ℕ = length held - from in
    let end : from + n ≡ length held = omega (arith, within) in
    free-behind held from n (omega (arith, within)) (λ other low high. are other low (omega (arith, high, within)))
    ∙ ap (free_from held) end
    ∙ ap (λ (l : List Bool). count_by not l) (drop_all (length held) held (omega arith))

-- no page is free from one on where none is found
pub free-not-found : (held : List Bool) (next : ℕ) → next ≤ length held → position not (drop next held) ≡ None → free_from held next ≡ 0
free-not-found held next within is = elim (cases_lt (position_or_len not (drop next held)) (length (drop next held))) [
  | inl found ↦ (let some : Some (position_or_len not (drop next held)) ≡ None = rw (lt-ltb (position_or_len not (drop next held)) (length (drop next held)) found) at is in cc)
  | inr none ↦ free-none held next within (λ other low high. not-false (get_or held other false) (
      let at : other ≡ next + (other - next) = omega (arith, low) in
      ap (λ (n : ℕ). not (get_or held n false)) at
      ∙ ap not (sym (get_or-drop next held (other - next) false))
      ∙ fails_before_first not (drop next held) (other - next) false (omega (arith, low, high, none, length-drop next held))))
]

-- ---- a page is taken

-- what is found in the rest of a list
pub found-in : (held list : List Bool) (next : ℕ) (found : Option ℕ) → list ≡ held → found ≡ position not (take (length list - next) (drop next list)) → found ≡ position not (drop next held)
found-in held list next found same is = is ∙ ap (position not) (take_rest list next) ∙ ap (λ (l : List Bool). position not (drop next l)) same

pub took : (held : List Bool) (next free : ℕ) → next ≤ length held → position not (drop next held) ≡ Some free → Took (record { held = held; next = next }) (next + free) (record { held = set held (next + free) true; next = next + free + 1 })
unfolding one_free
took held next free within is = record {
  within = low;
  ahead = omega arith;
  first = others;
  was_free = was;
  held = refl;
  next = refl;
  fewer =
      ap (λ n. n + 1) (ap (λ (l : List Bool). count_by not l) (drop-set-lt (next + free + 1) held (next + free) true (omega arith)))
      ∙ omega (arith, free-more held (next + free) low, ap one_free was, free-behind held next free (omega (arith, low)) others);
}
  where
    found : (free < length (drop next held)) × (not (get_or (drop next held) free false) ≡ true) × ((k : ℕ) → k < free → not (get_or (drop next held) k false) ≡ false)
    found = position-Some not (drop next held) free false is

    low : next + free < length held
    low = omega (arith, found.0, length-drop next held)

    was : get_or held (next + free) false ≡ false
    was = not-true (get_or held (next + free) false) (ap not (sym (get_or-drop next held free false)) ∙ found.1)

    others : (other : ℕ) → next ≤ other → other < next + free → get_or held other false ≡ true
    others other from below = not-false (get_or held other false)
        (let at : other ≡ next + (other - next) = omega (arith, from) in
        ap (λ (n : ℕ). not (get_or held n false)) at ∙ ap not (sym (get_or-drop next held (other - next) false)) ∙ found.2 (other - next) (omega (arith, from, below)))

-- ---- pages are held

free-held : (held : List Bool) (next page : ℕ) → page < length held → free_from held next ≤ free_from (set held page true) next + 1
unfolding one_free
free-held held next page low = elim (cases_lt page next) [
  | inl before ↦ omega (arith, ap (λ (l : List Bool). count_by not l) (drop-set-lt next held page true before))
  | inr from ↦ (let is : page ≡ next + (page - next) = omega (arith, from) in
      omega (
        arith,
        ap (λ (n : ℕ). free_from (set held n true) next) is,
        one-most (get_or (drop next held) (page - next) false),
        ap (λ (l : List Bool). count_by not l) (drop-set-add next held (page - next) true),
        sum_by-set (λ (x : Bool). cond (not x) 1 0) (drop next held) (page - next) true false (omega (arith, from, low, length-drop next held)),
      ))
]

-- how many are free once a page is held: one fewer where it was one of them
pub free-less : (held : List Bool) (next page : ℕ) → page < length held → next ≤ page → is_held held page ≡ false → free_from (set held page true) next + 1 ≡ free_from held next
unfolding one_free
free-less held next page low from was =
    let is : page ≡ next + (page - next) = omega (arith, from) in
    let free : one_free (get_or (drop next held) (page - next) false) ≡ 1 = ap one_free (get_or-drop next held (page - next) false ∙ ap (λ (n : ℕ). get_or held n false) (sym is) ∙ was) in
    omega (
      arith,
      free,
      ap (λ (n : ℕ). free_from (set held n true) next) is,
      ap (λ (l : List Bool). count_by not l) (drop-set-add next held (page - next) true),
      sum_by-set (λ (x : Bool). cond (not x) 1 0) (drop next held) (page - next) true false (omega (arith, from, low, length-drop next held)),
    )

-- a page that is held already changes nothing
pub free-same : (held : List Bool) (next page : ℕ) → is_held held page ≡ true → free_from (set held page true) next ≡ free_from held next
free-same held next page was = ap (λ (l : List Bool). free_from l next) (ap (set held page) (sym was) ∙ set-get_or held page false)

-- nor does a page in front of those that count
pub free-front : (held : List Bool) (next page : ℕ) → page < next → free_from (set held page true) next ≡ free_from held next
free-front held next page before = ap (λ (l : List Bool). count_by not l) (drop-set-lt next held page true before)

pub held-one : (marks : MarksState) (page : ℕ) → page < length marks.held → Holds (page ∷ []) marks (record { held = set marks.held page true; next = marks.next })
held-one marks page low = record {
  count = length-set marks.held page true;
  next = refl;
  these = these;
  kept = kept;
  only = only;
  free = free-held marks.held marks.next page low;
}
  where
    now : is_held (set marks.held page true) page ≡ true
    now = get_or-set_same marks.held page true false low

    these : (k d : ℕ) → k < 1 → is_held (set marks.held page true) (get_or (page ∷ []) k d) ≡ true
    these zero d first = now
    these (suc k) d past = absurd (omega (arith, past))

    kept : (other : ℕ) → is_held marks.held other ≡ true → is_held (set marks.held page true) other ≡ true
    kept other was = elim (cases_eq other page) [
      | inl same ↦ ap (is_held (set marks.held page true)) same ∙ now
      | inr apart ↦ get_or-set_other marks.held page other true false apart ∙ was
    ]

    only : (other : ℕ) → is_held (set marks.held page true) other ≡ true → (is_held marks.held other ≡ true) ⊎ Contains (page ∷ []) other
    only other is = elim (cases_eq other page) [
      | inl same ↦ inr (0, omega arith, sym same)
      | inr apart ↦ inl (sym (get_or-set_other marks.held page other true false apart) ∙ is)
    ]

pub held-none : (marks : MarksState) → Holds [] marks marks
held-none marks = record {
  count = refl;
  next = refl;
  these = λ k d low. absurd (omega (arith, low));
  kept = λ page was. was;
  only = λ page is. inl is;
  free = omega arith;
}

pub held-then : (pages more : List ℕ) (first next last : MarksState) → Holds pages first next → Holds more next last → Holds (pages ++ more) first last
held-then pages more first next last one two = record {
  count = two.count ∙ one.count;
  next = two.next ∙ one.next;
  these = these;
  kept = λ page was. two.kept page (one.kept page was);
  only = only;
  free = omega (arith, one.free, two.free, length-append pages more);
}
  where
    these : (k d : ℕ) → k < length (pages ++ more) → is_held last.held (get_or (pages ++ more) k d) ≡ true
    these k d low = elim (cases_lt k (length pages)) [
      | inl front ↦ ap (is_held last.held) (get_or_append_left pages more d k front) ∙ two.kept (get_or pages k d) (one.these k d front)
      | inr behind ↦ ap (is_held last.held) (get_or-append_right pages more (length pages) k d refl behind) ∙ two.these (k - length pages) d (omega (arith, low, behind, length-append pages more))
    ]

    only : (page : ℕ) → is_held last.held page ≡ true → (is_held first.held page ≡ true) ⊎ Contains (pages ++ more) page
    only page is = elim (two.only page is) [
      | inl before ↦ elim (one.only page before) [ inl was ↦ inl was | inr there ↦ inr (Contains-append_left pages more page there) ]
      | inr there ↦ inr (Contains-append_right pages more page there)
    ]
