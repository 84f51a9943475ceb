-- Lists of numbered things, no two with the same number.
use Rattle.std.proofs.Common.{◌≡◌, ◌≢◌, ℕ, zero, suc, ◌+◌, ◌<◌, nat_eq, Bool, List, [], ◌∷◌, ◌++◌, length, get_or, take, Contains, None, Some, refl, sym, ap, subst, inl, inr, eq-eqb, arith}
use Rattle.std.proofs.lemmas.Bool.{cases_Bool, cases_eq, ne_eqb}
use Rattle.std.specs.Map.{lookup_entry, remove_entry}
use Rattle.lru.proofs.Splits.{Contains-cons, Contains-head, Contains-nil, Contains-tail}
use Rattle.ktm_pages.specs.Cache.{without}
use Rattle.ktm_pages.specs.Slots.{AreApart, AreBelow, IsAway}

module _ {X : Type 0} where
  -- what is away is not found
  pub away-lookup : (number : ℕ) (xs : List (ℕ × X)) → IsAway number xs → lookup_entry (nat_eq number) xs ≡ None
  away-lookup number [] away = refl
  away-lookup number (x ∷ xs) away = rw (ne_eqb number x.0 (λ same. away.0 (sym same))) (away-lookup number xs away.1)

  pub away-at : (number : ℕ) (xs : List (ℕ × X)) (i : ℕ) (d : ℕ × X) → IsAway number xs → i < length xs → (get_or xs i d).0 ≢ number
  away-at number [] i d away within = absurd (omega (arith, within))
  away-at number (x ∷ xs) zero d away within = away.0
  away-at number (x ∷ xs) (suc i) d away within = away-at number xs i d away.1 (omega (arith, within))

  pub away-contains : (number : ℕ) (xs : List (ℕ × X)) (v : X) → IsAway number xs → Contains xs (number, v) → ⊥
  away-contains number [] v away is = Contains-nil _ is
  away-contains number (x ∷ xs) v away is = elim (Contains-cons x xs (number, v) is) [
    | inl same ↦ away.0 (ap (λ p. p.0) same)
    | inr rest ↦ away-contains number xs v away.1 rest
  ]

  -- ---- one is taken out

  pub away-removed : (number : ℕ) (test : ℕ → Bool) (xs : List (ℕ × X)) → IsAway number xs → IsAway number (remove_entry test xs)
  away-removed number test [] away = away
  away-removed number test (x ∷ xs) away = elim (cases_Bool (test x.0)) [
    | inl passes ↦ rw passes away.1
    | inr fails ↦ rw fails (away.0, away-removed number test xs away.1)
  ]

  pub apart-removed : (test : ℕ → Bool) (xs : List (ℕ × X)) → AreApart xs → AreApart (remove_entry test xs)
  apart-removed test [] apart = apart
  apart-removed test (x ∷ xs) apart = elim (cases_Bool (test x.0)) [
    | inl passes ↦ rw passes apart.1
    | inr fails ↦ rw fails (away-removed x.0 test xs apart.0, apart-removed test xs apart.1)
  ]

  -- it is away then
  pub removed-away : (number : ℕ) (xs : List (ℕ × X)) → AreApart xs → IsAway number (remove_entry (nat_eq number) xs)
  removed-away number [] apart = tt
  removed-away number (x ∷ xs) apart = elim (cases_eq number x.0) [
    | inl same ↦ rw (eq-eqb number x.0 same) (subst (λ n. IsAway n xs) (sym same) apart.0)
    | inr other ↦ rw (ne_eqb number x.0 other) ((λ same. other (sym same)), removed-away number xs apart.1)
  ]

  pub below-removed : (end : ℕ) (test : ℕ → Bool) (xs : List (ℕ × X)) → AreBelow end xs → AreBelow end (remove_entry test xs)
  below-removed end test [] below = below
  below-removed end test (x ∷ xs) below = elim (cases_Bool (test x.0)) [
    | inl passes ↦ rw passes below.1
    | inr fails ↦ rw fails (below.0, below-removed end test xs below.1)
  ]

  pub length-removed : (test : ℕ → Bool) (xs : List (ℕ × X)) (x : ℕ × X) → lookup_entry test xs ≡ Some x → length (remove_entry test xs) + 1 ≡ length xs
  length-removed test [] x is = cc
  length-removed test (y ∷ xs) x is = elim (cases_Bool (test y.0)) [
    | inl passes ↦ rw passes (omega arith)
    | inr fails ↦ (let rest = length-removed test xs x (rw fails at is) in rw fails (omega (arith, rest)))
  ]

  pub below-found : (end number : ℕ) (xs : List (ℕ × X)) (x : ℕ × X) → AreBelow end xs → lookup_entry (nat_eq number) xs ≡ Some x → number < end
  below-found end number [] x below is = cc
  below-found end number (y ∷ xs) x below is = elim (cases_eq number y.0) [
    | inl same ↦ subst (λ n. n < end) (sym same) below.0
    | inr other ↦ below-found end number xs x below.1 (rw (ne_eqb number y.0 other) at is)
  ]

  -- the last one, which is taken out
  pub last-removed : (xs : List (ℕ × X)) (n : ℕ) (d : ℕ × X) → length xs ≡ suc n → AreApart xs
      → (lookup_entry (nat_eq (get_or xs n d).0) xs ≡ Some (get_or xs n d)) × (remove_entry (nat_eq (get_or xs n d).0) xs ≡ take n xs)
  last-removed [] n d long apart = absurd (omega (arith, long))
  last-removed (x ∷ []) zero d long apart = let same = eq-eqb x.0 x.0 refl in (rw same refl, rw same refl)
  last-removed (x ∷ y ∷ xs) zero d long apart = absurd (omega (arith, long))
  last-removed (x ∷ xs) (suc n) d long apart =
      let short : length xs ≡ suc n = omega (arith, long) in
      let rest = last-removed xs n d short apart.1 in
      let other = ne_eqb (get_or xs n d).0 x.0 (away-at x.0 xs n d apart.0 (omega (arith, short))) in
      (rw other rest.0, rw other (ap (λ ys. x ∷ ys) rest.1))

  -- ---- one comes behind

  pub away-behind : (number last : ℕ) (v : X) (xs : List (ℕ × X)) → IsAway number xs → last ≢ number → IsAway number (xs ++ (last, v) ∷ [])
  away-behind number last v [] away other = (other, tt)
  away-behind number last v (x ∷ xs) away other = (away.0, away-behind number last v xs away.1 other)

  pub apart-behind : (last : ℕ) (v : X) (xs : List (ℕ × X)) → AreApart xs → IsAway last xs → AreApart (xs ++ (last, v) ∷ [])
  apart-behind last v [] apart away = (tt, tt)
  apart-behind last v (x ∷ xs) apart away = (away-behind x.0 last v xs apart.0 (λ same. away.0 (sym same)), apart-behind last v xs apart.1 away.1)

  pub below-behind : (end last : ℕ) (v : X) (xs : List (ℕ × X)) → AreBelow end xs → last < end → AreBelow end (xs ++ (last, v) ∷ [])
  below-behind end last v [] below is = (is, tt)
  below-behind end last v (x ∷ xs) below is = (below.0, below-behind end last v xs below.1 is)

  -- ---- the first ones

  pub away-take : (number n : ℕ) (xs : List (ℕ × X)) → IsAway number xs → IsAway number (take n xs)
  away-take number zero xs away = tt
  away-take number (suc n) [] away = tt
  away-take number (suc n) (x ∷ xs) away = (away.0, away-take number n xs away.1)

  pub apart-take : (n : ℕ) (xs : List (ℕ × X)) → AreApart xs → AreApart (take n xs)
  apart-take zero xs apart = tt
  apart-take (suc n) [] apart = tt
  apart-take (suc n) (x ∷ xs) apart = (away-take x.0 n xs apart.0, apart-take n xs apart.1)

-- ---- the pages but one

pub away-without : (number page : ℕ) (kept : List (ℕ × List ℕ)) → IsAway number kept → IsAway number (without page kept)
away-without number page [] away = tt
away-without number page (e ∷ kept) away = elim (cases_eq e.0 page) [
  | inl same ↦ rw (eq-eqb e.0 page same) (away-without number page kept away.1)
  | inr other ↦ rw (ne_eqb e.0 page other) (away.0, away-without number page kept away.1)
]

pub apart-without : (page : ℕ) (kept : List (ℕ × List ℕ)) → AreApart kept → AreApart (without page kept)
apart-without page [] apart = tt
apart-without page (e ∷ kept) apart = elim (cases_eq e.0 page) [
  | inl same ↦ rw (eq-eqb e.0 page same) (apart-without page kept apart.1)
  | inr other ↦ rw (ne_eqb e.0 page other) (away-without e.0 page kept apart.0, apart-without page kept apart.1)
]

pub without-away : (page : ℕ) (kept : List (ℕ × List ℕ)) → IsAway page (without page kept)
without-away page [] = tt
without-away page (e ∷ kept) = elim (cases_eq e.0 page) [
  | inl same ↦ rw (eq-eqb e.0 page same) (without-away page kept)
  | inr other ↦ rw (ne_eqb e.0 page other) (other, without-away page kept)
]

-- where it is away, they are all
pub without-same : (page : ℕ) (kept : List (ℕ × List ℕ)) → IsAway page kept → without page kept ≡ kept
without-same page [] away = refl
without-same page (e ∷ kept) away = rw (ne_eqb e.0 page away.0) (ap (λ es. e ∷ es) (without-same page kept away.1))

-- each of them is kept, and is another page
pub Contains-without : (page : ℕ) (kept : List (ℕ × List ℕ)) (e : ℕ × List ℕ) → Contains (without page kept) e → (e.0 ≢ page) × Contains kept e
Contains-without page [] e is = absurd (Contains-nil e is)
Contains-without page (f ∷ kept) e is = elim (cases_eq f.0 page) [
  | inl same ↦ (let rest = Contains-without page kept e (rw (eq-eqb f.0 page same) at is) in (rest.0, Contains-tail f kept e rest.1))
  | inr other ↦ elim (Contains-cons f (without page kept) e (rw (ne_eqb f.0 page other) at is)) [
    | inl first ↦ (subst (λ (g : ℕ × List ℕ). g.0 ≢ page) first other, subst (Contains (f ∷ kept)) first (Contains-head f kept))
    | inr later ↦ (let rest = Contains-without page kept e later in (rest.0, Contains-tail f kept e rest.1))
  ]
]
