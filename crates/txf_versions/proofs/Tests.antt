-- Lemmas on lists and tests of their elements.
use Rattle.std.proofs.Common.{◌≡◌, ◌<◌, Bool, true, false, not, List, [], ◌∷◌, length, filter, refl, inl, inr, arith}
use Rattle.std.specs.List.{list_any}
use Rattle.std.proofs.lemmas.Bool.{cases_Bool, or_right}
use Rattle.std.proofs.lemmas.List.Sums.{length-filter, count_by-le-length}

pub any-other : {X : Type 0} (p q : X → Bool) (xs : List X) → ((x : X) → q x ≡ true → p x ≡ true) → list_any q xs ≡ true → list_any q (filter p xs) ≡ true
any-other p q [] passes some = absurd (cc)
any-other p q (x ∷ xs) passes some =
    elim (cases_Bool (q x)) [
      | inl this ↦ rw (passes x this, this) refl
      | inr other ↦
          let rest = any-other p q xs passes (rw other at some) in
          elim (cases_Bool (p x)) [
            | inl stays ↦ rw stays (or_right (q x) (list_any q (filter p xs)) rest)
            | inr goes ↦ rw goes rest
          ]
    ]

pub any-shorter : {X : Type 0} (q : X → Bool) (xs : List X) → list_any q xs ≡ true → length (filter (λ x. not (q x)) xs) < length xs
any-shorter q [] some = absurd (cc)
any-shorter q (x ∷ xs) some =
    elim (cases_Bool (q x)) [
      | inl this ↦ rw this (omega (arith, length-filter (λ x. not (q x)) xs, count_by-le-length (λ x. not (q x)) xs))
      | inr other ↦ let rest = any-shorter q xs (rw other at some) in rw other (omega (arith, rest))
    ]

pub any_filter-false : {X : Type 0} (p q : X → Bool) (xs : List X) → list_any q xs ≡ false → list_any q (filter p xs) ≡ false
any_filter-false p q [] none = refl
any_filter-false p q (x ∷ xs) none =
    elim (cases_Bool (q x)) [
      | inl this ↦ absurd (let some = rw this at none in cc)
      | inr other ↦
          let rest = any_filter-false p q xs (rw other at none) in
          elim (cases_Bool (p x)) [ inl stays ↦ rw (stays, other) rest | inr goes ↦ rw goes rest ]
    ]
