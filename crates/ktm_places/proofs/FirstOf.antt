-- What counts tell of the first element that passes a test, where each that passes it is counted.
use Rattle.std.proofs.Common.{◌≡◌, ℕ, ◌+◌, ◌<◌, ◌≤◌, Bool, true, false, cond, List, [], ◌∷◌, length, map, suc, zero, slice_get, position, count_by, Some, None, refl, ap, arith, inl, inr}
use Rattle.std.specs.List.{position_or_len}
use Rattle.std.specs.Option.{option_map_or}
use Rattle.std.proofs.lemmas.Bool.{cases_Bool, le-ltb}
use Rattle.std.proofs.lemmas.Bool.Decides.{Decides-ltb}
use Rattle.std.proofs.lemmas.List.Sums.{sum_by-cons}

module _ {X Y : Type 0} (f : X → Y) (p : X → Bool) (q : Y → Bool) (counts : (x : X) → p x ≡ true → q (f x) ≡ true) where
  counted-cons : (x : X) (xs : List X) → count_by q (map f (x ∷ xs)) ≡ cond (q (f x)) 1 0 + count_by q (map f xs)
  counted-cons x xs = sum_by-cons (λ y. cond (q y) 1 0) (f x) (map f xs)

  -- one that is counted is one more
  counted_first : (x : X) (xs : List X) → q (f x) ≡ true → count_by q (map f (x ∷ xs)) ≡ 1 + count_by q (map f xs)
  counted_first x xs is = let all = counted-cons x xs in let one = ap {B = ℕ} (λ b. cond b 1 0) is in omega (arith, all, one)

  -- it is among those that are counted
  counted_at : (xs : List X) (i : ℕ) → option_map_or (λ x. q (f x)) (slice_get xs i) false ≡ true → 1 ≤ count_by q (map f xs)
  counted_at [] i is = cc
  counted_at (x ∷ xs) zero is = let all = counted_first x xs is in omega (arith, all)
  counted_at (x ∷ xs) (suc i) is =
      let rest = counted_at xs i is in
      let all = counted-cons x xs in
      omega (arith, rest, all)

  -- what passes is counted
  passing : (xs : List X) (i : ℕ) → option_map_or p (slice_get xs i) false ≡ true → option_map_or (λ x. q (f x)) (slice_get xs i) false ≡ true
  passing [] i is = is
  passing (x ∷ xs) zero is = counts x is
  passing (x ∷ xs) (suc i) is = passing xs i is

  passes_none : (xs : List X) → count_by q (map f xs) ≡ 0 → position_or_len p xs ≡ length xs
  passes_none [] none = refl
  passes_none (x ∷ xs) none = elim (cases_Bool (p x)) [
    | inl is ↦ absurd (let all = counted_first x xs (counts x is) in omega (arith, all, none))
    | inr other ↦
        let rest = passes_none xs (let all = counted-cons x xs in omega (arith, all, none)) in
        rw other (omega (arith, rest))
  ]

  passes_one : (xs : List X) (i : ℕ) → option_map_or p (slice_get xs i) false ≡ true → count_by q (map f xs) ≤ 1 → position_or_len p xs ≡ i
  passes_one [] i is one = cc
  passes_one (x ∷ xs) zero is one = rw is refl
  passes_one (x ∷ xs) (suc i) is one =
      let later = counted_at xs i (passing xs i is) in
      elim (cases_Bool (p x)) [
        | inl first ↦ absurd (let all = counted_first x xs (counts x first) in omega (arith, all, later, one))
        | inr other ↦
            let rest = passes_one xs i is (let all = counted-cons x xs in omega (arith, all, later, one)) in
            rw other (omega (arith, rest))
      ]

  passes_other : (xs : List X) (i : ℕ) → option_map_or p (slice_get xs i) true ≡ false → option_map_or (λ x. q (f x)) (slice_get xs i) false ≡ true
      → count_by q (map f xs) ≤ 1 → position_or_len p xs ≡ length xs
  passes_other [] i not is one = refl
  passes_other (x ∷ xs) zero not is one =
      let rest = passes_none xs (let all = counted_first x xs is in omega (arith, all, one)) in
      rw not (omega (arith, rest))
  passes_other (x ∷ xs) (suc i) not is one =
      let later = counted_at xs i is in
      elim (cases_Bool (p x)) [
        | inl first ↦ absurd (let all = counted_first x xs (counts x first) in omega (arith, all, later, one))
        | inr other ↦
            let rest = passes_other xs i not is (let all = counted-cons x xs in omega (arith, all, later, one)) in
            rw other (omega (arith, rest))
      ]

  -- what passes is within
  within : (xs : List X) (i : ℕ) → option_map_or p (slice_get xs i) false ≡ true → i < length xs
  within [] i is = cc
  within (x ∷ xs) zero is = omega arith
  within (x ∷ xs) (suc i) is = let rest = within xs i is in omega (arith, rest)

  past : (xs : List X) → position_or_len p xs ≡ length xs → position p xs ≡ None
  past xs is = rw is (ap (λ b. cond b (Some (length xs)) None) (le-ltb (length xs) (length xs) (omega arith)))

  -- where none is counted, none passes
  pub position_none : (xs : List X) → count_by q (map f xs) ≡ 0 → position p xs ≡ None
  position_none xs none = past xs (passes_none xs none)

  -- where no more than one is counted, one that passes is the first
  pub position_one : (xs : List X) (i : ℕ) → option_map_or p (slice_get xs i) false ≡ true → count_by q (map f xs) ≤ 1 → position p xs ≡ Some i
  position_one xs i is one = rw (passes_one xs i is one) (ap (λ b. cond b (Some i) None) ((Decides-ltb i (length xs)).1 (within xs i is)))

  -- and where that one does not pass, none does
  pub position_other : (xs : List X) (i : ℕ) → option_map_or p (slice_get xs i) true ≡ false → option_map_or (λ x. q (f x)) (slice_get xs i) false ≡ true
      → count_by q (map f xs) ≤ 1 → position p xs ≡ None
  position_other xs i not is one = past xs (passes_other xs i not is one)
