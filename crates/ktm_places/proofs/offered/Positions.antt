-- What is so where the first element that passes a test stands, and where none passes.
use Rattle.std.proofs.Common.{◌≡◌, ℕ, ◌<◌, ◌≤◌, Bool, true, false, cond, List, [], ◌∷◌, length, suc, position, Option, Some, None, refl, ap, arith, inl, inr}
use Rattle.std.specs.Prelude.{MatchOption}
use Rattle.std.specs.List.{position_or_len}
use Rattle.std.specs.Option.{option_map}
use Rattle.std.proofs.lemmas.Bool.{cases_Bool, cases_lt, le-ltb}
use Rattle.std.proofs.lemmas.Bool.Decides.{Decides-ltb}

module _ {X : Type 0} (p : X → Bool) where
  position_within : (xs : List X) (i : ℕ) → position_or_len p xs ≡ i → i < length xs → position p xs ≡ Some i
  position_within xs i is within = rw is (ap (λ b. cond b (Some i) None) ((Decides-ltb i (length xs)).1 within))

  position_past : (xs : List X) (i : ℕ) → position_or_len p xs ≡ i → length xs ≤ i → position p xs ≡ None
  position_past xs i is past = rw is (ap (λ b. cond b (Some i) None) (le-ltb i (length xs) past))

  position-first : (x : X) (xs : List X) → p x ≡ true → position p (x ∷ xs) ≡ Some 0
  position-first x xs is = position_within (x ∷ xs) 0 (rw is refl) (omega arith)

  position-later : (x : X) (xs : List X) → p x ≡ false → position p (x ∷ xs) ≡ option_map suc (position p xs)
  position-later x xs not =
      let i = position_or_len p xs in
      let next : position_or_len p (x ∷ xs) ≡ suc i = rw not (omega arith) in
      elim (cases_lt i (length xs)) [
        | inl within ↦ rw (position_within xs i refl within) (position_within (x ∷ xs) (suc i) next (omega (arith, within)))
        | inr past ↦ rw (position_past xs i refl past) (position_past (x ∷ xs) (suc i) next (omega (arith, past)))
      ]

  -- by induction over the elements
  pub by_position : (Absent : List X → Type 0) (At : List X → ℕ → Type 0)
      → Absent []
      → ((x : X) (xs : List X) → p x ≡ true → At (x ∷ xs) 0)
      → ((x : X) (xs : List X) → p x ≡ false → Absent xs → Absent (x ∷ xs))
      → ((x : X) (xs : List X) (i : ℕ) → p x ≡ false → At xs i → At (x ∷ xs) (suc i))
      → (xs : List X) → MatchOption (position p xs) (Absent xs) (At xs)
  by_position Absent At none first absent later [] = none
  by_position Absent At none first absent later (x ∷ xs) = elim (cases_Bool (p x)) [
    | inl is ↦ rw (position-first x xs is) (first x xs is)
    | inr not ↦ rw (position-later x xs not) (next (position p xs) not (by_position Absent At none first absent later xs))
  ]
    where
      next : (found : Option ℕ) → p x ≡ false → MatchOption found (Absent xs) (At xs) → MatchOption (option_map suc found) (Absent (x ∷ xs)) (At (x ∷ xs))
      next None not so = absent x xs not so
      next (Some i) not so = later x xs i not so
