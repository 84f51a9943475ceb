-- Matching from star to star finds what `matches` says.
use Rattle.std.proofs.Common.{◌≡◌, ◌↔◌, ℕ, nat_eq, Bool, true, false, ◌||◌, ◌&&◌, List, [], ◌∷◌, ◌++◌, length, Option, Some, None, refl, sym, ap, ◌∙◌, arith, inl, inr}
use Rattle.std.proofs.lemmas.Bool.{cases_Bool}
use Rattle.std.proofs.lemmas.Option.{some_pair_parts}
use Rattle.ktm_base.specs.Names.{matches, stands_for, star}
use Rattle.ktm_names.specs.Walking.{LeavesAt, matches_some_end, past_piece}

same_Bool : (a b : Bool) → (a ≡ true → b ≡ true) → (b ≡ true → a ≡ true) → a ≡ b
same_Bool true b there back = sym (there refl)
same_Bool false true there back = back refl
same_Bool false false there back = refl

or_false : (a : Bool) → (a || false) ≡ a
or_false true = refl
or_false false = refl

or_right : (a b : Bool) → b ≡ true → (a || b) ≡ true
or_right true b e = refl
or_right false b e = e

and_right : (a b : Bool) → (a && b) ≡ true → b ≡ true
and_right true b e = e
and_right false b e = cc

-- of a choice that is true one is
of_or : {P : Type 0} (a b : Bool) → (a || b) ≡ true → (a ≡ true → P) → (b ≡ true → P) → P
of_or true b e left right = left refl
of_or false b e left right = right e

-- the whole name is one of its ends
pub first_end : (pattern name : List ℕ) → matches pattern name ≡ true → matches_some_end pattern name ≡ true
first_end pattern [] e = rw e refl
first_end pattern (c ∷ cs) e = rw e refl

-- an end of what is behind the first character is one of the name
later_end : (pattern : List ℕ) (c : ℕ) (cs : List ℕ) → matches_some_end pattern cs ≡ true → matches_some_end pattern (c ∷ cs) ≡ true
later_end pattern c cs e = or_right (matches pattern (c ∷ cs)) (matches_some_end pattern cs) e

star-some_end : (p : ℕ) (ps name : List ℕ) → nat_eq p star ≡ true → matches (p ∷ ps) name ≡ matches_some_end ps name
unfolding matches
star-some_end p ps [] e = rw e (sym (or_false (matches ps [])))
star-some_end p ps (c ∷ cs) e = rw e refl

-- what stands for any characters and then the rest leaves no more than the rest alone
after_star : (p : ℕ) (ps name : List ℕ) → nat_eq p star ≡ true → matches_some_end (p ∷ ps) name ≡ true → matches_some_end ps name ≡ true
after_star p ps [] e h = sym (star-some_end p ps [] e) ∙ sym (or_false (matches (p ∷ ps) [])) ∙ h
after_star p ps (c ∷ cs) e h = of_or (matches (p ∷ ps) (c ∷ cs)) (matches_some_end (p ∷ ps) cs) h
    (λ here. sym (star-some_end p ps (c ∷ cs) e) ∙ here)
    (λ later. later_end ps c cs (after_star p ps cs e later))

-- one character less of a pattern at an end is the rest of it at a later end
after_one : (p : ℕ) (ps name : List ℕ) → nat_eq p star ≡ false → matches_some_end (p ∷ ps) name ≡ true → matches_some_end ps name ≡ true
unfolding matches
after_one p ps [] e h = cc (rw e at h)
after_one p ps (c ∷ cs) e h = of_or (matches (p ∷ ps) (c ∷ cs)) (matches_some_end (p ∷ ps) cs) h
    (λ here. later_end ps c cs (first_end ps cs (and_right (stands_for p c) (matches ps cs) (rw e at here))))
    (λ later. later_end ps c cs (after_one p ps cs e later))

no_end : (p : ℕ) (ps name left : List ℕ) → ◌≡◌ {A = Option (List ℕ × List ℕ)} (Some (p ∷ ps, name)) (Some ([], left)) → ⊥
no_end p ps name left e = cc (some_pair_parts (p ∷ ps) [] name left e).0

no_star : (s : ℕ) (name rest left : List ℕ) → ◌≡◌ {A = Option (List ℕ × List ℕ)} (Some ([], name)) (Some (s ∷ rest, left)) → ⊥
no_star s name rest left e = cc (some_pair_parts [] (s ∷ rest) name left e).0

-- what was walked over is no part of the answer
pub past_none : (pattern name : List ℕ) → past_piece pattern name ≡ None → matches pattern name ≡ false
unfolding past_piece matches
past_none [] name e = cc
past_none (p ∷ ps) [] e = elim (cases_Bool (nat_eq p star)) [
  | inl here ↦ cc (rw here at e)
  | inr other ↦ rw other refl
]
past_none (p ∷ ps) (c ∷ cs) e = elim (cases_Bool (nat_eq p star)) [
  | inl here ↦ cc (rw here at e)
  | inr other ↦ elim (cases_Bool (stands_for p c)) [
    | inl same ↦ rw (other, same) (past_none ps cs (rw (other, same) at e))
    | inr differs ↦ rw (other, differs) refl
  ]
]

end_is : (pattern name left : List ℕ) → past_piece pattern name ≡ Some ([], left) → matches pattern name ≡ nat_eq (length left) 0
unfolding past_piece matches
end_is [] [] left e = ap (λ (xs : List ℕ). nat_eq (length xs) 0) (some_pair_parts [] [] [] left e).1
end_is [] (c ∷ cs) left e =
    let behind : nat_eq (length (c ∷ cs)) 0 ≡ false = grind arith in
    sym behind ∙ ap (λ (xs : List ℕ). nat_eq (length xs) 0) (some_pair_parts [] [] (c ∷ cs) left e).1
end_is (p ∷ ps) [] left e = elim (cases_Bool (nat_eq p star)) [
  | inl here ↦ absurd (no_end p ps [] left (rw here at e))
  | inr other ↦ cc (rw other at e)
]
end_is (p ∷ ps) (c ∷ cs) left e = elim (cases_Bool (nat_eq p star)) [
  | inl here ↦ absurd (no_end p ps (c ∷ cs) left (rw here at e))
  | inr other ↦ elim (cases_Bool (stands_for p c)) [
    | inl same ↦ rw (other, same) (end_is ps cs left (rw (other, same) at e))
    | inr differs ↦ cc (rw (other, differs) at e)
  ]
]

-- where the pattern ended, the name has to be at its end
pub past_end : (pattern name rest left : List ℕ) → Some (rest, left) ≡ past_piece pattern name → length rest ≡ 0 → matches pattern name ≡ nat_eq (length left) 0
past_end pattern name [] left e none = end_is pattern name left (sym e)
past_end pattern name (c ∷ cs) left e none = absurd (omega arith)

star_leaves : (p : ℕ) (ps name : List ℕ) → nat_eq p star ≡ true → LeavesAt (p ∷ ps) name ps name
star_leaves p ps name e = record {
  whole = star-some_end p ps name e;
  some_end = same_Bool _ _ (after_star p ps name e) (λ h. first_end (p ∷ ps) name (star-some_end p ps name e ∙ h));
  shorter = omega arith;
  no_longer = omega arith;
}

-- one character more before the star
one_leaves : (p : ℕ) (ps : List ℕ) (c : ℕ) (cs rest left : List ℕ) → nat_eq p star ≡ false → stands_for p c ≡ true → LeavesAt ps cs rest left → LeavesAt (p ∷ ps) (c ∷ cs) rest left
unfolding matches
one_leaves p ps c cs rest left other same h =
    let shorter = h.shorter in
    let no_longer = h.no_longer in
    let whole : matches (p ∷ ps) (c ∷ cs) ≡ matches_some_end rest left = rw (other, same) h.whole in
    record {
      whole = whole;
      some_end = same_Bool _ _
          (λ k. sym h.some_end ∙ of_or (matches (p ∷ ps) (c ∷ cs)) (matches_some_end (p ∷ ps) cs) k
          (λ here. first_end ps cs (and_right (stands_for p c) (matches ps cs) (rw other at here)))
          (λ later. after_one p ps cs other later))
          (λ k. first_end (p ∷ ps) (c ∷ cs) (whole ∙ k));
      shorter = omega arith;
      no_longer = omega arith;
    }

-- what is left at a star, whatever name it has
same_rest : (p s : ℕ) (ps rest name left : List ℕ) → ◌≡◌ {A = Option (List ℕ × List ℕ)} (Some (p ∷ ps, name)) (Some (s ∷ rest, left)) → (ps ≡ rest) × (name ≡ left)
same_rest p s ps rest name left e =
    let parts = some_pair_parts (p ∷ ps) (s ∷ rest) name left e in
    (cc parts.0, parts.1)

star_is : (pattern name : List ℕ) (s : ℕ) (rest left : List ℕ) → past_piece pattern name ≡ Some (s ∷ rest, left) → LeavesAt pattern name rest left
unfolding past_piece
star_is [] name s rest left e = absurd (no_star s name rest left e)
star_is (p ∷ ps) [] s rest left e = elim (cases_Bool (nat_eq p star)) [
  | inl here ↦
      let same = same_rest p s ps rest [] left (rw here at e) in
      rw (← same.0, ← same.1) (star_leaves p ps [] here)
  | inr other ↦ absurd (cc (rw other at e))
]
star_is (p ∷ ps) (c ∷ cs) s rest left e = elim (cases_Bool (nat_eq p star)) [
  | inl here ↦
      let same = same_rest p s ps rest (c ∷ cs) left (rw here at e) in
      rw (← same.0, ← same.1) (star_leaves p ps (c ∷ cs) here)
  | inr other ↦ elim (cases_Bool (stands_for p c)) [
    | inl same ↦ one_leaves p ps c cs rest left other same (star_is ps cs s rest left (rw (other, same) at e))
    | inr differs ↦ absurd (cc (rw (other, differs) at e))
  ]
]

-- where a star was met, the rest behind it decides
pub past_star : (pattern name all : List ℕ) (s : ℕ) (rest left : List ℕ) → Some (all, left) ≡ past_piece pattern name → all ≡ s ∷ rest → LeavesAt pattern name rest left
past_star pattern name all s rest left e same =
    star_is pattern name s rest left (sym e ∙ ap (λ (xs : List ℕ). Some (xs, left)) same)

some_front : (pattern name : List ℕ) → matches_some_end pattern name ≡ true → (front rest : List ℕ) × (name ≡ front ++ rest) × (matches pattern rest ≡ true)
some_front pattern [] h = ([], [], refl, sym (or_false (matches pattern [])) ∙ h)
some_front pattern (c ∷ cs) h = of_or (matches pattern (c ∷ cs)) (matches_some_end pattern cs) h
    (λ here. ([], c ∷ cs, refl, here))
    (λ later. let found = some_front pattern cs later in (c ∷ found.0, found.1, ap (λ (xs : List ℕ). c ∷ xs) found.2, found.3))

any_front : (pattern front rest : List ℕ) → matches pattern rest ≡ true → matches_some_end pattern (front ++ rest) ≡ true
any_front pattern [] rest h = first_end pattern rest h
any_front pattern (c ∷ front) rest h = later_end pattern c (front ++ rest) (any_front pattern front rest h)

-- a star stands for some front of the name
pub star_law : (pattern name : List ℕ) → (matches (star ∷ pattern) name ≡ true) ↔ ((front rest : List ℕ) × (name ≡ front ++ rest) × (matches pattern rest ≡ true))
star_law pattern name = (
  (λ h. some_front pattern name (sym (star-some_end star pattern name refl) ∙ h)),
  (λ found. star-some_end star pattern name refl ∙ ap (matches_some_end pattern) found.2 ∙ any_front pattern found.0 found.1 found.3),
)
