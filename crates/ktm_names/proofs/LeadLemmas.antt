-- Lemmas on what stands before the first star or question mark of a pattern.
use Rattle.std.proofs.Common.{◌≡◌, ℕ, ◌≤◌, ◌-◌, ◌==◌, false, List, [], ◌∷◌, length, drop, refl, sym, ap, ◌∙◌, inl, inr, arith, length-drop}
use Rattle.std.proofs.lemmas.Bool.{cases_Bool, eq-eqb, ne_eqb}
use Rattle.std.proofs.Math.ListN.{drop_of_length-le}
use Rattle.ktm_base.specs.Names.{folded_byte, matches, question_mark, star}
use Rattle.ktm_names.specs.Leading.{reaches}

-- a name that was read to the end of the pattern ends there, or does not
pub at_end : (pattern name : List ℕ) (n : ℕ) → reaches (drop n pattern) (drop n name) ≡ reaches pattern name → n ≡ length pattern → n ≤ length name
    → (length name == length pattern) ≡ reaches pattern name
unfolding reaches
at_end pattern name n same end within =
    by_cases (drop n name) (length-drop n name)
    ∙ ap (λ l. reaches l (drop n name)) (sym (drop_of_length-le pattern (omega (arith, end)))) ∙ ap (λ k. reaches (drop k pattern) (drop n name)) (sym end) ∙ same
  where
    by_cases : (l : List ℕ) → length l ≡ length name - n → (length name == length pattern) ≡ reaches [] l
    by_cases [] none = eq-eqb (length name) (length pattern) (omega (arith, none, end, within))
    by_cases (c ∷ cs) more = ne_eqb (length name) (length pattern) (λ is. omega (arith, more, end, is))

-- a name that the characters before the first star or question mark do not stand for is not matched
pub only : (pattern name : List ℕ) → reaches pattern name ≡ false → matches pattern name ≡ false
unfolding reaches matches
only [] [] out = absurd (cc)
only [] (c ∷ cs) out = refl
only (p ∷ ps) [] out = elim (cases_Bool (p == star)) [
  | inl is ↦ absurd (let yes = rw is at out in cc)
  | inr not ↦ rw not refl
]
only (p ∷ ps) (c ∷ cs) out = elim (cases_Bool (p == star)) [
  | inl is ↦ absurd (let yes = rw is at out in cc)
  | inr no_star ↦ elim (cases_Bool (p == question_mark)) [
    | inl is ↦ absurd (let yes = rw (no_star, is) at out in cc)
    | inr no_mark ↦ elim (cases_Bool (folded_byte p == folded_byte c)) [
      | inl same ↦ rw (no_star, no_mark, same) (only ps cs (rw (no_star, no_mark, same) at out))
      | inr other ↦ rw (no_star, no_mark, other) refl
    ]
  ]
]
