-- Tags that differ. A clause for all other pairs of variants is checked for each of them, so it cites these lemmas, and calls no tactic.
use Rattle.std.proofs.Common.{◌≡◌, ◌==◌, ℕ, false, List, [], ◌∷◌, arith}
use Rattle.std.proofs.lemmas.Bool.Decides.{nat_tests}

pub other : {m n : ℕ} → m ≡ n → (m == n) ≡ false → ⊥
other same test = grind (arith, nat_tests)

pub other_tag : {m n : ℕ} {a b : List ℕ} → m ∷ a ≡ n ∷ b → (m == n) ≡ false → ⊥
other_tag {m} {n} same test = let tags : m ≡ n = cc in other tags test

pub no_byte : {tag : ℕ} {rest : List ℕ} → [] ≡ tag ∷ rest → ⊥
no_byte same = cc
