-- Numbers that rise.
use Rattle.std.specs.Prelude.{ℕ, ◌<◌, List, [], ◌∷◌}

-- each of the numbers is above this one
abbrev pub AreAbove : ℕ → List ℕ → Type 0
AreAbove n [] = Unit {0}
AreAbove n (m ∷ ms) = (n < m) × AreAbove n ms

-- each number is below those behind it
abbrev pub AreNumbersRising : List ℕ → Type 0
AreNumbersRising [] = Unit {0}
AreNumbersRising (n ∷ ns) = AreAbove n ns × AreNumbersRising ns

-- the numbers, and how many there is room for
pub record FileNumbersState : Type 0 where
  pub numbers : List ℕ
  pub room : ℕ
