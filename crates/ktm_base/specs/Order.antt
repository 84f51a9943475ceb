-- Numbers as bytes that are in the order of the numbers.
use Rattle.std.specs.Prelude.{ℕ, zero, suc, ◌/◌, ◌%◌, List, ◌∷◌}

-- the digits of a number to the base 256, the lowest last, with these behind them; the first is what is left of the number
abbrev pub digits : ℕ → ℕ → List ℕ → List ℕ
digits zero n behind = n ∷ behind
digits (suc more) n behind = digits more (n / 256) (n % 256 ∷ behind)
