-- Lemmas on numbers as parts of names.
use Rattle.std.proofs.Common.{◌≡◌, ℕ, ◌/◌, ◌%◌, arith}

-- the bytes of a number tell it
pub number_from : (a b : ℕ) → a / 16777216 ≡ b / 16777216 → a / 65536 % 256 ≡ b / 65536 % 256 → a / 256 % 256 ≡ b / 256 % 256 → a % 256 ≡ b % 256 → a ≡ b
number_from a b fourth third second first = omega arith
