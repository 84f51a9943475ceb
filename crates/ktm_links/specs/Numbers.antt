-- Numbers as parts of names, which are in the order of the numbers.
use Rattle.std.specs.Prelude.{ℕ, ◌/◌, ◌%◌, List, ◌∷◌}

-- a number below 2 ^ 32, its greatest byte first, and then these bytes
abbrev pub number_bytes : ℕ → List ℕ → List ℕ
number_bytes n rest = n / 16777216 ∷ n / 65536 % 256 ∷ n / 256 % 256 ∷ n % 256 ∷ rest

-- a number below 2 ^ 64, its greatest byte first, and then these bytes
abbrev pub long_bytes : ℕ → List ℕ → List ℕ
long_bytes n rest = number_bytes (n / 4294967296) (number_bytes (n % 4294967296) rest)
