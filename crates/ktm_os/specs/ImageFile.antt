-- What is known of the file of a block.
use Rattle.std.specs.Prelude.{◌≡◌, ℕ, List, length, Option, Some}

-- a length that is known is that of the bytes, where the file tells them
abbrev pub IsLengthOf : Option ℕ → Option (List ℕ) → Type 0
IsLengthOf known contents = (bytes : List ℕ) (n : ℕ) → contents ≡ Some bytes → known ≡ Some n → n ≡ length bytes
