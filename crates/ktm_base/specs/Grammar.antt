-- How things stand in bytes, as relations between a thing and its spelling. Numbers are unsigned, with the least byte first.
use Rattle.std.specs.Prelude.{◌≡◌, ℕ, List, [], ◌∷◌, ◌++◌, length}
use Rattle.std.specs.Int.{w16, w32, w64, from_le_bytes}

-- a number of one byte is the byte
pub record IsU8 (n : ℕ) (bytes : List ℕ) : Type 0 where
  pub value : bytes ≡ n ∷ []

-- a number of two bytes
pub record IsU16 (n : ℕ) (bytes : List ℕ) : Type 0 where
  pub long : length bytes ≡ 2
  pub value : from_le_bytes w16 bytes ≡ n

-- a number of four bytes
pub record IsU32 (n : ℕ) (bytes : List ℕ) : Type 0 where
  pub long : length bytes ≡ 4
  pub value : from_le_bytes w32 bytes ≡ n

-- a number of eight bytes
pub record IsU64 (n : ℕ) (bytes : List ℕ) : Type 0 where
  pub long : length bytes ≡ 8
  pub value : from_le_bytes w64 bytes ≡ n

-- one thing and then another
abbrev pub Then : (List ℕ → Type 0) → (List ℕ → Type 0) → List ℕ → Type 0
Then First Second bytes = (first : List ℕ) × (second : List ℕ) × (bytes ≡ first ++ second) × First first × Second second

-- one byte that says what follows
abbrev pub Tagged : ℕ → (List ℕ → Type 0) → List ℕ → Type 0
Tagged tag Rest bytes = (rest : List ℕ) × (bytes ≡ tag ∷ rest) × Rest rest

-- a text is its length in one byte, and its bytes
abbrev pub IsTextOf : List ℕ → List ℕ → Type 0
IsTextOf text bytes = bytes ≡ length text ∷ text

-- a value is its length in two bytes, and its bytes
abbrev pub IsValueOf : List ℕ → List ℕ → Type 0
IsValueOf value = Then (IsU16 (length value)) (λ bytes. bytes ≡ value)

-- contents are their length in four bytes, and their bytes
abbrev pub IsBytesOf : List ℕ → List ℕ → Type 0
IsBytesOf contents = Then (IsU32 (length contents)) (λ bytes. bytes ≡ contents)

-- things of one kind in a row
abbrev pub IsRow : {X : Type 0} → (X → List ℕ → Type 0) → List X → List ℕ → Type 0
IsRow Item [] bytes = bytes ≡ []
IsRow Item (x ∷ xs) bytes = Then (Item x) (IsRow Item xs) bytes

-- a list is its count in four bytes, and its items
abbrev pub IsListOf : {X : Type 0} → (X → List ℕ → Type 0) → List X → List ℕ → Type 0
IsListOf Item xs = Then (IsU32 (length xs)) (IsRow Item xs)
