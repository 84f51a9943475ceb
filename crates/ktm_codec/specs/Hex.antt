-- Bytes in hexadecimal digits.
use Rattle.std.specs.Prelude.{ℕ, ◌+◌, ◌-◌, ◌*◌, ◌/◌, ◌%◌, nat_lt, nat_le, ◌&&◌, Bool, List, [], ◌∷◌, codes, Option, Some, None, is_some, if◌then◌else◌, flat_map, option_map, option_and_then, bytes_eq}

-- the digit of a number below 16, with lower-case letters
abbrev pub hex_digit : ℕ → ℕ
hex_digit n = if nat_lt n 10 then 48 + n else 87 + n

-- a byte as two digits
abbrev pub hex_pair : ℕ → List ℕ
hex_pair b = hex_digit (b / 16) ∷ hex_digit (b % 16) ∷ []

-- each byte as two digits
abbrev pub hex_of : List ℕ → List ℕ
hex_of bytes = flat_map hex_pair bytes

-- each byte as two digits, or a dash where there are no bytes
abbrev pub hex_or_dash : List ℕ → List ℕ
hex_or_dash [] = codes "-"
hex_or_dash (b ∷ bs) = hex_of (b ∷ bs)

-- the number that a lower-case digit stands for
abbrev pub digit_value : ℕ → Option ℕ
digit_value c =
    if nat_le 48 c && nat_le c 57 then Some (c - 48) else
    (if nat_le 97 c && nat_le c 102 then Some (c - 87) else None)

-- is this a lower-case digit
abbrev pub is_hex_digit : ℕ → Bool
is_hex_digit c = is_some (digit_value c)

-- the byte that two digits stand for
abbrev pub pair_value : ℕ → ℕ → Option ℕ
pair_value high low = option_and_then (λ h. option_map (λ l. h * 16 + l) (digit_value low)) (digit_value high)

-- the bytes that pairs of digits stand for
abbrev pub unhex : List ℕ → Option (List ℕ)
unhex [] = Some []
unhex (high ∷ []) = None
unhex (high ∷ low ∷ rest) = option_and_then (λ b. option_map (λ bs. b ∷ bs) (unhex rest)) (pair_value high low)

-- the bytes that pairs of digits stand for, or none for a dash
abbrev pub unhex_or_dash : List ℕ → Option (List ℕ)
unhex_or_dash [] = None
unhex_or_dash (c ∷ cs) = if bytes_eq (c ∷ cs) (codes "-") then Some [] else unhex (c ∷ cs)
