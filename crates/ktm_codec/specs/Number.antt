-- Numbers in decimal digits, without leading zeros.
use Rattle.std.specs.Prelude.{ℕ, ◌+◌, ◌-◌, ◌*◌, ◌==◌, nat_le, Bool, false, List, [], ◌∷◌, Option, Some, None, if◌then◌else◌}
use Rattle.std.specs.Char.{is_ascii_digit}
use Rattle.ktm_codec.specs.Steps.{◌>>=◌, at_end}

-- does the text begin with a digit
abbrev pub starts_with_digit : List ℕ → Bool
starts_with_digit [] = false
starts_with_digit (c ∷ cs) = is_ascii_digit c

-- the number with one digit more, if it is not too great
abbrev pub with_digit : ℕ → ℕ → ℕ → Option ℕ
with_digit most value digit = if nat_le (value * 10 + digit) most then Some (value * 10 + digit) else None

-- the number whose digits so far make the value and go on in the text, and what follows them
unfoldable pub digits_at : ℕ → ℕ → List ℕ → Option (ℕ × List ℕ)
digits_at most value [] = Some (value, [])
digits_at most value (c ∷ cs) =
    if is_ascii_digit c
    then (if nat_le (value * 10 + (c - 48)) most then digits_at most (value * 10 + (c - 48)) cs else None)
    else Some (value, c ∷ cs)

-- the number at the front of the text, at most so great, and what follows it: nothing follows a zero
unfoldable pub number_at : ℕ → List ℕ → Option (ℕ × List ℕ)
number_at most [] = None
number_at most (c ∷ cs) =
    if c == 48 then Some (0, cs) else
    (if is_ascii_digit c then digits_at most 0 (c ∷ cs) else None)

-- the number that the whole text is
unfoldable pub last_number_at : ℕ → List ℕ → Option ℕ
last_number_at most text = number_at most text >>= λ read. at_end read.0 read.1
