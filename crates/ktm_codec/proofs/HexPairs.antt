-- Two digits at once, as the halves of one number: for each byte the numbers agree.
use Rattle.std.proofs.Common.{◌≡◌, ℕ, ◌+◌, ◌-◌, ◌*◌, ◌/◌, ◌%◌, ◌<◌, ◌≤◌, Bool, true, ◌&&◌, List, [], ◌∷◌, Option, Some, None, is_some, refl, sym, ap, ◌∙◌, bit_and, bytes_eq, nat_eq, nat_le, w16, eqb-true, leb-true}
use Rattle.std.specs.Int.{from_le_bytes, to_le_bytes}
use Rattle.std.proofs.lemmas.Bool.{agree_below_at, and_parts}
use Rattle.std.proofs.lemmas.Slice.Eq.{bytes_eq-Decides}
use Rattle.ktm_codec.specs.Hex.{digit_value, hex_pair, is_hex_digit, pair_value}
use Rattle.ktm_codec.proofs.HexLemmas.{pair_is}

-- a pair of digits, each letter moved behind the digits before it
abbrev moved : ℕ → ℕ
moved pair = pair - bit_and (pair / 64) 257 * 39

-- the byte of a pair of digits
abbrev byte_in : ℕ → ℕ
byte_in pair = (moved pair - 12336) * 4097 % 65536 / 256

-- the digits of a pair of values
abbrev digits_in : ℕ → List ℕ
digits_in values = to_le_bytes w16 (values + 12336 + bit_and ((values + 1542) / 16) 257 * 39)

abbrev is_read : ℕ → Bool
is_read b = nat_eq (byte_in (from_le_bytes w16 (hex_pair b))) b && nat_le 12336 (moved (from_le_bytes w16 (hex_pair b)))

abbrev is_written : ℕ → Bool
is_written b = bytes_eq (digits_in (from_le_bytes w16 (b / 16 ∷ b % 16 ∷ []))) (hex_pair b)

each_is_read : (b : ℕ) → b < 256 → is_read b ≡ true
each_is_read b h = agree_below_at is_read (λ _. true) 256 b refl h

each_is_written : (b : ℕ) → b < 256 → is_written b ≡ true
each_is_written b h = agree_below_at is_written (λ _. true) 256 b refl h

pub digits_of_byte : (b values : ℕ) → b < 256 → values ≡ from_le_bytes w16 (b / 16 ∷ b % 16 ∷ []) → digits_in values ≡ hex_pair b
digits_of_byte b values h is = rw is ((bytes_eq-Decides (digits_in (from_le_bytes w16 (b / 16 ∷ b % 16 ∷ []))) (hex_pair b)).0 (each_is_written b h))

some_of : (o : Option ℕ) → is_some o ≡ true → (n : ℕ) × (o ≡ Some n)
some_of None e = cc
some_of (Some n) e = (n, refl)

both : (high low h l : ℕ) → digit_value high ≡ Some h → digit_value low ≡ Some l → pair_value high low ≡ Some (h * 16 + l)
both high low h l e f = rw (e, f) refl

-- two digits are those of a byte
are_of_byte : (high low : ℕ) → is_hex_digit high ≡ true → is_hex_digit low ≡ true
    → (b : ℕ) × (pair_value high low ≡ Some b) × (b < 256) × (high ∷ low ∷ [] ≡ hex_pair b)
are_of_byte high low p q =
    let (h, e) = some_of (digit_value high) p in
    let (l, f) = some_of (digit_value low) q in
    let value = both high low h l e f in
    let (small, first, second) = pair_is high low (h * 16 + l) value in
    (h * 16 + l, value, small, cc (first, second))

-- what is computed of two digits is their byte, and nothing on the way goes below zero
pub byte_of_pair : (high low pair : ℕ) → is_hex_digit high ≡ true → is_hex_digit low ≡ true → pair ≡ from_le_bytes w16 (high ∷ low ∷ [])
    → (12336 ≤ moved pair) × (Some (byte_in pair) ≡ pair_value high low)
byte_of_pair high low pair p q is =
    let (b, value, small, digits) = are_of_byte high low p q in
    let parts = and_parts (nat_eq (byte_in (from_le_bytes w16 (hex_pair b))) b) _ (each_is_read b small) in
    let whole : pair ≡ from_le_bytes w16 (hex_pair b) = is ∙ ap (from_le_bytes w16) digits in (
      rw whole (leb-true 12336 _ parts.1),
      rw whole (ap Some (eqb-true _ b parts.0) ∙ sym value),
    )
