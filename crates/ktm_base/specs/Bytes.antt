-- Bytes that are written over, and ranges of them.
use Rattle.std.specs.Prelude.{◌≡◌, ℕ, ◌+◌, ◌<◌, ◌≤◌, max, Bool, false, ◌&&◌, ◌||◌, nat_le, nat_lt, List, [], ◌∷◌, ◌++◌, length, take, drop, slice_index}
use Rattle.std.specs.List.{AllByRecursion}

-- each is a byte
abbrev pub AreBytes : List ℕ → Type 0
AreBytes bytes = AllByRecursion (λ b. b < 256) bytes

-- these bytes at this place, and the old ones elsewhere
abbrev pub written : List ℕ → ℕ → List ℕ → List ℕ
written old at bytes = take at old ++ bytes ++ drop (at + length bytes) old

-- is this place in one of the ranges, each an offset and a length
abbrev pub covers : List (ℕ × ℕ) → ℕ → Bool
covers [] place = false
covers (range ∷ ranges) place = (nat_le range.0 place && nat_lt place (range.0 + range.1)) || covers ranges place

-- the length is as it was, and so are the bytes outside of the ranges
pub record SameOutside (ranges : List (ℕ × ℕ)) (old new : List ℕ) : Type 0 where
  pub same_length : length new ≡ length old
  pub others : (place : ℕ) → covers ranges place ≡ false → slice_index new place ≡ slice_index old place

-- the old bytes with any bytes behind them, up to this length
pub record GrewTowards (len : ℕ) (old new : List ℕ) : Type 0 where
  pub front : take (length old) new ≡ old
  pub no_longer : length new ≤ max (length old) len

-- the old bytes with any bytes behind them until they have this length
pub record GrewTo (len : ℕ) (old new : List ℕ) : Type 0 where
  pub front : take (length old) new ≡ old
  pub long : length new ≡ max (length old) len
