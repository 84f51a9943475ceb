-- What a loss of power keeps of the contents of a block.
use Rattle.std.specs.Prelude.{◌≡◌, ℕ, ◌<◌, false, List, length, slice_index}
use Rattle.ktm_base.specs.Bytes.{covers}

-- the same length, and the same bytes at the places below a length that no range covers
pub record SameElsewhere (ranges : List (ℕ × ℕ)) (shortest : ℕ) (old new : List ℕ) : Type 0 where
  pub same_length : length new ≡ length old
  pub others : (place : ℕ) → place < shortest → covers ranges place ≡ false → slice_index new place ≡ slice_index old place
