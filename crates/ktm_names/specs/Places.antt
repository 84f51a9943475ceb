-- Lists of texts in the bytes of one.
use Rattle.std.specs.Prelude.{ℕ, ◌≤◌, List, length, slice_range, All}
use Rattle.ktm_names.specs.declared.list.Span.{Span}

-- the bytes at a place
abbrev pub text_at : List ℕ → Span → List ℕ
text_at bytes place = slice_range bytes place.start place.end

-- the place is within the bytes
pub record IsWithin (bytes : List ℕ) (place : Span) : Type 0 where
  pub ordered : place.start ≤ place.end
  pub within : place.end ≤ length bytes

-- each place is within the bytes
abbrev pub AreWithin : List ℕ → List Span → Type 0
AreWithin bytes places = All (IsWithin bytes) places
