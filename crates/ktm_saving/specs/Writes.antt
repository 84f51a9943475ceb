-- What is written at the end of a list of bytes, in room that was taken before.
use Rattle.std.specs.Prelude.{◌≡◌, ℕ, ◌+◌, ◌≤◌, List, Vec, vec_capacity, vec_len}
use Rattle.ktm_codec.specs.Spans.{Adds}

-- bytes of this form were added at the end, so many, and no room is given up
pub record Writes {Z : Type 0} (Form : List ℕ → Type 0) (size : ℕ) (old new : Vec ℕ Z) : Type 0 where
  pub adds : Adds Form old.items new.items
  pub len : vec_len new ≡ vec_len old + size
  pub room : vec_capacity old ≤ vec_capacity new
