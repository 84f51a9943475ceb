-- The pages that the bytes of files lie on.
use Rattle.std.specs.Prelude.{ℕ, ◌-◌, ◌*◌, ◌/◌, ◌<◌, ◌^◌, All, List, map, slice_index}
use Rattle.std.specs.List.{range_with_len}
use Rattle.ktm_base.specs.declared.limits.TheConstants.{UNIT_BYTES}
use Rattle.ktm_content.specs.Places.{LieOn}
use Rattle.ktm_world.specs.Tree.{units_of}

-- the page of a unit of contents, told by the place of its first byte
abbrev pub page_in : List ℕ → ℕ → ℕ
page_in contents unit = (slice_index contents (unit * UNIT_BYTES) - 1) / UNIT_BYTES

-- the pages of all units of contents
abbrev pub pages_in : List ℕ → List ℕ
pages_in contents = map (page_in contents) (range_with_len 0 (units_of contents))

-- contents lie on their pages, of which each number fits four bytes
pub record LieOnPages (contents : List ℕ) : Type 0 where
  pub lie : LieOn (pages_in contents) contents
  pub fit : All (λ page. page < 2 ^ 32) (pages_in contents)
