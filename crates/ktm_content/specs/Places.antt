-- The places of bytes in a row of pages, and contents as the places of their bytes.
use Rattle.std.specs.Prelude.{◌≡◌, ◌⊎◌, ℕ, zero, suc, ◌+◌, ◌-◌, ◌*◌, ◌%◌, ◌≤◌, ◌==◌, List, [], ◌∷◌, length, take, flat_map, slice_index, if◌then◌else◌}
use Rattle.ktm_page.specs.TheConstants.{UNIT_BYTES}
use Rattle.ktm_content.specs.Contents.{units_of}

-- so many numbers, one behind another, from this one on
abbrev pub numbers_from : ℕ → ℕ → List ℕ
numbers_from first zero = []
numbers_from first (suc many) = first ∷ numbers_from (suc first) many

-- the places of a page's bytes in a row of pages; place 0 is none
unfoldable pub places_of : ℕ → List ℕ
places_of page = numbers_from (page * UNIT_BYTES + 1) UNIT_BYTES

-- the places of so many bytes on pages, each of which has a unit
abbrev pub places_on : List ℕ → ℕ → List ℕ
places_on pages size = take size (flat_map places_of pages)

-- the byte at a place of a row of pages that is seen so; at none it is zero
abbrev pub byte_at : List ℕ → ℕ → ℕ
byte_at seen place = if place == 0 then 0 else slice_index seen (place - 1)

-- contents lie on these pages, one for each unit
pub record LieOn (pages contents : List ℕ) : Type 0 where
  pub units : length pages ≡ units_of contents
  pub places : contents ≡ places_on pages (length contents)

-- others can be put there unit by unit: they begin at the begin of a unit, leave no gap, and end with a unit or with what is there, or behind it
pub record CanBePut (old : List ℕ) (start : ℕ) (new : List ℕ) : Type 0 where
  pub begins : start % UNIT_BYTES ≡ 0
  pub reaches : start ≤ length old
  pub ends : ((start + length new) % UNIT_BYTES ≡ 0) ⊎ (length old ≤ start + length new)

-- what a contract sees of a content: the places of its bytes, and for how many there is room
pub record ContentState : Type 0 where
  pub bytes : List ℕ
  pub room : ℕ
