-- Units of contents, and pages that they are written on.
use Rattle.std.specs.Prelude.{◌≡◌, ◌⊎◌, ℕ, ◌+◌, ◌-◌, ◌*◌, ◌/◌, ◌<◌, ◌≤◌, ◌&&◌, ◌||◌, min, Bool, nat_le, nat_lt, List, length, slice_index, if◌then◌else◌}
use Rattle.ktm_page.specs.Row.{RowState, LostPage, page_of}
use Rattle.ktm_page.specs.Space.{free_below}
use Rattle.ktm_world.specs.Tree.{put_over}
use Rattle.ktm_extent.specs.Extent.{ExtentState, contents, uses_in}
use Rattle.ktm_extent.specs.Calls.{OnlyFree}

-- a page holds a unit of the bytes, and zeros behind their end
pub record IsUnit (bytes : List ℕ) (unit : ℕ) (page : List ℕ) : Type 0 where
  pub each : (i : ℕ) → i < 4096 → slice_index page i ≡ slice_index bytes (unit * 4096 + i)

-- what contents become where bytes are put over them
abbrev pub target : ExtentState → ℕ → List ℕ → List ℕ → List ℕ
target e at bytes seen = put_over (contents seen e) at bytes

-- does any old byte stay in the unit that begins here, where bytes are put over from an offset to an end
abbrev pub keeps : ℕ → ℕ → ℕ → ℕ → Bool
keeps size at end start = nat_lt start (min size at) || (nat_lt end size && nat_lt end (start + 4096))

-- at most so many calls read the unit that begins here
abbrev pub read_calls : ℕ → ℕ → ℕ → ℕ → ℕ
read_calls size at end start = if keeps size at end start then 2 else 0

-- what stays of a unit of the bytes, where others are put over from an offset to an end
pub record Stays (bytes : List ℕ) (at end unit : ℕ) (page : List ℕ) : Type 0 where
  pub each : (i : ℕ) → i < 4096 → (unit * 4096 + i < at) ⊎ (end ≤ unit * 4096 + i) → slice_index page i ≡ slice_index bytes (unit * 4096 + i)

-- the unit where a write begins
abbrev pub first_unit : ℕ → ℕ → ℕ
first_unit size at = min size at / 4096

-- a byte of what bytes at an offset leave
abbrev pub byte_over : ℕ → List ℕ → (ℕ → ℕ) → ℕ → ℕ
byte_over at bytes old k = if nat_le at k && nat_lt k (at + length bytes) then slice_index bytes (k - at) else old k

-- a unit of the target was written on a page, and nothing else
pub record WroteUnit (target : List ℕ → List ℕ) (unit page : ℕ) (old new : RowState) : Type 0 where
  pub lost : LostPage page old new
  pub holds : IsUnit (target old.seen) unit (page_of new.seen page)

-- units of the target from the first one on, on these pages
pub record AreUnits (target : List ℕ) (first : ℕ) (pages seen : List ℕ) : Type 0 where
  pub each : (k : ℕ) → k < length pages → IsUnit target (first + k) (page_of seen (slice_index pages k))

-- pages that were free were taken, each once
pub record AreTaken (count : ℕ) (pages : List ℕ) (held holds : ℕ → ℕ) : Type 0 where
  pub holders : (page : ℕ) → holds page ≡ held page + uses_in pages page
  pub free : free_below holds count + length pages ≡ free_below held count
  pub new : (page : ℕ) → 0 < uses_in pages page → (page < count) × (held page ≡ 0)
  pub once : (page : ℕ) → uses_in pages page ≤ 1

-- units were written on these pages, and nothing else was but pages that were free
pub record AreWritten (target : List ℕ → List ℕ) (first : ℕ) (pages : List ℕ) (count : ℕ) (held : ℕ → ℕ) (old new : RowState) : Type 0 where
  pub only : OnlyFree count held old new
  pub units : AreUnits (target old.seen) first pages new.seen

-- a buffer has the bytes from an offset on, as far as they lie in front of a place
pub record IsFilled (bytes : List ℕ) (at : ℕ) (buf : List ℕ) (upto : ℕ) : Type 0 where
  pub each : (k : ℕ) → k < length buf → at + k < upto → slice_index buf k ≡ slice_index bytes (at + k)
