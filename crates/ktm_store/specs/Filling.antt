-- Units of contents that are put on pages which were free.
use Rattle.std.specs.Prelude.{◌≡◌, ◌≢◌, ℕ, ◌+◌, ◌-◌, ◌*◌, ◌<◌, min, max, true, false, List, length, set, slice_index, Some}
use Rattle.ktm_base.specs.declared.limits.TheConstants.{UNIT_BYTES}
use Rattle.ktm_content.specs.Places.{places_on}
use Rattle.ktm_page.specs.Row.{page_of}
use Rattle.ktm_store.specs.Change.{ChangeState, end_of, unit_of}
use Rattle.ktm_store.specs.Frames.{FramesState}
use Rattle.ktm_store.specs.Marks.{MarksState, Took, free_ahead, is_held}
use Rattle.ktm_store.specs.Pool.{Shows}
use Rattle.ktm_store.specs.Store.{AreDistinct, PoolState}
use Rattle.ktm_store.specs.Stored.{StoredState, is_stored}

-- what a store has
abbrev pub pool_of : FramesState → MarksState → StoredState → PoolState
pool_of frames marks stored = record { seen = frames.kept; marks = marks; stored = stored.stored; wanted = stored.wanted }

-- of each page there is told whether it is in memory, and whether it is stored
pub record AreWhole (pool : PoolState) : Type 0 where
  pub seen : length pool.seen ≡ length pool.marks.held
  pub stored : length pool.stored ≡ length pool.marks.held

-- the first page that was free was taken, is in memory with these bytes, and is not stored
pub record TookPage (bytes : List ℕ) (old : PoolState) (page : ℕ) (new : PoolState) : Type 0 where
  pub marks : Took old.marks page new.marks
  pub stored : new.stored ≡ set old.stored page false
  pub wanted : new.wanted ≡ old.wanted
  pub seen : new.seen ≡ set old.seen page (Some bytes)

-- a page is none of these
abbrev pub IsNone : List ℕ → ℕ → Type 0
IsNone pages page = (n : ℕ) → n < length pages → slice_index pages n ≢ page

-- in a row each of these pages has its unit, from the first one on, and all others have what they had
pub record HasUnits (content : ℕ → List ℕ) (first : ℕ) (pages : List ℕ) (before row : List ℕ) : Type 0 where
  pub each : (n : ℕ) → n < length pages → page_of row (slice_index pages n) ≡ content (first + n)
  pub others : (page : ℕ) → IsNone pages page → page_of row page ≡ page_of before page

-- units of contents, from the first one on, were put on these pages, which were free, each taken once; whichever row the store showed, there is one that it shows now
pub record TookUnits (content : ℕ → List ℕ) (first : ℕ) (pages : List ℕ) (old new : PoolState) : Type 0 where
  pub count : length new.marks.held ≡ length old.marks.held
  pub kept : (page : ℕ) → is_held old.marks.held page ≡ true → is_held new.marks.held page ≡ true
  pub stored : (page : ℕ) → is_held old.marks.held page ≡ true → is_stored new.stored page ≡ is_stored old.stored page
  pub were_stored : (page : ℕ) → is_stored new.stored page ≡ true → is_stored old.stored page ≡ true
  pub not_stored : (n : ℕ) → n < length pages → is_stored new.stored (slice_index pages n) ≡ false
  pub wanted : new.wanted ≡ old.wanted
  pub were_free : (n : ℕ) → n < length pages → is_held old.marks.held (slice_index pages n) ≡ false
  pub held : (n : ℕ) → n < length pages → is_held new.marks.held (slice_index pages n) ≡ true
  pub once : AreDistinct pages
  pub fewer : free_ahead new.marks + length pages ≡ free_ahead old.marks
  pub rows : (before : List ℕ) → Shows old before → (row : List ℕ) × (Shows new row × HasUnits content first pages before row)

-- how many bytes contents of this size have in the units that change
abbrev pub size_in : ChangeState → ℕ → ℕ
size_in change size = min (max size (end_of change)) (change.behind * UNIT_BYTES) - change.first * UNIT_BYTES

-- a part was made on pages that were free: the units that change of contents of this size
pub record MadeUnits (change : ChangeState) (size : ℕ) (old new : PoolState) (start : ℕ) (part : List ℕ) : Type 0 where
  pub pages : List ℕ
  pub many : length pages ≡ change.behind - change.first
  pub took : TookUnits (unit_of change) change.first pages old new
  pub start_is : start ≡ change.first * UNIT_BYTES
  pub part_is : part ≡ places_on pages (size_in change size)
