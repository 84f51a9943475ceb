-- Pages of which some are in memory: the others are on the disk, as it has them.
use Rattle.std.specs.Prelude.{◌≡◌, ◌≢◌, ◌⊎◌, ℕ, ◌+◌, ◌-◌, ◌*◌, ◌/◌, ◌%◌, ◌<◌, min, Bool, true, List, length, take, drop, slice_index_or, is_some, All, Option, Some, None}
use Rattle.ktm_base.specs.declared.limits.TheConstants.{UNIT_BYTES}
use Rattle.ktm_content.specs.Contents.{put_over}
use Rattle.ktm_content.specs.Places.{CanBePut, LieOn}
use Rattle.ktm_page.specs.Row.{page_of}
use Rattle.ktm_store.specs.Marks.{free_ahead, is_held}
use Rattle.ktm_store.specs.Store.{AreDistinct, AreFree, AreHeld, PoolState, StoreState, bytes_at}
use Rattle.ktm_store.specs.Stored.{is_stored}

-- the bytes of a page, if it is in memory
abbrev pub kept_at : List (Option (List ℕ)) → ℕ → Option (List ℕ)
kept_at kept page = slice_index_or kept page None

-- is a page in memory
abbrev pub is_kept : List (Option (List ℕ)) → ℕ → Bool
is_kept kept page = is_some (kept_at kept page)

-- a row of pages may be that of the store: those in memory have the same bytes there
pub record Shows (pool : PoolState) (row : List ℕ) : Type 0 where
  pub size : length row ≡ length pool.marks.held * UNIT_BYTES
  pub bytes : (page : ℕ) (bytes : List ℕ) → kept_at pool.seen page ≡ Some bytes → page_of row page ≡ bytes

-- the store, with the bytes that all its pages have in a row
abbrev pub on_row : PoolState → List ℕ → StoreState
on_row pool row = record { seen = row; marks = pool.marks; stored = pool.stored; wanted = pool.wanted }

-- each page is stored or in memory, and those that are still to be written are in memory
pub record AreSomewhere (pool : PoolState) : Type 0 where
  pub pages : (page : ℕ) → page < length pool.marks.held → (is_stored pool.stored page ≡ true) ⊎ (is_kept pool.seen page ≡ true)
  pub wanted : All (λ page. is_kept pool.seen page ≡ true) pool.wanted

-- a page is in memory as before, or it is there no longer, since it is stored
abbrev pub StaysOrWent : PoolState → PoolState → ℕ → Type 0
StaysOrWent old new page = (kept_at new.seen page ≡ kept_at old.seen page) ⊎ ((kept_at new.seen page ≡ None) × (is_stored old.stored page ≡ true))

-- nothing has changed, but that pages may be in memory no longer
pub record KeepsAll (old new : PoolState) : Type 0 where
  pub pages : (page : ℕ) → StaysOrWent old new page
  pub marks : new.marks ≡ old.marks
  pub stored : new.stored ≡ old.stored
  pub wanted : new.wanted ≡ old.wanted

-- a page is in memory with these bytes, and nothing else has changed, but that other pages may be there no longer
pub record LetIn (page : ℕ) (bytes : List ℕ) (old new : PoolState) : Type 0 where
  pub this : kept_at new.seen page ≡ Some bytes
  pub others : (other : ℕ) → other ≢ page → StaysOrWent old new other
  pub marks : new.marks ≡ old.marks
  pub stored : new.stored ≡ old.stored
  pub wanted : new.wanted ≡ old.wanted

-- ---- what is put

-- what contents have of their unit in front of an offset, or of their last one where they end before
abbrev pub head_of : List ℕ → ℕ → List ℕ
head_of contents at = take (min (length contents) at % UNIT_BYTES) (drop (min (length contents) at - min (length contents) at % UNIT_BYTES) contents)

-- what contents have behind an end up to that of its unit
abbrev pub tail_of : List ℕ → ℕ → List ℕ
tail_of contents end = take (((end - 1) / UNIT_BYTES + 1) * UNIT_BYTES - end) (drop end contents)

-- a part was put on so many pages that were free, each taken once: it can be put over contents from this offset on
pub record TookPages (units : ℕ) (places : List ℕ) (old new : PoolState) (start : ℕ) (part : List ℕ) : Type 0 where
  pub pages : List ℕ
  pub lie : LieOn pages part
  pub once : AreDistinct pages
  pub can : CanBePut places start part
  pub were_free : AreFree old.marks.held part
  pub held : AreHeld new.marks.held part
  pub fewer : free_ahead new.marks + units ≡ free_ahead old.marks
  pub count : length new.marks.held ≡ length old.marks.held
  pub kept : (page : ℕ) → is_held old.marks.held page ≡ true → is_held new.marks.held page ≡ true
  pub stored : (page : ℕ) → is_held old.marks.held page ≡ true → is_stored new.stored page ≡ is_stored old.stored page
  pub were_stored : (page : ℕ) → is_stored new.stored page ≡ true → is_stored old.stored page ≡ true
  pub wanted : new.wanted ≡ old.wanted

-- in this row it has what `after` makes of the bytes that the contents had, and pages that were held, or are stored, have the bytes that they had
pub record FilledPages (after : List ℕ → List ℕ) (places : List ℕ) (old new : PoolState) (start : ℕ) (part : List ℕ) (before row : List ℕ) : Type 0 where
  pub shows : Shows new row
  pub bytes : bytes_at row (put_over places start part) ≡ after (bytes_at before places)
  pub held : (page : ℕ) → is_held old.marks.held page ≡ true → page_of row page ≡ page_of before page
  pub stored : (page : ℕ) → is_stored new.stored page ≡ true → page_of row page ≡ page_of before page

-- whichever row the store had, where the contents have these bytes at both ends there
abbrev pub FillsPages : (List ℕ → List ℕ) → List ℕ → PoolState → PoolState → ℕ → List ℕ → (List ℕ → Type 0) → Type 0
FillsPages after places old new start part edges = (before : List ℕ) → Shows old before → edges (bytes_at before places) → (row : List ℕ) × FilledPages after places old new start part before row
