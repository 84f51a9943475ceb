-- Where the pages of a row stand on a disk.
use Rattle.std.specs.Prelude.{◌≡◌, ◌⊎◌, ℕ, ◌+◌, ◌-◌, ◌*◌, ◌/◌, ◌<◌, ◌≤◌, List, [], ◌∷◌, ◌++◌, map, length, take, drop, slice_range, Contains, Option, None, Some}
use Rattle.ktm_base.specs.declared.limits.TheConstants.{UNIT_BYTES}
use Rattle.ktm_base.specs.Bytes.{SameOutside}
use Rattle.ktm_base.specs.Disk.{DiskState}
use Rattle.ktm_page.specs.Row.{RowState}

-- where so many pages end that begin at an offset
abbrev pub end_of : ℕ → ℕ → ℕ
end_of begin pages = begin + pages * UNIT_BYTES

-- the page in which each range begins
abbrev pub pages_of : ℕ → List (ℕ × ℕ) → List ℕ
pages_of begin ranges = map (λ r. (r.0 - begin) / UNIT_BYTES) ranges

-- the ranges of pages
abbrev pub ranges_of : ℕ → List ℕ → List (ℕ × ℕ)
ranges_of begin pages = map (λ page. (begin + page * UNIT_BYTES, UNIT_BYTES)) pages

-- the pages on a disk
abbrev pub row_of : ℕ → ℕ → DiskState → RowState
row_of begin pages s = record { seen = slice_range s.seen begin (end_of begin pages); dirty = pages_of begin s.dirty; front = take begin s.seen }

-- the pages on a disk, where the disk tells what it holds
abbrev pub row_told : ℕ → ℕ → Option DiskState → Option RowState
row_told begin pages None = None
row_told begin pages (Some s) = Some (row_of begin pages s)

-- what stands behind the pages
abbrev pub behind : ℕ → ℕ → DiskState → List ℕ
behind begin pages s = drop (end_of begin pages) s.seen

-- the pages stand on the disk, and nothing but some of them is dirty
pub record Stands (begin pages : ℕ) (s : DiskState) : Type 0 where
  pub fits : end_of begin pages ≤ length s.seen
  pub ranges : s.dirty ≡ ranges_of begin (pages_of begin s.dirty)
  pub below : (page : ℕ) → Contains (pages_of begin s.dirty) page → page < pages
  pub shortest : s.shortest ≡ length s.seen
  pub longest : s.longest ≡ length s.seen

-- what stands behind the pages stays, and so does the length
pub record StaysBehind (begin pages : ℕ) (old new : DiskState) : Type 0 where
  pub behind : behind begin pages new ≡ behind begin pages old
  pub length : length new.seen ≡ length old.seen

-- what was written before stays from now on, or some of it
pub record Rested (old new : RowState) : Type 0 where
  pub seen : new.seen ≡ old.seen
  pub dirty : (page : ℕ) → Contains new.dirty page → Contains old.dirty page
  pub front : new.front ≡ old.front

-- all that was written stays
pub record RowSynced (old new : RowState) : Type 0 where
  pub seen : new.seen ≡ old.seen
  pub dirty : new.dirty ≡ []
  pub front : new.front ≡ old.front

-- a range may have been written over, and no more
pub record Touched (at len : ℕ) (old new : DiskState) : Type 0 where
  pub seen : SameOutside ((at, len) ∷ []) old.seen new.seen
  pub dirty : (new.dirty ≡ old.dirty) ⊎ (new.dirty ≡ old.dirty ++ (at, len) ∷ [])
  pub shortest : new.shortest ≡ old.shortest
  pub longest : new.longest ≡ old.longest
