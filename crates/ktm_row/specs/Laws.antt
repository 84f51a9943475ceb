-- What a loss of power may leave of a disk on which a row stands, as laws over every disk.
use Rattle.std.specs.Prelude.{◌≡◌, ℕ, ◌<◌, ◌++◌, List, length, take, drop, slice_range, Contains}
use Rattle.ktm_base.specs.Disk.{DiskState, MayLeave}
use Rattle.ktm_page.specs.Row.{RowState, page_of}
use Rattle.ktm_row.specs.Places.{Stands, behind, end_of, ranges_of, row_of}

-- an image has what the disk has in front of the pages and behind them, and each page that is not dirty
pub record LeavesRow (begin pages : ℕ) (s : DiskState) (image : List ℕ) : Type 0 where
  pub length : length image ≡ length s.seen
  pub front : take begin image ≡ (row_of begin pages s).front
  pub clean : (page : ℕ) → page < pages → (Contains (row_of begin pages s).dirty page → ⊥) → page_of (slice_range image begin (end_of begin pages)) page ≡ page_of (row_of begin pages s).seen page
  pub behind : drop (end_of begin pages) image ≡ behind begin pages s

-- each image that may be left has what the disk has in front of the pages and behind them, and each page that is not dirty
abbrev pub LeftLaw : Type 0
LeftLaw = (begin pages : ℕ) (s : DiskState) (image : List ℕ) → Stands begin pages s → MayLeave s image → LeavesRow begin pages s image

-- a disk as its row tells it, with what stands behind the pages
pub record IsDiskOf (begin : ℕ) (row : RowState) (rest : List ℕ) (s : DiskState) : Type 0 where
  pub seen : s.seen ≡ row.front ++ row.seen ++ rest
  pub dirty : s.dirty ≡ ranges_of begin row.dirty
  pub shortest : s.shortest ≡ length s.seen
  pub longest : s.longest ≡ length s.seen

-- the row, and what stands behind it, say what the disk is
abbrev pub WholeLaw : Type 0
WholeLaw = (begin pages : ℕ) (s : DiskState) → Stands begin pages s → IsDiskOf begin (row_of begin pages s) (behind begin pages s) s
