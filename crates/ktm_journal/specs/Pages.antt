-- The pages of an image: what is so while some of them wait for a sync, and what the writes of a journal leave of them.
use Rattle.std.specs.Prelude.{◌≡◌, ℕ, ◌+◌, ◌*◌, false, List, [], ◌∷◌, length, map, Contains}
use Rattle.ktm_base.specs.declared.limits.TheConstants.{UNIT_BYTES}
use Rattle.ktm_base.specs.Bytes.{SameOutside, covers, written}
use Rattle.ktm_base.specs.Disk.{Dirtied, DiskState, MayLeave, Synced}
use Rattle.ktm_log.specs.Log.{IsLog, area_bytes, end_of}
use Rattle.ktm_page.specs.Row.{page_of}
use Rattle.ktm_world.specs.Groups.{Group}
use Rattle.ktm_journal.specs.Image.{HoldGroups, IsFormatted, IsImage, JournalAt, JournalState, half_of, log_area, pages_at, row_of}

-- where a page begins
abbrev pub page_at : ℕ → ℕ → ℕ
page_at units page = pages_at units + page * UNIT_BYTES

-- where these pages are, each an offset and a length
abbrev pub page_ranges : ℕ → List ℕ → List (ℕ × ℕ)
page_ranges units pages = map (λ page. (page_at units page, UNIT_BYTES)) pages

-- ---- what changes

-- the rows are as long, and have the same pages but these
pub record SamePagesBut (pages old new : List ℕ) : Type 0 where
  pub same_length : length new ≡ length old
  pub others : (page : ℕ) → ¬ Contains pages page → page_of new page ≡ page_of old page

-- nothing has changed and nothing more is dirty but in this range
pub record StaysWithin (at len : ℕ) (old new : DiskState) : Type 0 where
  pub same : SameOutside ((at, len) ∷ []) old.seen new.seen
  pub shortest : new.shortest ≡ old.shortest
  pub longest : new.longest ≡ old.longest
  pub clean : (place : ℕ) → covers old.dirty place ≡ false → covers ((at, len) ∷ []) place ≡ false → covers new.dirty place ≡ false

-- a page was written, and it is dirty
pub record PageWritten (units page : ℕ) (bytes : List ℕ) (old new : DiskState) : Type 0 where
  pub row : row_of units new.seen ≡ written (row_of units old.seen) (page * UNIT_BYTES) bytes
  pub elsewhere : SameOutside ((page_at units page, UNIT_BYTES) ∷ []) old.seen new.seen
  pub dirtied : Dirtied (page_at units page) UNIT_BYTES old new

-- the power went before a page was written, and it may hold anything
pub record PageTorn (units page : ℕ) (old new : DiskState) : Type 0 where
  pub row : SamePagesBut (page ∷ []) (row_of units old.seen) (row_of units new.seen)
  pub stays : StaysWithin (page_at units page) UNIT_BYTES old new

-- the pages are as they were
abbrev pub KeepsPages : ℕ → DiskState → DiskState → Type 0
KeepsPages units old new = row_of units new.seen ≡ row_of units old.seen

-- each image that a loss of power may leave has the pages that the disk had
abbrev pub LeavesPages : ℕ → DiskState → DiskState → Type 0
LeavesPages units old new = (image : List ℕ) → MayLeave new image → row_of units image ≡ row_of units old.seen

-- ---- a journal whose pages are not all safe

-- the bytes are the journal's image, with this snapshot and these groups
pub record JournalIn (j : JournalState) (snapshot : List ℕ) (log : List Group) (bytes : List ℕ) : Type 0 where
  pub area : j.log.area ≡ log_area j.units (half_of j.selector)
  pub formatted : IsFormatted j.units j.image j.selector snapshot bytes
  pub payloads : List (List ℕ)
  pub groups : HoldGroups log payloads
  pub frames : IsLog payloads (area_bytes (log_area j.units (half_of j.selector)) bytes)
  pub gate_at : j.log.end ≡ end_of payloads

-- nothing is dirty but these pages
pub record IsSafeBut (units : ℕ) (pages : List ℕ) (s : DiskState) : Type 0 where
  pub clean : (place : ℕ) → covers (page_ranges units pages) place ≡ false → covers s.dirty place ≡ false
  pub shortest : s.shortest ≡ length s.seen
  pub longest : s.longest ≡ length s.seen

-- the journal is that of the disk, its snapshot and its groups are these, and all of it is safe but these pages
pub record JournalBut (pages : List ℕ) (j : JournalState) (snapshot : List ℕ) (log : List Group) (s : DiskState) : Type 0 where
  pub there : JournalIn j snapshot log s.seen
  pub safe : IsSafeBut j.units pages s

-- what a loss of power may leave while pages wait for a sync, and what is so before they are written and once they are synced
pub record PagesLaw : Type 0 where
  -- where all is safe, all is so but no page
  pub none : (j : JournalState) (snapshot : List ℕ) (log : List Group) (s : DiskState) → JournalAt j snapshot log s → JournalBut [] j snapshot log s
  -- each image that may be left has the snapshot, the groups and the other pages
  pub left : (pages : List ℕ) (j : JournalState) (snapshot : List ℕ) (log : List Group) (s : DiskState) (image : List ℕ) → JournalBut pages j snapshot log s → MayLeave s image
      → IsImage j.units j.image snapshot log image × SamePagesBut pages (row_of j.units s.seen) (row_of j.units image)
  -- after a sync all is safe
  pub synced : (pages : List ℕ) (j : JournalState) (snapshot : List ℕ) (log : List Group) (s t : DiskState) → JournalBut pages j snapshot log s → Synced s t → JournalAt j snapshot log t
