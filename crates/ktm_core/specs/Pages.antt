-- What is left where pages are written.
use Rattle.std.specs.Prelude.{◌≡◌, ℕ, true, List, length, All, Option, Result, Ok, Err, IfSome, IsSomeAnd}
use Rattle.ktm_base.specs.declared.fault.Down.{Down}
use Rattle.ktm_base.specs.Disk.{DeviceCalls, DiskState, DiskStatus, MayLeave}
use Rattle.ktm_base.specs.Told.{Goes}
use Rattle.ktm_journal.specs.Image.{IsHeaded, IsImage, JournalAt, JournalState, row_of}
use Rattle.ktm_journal.specs.Pages.{SamePagesBut}
use Rattle.ktm_log.specs.OnDisk.{AllSynced}
use Rattle.ktm_page.specs.Row.{page_of}
use Rattle.ktm_world.specs.Groups.{Group}
use Rattle.ktm_core.specs.Done.{page_calls}

-- these pages have the bytes of the row, and all others are as they were
pub record WrotePages (units : ℕ) (pages row : List ℕ) (old new : DiskState) : Type 0 where
  pub written : All (λ page. page_of (row_of units new.seen) page ≡ page_of row page) pages
  -- a page that had the bytes of the row has them still
  pub kept : (page : ℕ) → page_of (row_of units old.seen) page ≡ page_of row page → page_of (row_of units new.seen) page ≡ page_of row page
  pub others : SamePagesBut pages (row_of units old.seen) (row_of units new.seen)

-- each image that a loss of power may leave has the snapshot, the groups and all pages but these
abbrev pub LeavesBut : JournalState → List ℕ → List ℕ → List Group → DiskState → DiskState → Type 0
LeavesBut j pages snapshot log old new =
    (image : List ℕ) → MayLeave new image → IsImage j.units j.image snapshot log image × SamePagesBut pages (row_of j.units old.seen) (row_of j.units image)

-- the pages were written and synced, and the journal is as it was
pub record ArePagesWritten (j : JournalState) (pages row : List ℕ) (before now : Option DiskState) (old new : DiskStatus) : Type 0 where
  pub at : (snapshot : List ℕ) (log : List Group) → IsSomeAnd before (JournalAt j snapshot log) → IsSomeAnd now (JournalAt j snapshot log)
  pub wrote : Goes (WrotePages j.units pages row) before now
  pub headed : IfSome now (λ s. IsHeaded j.units j.image j.selector s.seen)
  pub synced : AllSynced (page_calls (length pages)) old new

-- the power went: these pages may hold anything, and all else is as it was
pub record ArePagesTorn (j : JournalState) (pages : List ℕ) (before now : Option DiskState) (old new : DiskStatus) : Type 0 where
  pub left : (snapshot : List ℕ) (log : List Group) → IsSomeAnd before (JournalAt j snapshot log) → Goes (LeavesBut j pages snapshot log) before now
  pub calls : DeviceCalls (page_calls (length pages)) old new true

-- what the writing of pages leaves, by its answer
abbrev pub WritingLeaves : JournalState → List ℕ → List ℕ → Option DiskState → Option DiskState → DiskStatus → DiskStatus → Result (Unit {0}) Down → Type 0
WritingLeaves j pages row before now old new (Ok done) = ArePagesWritten j pages row before now old new
WritingLeaves j pages row before now old new (Err down) = ArePagesTorn j pages before now old new
