-- What a compaction of a journal leaves, by its answer.
use Rattle.std.specs.Prelude.{◌≡◌, ◌⊎◌, ℕ, ◌+◌, ◌%◌, true, List, [], Result, Ok, Err, IfSome, IsSomeAnd}
use Rattle.ktm_base.specs.declared.fault.Down.{Down}
use Rattle.ktm_base.specs.Disk.{DeviceCalls, DiskState, MayLeave}
use Rattle.ktm_base.specs.Told.{Goes}
use Rattle.ktm_log.specs.OnDisk.{AllSynced, OnDisk}
use Rattle.ktm_world.specs.Groups.{Group}
use Rattle.ktm_journal.specs.Image.{IsHeaded, IsImage, JournalAt, JournalState, half_of, log_area}
use Rattle.ktm_journal.specs.Pages.{KeepsPages, LeavesPages}

-- the selector by which the other half counts
abbrev pub next_selector : ℕ → ℕ
next_selector selector = (selector + 1) % 256

-- the journal once the other half counts, whose log has no group
abbrev pub compacted : JournalState → JournalState
compacted j = record j { selector = next_selector j.selector; log = record { area = log_area j.units (half_of (next_selector j.selector)); end = 0 } }

-- each image that a loss of power may leave has the snapshot and the groups that it had, or the new snapshot and no group
abbrev pub LeavesOldOrNew : JournalState → List ℕ → List Group → List ℕ → DiskState → Type 0
LeavesOldOrNew j before log snapshot s =
    (image : List ℕ) → MayLeave s image → IsImage j.units j.image before log image ⊎ IsImage j.units j.image snapshot [] image

-- the journal has the new snapshot and no group, whatever it had, all of it is safe, and the pages are as they were
pub record Compacts (snapshot : List ℕ) (old new : OnDisk JournalState) : Type 0 where
  pub is : new.it ≡ compacted old.it
  pub begins : (before : List ℕ) (log : List Group) → IsSomeAnd old.told (JournalAt old.it before log) → IsSomeAnd new.told (JournalAt new.it snapshot [])
  pub headed : IfSome new.told (λ s. IsHeaded new.it.units new.it.image new.it.selector s.seen)
  pub pages : Goes (KeepsPages old.it.units) old.told new.told
  pub synced : AllSynced 6 old.status new.status

-- the disk went down: the one may be there or the other, and the pages are as they were
pub record IsCutOff (snapshot : List ℕ) (old new : OnDisk JournalState) : Type 0 where
  pub same : new.it ≡ old.it
  pub either : (before : List ℕ) (log : List Group) → IsSomeAnd old.told (JournalAt old.it before log) → IsSomeAnd new.told (LeavesOldOrNew old.it before log snapshot)
  pub pages : (before : List ℕ) (log : List Group) → IsSomeAnd old.told (JournalAt old.it before log) → Goes (LeavesPages old.it.units) old.told new.told
  pub calls : DeviceCalls 6 old.status new.status true

-- what a compaction leaves
abbrev pub CompactLeaves : List ℕ → OnDisk JournalState → OnDisk JournalState → Result (Unit {0}) Down → Type 0
CompactLeaves snapshot old new (Ok done) = Compacts snapshot old new
CompactLeaves snapshot old new (Err down) = IsCutOff snapshot old new
