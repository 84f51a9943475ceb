-- What the recording of a command's events leaves, by its answer.
use Rattle.std.specs.Prelude.{◌≡◌, ◌⊎◌, ℕ, true, false, List, [], ◌++◌, Result, Ok, Err, IfSome, IsSomeAnd}
use Rattle.ktm_base.specs.Disk.{DiskState, DeviceCalls, MayLeave}
use Rattle.ktm_base.specs.Told.{Goes}
use Rattle.ktm_event.specs.Kept.{EventsState, Holds}
use Rattle.ktm_journal.specs.Append.{has_no_room}
use Rattle.ktm_journal.specs.Image.{IsHeaded, IsImage, JournalAt, JournalState}
use Rattle.ktm_journal.specs.Pages.{KeepsPages, LeavesPages}
use Rattle.ktm_log.specs.declared.fault.AppendFault.{AppendFault}
use Rattle.ktm_log.specs.declared.fault.AppendFault.TheVariants.{Down, Full}
use Rattle.ktm_log.specs.OnDisk.{AllSynced, OnDisk}
use Rattle.ktm_world.specs.Logs.{Group, as_groups}
use Rattle.ktm_memory.specs.Memory.{MemoryState, appended}

-- the disk tells what it told, and no device call was made
pub record IsUntouched {A B : Type 0} (old : OnDisk A) (new : OnDisk B) : Type 0 where
  pub told : new.told ≡ old.told
  pub status : new.status ≡ old.status

-- each image that may be left has the snapshot and the groups, with these more or without
abbrev pub LeavesWithOr : JournalState → List ℕ → List Group → List Group → DiskState → Type 0
LeavesWithOr j snapshot log more s = (image : List ℕ) → MayLeave s image → IsImage j.units j.image snapshot log image ⊎ IsImage j.units j.image snapshot (log ++ more) image

-- the journal has the events as a group more, where there are any, the pages are as they were, and nothing else of memory has changed
pub record AreRecorded (events : EventsState) (old new : OnDisk MemoryState) : Type 0 where
  pub room : (group : Group) → Holds events group → has_no_room old.it.journal group ≡ false
  pub grows : (group : Group) → Holds events group → new.it ≡ record old.it { journal = appended old.it.journal group }
  pub adds : (snapshot : List ℕ) (log : List Group) (group : Group) → Holds events group
      → IsSomeAnd old.told (JournalAt old.it.journal snapshot log) → IsSomeAnd new.told (JournalAt new.it.journal snapshot (log ++ as_groups group))
  pub none : Holds events [] → IsUntouched old new
  pub pages : Goes (KeepsPages old.it.journal.units) old.told new.told
  pub headed : IfSome new.told (λ s. IsHeaded new.it.journal.units new.it.journal.image new.it.journal.selector s.seen)
  pub synced : AllSynced 4 old.status new.status

-- the power went: the group may be there or not, and there is one; the pages are as they were
pub record AreCutOff (events : EventsState) (old new : OnDisk MemoryState) : Type 0 where
  pub same : new.it ≡ old.it
  pub some : Holds events [] → ⊥
  pub room : (group : Group) → Holds events group → has_no_room old.it.journal group ≡ false
  pub either : (snapshot : List ℕ) (log : List Group) (group : Group) → Holds events group
      → IsSomeAnd old.told (JournalAt old.it.journal snapshot log) → IsSomeAnd new.told (LeavesWithOr old.it.journal snapshot log (as_groups group))
  pub pages : (snapshot : List ℕ) (log : List Group) → IsSomeAnd old.told (JournalAt old.it.journal snapshot log) → Goes (LeavesPages old.it.journal.units) old.told new.told
  pub calls : DeviceCalls 4 old.status new.status true

-- the log has no room for the group, there is one, and nothing was done
pub record HaveNoRoom (events : EventsState) (old new : OnDisk MemoryState) : Type 0 where
  pub same : new ≡ old
  pub some : Holds events [] → ⊥
  pub room : (group : Group) → Holds events group → has_no_room old.it.journal group ≡ true

-- what the recording leaves
abbrev pub RecordingLeaves : EventsState → OnDisk MemoryState → OnDisk MemoryState → Result (Unit {0}) AppendFault → Type 0
RecordingLeaves events old new (Ok done) = AreRecorded events old new
RecordingLeaves events old new (Err Down) = AreCutOff events old new
RecordingLeaves events old new (Err Full) = HaveNoRoom events old new
