-- What an append to a journal leaves, by its answer.
use Rattle.std.specs.Prelude.{◌≡◌, ℕ, ◌+◌, ◌-◌, Bool, true, false, List, [], ◌∷◌, ◌++◌, length, Result, Ok, Err, IfSome, IsSomeAnd}
use Rattle.ktm_base.specs.Disk.{DeviceCalls}
use Rattle.ktm_base.specs.Told.{Goes}
use Rattle.ktm_event.specs.Kept.{EventsState, Holds}
use Rattle.ktm_log.specs.declared.fault.AppendFault.{AppendFault}
use Rattle.ktm_log.specs.declared.fault.AppendFault.TheVariants.{Down, Full}
use Rattle.ktm_log.specs.OnDisk.{AllSynced, OnDisk}
use Rattle.ktm_world.specs.Sizes.{frame_size}
use Rattle.ktm_world.specs.Groups.{Group, is_full}
use Rattle.ktm_journal.specs.Image.{IsHeaded, JournalAt, JournalState, LeavesGroupOrNot}
use Rattle.ktm_journal.specs.Pages.{KeepsPages, LeavesPages}

-- has the log no room for this group
abbrev pub has_no_room : JournalState → Group → Bool
has_no_room journal group = is_full (journal.log.area.len - journal.log.end) group

-- the journal with a group more
abbrev pub with_group : JournalState → Group → JournalState
with_group journal group = record journal { log = record journal.log { end = journal.log.end + frame_size group }; events = journal.events + length group }

-- it is the same image, and its log is where it was
pub record IsSameImage (old new : JournalState) : Type 0 where
  pub units : new.units ≡ old.units
  pub image : new.image ≡ old.image
  pub selector : new.selector ≡ old.selector
  pub area : new.log.area ≡ old.log.area

-- the journal has these events as a group more, all of it is safe, and the pages are as they were
pub record Records (events : EventsState) (old new : OnDisk JournalState) : Type 0 where
  pub same : IsSameImage old.it new.it
  pub room : (group : Group) → Holds events group → has_no_room old.it group ≡ false
  pub grows : (group : Group) → Holds events group → new.it ≡ with_group old.it group
  pub adds : (snapshot : List ℕ) (log : List Group) (group : Group) → Holds events group
      → IsSomeAnd old.told (JournalAt old.it snapshot log) → IsSomeAnd new.told (JournalAt new.it snapshot (log ++ group ∷ []))
  pub headed : IfSome new.told (λ s. IsHeaded new.it.units new.it.image new.it.selector s.seen)
  pub pages : Goes (KeepsPages old.it.units) old.told new.told
  pub synced : AllSynced 4 old.status new.status

-- the disk went down: the group may be there or not, and the pages are as they were
pub record IsInterrupted (events : EventsState) (old new : OnDisk JournalState) : Type 0 where
  pub same : new.it ≡ old.it
  pub room : (group : Group) → Holds events group → has_no_room old.it group ≡ false
  pub either : (snapshot : List ℕ) (log : List Group) (group : Group) → Holds events group
      → IsSomeAnd old.told (JournalAt old.it snapshot log) → IsSomeAnd new.told (LeavesGroupOrNot old.it snapshot log group)
  pub pages : (snapshot : List ℕ) (log : List Group) → IsSomeAnd old.told (JournalAt old.it snapshot log) → Goes (LeavesPages old.it.units) old.told new.told
  pub calls : DeviceCalls 4 old.status new.status true

-- the log has no room for the group, and nothing was done
pub record HasNoRoom (events : EventsState) (old new : OnDisk JournalState) : Type 0 where
  pub room : (group : Group) → Holds events group → has_no_room old.it group ≡ true
  pub same : new ≡ old

-- what an append leaves
abbrev pub RecordLeaves : EventsState → OnDisk JournalState → OnDisk JournalState → Result (Unit {0}) AppendFault → Type 0
RecordLeaves events old new (Ok done) = Records events old new
RecordLeaves events old new (Err Down) = IsInterrupted events old new
RecordLeaves events old new (Err Full) = HasNoRoom events old new
