-- A machine that is to start.
use Rattle.std.specs.Prelude.{◌≡◌, ◌⊎◌, ℕ, ◌+◌, ◌≤◌, true, false, List, [], IsSomeAnd, IfSome, Result, Ok, Err}
use Rattle.ktm_base.specs.declared.fault.Down.{Down}
use Rattle.ktm_base.specs.Disk.{DeviceCalls, DiskState, MayLeave}
use Rattle.ktm_base.specs.Told.{Goes}
use Rattle.ktm_core.specs.Core.{AreSoundFiles, log_left}
use Rattle.ktm_debts.specs.Debts.{most_debts}
use Rattle.ktm_event.specs.Kept.{EventsState, Holds}
use Rattle.ktm_journal.specs.Image.{IsHeaded, page_count}
use Rattle.ktm_journal.specs.Pages.{KeepsPages, LeavesPages}
use Rattle.ktm_log.specs.OnDisk.{AllSynced, OnDisk}
use Rattle.ktm_memory.specs.Memory.{MemoryState, Shows, present_of}
use Rattle.ktm_restart.specs.declared.replay.Loaded.{Loaded}
use Rattle.ktm_restart.specs.Loads.{IsJournalOf, MayStart}
use Rattle.ktm_restart.specs.Logs.{JournalFor, PagedFor}
use Rattle.ktm_slots.specs.Owed.{owed_slots}
use Rattle.ktm_standing.specs.Standing.{fresh}
use Rattle.ktm_world.specs.Sizes.{area_len, frame_size}
use Rattle.ktm_world.specs.Durable.{Durable, after_events, is_worn}
use Rattle.ktm_world.specs.World.{own_group}

-- what a start makes of the state that it found
abbrev pub started : Durable → Durable
started state = after_events state (own_group state)

-- each image that a loss of power may leave comes to the state that was found, or, where that is not worn, to what a start makes of it
abbrev pub LeavesOwnOrNot : Durable → DiskState → Type 0
LeavesOwnOrNot state s = (image : List ℕ) → MayLeave s image → PagedFor state image ⊎ ((is_worn state ≡ false) × PagedFor (started state) image)

-- the list has the group of a start from this state, and the room for whatever a log of so many units has room for
pub record ListsStart (state : Durable) (units : ℕ) (events : EventsState) : Type 0 where
  pub holds : Holds events (own_group state)
  pub room : events.room + frame_size [] ≡ area_len units

-- what a machine holds that starts from what was loaded, and the list of what it records
pub record Begun (loaded : Loaded) (events : EventsState) (m : MemoryState) : Type 0 where
  pub lists : ListsStart loaded.state loaded.journal.units events
  pub journal : m.journal ≡ loaded.journal
  pub shows : Shows m (fresh loaded.state)
  pub slots : owed_slots (fresh loaded.state) ≤ m.tm.slots
  pub sound : AreSoundFiles (page_count loaded.state.units) (fresh loaded.state).files

-- memory shows what is so once a machine started from this state, but for its journal, which has counted what was found, and the list has what
-- the start records
pub record IsOnStart (state : Durable) (m : MemoryState) (events : EventsState) : Type 0 where
  pub may : MayStart state
  pub unworn : is_worn state ≡ false
  pub journal : IsJournalOf state m.journal
  pub shows : Shows m (fresh state)
  pub lists : ListsStart state m.journal.units events

-- it is so for some state
abbrev pub IsStarting : MemoryState → EventsState → Type 0
IsStarting m events = (state : Durable) × IsOnStart state m events

-- the start was recorded, whatever state it is from: the journal comes to what the start makes of that state, the pages are as they were, and
-- memory is otherwise as it was
pub record IsRecorded (events : EventsState) (old new : OnDisk MemoryState) : Type 0 where
  pub now : (state : Durable) → IsOnStart state old.it events → present_of new.it ≡ fresh state
  pub journal : new.it ≡ record old.it { journal = new.it.journal }
  pub units : new.it.journal.units ≡ old.it.journal.units
  pub disk : (state : Durable) → IsOnStart state old.it events → IsSomeAnd old.told (JournalFor old.it.journal state) → IsSomeAnd new.told (JournalFor new.it.journal (started state))
  pub pages : Goes (KeepsPages old.it.journal.units) old.told new.told
  pub headed : IfSome new.told (λ s. IsHeaded new.it.journal.units new.it.journal.image new.it.journal.selector s.seen)
  -- the log has room for the greatest debts
  pub left : most_debts new.it.journal.units + 1 ≤ log_left new.it.journal
  pub synced : AllSynced 6 old.status new.status

-- the disk has no power: the start may be recorded or not, and the pages are as they were
pub record IsNotRecorded (events : EventsState) (old new : OnDisk MemoryState) : Type 0 where
  pub disk : (state : Durable) → IsOnStart state old.it events → IsSomeAnd old.told (JournalFor old.it.journal state)
      → IsSomeAnd new.told (LeavesOwnOrNot state) × Goes (LeavesPages old.it.journal.units) old.told new.told
  pub calls : DeviceCalls 6 old.status new.status true

-- what the recording of a start leaves, by its answer
abbrev pub StartLeaves : EventsState → OnDisk MemoryState → OnDisk MemoryState → Result (Unit {0}) Down → Type 0
StartLeaves events old new (Ok done) = IsRecorded events old new
StartLeaves events old new (Err down) = IsNotRecorded events old new
