-- A machine that begins from what was loaded. No public clause cites this module.
use Rattle.std.specs.Prelude.{◌≡◌, ℕ, ◌*◌, ◌<◌, true, List, [], length, Option, None, Result, Ok, Err}
use Rattle.ktm_base.specs.declared.fault.Down.{Down}
use Rattle.ktm_base.specs.declared.limits.TheConstants.{UNIT_BYTES}
use Rattle.ktm_base.specs.Disk.{DiskState, DiskStatus}
use Rattle.ktm_core.specs.Memory.{MemoryState}
use Rattle.ktm_core.specs.Starting.{IsNotRecorded, IsRecorded}
use Rattle.ktm_core.specs.Stored.{AreFilesHeld}
use Rattle.ktm_event.specs.Kept.{EventsState}
use Rattle.ktm_journal.specs.Image.{page_count}
use Rattle.ktm_log.specs.OnDisk.{OnDisk, on}
use Rattle.ktm_store.specs.Pool.{Shows, kept_at}
use Rattle.ktm_store.specs.Store.{PoolState}
use Rattle.ktm_store.specs.Stored.{is_stored}
use Rattle.txf_volume.specs.Held.{files_of}
use Rattle.ktm_kernel.specs.Stands.{KernelState, kernel_of}

-- there are so many pages, which are on the disk alone, and none is wanted
pub record AreOnDiskAlone (count : ℕ) (pool : PoolState) : Type 0 where
  pub count_is : length pool.marks.held ≡ count
  pub none : (page : ℕ) → kept_at pool.seen page ≡ None
  pub stored : (page : ℕ) → page < count → is_stored pool.stored page ≡ true
  pub wanted : pool.wanted ≡ []

-- its start was recorded; all pages are stored, those of its files are held, and none is in memory
pub record IsBegun (events : EventsState) (old new : OnDisk MemoryState) (pool : PoolState) : Type 0 where
  pub count : length pool.marks.held ≡ page_count old.it.journal.units
  pub held : AreFilesHeld pool (files_of old.it.files)
  pub shows : (row : List ℕ) → length row ≡ length pool.marks.held * UNIT_BYTES → Shows pool row
  pub stored : (page : ℕ) → page < length pool.marks.held → is_stored pool.stored page ≡ true
  pub wanted : pool.wanted ≡ []
  pub leaves : IsRecorded events old new

-- what the start leaves, by its answer
abbrev pub BeginLeaves : EventsState → OnDisk MemoryState → OnDisk MemoryState → PoolState → Result (Unit {0}) Down → Type 0
BeginLeaves events old new pool (Ok done) = IsBegun events old new pool
BeginLeaves events old new pool (Err down) = IsNotRecorded events old new

-- this machine holds what memory holds then
pub record IsMachineOf (events : EventsState) (old : OnDisk MemoryState) (told : Option DiskState) (status : DiskStatus) (kernel : KernelState) : Type 0 where
  pub memory : MemoryState
  pub pool : PoolState
  pub is : kernel ≡ kernel_of memory pool
  pub begun : IsBegun events old (on memory told status) pool

-- there is no machine
abbrev pub IsNoMachine : EventsState → OnDisk MemoryState → Option DiskState → DiskStatus → Type 0
IsNoMachine events old told status = (memory : MemoryState) × IsNotRecorded events old (on memory told status)
