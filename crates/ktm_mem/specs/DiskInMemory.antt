-- What a disk in memory tells, and which of its calls fail.
use Rattle.std.specs.Prelude.{◌≡◌, ℕ, Bool, ◌||◌, length}
use Rattle.std.specs.Bool.{OnTrue}
use Rattle.ktm_base.specs.Disk.{DiskState, DiskStatus}
use Rattle.ktm_mem.specs.PowerSupply.{status_with, supply_after}
use Rattle.ktm_mem.specs.Schedule.{fails_next}
use Rattle.ktm_mem.specs.declared.schedule.Schedule.{Schedule}
use Rattle.ktm_mem.specs.declared.disk.MemDisk.{MemDisk}

-- the bytes of a disk, and what of them is dirty
abbrev pub state_of : MemDisk → DiskState
state_of d = record { seen = d.bytes.items; dirty = d.dirty.items; shortest = d.shortest; longest = d.longest }

-- the power and the counts of a disk, which has no plan
abbrev pub status_of : MemDisk → DiskStatus
status_of d = status_with d.supply (length d.dirty.items)

-- how long a disk can become
abbrev pub disk_room : MemDisk → ℕ
disk_room d = d.room

-- which calls of a disk fail
abbrev pub disk_schedule : MemDisk → Schedule
disk_schedule d = d.supply.schedule

-- is the next call of a disk refused, whatever it asks: the disk is down, or the call is one of those that fail
abbrev pub refuses_next : MemDisk → Bool
refuses_next d = d.supply.is_down || fails_next d.supply.schedule

-- what a call of a disk does: it is counted, and takes the disk down where it is refused, when the bytes stay; the room stays
pub record DiskCall (old new : MemDisk) (refused : Bool) : Type 0 where
  pub seen : OnTrue refused ((state_of new).seen ≡ (state_of old).seen)
  pub supply : new.supply ≡ supply_after old.supply refused
  pub room : new.room ≡ old.room
