-- What a disk over a block shows.
use Rattle.std.specs.Prelude.{◌≡◌, ◌⊎◌, ◌≤◌, Bool, length, Option, IsTrue}
use Rattle.std.specs.Bool.{OnTrue}
use Rattle.ktm_base.specs.Count.{Rose}
use Rattle.ktm_base.specs.Disk.{DiskState, DiskStatus}
use Rattle.ktm_base.specs.declared.block.Block.{Ghosts}
use Rattle.ktm_disk.specs.declared.disk.BlockDisk.{BlockDisk}
use Rattle.ktm_disk.specs.Status.{after_call, with_pending}
use Rattle.ktm_disk.specs.Told.{told_of}

-- the block below
abbrev pub block_of : {B : Type 0} {g : Ghosts B} → BlockDisk B g → B
block_of d = d.block

-- what it tells, where the block tells its contents
abbrev pub told_by : {B : Type 0} {g : Ghosts B} → BlockDisk B g → Option DiskState
told_by {g = g} d = told_of d.dirty.items d.grown_from d.asked (g.contents d.block)

-- its power and its counts
abbrev pub status_of : {B : Type 0} {g : Ghosts B} → BlockDisk B g → DiskStatus
status_of d = with_pending d.power (length d.dirty.items)

-- what a device call does beside its bytes: it is counted, refused only where the disk was down or the block failed, and does not
-- reach the block of a disk that is down
pub record BlockCall {B : Type 0} {g : Ghosts B} (old new : BlockDisk B g) (refused : Bool) : Type 0 where
  pub counts : status_of new ≡ with_pending (after_call (status_of old) refused) (status_of new).pending
  pub cause : OnTrue refused (IsTrue (status_of old).is_down ⊎ Rose (g.faults (block_of old)) (g.faults (block_of new)))
  pub faults : g.faults (block_of old) ≤ g.faults (block_of new)
  pub untouched : IsTrue (status_of old).is_down → block_of new ≡ block_of old
