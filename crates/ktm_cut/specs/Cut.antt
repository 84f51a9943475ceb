-- What a disk over a block shows.
use Rattle.std.specs.Prelude.{◌≡◌, ◌⊎◌, ◌≤◌, Bool, length, Option, Some, IsTrue}
use Rattle.std.specs.Bool.{OnTrue}
use Rattle.ktm_base.specs.Count.{Rose}
use Rattle.ktm_base.specs.Disk.{DiskState, DiskStatus}
use Rattle.ktm_base.specs.declared.block.Block.{Ghosts}
use Rattle.ktm_cut.specs.declared.disk.CutDisk.{CutDisk}
use Rattle.ktm_disk.specs.Status.{after_call, with_pending}
use Rattle.ktm_disk.specs.Told.{told_of}

-- the block below
abbrev pub block_of : {B : Type 0} {g : Ghosts B} → CutDisk B g → B
block_of d = d.block

-- what it tells, where the block tells its contents
abbrev pub told_by : {B : Type 0} {g : Ghosts B} → CutDisk B g → Option DiskState
told_by {g = g} d = told_of d.dirty.items d.grown_from d.asked (g.contents d.block)

-- its power and its counts
abbrev pub status_of : {B : Type 0} {g : Ghosts B} → CutDisk B g → DiskStatus
status_of d = with_pending d.switch (length d.dirty.items)

-- why a device call was refused: there was no power, the moment that was set had come, or the block failed
abbrev pub HasCause : {B : Type 0} {g : Ghosts B} → CutDisk B g → CutDisk B g → Type 0
HasCause {g = g} old new =
    IsTrue (status_of old).is_down ⊎ ((status_of old).armed ≡ Some 0) ⊎ Rose (g.faults (block_of old)) (g.faults (block_of new))

-- what a device call does beside its bytes: it is counted, and so are the block's faults, and where it is refused it has a cause
pub record CutCall {B : Type 0} {g : Ghosts B} (old new : CutDisk B g) (refused : Bool) : Type 0 where
  pub counts : status_of new ≡ with_pending (after_call (status_of old) refused) (status_of new).pending
  pub cause : OnTrue refused (HasCause old new)
  pub faults : g.faults (block_of old) ≤ g.faults (block_of new)
