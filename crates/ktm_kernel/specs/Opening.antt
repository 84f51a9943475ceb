-- What the opening of an image makes of a disk, and why it gives no machine.
use Rattle.std.specs.Prelude.{◌≡◌, ◌⊎◌, ℕ, ◌+◌, ◌*◌, ◌<◌, ◌≤◌, [], length, IsTrue}
use Rattle.ktm_base.specs.declared.limits.TheConstants.{NEW_UNITS}
use Rattle.ktm_base.specs.Count.{Rose}
use Rattle.ktm_base.specs.Disk.{DiskState, DiskStatus, IsSafe}
use Rattle.ktm_core.specs.Logs.{StandsFor}
use Rattle.ktm_world.specs.Durable.{empty_state}
use Rattle.ktm_kernel.specs.declared.restart.RestartFault.{RestartFault}
use Rattle.ktm_kernel.specs.declared.restart.RestartFault.TheVariants as kernel
use Rattle.ktm_kernel.specs.declared.fault.OpenFault.{OpenFault}
use Rattle.ktm_kernel.specs.declared.fault.OpenFault.TheVariants as opening

-- a disk without a byte became a new image, and another one is as it was
abbrev pub Prepared : DiskState → DiskState → Type 0
Prepared old new = ((old.seen ≡ []) × IsSafe new × StandsFor (empty_state NEW_UNITS 1) new.seen) ⊎ ((0 < length old.seen) × (new ≡ old))

-- why no machine was started, by what the kernel says
abbrev pub open_fault_of : RestartFault → OpenFault
open_fault_of kernel.Down = opening.Down
open_fault_of (kernel.Bad offset) = opening.BadImage offset
open_fault_of kernel.Worn = opening.Worn
open_fault_of kernel.NoMemory = opening.NoMemory

-- the disk was down before, or it went down
abbrev pub WentDown : DiskStatus → DiskStatus → Type 0
WentDown before now = IsTrue before.is_down ⊎ Rose before.downs now.downs

-- the most device calls of the opening of an image of so many units, which may make it
abbrev pub opening_calls : ℕ → ℕ
opening_calls units = 2 * units + 36

-- the disk's counts over an opening
pub record OpeningCounts (units : ℕ) (old new : DiskStatus) : Type 0 where
  pub later : old.downs ≤ new.downs
  pub plan : new.plan ≡ old.plan
  pub few : new.calls ≤ old.calls + opening_calls units
