-- What the opening of an image leaves, by its answer.
use Rattle.std.specs.Prelude.{◌≡◌, ◌⊎◌, ℕ, ◌<◌, true, false, List, [], length, Option, Result, Ok, Err, IfSome, IsSomeAnd}
use Rattle.ktm_base.specs.Disk.{DiskState, DiskStatus, MayLeave}
use Rattle.ktm_base.specs.Told.{Goes}
use Rattle.ktm_kernel.specs.declared.restart.Restarted.{Restarted}
use Rattle.ktm_kernel.specs.Restarts.{IsFreshlyCounted, IsWorn, LeavesOwnOrNot}
use Rattle.ktm_kernel.specs.Stands.{KernelAt, IsReady}
use Rattle.ktm_core.specs.Bad.{IsBadAt}
use Rattle.ktm_world.specs.Durable.{Durable, is_worn}
use Rattle.ktm_world.specs.World.{in_doubt, opened}
use Rattle.ktm_kernel.specs.declared.fault.OpenFault.{OpenFault}
use Rattle.ktm_kernel.specs.declared.fault.OpenFault.TheVariants.{BadImage, Down, Worn, NoMemory}
use Rattle.ktm_kernel.specs.Begins.{Begins, BeginsAs}
use Rattle.ktm_kernel.specs.Opening.{OpeningCounts, Prepared, WentDown}

-- the disk, if it tells anything, holds what a run begins from
abbrev pub MayBegin : Option DiskState → Type 0
MayBegin told = IfSome told (λ s. (base : Durable) × BeginsAs base s.seen)

-- the machine started, and counts few events more than a state that is not worn: it stands for the world that is opened from what the run begins
-- from, and it is told how many events that has, and how many transactions in doubt
pub record IsOpened (restarted : Restarted) (old new : Option DiskState) (before after : DiskStatus) : Type 0 where
  pub stands : (base : Durable) → IsSomeAnd old (Begins base) → KernelAt restarted.kernel new (opened base []) × (is_worn base ≡ false)
  pub found : (base : Durable) → IsSomeAnd old (Begins base) → (restarted.events ≡ base.events) × (restarted.in_doubt ≡ length (in_doubt base))
  pub counts : (base : Durable) → IsSomeAnd old (Begins base) → OpeningCounts base.units before after
  pub ready : IsReady restarted.kernel new after
  pub up : restarted.kernel.now.machine.is_up ≡ true
  pub fresh : IsFreshlyCounted restarted.kernel.now
  pub begins : MayBegin old

-- the image is bad at this offset, and as it was; a new one is not
pub record IsFoundBad (offset : ℕ) (old new : Option DiskState) : Type 0 where
  pub same : new ≡ old
  pub bad : IfSome old (λ s. (0 < length s.seen) × IsBadAt s.seen offset)

-- what the image stands for is worn, and the image is as it was; a new one is not
pub record IsFoundWorn (old new : Option DiskState) : Type 0 where
  pub same : new ≡ old
  pub there : IfSome old (λ s. (0 < length s.seen) × IsWorn true s)
  pub worn : (base : Durable) → IsSomeAnd old (Begins base) → is_worn base ≡ true
  pub begins : MayBegin old

-- the disk was down or went down: what may be left begins the same run, with the group of the start or without
pub record IsFoundDown (old new : Option DiskState) (before after : DiskStatus) : Type 0 where
  pub went_down : WentDown before after
  pub leaves : (base : Durable) → IsSomeAnd old (Begins base) → IsSomeAnd old (λ s. s.seen ≡ []) ⊎ IsSomeAnd new (LeavesOwnOrNot base)

-- memory ran out: nothing is recorded, and the same run may begin
pub record IsNotRecorded (old new : Option DiskState) : Type 0 where
  pub prepared : Goes Prepared old new
  pub leaves : (base : Durable) → IsSomeAnd old (Begins base) → IsSomeAnd new (λ s. (image : List ℕ) → MayLeave s image → BeginsAs base image)

-- by why no machine was started
abbrev pub NotOpenedLeaves : Option DiskState → Option DiskState → DiskStatus → DiskStatus → OpenFault → Type 0
NotOpenedLeaves old new before after (BadImage offset) = IsFoundBad offset old new
NotOpenedLeaves old new before after Down = IsFoundDown old new before after
NotOpenedLeaves old new before after Worn = IsFoundWorn old new
NotOpenedLeaves old new before after NoMemory = IsNotRecorded old new

-- what an opening leaves
abbrev pub OpenLeaves : Option DiskState → Option DiskState → DiskStatus → DiskStatus → Result Restarted OpenFault → Type 0
OpenLeaves old new before after (Ok restarted) = IsOpened restarted old new before after
OpenLeaves old new before after (Err fault) = NotOpenedLeaves old new before after fault
