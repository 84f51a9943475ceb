-- What a restart makes of a disk that stands for a state, and what it leaves.
use Rattle.std.specs.Prelude.{◌≡◌, ◌⊎◌, ℕ, ◌+◌, ◌^◌, ◌<◌, ◌≤◌, Bool, true, false, List, [], Option, Some, None, Result, Ok, Err, length, IfSome, IsSomeAnd}
use Rattle.ktm_base.specs.declared.limits.TheConstants.{MOST_UNITS}
use Rattle.ktm_base.specs.Disk.{DiskState, MayLeave}
use Rattle.ktm_core.specs.Logs.{IsSafeFor, StandsFor}
use Rattle.ktm_log.specs.OnDisk.{OnDisk}
use Rattle.ktm_core.specs.Starting.{started}
use Rattle.ktm_laws.specs.Running.{is_good_log}
use Rattle.ktm_core.specs.Bad.{IsBadAt}
use Rattle.txf_laws.specs.GoodState.{IsGoodState}
use Rattle.ktm_world.specs.Durable.{Durable, is_worn, stand}
use Rattle.ktm_world.specs.Logs.{Group}
use Rattle.ktm_world.specs.declared.reply.Reply.{Reply}
use Rattle.ktm_world.specs.declared.reply.Reply.TheVariants.{BadImage, Refused}
use Rattle.ktm_base.specs.declared.refusal.Refusal.TheVariants.{ImageWorn, MachineDown}
use Rattle.ktm_world.specs.World.{in_doubt as all_in_doubt, opened}
use Rattle.ktm_kernel.specs.declared.restart.RestartFault.{RestartFault}
use Rattle.ktm_kernel.specs.declared.restart.RestartFault.TheVariants.{Down, Bad, Worn, NoMemory}
use Rattle.ktm_kernel.specs.declared.restart.Restarted.{Restarted}
use Rattle.ktm_records.specs.Spelling.{most_at_once}
use Rattle.ktm_world.specs.Present.{Present}
use Rattle.ktm_kernel.specs.Buffers.{BuffersState, KeepBuffers}
use Rattle.ktm_kernel.specs.Stands.{IsReady, KernelState, KernelAt}

-- a world may be opened from a state with a log: the state is good and of a size that there is, and the log applies to it
pub record MayOpen (base : Durable) (log : List Group) : Type 0 where
  pub good : IsGoodState base
  pub small : base.units ≤ MOST_UNITS
  pub applies : is_good_log base log ≡ true

-- the machine stands for the world that was opened from the log, which is not worn, and it is told how many events were found and how many
-- transactions are in doubt
pub record Started (base : Durable) (log : List Group) (kernel : KernelState) (events in_doubt : ℕ) (told : Option DiskState) : Type 0 where
  pub unworn : is_worn (stand base log) ≡ false
  pub stands : KernelAt kernel told (opened base log)
  pub events_are : events ≡ (stand base log).events
  pub in_doubt_are : in_doubt ≡ length (all_in_doubt (stand base log))

-- each image that a loss of power may leave stands for the state that was found, or, where that is not worn, for what a start makes of it
abbrev pub LeavesOwnOrNot : Durable → DiskState → Type 0
LeavesOwnOrNot state s = (image : List ℕ) → MayLeave s image → StandsFor state image ⊎ ((is_worn state ≡ false) × StandsFor (started state) image)

-- ---- what a restart leaves

-- the disk stands for a state from which a world may be opened, and which is worn or not
abbrev pub IsWorn : Bool → DiskState → Type 0
IsWorn worn s = (state : Durable) × StandsFor state s.seen × MayOpen state [] × (is_worn state ≡ worn)

-- few more events are recorded than a state that is not worn has
abbrev pub IsFreshlyCounted : Present → Type 0
IsFreshlyCounted x = x.recorded.events < 2 ^ 62 + most_at_once

-- a machine started, for whatever state the disk stands for
pub record IsStarted (old new : OnDisk BuffersState) (restarted : Restarted) : Type 0 where
  pub starts : (base : Durable) (log : List Group) → MayOpen base log → IsSomeAnd old.told (IsSafeFor (stand base log))
      → Started base log restarted.kernel restarted.events restarted.in_doubt new.told
  pub ready : IsReady restarted.kernel new.told new.status
  pub up : restarted.kernel.now.machine.is_up ≡ true
  pub counts : IsFreshlyCounted restarted.kernel.now
  pub found : IfSome old.told (IsWorn false)

-- the disk has no power: what the start records may be there or not
pub record IsUnpowered (old new : OnDisk BuffersState) : Type 0 where
  pub leaves : (state : Durable) → IsSomeAnd old.told (IsSafeFor state) → IsSomeAnd new.told (LeavesOwnOrNot state)
  pub kept : KeepBuffers old.it new.it

-- nothing was written, nothing more waits for a sync, and the buffers lost no memory
pub record IsUnwritten (old new : OnDisk BuffersState) : Type 0 where
  pub told : new.told ≡ old.told
  pub pending : new.status.pending ≡ old.status.pending
  pub kept : KeepBuffers old.it new.it

-- the image cannot be opened, for what stands at this offset
pub record FoundBad (old new : OnDisk BuffersState) (offset : ℕ) : Type 0 where
  pub bad : IfSome old.told (λ s. IsBadAt s.seen offset)
  pub unwritten : IsUnwritten old new

-- the state for which the image stands is worn
pub record FoundWorn (old new : OnDisk BuffersState) : Type 0 where
  pub found : IfSome old.told (IsWorn true)
  pub unwritten : IsUnwritten old new

-- by why a machine did not start
abbrev pub NoStartLeaves : OnDisk BuffersState → OnDisk BuffersState → RestartFault → Type 0
NoStartLeaves old new Down = IsUnpowered old new
NoStartLeaves old new (Bad offset) = FoundBad old new offset
NoStartLeaves old new Worn = FoundWorn old new
NoStartLeaves old new NoMemory = IsUnwritten old new

-- what a restart leaves
abbrev pub RestartLeaves : OnDisk BuffersState → OnDisk BuffersState → Result Restarted RestartFault → Type 0
RestartLeaves old new (Ok restarted) = IsStarted old new restarted
RestartLeaves old new (Err fault) = NoStartLeaves old new fault

-- ---- its answer

-- what a restart answers, by why the machine did not start; out of memory it has no reply
abbrev pub answer_of : RestartFault → Option Reply
answer_of Down = Some (Refused MachineDown)
answer_of (Bad offset) = Some (BadImage offset)
answer_of Worn = Some (Refused ImageWorn)
answer_of NoMemory = None

-- did it find the disk down
abbrev pub restart_went_down : {T : Type 0} → Result T RestartFault → Bool
restart_went_down (Ok value) = false
restart_went_down (Err Down) = true
restart_went_down (Err (Bad offset)) = false
restart_went_down (Err Worn) = false
restart_went_down (Err NoMemory) = false
