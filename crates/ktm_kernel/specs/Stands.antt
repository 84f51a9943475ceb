-- When a machine with its disk stands for a world.
use Rattle.std.specs.Prelude.{◌≡◌, ℕ, ◌≤◌, Bool, true, false, List, length, Option, Contains, IfSome, IsSomeAnd}
use Rattle.ktm_base.specs.Disk.{DiskState, DiskStatus, MayLeave, IsSafe}
use Rattle.ktm_base.specs.Power.{Restored, NotRestored}
use Rattle.ktm_base.specs.Told.{Goes}
use Rattle.ktm_journal.specs.Image.{JournalState, IsHeaded, page_count}
use Rattle.ktm_core.specs.Logs.{StandsFor}
use Rattle.ktm_world.specs.declared.command.Line.{Line}
use Rattle.ktm_world.specs.declared.reply.Reply.{Reply}
use Rattle.ktm_world.specs.Present.{Present}
use Rattle.ktm_world.specs.Durable.{stand}
use Rattle.ktm_world.specs.World.{World, present, possible_logs, interrupted_restart}
use Rattle.ktm_world.specs.Logs.{Group, is_up}
use Rattle.ktm_standing.specs.Standing.{IsStanding}
use Rattle.ktm_slots.specs.Owed.{owed_slots}
use Rattle.ktm_world.specs.Transcript.{Does, Step}
use Rattle.ktm_core.specs.Memory.{MemoryState, present_of}
use Rattle.ktm_core.specs.Stored.{AreFilesHeld}
use Rattle.ktm_alike.specs.Alike.{mapped_present}
use Rattle.ktm_content.specs.Places.{byte_at}
use Rattle.ktm_core.specs.Core.{AreSoundFiles, CoreState, HoldsPlaces, IsReady as IsReadyCore}
use Rattle.ktm_store.specs.Pool.{Shows, on_row}
use Rattle.ktm_store.specs.Store.{PoolState}

-- what a machine is: what is so now, over the places of bytes, its journal, how many notifications it can send without memory, and its pages, of which some are in memory
pub record KernelState : Type 0 where
  pub now : Present
  pub journal : JournalState
  pub slots : ℕ
  pub pool : PoolState

-- the machine that has this memory and these pages
abbrev pub kernel_of : MemoryState → PoolState → KernelState
kernel_of m pool = record { now = present_of m; journal = m.journal; slots = m.tm.slots; pool = pool }

-- with the bytes that all its pages have in a row
abbrev pub core_on : KernelState → List ℕ → CoreState
core_on k row = record { now = k.now; journal = k.journal; slots = k.slots; store = on_row k.pool row }

-- a machine with the bytes of all its pages: what is so now, its journal, how many notifications it can send without memory, and what it holds, over the places of bytes
pub record MachineState : Type 0 where
  pub now : Present
  pub journal : JournalState
  pub slots : ℕ
  pub core : CoreState

-- the machine that holds this: at each place stands the byte that its pages have there
abbrev pub machine_of : CoreState → MachineState
machine_of c = record { now = mapped_present (byte_at c.store.seen) c.now; journal = c.journal; slots = c.slots; core = c }

-- a machine with the bytes of a row
abbrev pub machine_on : KernelState → List ℕ → MachineState
machine_on k row = machine_of (core_on k row)

-- ---- with the bytes of all pages

-- the disk has all that the machine recorded, with the bytes on its pages, and its journal is the machine's
abbrev pub HoldsRecorded : MachineState → DiskState → Type 0
HoldsRecorded k s = HoldsPlaces k.core s

-- a machine that is up stands for the world, and its disk has all that it recorded
pub record Stands (k : MachineState) (told : Option DiskState) (w : World) : Type 0 where
  pub is : k ≡ machine_of k.core
  pub now : k.now ≡ present w
  pub standing : IsStanding w
  pub disk : IsSomeAnd told (HoldsRecorded k)

-- each image that a loss of power may leave stands for the state that one of the possible logs comes to
abbrev pub LeavesStates : World → DiskState → Type 0
LeavesStates w s = (image : List ℕ) → MayLeave s image → (log : List Group) × Contains (possible_logs w) log × StandsFor (stand w.base log) image

-- a machine that is down stands for the world: it tells what was recorded, and nothing else of what it has is ever used
pub record HasFallen (k : MachineState) (told : Option DiskState) (w : World) : Type 0 where
  pub off : k.now.machine.is_up ≡ false
  pub recorded : k.now.recorded ≡ (present w).recorded
  pub standing : IsStanding w
  pub disk : IsSomeAnd told (LeavesStates w)

-- a machine stands for the world, by whether the world's machine is up
abbrev pub StandsBy : Bool → MachineState → Option DiskState → World → Type 0
StandsBy true k told w = Stands k told w
StandsBy false k told w = HasFallen k told w

-- a machine with its disk stands for the world
abbrev pub MachineAt : MachineState → Option DiskState → World → Type 0
MachineAt k told w = StandsBy (is_up w.power) k told w

-- a machine that is down, whose disk has the power again, is safe, and stands for the state that one of the possible logs comes to
pub record MachineFoundAt (k : MachineState) (told : Option DiskState) (w : World) : Type 0 where
  pub off : is_up w.power ≡ false
  pub down : k.now.machine.is_up ≡ false
  pub recorded : k.now.recorded ≡ (present w).recorded
  pub standing : IsStanding w
  pub disk : IsSomeAnd told (λ s. IsSafe s × ((log : List Group) × Contains (possible_logs w) log × StandsFor (stand w.base log) s.seen))

-- ---- with those of them that are in memory

-- a machine with its disk stands for the world: with the bytes that its pages have, those in memory and all others
abbrev pub KernelAt : KernelState → Option DiskState → World → Type 0
KernelAt k told w = (row : List ℕ) × Shows k.pool row × MachineAt (machine_on k row) told w

-- so does one that is down, whose disk has the power again
abbrev pub FoundAt : KernelState → Option DiskState → World → Type 0
FoundAt k told w = (row : List ℕ) × Shows k.pool row × MachineFoundAt (machine_on k row) told w

-- a line is done for the world: there is a step to a world for which the machine then stands
abbrev pub DoesLine : World → Option Line → Reply → KernelState → Option DiskState → Type 0
DoesLine w line reply k told = (step : Step) × (new : World) × Does w line step reply new × KernelAt k told new

-- while its machine is up, the disk is up too, is this machine's image, and nothing waits to be synced
pub record IsPowered (k : KernelState) (told : Option DiskState) (status : DiskStatus) : Type 0 where
  pub power : k.now.machine.is_up ≡ true → status.is_down ≡ false
  pub settled : k.now.machine.is_up ≡ true → status.pending ≡ 0
  pub image : k.now.machine.is_up ≡ true → IfSome told (λ s. IsHeaded k.journal.units k.journal.image k.journal.selector s.seen)

-- what the machine holds is ready, whichever bytes its pages have: each place of its files is that of one byte of one file, on a page that is held
pub record IsCoreReady (k : KernelState) (told : Option DiskState) (status : DiskStatus) : Type 0 where
  pub ready : (row : List ℕ) → IsReadyCore (core_on k row) told status
  pub count : length k.pool.marks.held ≡ page_count k.journal.units
  pub sound : AreSoundFiles (page_count k.journal.units) k.now.files
  pub held : AreFilesHeld k.pool k.now.files

-- a machine is ready for a line: its disk is as `IsPowered` says, and it keeps what it is to keep of what is so now
pub record IsReady (k : KernelState) (told : Option DiskState) (status : DiskStatus) : Type 0 where
  pub powered : IsPowered k told status
  -- there is room for all notifications that may come to be sent without a call that makes room
  pub slots : k.now.machine.is_up ≡ true → owed_slots k.now ≤ k.slots
  pub core : k.now.machine.is_up ≡ true → IsCoreReady k told status

-- a loss of power leaves the state of one of the possible logs
abbrev pub LeftLaw : Type 0
LeftLaw = (k : KernelState) (told : Option DiskState) (w : World) → KernelAt k told w → IsSomeAnd told (LeavesStates w)

-- what giving the power back to the disk of a machine that is down makes of it: one of the possible logs is found; or the power
-- failed again, and what may be left is among the possible logs of the interrupted restart
abbrev pub PowerLaw : Type 0
PowerLaw = (k : KernelState) (old new : Option DiskState) (w : World) → is_up w.power ≡ false → KernelAt k old w
    → (Goes Restored old new → FoundAt k new w) × (Goes NotRestored old new → KernelAt k new (interrupted_restart w))

-- what was found is safe, so a loss of power leaves its state
abbrev pub FoundLaw : Type 0
FoundLaw = (k : KernelState) (told : Option DiskState) (w : World) → FoundAt k told w → IsSomeAnd told (LeavesStates w)
