-- What the loading of an image leaves, by its answer.
use Rattle.std.specs.Prelude.{◌≡◌, ℕ, ◌^◌, ◌<◌, ◌≤◌, true, false, Result, Ok, Err, Vec, vec_capacity, IfSome, IsSomeAnd, Option}
use Rattle.ktm_base.specs.declared.limits.TheConstants.{LEAST_UNITS, MOST_UNITS}
use Rattle.ktm_base.specs.Disk.{DiskState, IsSafe}
use Rattle.ktm_journal.specs.declared.fault.LoadFault.{LoadFault}
use Rattle.ktm_journal.specs.declared.fault.LoadFault.TheVariants.{Down, Bad, NoMemory}
use Rattle.ktm_journal.specs.Image.{IsHeaded, JournalState, half_of, log_area}
use Rattle.ktm_log.specs.OnDisk.{OnDisk, ReadsInto, WasRead}
use Rattle.ktm_records.specs.Spelling.{AreRecordedTexts}
use Rattle.txf_laws.specs.GoodState.{IsGoodState}
use Rattle.ktm_world.specs.Durable.{Durable}
use Rattle.ktm_restart.specs.declared.replay.Loaded.{Loaded}
use Rattle.ktm_restart.specs.Bad.{IsBadAt}
use Rattle.ktm_restart.specs.Logs.{IsOnPages, JournalFor, PagedFor}

-- a machine may start from this state over the places of bytes, unless it is worn; its numbers are those of an image
pub record MayStart (state : Durable) : Type 0 where
  pub least : LEAST_UNITS ≤ state.units
  pub most : state.units ≤ MOST_UNITS
  pub number : state.image < 2 ^ 16
  pub good : IsGoodState state
  pub on_pages : IsOnPages state
  pub texts : AreRecordedTexts state

-- the journal is that of the state's image, and has counted its events
pub record IsJournalOf (state : Durable) (journal : JournalState) : Type 0 where
  pub units : journal.units ≡ state.units
  pub image : journal.image ≡ state.image
  pub area : journal.log.area ≡ log_area state.units (half_of journal.selector)
  pub inside : journal.log.end < journal.log.area.len
  pub counted : journal.events ≡ state.events

-- whatever state over the places of bytes a safe disk has is that of this journal
abbrev pub KnowsState : Option DiskState → Option DiskState → JournalState → Type 0
KnowsState old new journal = (state : Durable) → IsSomeAnd old (λ s. IsSafe s × PagedFor state s.seen) → IsSomeAnd new (JournalFor journal state)

-- the image of the disk comes to this state over the places of bytes and to no other, and has this journal, and the buffer has room for whatever its log has room for
pub record IsLoaded {Z : Type 0} (most : ℕ) (old new : OnDisk (Vec ℕ Z)) (loaded : Loaded) : Type 0 where
  pub state : MayStart loaded.state
  pub journal : IsJournalOf loaded.state loaded.journal
  pub room : loaded.journal.log.area.len ≤ vec_capacity new.it
  pub stands : IfSome old.told (λ s. PagedFor loaded.state s.seen)
  pub headed : IfSome new.told (λ s. IsHeaded loaded.journal.units loaded.journal.image loaded.journal.selector s.seen)
  pub knows : KnowsState old.told new.told loaded.journal
  pub read : WasRead most old new

-- the image of the disk is bad at this offset
pub record IsBadImage {Z : Type 0} (most : ℕ) (old new : OnDisk (Vec ℕ Z)) (offset : ℕ) : Type 0 where
  pub bad : IfSome old.told (λ s. IsBadAt s.seen offset)
  pub read : WasRead most old new

-- what is left where an image was not loaded, with so many device calls at most
abbrev pub FaultLeaves : {Z : Type 0} → ℕ → OnDisk (Vec ℕ Z) → OnDisk (Vec ℕ Z) → LoadFault → Type 0
FaultLeaves most old new Down = ReadsInto most old new true
FaultLeaves most old new (Bad offset) = IsBadImage most old new offset
FaultLeaves most old new NoMemory = ReadsInto most old new false

-- what a load leaves, with so many device calls at most
abbrev pub LoadLeaves : {Z : Type 0} → ℕ → OnDisk (Vec ℕ Z) → OnDisk (Vec ℕ Z) → Result Loaded LoadFault → Type 0
LoadLeaves most old new (Ok loaded) = IsLoaded most old new loaded
LoadLeaves most old new (Err fault) = FaultLeaves most old new fault
