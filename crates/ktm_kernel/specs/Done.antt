-- What an outcome did to the machine and to what its disk stands for, for whatever world it stands for.
use Rattle.std.specs.Prelude.{◌≡◌, ◌⊎◌, ℕ, ◌+◌, ◌/◌, ◌||◌, Bool, true, false, min, nat_lt, List, [], ◌∷◌, length, Option, IsSomeAnd, if◌then◌else◌}
use Rattle.ktm_base.specs.declared.limits.TheConstants.{UNIT_BYTES}
use Rattle.ktm_base.specs.declared.refusal.Refusal.TheVariants.{MachineDown}
use Rattle.ktm_base.specs.Disk.{DiskState, MayLeave}
use Rattle.ktm_core.specs.Done.{lacks_room, page_calls, waiting_calls}
use Rattle.ktm_core.specs.Logs.{StandsFor}
use Rattle.ktm_core.specs.Stored.{units_put}
use Rattle.ktm_journal.specs.Image.{JournalState, page_count}
use Rattle.ktm_paged.specs.Meaning.{first_unit, size_before, units_from}
use Rattle.ktm_world.specs.declared.change.Change.{Change}
use Rattle.ktm_world.specs.declared.change.Change.TheVariants.{Cut, Put}
use Rattle.ktm_world.specs.declared.event.Event.{Event}
use Rattle.ktm_world.specs.declared.event.Event.TheVariants.{Plain}
use Rattle.ktm_world.specs.declared.reply.Reply.{Reply}
use Rattle.ktm_world.specs.declared.reply.Reply.TheVariants.{Refused}
use Rattle.ktm_world.specs.Changes.{bytes_in, changes_bytes}
use Rattle.ktm_world.specs.Durable.{Durable}
use Rattle.ktm_world.specs.Outcome.{Outcome, apply}
use Rattle.ktm_world.specs.Present.{Present}
use Rattle.ktm_kernel.specs.Stands.{HoldsRecorded, MachineState, machine_of}

-- each image that a loss of power may leave stands for one of two states
abbrev pub LeavesEither : Durable → Durable → DiskState → Type 0
LeavesEither a b s = (image : List ℕ) → MayLeave s image → StandsFor a image ⊎ StandsFor b image

-- it was answered, and its group was recorded, where it has one
pub record IsDone (old : MachineState) (o : Outcome) (reply : Reply) (new : MachineState) (before now : Option DiskState) : Type 0 where
  pub is : new ≡ machine_of new.core
  pub says : reply ≡ o.reply
  pub state : new.now ≡ apply old.now o
  pub units : new.journal.units ≡ old.journal.units
  pub image : new.journal.image ≡ old.journal.image
  pub disk : IsSomeAnd before (HoldsRecorded old) → IsSomeAnd now (HoldsRecorded new)

-- the power went: its group may be there or not
pub record IsCutOff (old : MachineState) (o : Outcome) (reply : Reply) (new : MachineState) (before now : Option DiskState) : Type 0 where
  pub says : reply ≡ Refused MachineDown
  pub off : new.now.machine.is_up ≡ false
  pub recorded : new.now.recorded ≡ old.now.recorded
  pub units : new.journal.units ≡ old.journal.units
  pub image : new.journal.image ≡ old.journal.image
  pub disk : IsSomeAnd before (HoldsRecorded old) → IsSomeAnd now (LeavesEither old.now.recorded (apply old.now o).recorded)

-- by whether the disk is down then
abbrev pub Ends : Bool → MachineState → Outcome → Reply → MachineState → Option DiskState → Option DiskState → Type 0
Ends false old o reply new before now = IsDone old o reply new before now
Ends true old o reply new before now = IsCutOff old o reply new before now

-- is it of one plain call that changes the bytes of a file
abbrev pub is_write : List Event → Bool
is_write (Plain change ∷ []) = changes_bytes change
is_write events = false

-- how many units a change touches by the bytes that it puts into a file of so many: from the end of the file or the offset on, whichever comes first, up to the last byte that is put, and none
-- where a cut makes the file no longer
abbrev pub units_touched : ℕ → Change → ℕ
units_touched size (Put node offset contents) = units_from (first_unit size offset) (offset + length (bytes_in contents))
units_touched size (Cut node end pages) = if nat_lt size end then units_from (size / UNIT_BYTES) end else 0
units_touched size change = 0

-- how many units events write: those that one plain call touches, by the committed size of its file, and else those of the bytes that they put
abbrev pub units_written : Present → List Event → ℕ
units_written x (Plain change ∷ []) = units_touched (size_before x.files.tree change) change
units_written x events = units_put events

-- how many device calls a command makes at most: those for the pages of the units that its events write, of which there are no more than the disk has, and four; and six more for a snapshot of all
-- that was recorded before, where the log has no room beside the greatest debts, or may have none, as for the pages of a plain write, but none where it completes a transaction, for which room was
-- kept; and where it writes to a file and records nothing, those for the pages that wait in memory
abbrev pub most_calls : Bool → Bool → Present → JournalState → List Event → ℕ
most_calls completing writing x journal events = page_calls (min (units_written x events) (page_count journal.units)) + (if completing then 4 else if is_write events || lacks_room journal events then 10 else 4) + waiting_calls writing journal.units events
