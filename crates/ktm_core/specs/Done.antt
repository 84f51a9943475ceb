-- What an outcome did to the machine, and to what its disk stands for.
use Rattle.std.specs.Prelude.{◌≡◌, ◌≢◌, ◌⊎◌, ℕ, ◌+◌, ◌/◌, ◌&&◌, min, Bool, true, false, nat_lt, [], ◌∷◌, Option, IsSomeAnd, if◌then◌else◌}
use Rattle.ktm_base.specs.declared.refusal.Refusal.{Refusal}
use Rattle.ktm_base.specs.declared.refusal.Refusal.TheVariants.{MachineDown}
use Rattle.ktm_base.specs.Disk.{DiskState}
use Rattle.ktm_journal.specs.Image.{JournalState, page_count}
use Rattle.ktm_memory.specs.Stored.{units_put}
use Rattle.ktm_world.specs.Groups.{Group}
use Rattle.ktm_world.specs.declared.reply.Reply.{Reply}
use Rattle.ktm_world.specs.declared.reply.Reply.TheVariants.{Refused}
use Rattle.ktm_world.specs.Present.{Present}
use Rattle.ktm_world.specs.Outcome.{Outcome, apply}
use Rattle.ktm_core.specs.Core.{CoreState, HoldsPlaces, LeavesEitherPlaces, log_left}
use Rattle.ktm_debts.specs.Debts.{frame_of, most_debts}

-- the pages have the bytes that they had, the same are held, and it is the same image
pub record KeepsPages (old new : CoreState) : Type 0 where
  pub units : new.journal.units ≡ old.journal.units
  pub image : new.journal.image ≡ old.journal.image
  pub seen : new.store.seen ≡ old.store.seen
  pub marks : new.store.marks ≡ old.store.marks

-- it was answered, and its group was recorded, where it has one
pub record IsDone (old : CoreState) (o : Outcome) (reply : Reply) (new : CoreState) (before now : Option DiskState) : Type 0 where
  pub says : reply ≡ o.reply
  pub state : new.now ≡ apply old.now o
  pub keeps : KeepsPages old new
  pub disk : IsSomeAnd before (HoldsPlaces old) → IsSomeAnd now (HoldsPlaces new)

-- what is so once the machine is down
abbrev pub fallen : Present → Present
fallen x = record x { machine = record x.machine { is_up = false } }

-- what memory has once the machine went down in a command: what it had, and, where the command records nothing, what that makes of it, for it was carried out before the log was to have more room
abbrev pub left_behind : Present → Outcome → Present
left_behind x o = elim o.events as (λ _. Present) [ [] ↦ fallen (apply x o) | (_ ∷ _) ↦ fallen x ]

-- the power went: its group may be there or not
pub record IsCutOff (old : CoreState) (o : Outcome) (reply : Reply) (new : CoreState) (before now : Option DiskState) : Type 0 where
  pub says : reply ≡ Refused MachineDown
  pub state : new.now ≡ left_behind old.now o
  pub keeps : KeepsPages old new
  pub disk : IsSomeAnd before (HoldsPlaces old) → IsSomeAnd now (LeavesEitherPlaces old.store.seen old.now.recorded (apply old.now o).recorded)

-- by whether the disk is down then
abbrev pub Ends : Bool → CoreState → Outcome → Reply → CoreState → Option DiskState → Option DiskState → Type 0
Ends false old o reply new before now = IsDone old o reply new before now
Ends true old o reply new before now = IsCutOff old o reply new before now

-- has the log no room for these events beside the greatest debts
abbrev pub lacks_room : JournalState → Group → Bool
lacks_room journal events = nat_lt (log_left journal) (frame_of events + most_debts journal.units + 1)

-- may a command that records nothing make room in the log: it may owe more, and the log has no room for the greatest debts
abbrev pub makes_room : Bool → JournalState → Bool
makes_room owing journal = owing && lacks_room journal []

-- it was refused, but not for a machine that is down, or it records nothing, makes no room, and puts no units, which may be written to the disk
abbrev pub TouchesNothing : Bool → Bool → JournalState → Outcome → Reply → Type 0
TouchesNothing owing writing journal o reply = ((refusal : Refusal) × (reply ≡ Refused refusal) × (refusal ≢ MachineDown)) ⊎ ((o.events ≡ []) × (makes_room owing journal ≡ false) × (writing ≡ false))

-- how many device calls write so many pages at most: one for each, and one more behind each 64 and behind the last
abbrev pub page_calls : ℕ → ℕ
page_calls pages = pages + (pages + 63) / 64

-- how many device calls write the pages that wait in memory at most, where a command that puts units records nothing
abbrev pub waiting_calls : Bool → ℕ → Group → ℕ
waiting_calls writing units [] = if writing then page_calls (page_count units) else 0
waiting_calls writing units (event ∷ events) = 0

-- how many device calls a command makes at most: those for the pages of what its events put, of which there are no more than the disk has, and four; and six more for a snapshot of all that was
-- recorded before, where the log has no room beside the greatest debts, but none where it completes a transaction, for which room was kept; and where it puts units and records nothing, those for
-- the pages that wait in memory
abbrev pub most_calls : Bool → Bool → JournalState → Group → ℕ
most_calls completing writing journal events = page_calls (min (units_put events) (page_count journal.units)) + (if completing then 4 else if lacks_room journal events then 10 else 4) + waiting_calls writing journal.units events
