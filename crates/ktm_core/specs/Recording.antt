-- What the recording of a group leaves, whether the log has room for it or not, and room that is made. No public clause cites this module.
use Rattle.std.specs.Prelude.{◌≡◌, ◌⊎◌, ℕ, ◌+◌, ◌-◌, ◌≤◌, ◌&&◌, not, Bool, true, false, nat_lt, List, [], length, min, sum_by, if◌then◌else◌, IfSome, IsSomeAnd, Option, Result, Ok, Err}
use Rattle.ktm_base.specs.declared.fault.Down.{Down}
use Rattle.ktm_base.specs.declared.fault.NoMemory.{NoMemory}
use Rattle.ktm_base.specs.Disk.{DeviceCalls, DiskState, DiskStatus, MayLeave}
use Rattle.ktm_base.specs.Told.{Goes}
use Rattle.ktm_debts.specs.Debts.{frame_of, most_debts}
use Rattle.ktm_each.specs.Each.{EachOfDurable, EachOfGroup}
use Rattle.ktm_event.specs.Kept.{EventsState, Holds}
use Rattle.ktm_journal.specs.Image.{IsHeaded, JournalState, page_count}
use Rattle.ktm_journal.specs.Pages.{KeepsPages, LeavesPages}
use Rattle.ktm_log.specs.OnDisk.{AllSynced, OnDisk}
use Rattle.ktm_paged.specs.Paged.{IsSound, meant_group}
use Rattle.ktm_restart.specs.Logs.{AppliesTo, JournalFor, PagedFor}
use Rattle.ktm_route.specs.declared.asked.Asked.{Asked}
use Rattle.ktm_route.specs.Frames.{FitsEmptyLog}
use Rattle.ktm_route.specs.Route.{decided}
use Rattle.ktm_saving.specs.Saved.{SavingLeaves}
use Rattle.ktm_standing.specs.Standing.{IsStandingNow}
use Rattle.ktm_world.specs.declared.reply.Reply.{Reply}
use Rattle.ktm_world.specs.declared.reply.Reply.TheVariants.{Refused}
use Rattle.ktm_world.specs.Groups.{Group}
use Rattle.ktm_world.specs.Durable.{Durable, after_events}
use Rattle.ktm_world.specs.Present.{Present}
use Rattle.ktm_memory.specs.Memory.{MemoryState, present_of}
use Rattle.ktm_memory.specs.Stored.{units_put}
use Rattle.ktm_store.specs.Store.{StoreState}
use Rattle.ktm_world.specs.Sizes.{area_len, event_size}
use Rattle.ktm_core.specs.Answers.{IsAnswered, asked_completes, asked_owes_more}
use Rattle.ktm_core.specs.Core.{CoreState, HoldsState, LeavesEitherPlaces, log_left}
use Rattle.ktm_core.specs.Done.{page_calls}
use Rattle.ktm_memory.specs.Recorded.{AreCutOff, AreRecorded, IsUntouched}

-- ---- room

-- how many bytes of the log are to stay beside what is recorded: none where it completes a transaction, for which they are kept, or else the greatest debts
abbrev pub beside_of : Bool → ℕ → ℕ
beside_of true units = 0
beside_of false units = most_debts units

-- has the log no room for these events with so many bytes beside them, and a gate behind both
abbrev pub lacks_room_beside : ℕ → JournalState → Group → Bool
lacks_room_beside beside journal events = nat_lt (log_left journal) (frame_of events + beside + 1)

-- how many bytes of the log are left behind these events: it is empty before them where it has no room for them
abbrev pub left_after : ℕ → JournalState → Group → ℕ
left_after beside journal events = (if lacks_room_beside beside journal events then area_len journal.units else log_left journal) - frame_of events

-- how many device calls record a list at most, whose pages are on the disk
abbrev pub append_calls : ℕ → JournalState → Group → ℕ
append_calls beside journal raw = if lacks_room_beside beside journal raw then 10 else 4

-- how many record a group at most, with its pages
abbrev pub put_calls : ℕ → JournalState → Group → ℕ
put_calls beside journal group = page_calls (min (units_put group) (page_count journal.units)) + append_calls beside journal group

-- by whether room was to be made: nothing was done, or a snapshot of what was recorded stands for all that the log held
abbrev pub RoomLeaves : Bool → OnDisk MemoryState → OnDisk MemoryState → Result (Unit {0}) Down → Type 0
RoomLeaves true old new result = SavingLeaves old new result
RoomLeaves false old new (Ok done) = new ≡ old
RoomLeaves false old new (Err down) = ⊥

-- is it a refusal
abbrev pub is_refusal : Reply → Bool
is_refusal (Refused refusal) = true
is_refusal _ = false

-- may the debts have risen by what is asked: it may owe more, and was not refused
abbrev pub may_rise : Bool → Reply → Bool
may_rise owing reply = owing && not (is_refusal reply)

-- ---- a group

-- what the appending of a list leaves, by its answer, where the log has room for it
abbrev pub AppendLeaves : EventsState → OnDisk MemoryState → OnDisk MemoryState → Result (Unit {0}) Down → Type 0
AppendLeaves events old new (Ok done) = AreRecorded events old new
AppendLeaves events old new (Err down) = AreCutOff events old new

-- the list has what is recorded of this group, each place of which has its owner; it fits an empty log, and applies to what memory shows that was recorded, which stands
pub record MayRecord (m : MemoryState) (events : EventsState) (raw group : Group) : Type 0 where
  pub holds : Holds events raw
  pub fits : FitsEmptyLog m.journal.units raw
  pub applies : AppliesTo (present_of m).recorded raw
  pub owner : ℕ → ℕ × ℕ
  pub sound : EachOfDurable (IsSound owner (page_count (present_of m).recorded.units)) (present_of m).recorded
  pub means : meant_group (present_of m).recorded raw ≡ group
  pub puts : EachOfGroup (IsSound owner (page_count (present_of m).recorded.units)) group
  pub size : sum_by event_size raw ≤ sum_by event_size group
  pub stands : IsStandingNow (present_of m)

-- memory is as it was, but that its journal may be another one of the same image
pub record IsSameMemory (old new : MemoryState) : Type 0 where
  pub is : new ≡ record old { journal = new.journal }
  pub units : new.journal.units ≡ old.journal.units
  pub image : new.journal.image ≡ old.journal.image

-- each image that a loss of power may leave comes to one of two states
abbrev pub LeavesPaged : Durable → Durable → DiskState → Type 0
LeavesPaged a b s = (image : List ℕ) → MayLeave s image → PagedFor a image ⊎ PagedFor b image

-- the group is in the journal, which comes to what the group makes of what was recorded, and the pages are as they were
pub record IsGroupRecorded (beside : ℕ) (events : EventsState) (old new : OnDisk MemoryState) : Type 0 where
  pub same : IsSameMemory old.it new.it
  pub counts : (raw : Group) → Holds events raw → new.it.journal.events ≡ old.it.journal.events + length raw
  pub disk : (raw group : Group) → MayRecord old.it events raw group → IsSomeAnd old.told (JournalFor old.it.journal (present_of old.it).recorded)
      → IsSomeAnd new.told (JournalFor new.it.journal (after_events (present_of old.it).recorded group))
  pub pages : Goes (KeepsPages old.it.journal.units) old.told new.told
  pub headed : IfSome new.told (λ s. IsHeaded new.it.journal.units new.it.journal.image new.it.journal.selector s.seen)
  pub left : (raw : Group) → Holds events raw → log_left new.it.journal ≡ left_after beside old.it.journal raw
  pub synced : (raw : Group) → Holds events raw → AllSynced (append_calls beside old.it.journal raw) old.status new.status

-- the disk has no power: the group may be there or not, and the pages are as they were
pub record IsGroupCutOff (beside : ℕ) (events : EventsState) (old new : OnDisk MemoryState) : Type 0 where
  pub same : IsSameMemory old.it new.it
  pub counts : new.it.journal.events ≡ old.it.journal.events
  pub disk : (raw group : Group) → MayRecord old.it events raw group → IsSomeAnd old.told (JournalFor old.it.journal (present_of old.it).recorded)
      → IsSomeAnd new.told (LeavesPaged (present_of old.it).recorded (after_events (present_of old.it).recorded group)) × Goes (LeavesPages old.it.journal.units) old.told new.told
  pub calls : (raw : Group) → Holds events raw → DeviceCalls (append_calls beside old.it.journal raw) old.status new.status true

-- what it leaves, by its answer
abbrev pub GroupLeaves : ℕ → EventsState → OnDisk MemoryState → OnDisk MemoryState → Result (Unit {0}) Down → Type 0
GroupLeaves beside events old new (Ok done) = IsGroupRecorded beside events old new
GroupLeaves beside events old new (Err down) = IsGroupCutOff beside events old new

-- ---- with the pages of what is recorded

-- what memory and the store hold
pub record Kept : Type 0 where
  pub memory : MemoryState
  pub store : StoreState

-- both with what a disk tells
abbrev pub kept_on : MemoryState → StoreState → Option DiskState → DiskStatus → OnDisk Kept
kept_on memory store told status = record { it = record { memory = memory; store = store }; told = told; status = status }

-- the store has the bytes that it had, and the same pages are held
pub record IsSameStore (old new : StoreState) : Type 0 where
  pub seen : new.seen ≡ old.seen
  pub marks : new.marks ≡ old.marks

-- the group is in the journal, and the disk has the pages of all that is recorded then
pub record IsPut (beside : ℕ) (events : EventsState) (group : Group) (old new : OnDisk Kept) : Type 0 where
  pub same : IsSameMemory old.it.memory new.it.memory
  pub store : IsSameStore old.it.store new.it.store
  pub wanted : new.it.store.wanted ≡ []
  pub counts : (raw : Group) → Holds events raw → new.it.memory.journal.events ≡ old.it.memory.journal.events + length raw
  pub disk : (raw : Group) → MayRecord old.it.memory events raw group
      → IsSomeAnd old.told (HoldsState old.it.memory.journal (present_of old.it.memory).recorded old.it.store)
      → IsSomeAnd new.told (HoldsState new.it.memory.journal (after_events (present_of old.it.memory).recorded group) new.it.store)
  pub headed : IfSome new.told (λ s. IsHeaded new.it.memory.journal.units new.it.memory.journal.image new.it.memory.journal.selector s.seen)
  pub left : (raw : Group) → Holds events raw → log_left new.it.memory.journal ≡ left_after beside old.it.memory.journal raw
  pub synced : (raw : Group) → MayRecord old.it.memory events raw group → AllSynced (put_calls beside old.it.memory.journal group) old.status new.status

-- the disk has no power: the group may be there or not
pub record IsNotPut (beside : ℕ) (events : EventsState) (group : Group) (old new : OnDisk Kept) : Type 0 where
  pub same : IsSameMemory old.it.memory new.it.memory
  pub store : IsSameStore old.it.store new.it.store
  pub counts : new.it.memory.journal.events ≡ old.it.memory.journal.events
  pub disk : (raw : Group) → MayRecord old.it.memory events raw group
      → IsSomeAnd old.told (HoldsState old.it.memory.journal (present_of old.it.memory).recorded old.it.store)
      → IsSomeAnd new.told (LeavesEitherPlaces old.it.store.seen (present_of old.it.memory).recorded (after_events (present_of old.it.memory).recorded group))
  pub calls : (raw : Group) → MayRecord old.it.memory events raw group → DeviceCalls (put_calls beside old.it.memory.journal group) old.status new.status true

-- what that leaves, by its answer
abbrev pub PutLeaves : ℕ → EventsState → Group → OnDisk Kept → OnDisk Kept → Result (Unit {0}) Down → Type 0
PutLeaves beside events group old new (Ok done) = IsPut beside events group old new
PutLeaves beside events group old new (Err down) = IsNotPut beside events group old new

-- ---- the pages that wait in memory

-- they are on the disk, which stands for all that it stood for
pub record AreWaitingWritten (j : JournalState) (old new : StoreState) (before now : Option DiskState) (s u : DiskStatus) : Type 0 where
  pub store : IsSameStore old new
  pub wanted : new.wanted ≡ []
  pub disk : (state : Durable) → IsSomeAnd before (HoldsState j state old) → IsSomeAnd now (HoldsState j state new)
  pub headed : IfSome now (λ d. IsHeaded j.units j.image j.selector d.seen)
  pub synced : AllSynced (page_calls (page_count j.units)) s u

-- the power went: each image that may be left comes to what the disk stood for
pub record AreWaitingTorn (j : JournalState) (old new : StoreState) (before now : Option DiskState) (s u : DiskStatus) : Type 0 where
  pub store : IsSameStore old new
  pub disk : (state : Durable) → IsSomeAnd before (HoldsState j state old) → IsSomeAnd now (LeavesEitherPlaces old.seen state state)
  pub calls : DeviceCalls (page_calls (page_count j.units)) s u true

-- what the writing of all of them leaves, by its answer
abbrev pub WaitingLeaves : JournalState → StoreState → StoreState → Option DiskState → Option DiskState → DiskStatus → DiskStatus → Result (Unit {0}) Down → Type 0
WaitingLeaves j old new before now s u (Ok done) = AreWaitingWritten j old new before now s u
WaitingLeaves j old new before now s u (Err down) = AreWaitingTorn j old new before now s u

-- what an answer leaves before pages that wait are written; out of memory the disk is as it was
abbrev pub AskedLeaves : Present → Asked → OnDisk CoreState → OnDisk CoreState → Result Reply NoMemory → Type 0
AskedLeaves x asked old new (Ok reply) = IsAnswered (asked_completes asked) (asked_owes_more asked) false (decided x asked) old new reply
AskedLeaves x asked old new (Err fault) = IsUntouched old new
