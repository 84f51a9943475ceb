-- What memory keeps of the log's transactions, and what events make of it.
use Rattle.std.specs.Prelude.{◌≡◌, ◌||◌, not, Bool, true, false, List, [], ◌∷◌, ◌++◌, map, filter, fold, Option, Some, None, if◌then◌else◌}
use Rattle.std.specs.List.{list_any}
use Rattle.ktm_base.specs.declared.id.Id.{Id}
use Rattle.ktm_world.specs.declared.event.DonePart.{DonePart}
use Rattle.ktm_world.specs.declared.event.Event.{Event}
use Rattle.ktm_world.specs.declared.event.Event.TheVariants.{Boot, MadeRm, Plain, Ready, Single, Held, Decide, Undo, Done}
use Rattle.ktm_world.specs.declared.event.Part.{Part}
use Rattle.ktm_world.specs.declared.recorded.RecordedPart.{RecordedPart}
use Rattle.ktm_world.specs.declared.recorded.Stage.{Stage}
use Rattle.ktm_world.specs.declared.recorded.Superior.{Superior}
use Rattle.ktm_world.specs.Durable.{Durable, Recorded, after_event, after_events, is_of_enlistment, is_ready}
use Rattle.ktm_world.specs.Transactions.{same_id}
use Rattle.ktm_trace.specs.Placed.{at_id, placed, without_id}

-- a part: whether it is done, and whose it is
pub record TracedPart : Type 0 where
  pub is_done : Bool
  pub who : DonePart

-- a transaction that is not over, without what its parts have in them
pub record Traced : Type 0 where
  pub id : Id
  pub stage : Stage
  -- the enlistment of its superior
  pub superior : Option Id
  pub parts : List TracedPart

-- ---- of what was recorded

-- the Id of a transaction of the durable state
abbrev pub recorded_id : Recorded → Id
recorded_id t = t.id

-- whose the part is
abbrev pub who_of : Part → DonePart
who_of (Part.Enlistment enlistment manager information) = DonePart.Enlistment enlistment
who_of (Part.Changes changes) = DonePart.Files
who_of (Part.Settings settings) = DonePart.Keys

-- a part without what it has in it
abbrev pub traced_part : RecordedPart → TracedPart
traced_part p = record { is_done = p.is_done; who = who_of p.part }

-- the enlistment of a superior, if there is one
abbrev pub superior_id : Option Superior → Option Id
superior_id None = None
superior_id (Some s) = Some s.enlistment

-- a transaction without what its parts have in them
abbrev pub traced : Recorded → Traced
traced t = record { id = t.id; stage = t.stage; superior = superior_id t.superior; parts = map traced_part t.parts }

-- the transactions of the durable state, so
abbrev pub traces_of : Durable → List Traced
traces_of s = map traced s.transactions

-- ---- what events make of it

-- the Id of a transaction
abbrev pub id_of : Traced → Id
id_of t = t.id

-- a transaction of which nothing is recorded yet
abbrev pub new_traced : Id → Traced
new_traced id = record { id = id; stage = Stage.Ready; superior = None; parts = [] }

-- the transaction, or a new one where there is none
abbrev pub traced_or : Id → Option Traced → Traced
traced_or id None = new_traced id
traced_or id (Some t) = t

-- the transaction with this Id, or a new one that is ready
abbrev pub traced_or_new : List Traced → Id → Traced
traced_or_new ts id = traced_or id (at_id id_of ts id)

-- a transaction with one part more that is ready
abbrev pub with_ready : Traced → DonePart → Traced
with_ready t who = record t { parts = t.parts ++ record { is_done = false; who = who } ∷ [] }

-- a transaction that waits for this superior
abbrev pub waiting_for : Traced → Id → Traced
waiting_for t superior = record t { stage = Stage.Held; superior = Some superior }

-- is it the same participant
abbrev pub same_participant : DonePart → DonePart → Bool
same_participant (DonePart.Enlistment id) (DonePart.Enlistment other) = same_id id other
same_participant DonePart.Files DonePart.Files = true
same_participant DonePart.Keys DonePart.Keys = true
same_participant _ _ = false

-- a part, marked where it is this participant's
abbrev pub marked : DonePart → TracedPart → TracedPart
marked done p = record p { is_done = p.is_done || same_participant done p.who }

-- an enlistment that is done is taken out, and another part is marked
abbrev pub without_done : DonePart → List TracedPart → List TracedPart
without_done done parts = if is_of_enlistment done then filter (λ p. not (same_participant done p.who)) parts else map (marked done) parts

-- a transaction stays while a part of it is not done
abbrev pub stays_while_not_done : List Traced → Traced → List Traced
stays_while_not_done ts t = if list_any (λ p. not p.is_done) t.parts then placed id_of ts t else without_id id_of ts t.id

-- the transactions once one of them, if there is one, is decided
abbrev pub once_decided : List Traced → Option Traced → List Traced
once_decided ts None = ts
once_decided ts (Some t) = stays_while_not_done ts (record t { stage = Stage.Decided })

-- the transactions once a participant of one of them, if there is one, is done
abbrev pub once_done : List Traced → DonePart → Option Traced → List Traced
once_done ts done None = ts
once_done ts done (Some t) = stays_while_not_done ts (record t { parts = without_done done t.parts })

-- the transactions once this participant of one is ready
abbrev pub once_ready : List Traced → Id → DonePart → List Traced
once_ready ts id who = placed id_of ts (with_ready (traced_or_new ts id) who)

-- the transactions once one waits for this superior
abbrev pub once_held : List Traced → Id → Id → List Traced
once_held ts id superior = placed id_of ts (waiting_for (traced_or_new ts id) superior)

-- what an event makes of the transactions
abbrev pub traces_after : List Traced → Event → List Traced
traces_after ts (Boot boot) = filter (λ t. not (is_ready t.stage)) ts
traces_after ts (MadeRm manager) = ts
traces_after ts (Plain change) = ts
traces_after ts (Ready transaction part) = once_ready ts transaction (who_of part)
traces_after ts (Single transaction part) = ts
traces_after ts (Held transaction enlistment manager information) = once_held ts transaction enlistment
traces_after ts (Decide transaction) = once_decided ts (at_id id_of ts transaction)
traces_after ts (Undo transaction) = without_id id_of ts transaction
traces_after ts (Done transaction done) = once_done ts done (at_id id_of ts transaction)

-- it goes on with each event as what was recorded does
pub record TracesLaw : Type 0 where
  -- with one event
  pub event : (s : Durable) (event : Event) → traces_of (after_event s event) ≡ traces_after (traces_of s) event
  -- with events one after another
  pub events : (s : Durable) (events : List Event) → traces_of (after_events s events) ≡ fold traces_after (traces_of s) events
