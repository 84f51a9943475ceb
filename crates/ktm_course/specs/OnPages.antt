-- What is recorded of a transaction, of which the contents stand on pages.
use Rattle.std.specs.Prelude.{◌≡◌, All, List, sum_by}
use Rattle.ktm_event.specs.OnPages.{AreEach, IsRecordedChange}
use Rattle.ktm_event.specs.Spelling.{IsSpellableEvent}
use Rattle.ktm_world.specs.Sizes.{event_size}
use Rattle.ktm_world.specs.declared.change.Change.{Change}
use Rattle.ktm_world.specs.declared.event.Event.{Event}
use Rattle.ktm_world.specs.declared.event.Event.TheVariants.{Ready, Single}
use Rattle.ktm_world.specs.declared.event.Part.{Part}
use Rattle.ktm_world.specs.declared.event.Part.TheVariants.{Changes}
use Rattle.ktm_world.specs.declared.step.Step.{Step}
use Rattle.ktm_world.specs.Steps.{Basis, events_ahead}

-- a part as it is recorded
abbrev pub IsRecordedPart : Part → Part → Type 0
IsRecordedPart (Changes changes) (Changes recorded) = AreEach IsRecordedChange changes recorded
IsRecordedPart (Changes changes) recorded = ⊥
IsRecordedPart part recorded = recorded ≡ part

-- an event of a transaction as it is recorded
abbrev pub IsRecordedEvent : Event → Event → Type 0
IsRecordedEvent (Ready transaction part) (Ready transaction' part') = (transaction' ≡ transaction) × IsRecordedPart part part'
IsRecordedEvent (Ready transaction part) recorded = ⊥
IsRecordedEvent (Single transaction part) (Single transaction' part') = (transaction' ≡ transaction) × IsRecordedPart part part'
IsRecordedEvent (Single transaction part) recorded = ⊥
IsRecordedEvent event recorded = recorded ≡ event

-- the events as they are recorded, in their order
abbrev pub AreRecordedEvents : List Event → List Event → Type 0
AreRecordedEvents = AreEach IsRecordedEvent

-- what steps record where a transaction's changes are recorded so; it takes as many bytes, and has a spelling where the events can have one
pub record RecordedLaw : Type 0 where
  pub events : (steps : List Step) (b : Basis) (changes : List Change) → AreEach IsRecordedChange b.changes changes
      → AreRecordedEvents (events_ahead steps b) (events_ahead steps (record b { changes = changes }))
  pub sizes : (events recorded : List Event) → AreRecordedEvents events recorded → sum_by event_size recorded ≡ sum_by event_size events
  pub spellable : (events recorded : List Event) → AreRecordedEvents events recorded → All IsSpellableEvent events → All IsSpellableEvent recorded
