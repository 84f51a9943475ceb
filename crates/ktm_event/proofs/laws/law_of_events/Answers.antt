use Rattle.ktm_event.proofs.OneEvent.{unambiguous_event, one_event}
use Rattle.ktm_event.proofs.Recordable.{event_recorded}
use Rattle.ktm_event.proofs.Spellable.{event_shows}
use Rattle.ktm_event.proofs.laws.law_of_events.Goals as goal

pub returns : goal.returns
returns c = record { event = unambiguous_event; spelling = one_event; written = event_shows; recordable = event_recorded }
