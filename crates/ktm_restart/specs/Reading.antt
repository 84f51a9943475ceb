-- The state of an image while its log is read, with the owners of pages, and what an event names that is read. No public clause cites this module.
use Rattle.std.specs.Prelude.{◌≡◌, ℕ, Bool, List, length, nat_lt, Option, Some, None, if◌then◌else◌}
use Rattle.std.specs.List.{list_all}
use Rattle.ktm_codec.specs.Spans.{Spans}
use Rattle.ktm_journal.specs.Image.{page_count}
use Rattle.ktm_owners.specs.declared.owners.Owner.{Owner}
use Rattle.ktm_owners.specs.Owners.{AreOwnersOf}
use Rattle.ktm_paged.specs.Meaning.{has_event_its_pages, meant_event, pages_in}
use Rattle.ktm_paged.specs.Paged.{LieBelow, PagedApplies, paged_after}
use Rattle.ktm_restart.specs.Logs.{IsOnPages}
use Rattle.txf_laws.specs.GoodState.{IsGoodState}
use Rattle.txf_laws.specs.Grammatical.{changes_of_event}
use Rattle.ktm_world.specs.declared.event.Event.{Event}
use Rattle.ktm_world.specs.Durable.{Durable}
use Rattle.ktm_world.specs.EventGrammar.{IsEventOf}
use Rattle.ktm_world.specs.Tree.{Tree}

-- a state that is read, with the owners of its pages
pub record ReadingState : Type 0 where
  pub state : Durable
  pub owners : List Owner

-- the state is good, its contents lie on pages of its image, and these are the owners
pub record IsReadWell (r : ReadingState) : Type 0 where
  pub good : IsGoodState r.state
  pub below : LieBelow (page_count r.state.units) r.state
  pub many : length r.owners ≡ page_count r.state.units
  pub known : AreOwnersOf r.owners r.state

-- this state is read, if it is on pages
abbrev pub ReadsOn : Durable → Option ReadingState → Type 0
ReadsOn s None = ¬ IsOnPages s
ReadsOn s (Some r) = (r.state ≡ s) × IsOnPages r.state × IsReadWell r

-- are the pages that an event names, as it is recorded, among the first so many
abbrev pub is_event_below : ℕ → Event → Bool
is_event_below count event = list_all (λ change. list_all (λ page. nat_lt page count) (pages_in change)) (changes_of_event event)

-- what an event means, if it has its pages
abbrev pub event_if_paged : Tree → Event → Option Event
event_if_paged tree event = if has_event_its_pages tree event then Some (meant_event tree event) else None

-- the event that is spelled between these places was applied, as it is recorded
pub record IsApplied (bytes : List ℕ) (at end : ℕ) (old new : ReadingState) : Type 0 where
  pub event : Event
  pub spelled : Spans (IsEventOf event) bytes at end
  pub applies : PagedApplies (page_count old.state.units) old.state event
  pub after : new.state ≡ paged_after old.state event
  pub well : IsReadWell new

-- no event that is spelled from the place on applies
abbrev pub IsBadEvent : List ℕ → ℕ → Durable → Type 0
IsBadEvent bytes at state = (event : Event) (end : ℕ) → Spans (IsEventOf event) bytes at end → ¬ PagedApplies (page_count state.units) state event

-- the event up to the place that is answered was applied, or there is none that applies
abbrev pub EventLeaves : List ℕ → ℕ → ReadingState → ReadingState → Option ℕ → Type 0
EventLeaves bytes at old new None = IsBadEvent bytes at old.state
EventLeaves bytes at old new (Some end) = IsApplied bytes at end old new
