-- What a durable state comes to does not depend on the bytes of files.
use Rattle.std.specs.Prelude.{◌≡◌, ℕ, List, map}
use Rattle.std.specs.List.{list_all}
use Rattle.ktm_world.specs.declared.change.Change.{Change}
use Rattle.ktm_world.specs.declared.event.Event.{Event}
use Rattle.ktm_world.specs.Changes.{changed, changed_all, applies, changes_apply}
use Rattle.ktm_world.specs.Durable.{Durable, after_event, after_events, stand, event_applies, events_apply, log_applies, is_within_limits, is_worn}
use Rattle.ktm_world.specs.Logs.{Group}
use Rattle.ktm_world.specs.Tree.{Tree}
use Rattle.ktm_world.specs.World.{own_group}
use Rattle.txf_laws.specs.GoodState.{IsGoodState}
use Rattle.txf_laws.specs.Grammatical.{is_grammatical}
use Rattle.ktm_mapped.specs.Mapped.{IsBlank, mapped_tree, mapped_change, mapped_event, mapped_group, mapped_log, mapped_durable}

-- changes with their bytes replaced apply to the same trees, and make the same ones with their bytes replaced
pub record ChangesAlike (f : ℕ → ℕ) : Type 0 where
  pub one : (tree : Tree) (c : Change) → changed (mapped_tree f tree) (mapped_change f c) ≡ mapped_tree f (changed tree c)
  pub one_applies : (tree : Tree) (c : Change) → applies (mapped_tree f tree) (mapped_change f c) ≡ applies tree c
  pub all : (tree : Tree) (cs : List Change) → changed_all (mapped_tree f tree) (map (mapped_change f) cs) ≡ mapped_tree f (changed_all tree cs)
  pub all_apply : (tree : Tree) (cs : List Change) → changes_apply (mapped_tree f tree) (map (mapped_change f) cs) ≡ changes_apply tree cs

-- events with their bytes replaced apply to the same states, and make the same ones with their bytes replaced: one event, some, and a log
pub record EventsAlike (f : ℕ → ℕ) : Type 0 where
  pub one : (s : Durable) (event : Event) → after_event (mapped_durable f s) (mapped_event f event) ≡ mapped_durable f (after_event s event)
  pub one_applies : (s : Durable) (event : Event) → event_applies (mapped_durable f s) (mapped_event f event) ≡ event_applies s event
  pub all : (s : Durable) (events : Group) → after_events (mapped_durable f s) (mapped_group f events) ≡ mapped_durable f (after_events s events)
  pub all_apply : (s : Durable) (events : Group) → events_apply (mapped_durable f s) (mapped_group f events) ≡ events_apply s events
  pub log : (base : Durable) (groups : List Group) → stand (mapped_durable f base) (mapped_log f groups) ≡ mapped_durable f (stand base groups)
  pub log_apply : (base : Durable) (groups : List Group) → log_applies (mapped_durable f base) (mapped_log f groups) ≡ log_applies base groups
  -- and the grammar has the same of them
  pub grammatical : (events : Group) → list_all is_grammatical (mapped_group f events) ≡ list_all is_grammatical events
  pub log_grammatical : (groups : List Group) → list_all (list_all is_grammatical) (mapped_log f groups) ≡ list_all (list_all is_grammatical) groups

-- a state with its bytes replaced is good where the state is, and passes the same tests
pub record StatesAlike (f : ℕ → ℕ) : Type 0 where
  pub good : (s : Durable) → IsGoodState s → IsGoodState (mapped_durable f s)
  pub only_good : (s : Durable) → IsGoodState (mapped_durable f s) → IsGoodState s
  pub within : (s : Durable) → is_within_limits (mapped_durable f s) ≡ is_within_limits s
  pub worn : (s : Durable) → is_worn (mapped_durable f s) ≡ is_worn s
  -- a restart of it records the same, in which no bytes are
  pub own : (s : Durable) → own_group (mapped_durable f s) ≡ own_group s
  pub own_kept : (s : Durable) → mapped_group f (own_group s) ≡ own_group s

-- with every byte of every content replaced by another one, and zero by zero, a durable state takes the same events and comes to the same with the bytes replaced
abbrev pub MappedLaw : Type 0
MappedLaw = (f : ℕ → ℕ) → IsBlank f → ChangesAlike f × EventsAlike f × StatesAlike f
