-- Good durable states stay good.
use Rattle.std.specs.Prelude.{◌≡◌, ℕ, ◌<◌, ◌≤◌, ◌^◌, true, List}
use Rattle.std.specs.List.{list_all}
use Rattle.ktm_base.specs.declared.limits.TheConstants.{LEAST_UNITS}
use Rattle.ktm_world.specs.declared.event.Event.{Event}
use Rattle.ktm_world.specs.Durable.{Durable, empty_state, after_event, after_events, stand, event_applies, events_apply, log_applies}
use Rattle.txf_laws.specs.GoodState.{IsGoodState}
use Rattle.txf_laws.specs.Grammatical.{is_grammatical}

-- the state of an image that was just formatted is good, and a good state stays good by each event that applies, by events, and by a log
abbrev pub GoodStatesLaw : Type 0
GoodStatesLaw = ((units image : ℕ) → LEAST_UNITS ≤ units → image < 2 ^ 16 → IsGoodState (empty_state units image))
    × ((s : Durable) (event : Event) → IsGoodState s → is_grammatical event ≡ true → event_applies s event ≡ true → IsGoodState (after_event s event))
    × ((s : Durable) (events : List Event) → IsGoodState s → list_all is_grammatical events ≡ true → events_apply s events ≡ true → IsGoodState (after_events s events))
    × ((base : Durable) (log : List (List Event)) → IsGoodState base → list_all (list_all is_grammatical) log ≡ true → log_applies base log ≡ true → IsGoodState (stand base log))
