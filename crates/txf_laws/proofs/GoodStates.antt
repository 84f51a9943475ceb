-- Good durable states stay good.
use Rattle.std.proofs.Common.{◌≡◌, ℕ, ◌+◌, ◌<◌, ◌≤◌, ◌^◌, ◌&&◌, true, List, [], ◌∷◌, nat_lt, Some, refl, arith}
use Rattle.std.proofs.lemmas.Bool.{and_parts, and_from, le-leb, ltb-true}
use Rattle.std.proofs.lemmas.List.Elements.{All-nil}
use Rattle.std.specs.List.{list_all}
use Rattle.ktm_base.specs.declared.limits.TheConstants.{LEAST_UNITS}
use Rattle.ktm_base.specs.Names.{IsName}
use Rattle.ktm_world.specs.declared.recorded.Node.{Node}
use Rattle.ktm_world.specs.declared.event.Event.{Event}
use Rattle.ktm_world.specs.declared.event.Event.TheVariants.{Boot, MadeRm, Plain, Ready, Single, Held, Decide, Undo, Done}
use Rattle.ktm_world.specs.Durable.{Durable, empty_state, after_event, after_events, stand, fact_of, fact_applies, event_applies, events_apply, log_applies, is_within_limits}
use Rattle.ktm_world.specs.Tree.{IsWellFormed, is_directory, is_at_or_below, child_of, root}
use Rattle.txf_laws.specs.Footprint.{ListsLaw}
use Rattle.txf_laws.specs.Formed.{FormedLaw}
use Rattle.txf_laws.specs.GoodState.{IsGoodState}
use Rattle.txf_laws.specs.GoodStates.{GoodStatesLaw}
use Rattle.txf_laws.specs.Grammatical.{is_grammatical}
use Rattle.txf_laws.proofs.StateEvents.{Keeps, boot-keeps, made-keeps, undo-keeps, plain-keeps, single-keeps}
use Rattle.txf_laws.proofs.ReadyEvents.{ready-keeps}
use Rattle.txf_laws.proofs.DecidedEvents.{decide-keeps}
use Rattle.txf_laws.proofs.offered.DoneEvents.{done-keeps}
use Rattle.txf_laws.proofs.HeldEvents.{held-keeps}

-- ---- an image that was just formatted

IsWellFormed-empty : IsWellFormed []
IsWellFormed-empty = record {
  parents = All-nil (λ (node : Node). is_directory [] node.parent ≡ true);
  reach = All-nil (λ (node : Node). is_at_or_below [] node.number root ≡ true);
  names = All-nil (λ (node : Node). IsName node.name);
  one_each = All-nil (λ (node : Node). child_of [] node.parent node.name ≡ Some node);
  numbers = All-nil (λ (node : Node). 2 ≤ node.number);
  rise = refl;
}

empty-limits : (units image : ℕ) → LEAST_UNITS ≤ units → is_within_limits (empty_state units image) ≡ true
unfolding is_within_limits
empty-limits units image many =
    and_from _ _ (and_from _ _ (and_from _ _ (and_from _ _ (and_from _ _ (and_from _ _
    (le-leb 0 units (omega arith)) (le-leb 1 units (omega arith))) (le-leb 0 units (omega arith))) (le-leb 0 units (omega arith))) refl) refl) refl

empty-good : (units image : ℕ) → LEAST_UNITS ≤ units → image < 2 ^ 16 → IsGoodState (empty_state units image)
empty-good units image many number = record {
  image_fits = number;
  transactions_rise = refl;
  managers_rise = refl;
  enlistments_differ = refl;
  transactions_drawn = refl;
  managers_drawn = refl;
  enlistments_drawn = refl;
  managers_there = refl;
  information_fits = refl;
  parts = refl;
  ready = refl;
  held = refl;
  decided = refl;
  done = refl;
  changes = refl;
  apply = refl;
  made = refl;
  new = refl;
  puts = refl;
  settings = refl;
  apart = refl;
  keys_apart = refl;
  limits = empty-limits units image many;
  events_left = omega arith;
  boots_left = omega arith;
  files = IsWellFormed-empty;
  nodes_below = refl;
  next_from = omega arith;
  next_to = omega arith;
  keys_rise = refl;
  keys_good = refl;
}

-- ---- events

module _ (lists : ListsLaw) (formed : FormedLaw) where
  keeps : (s : Durable) (event : Event) → Keeps s event
  keeps s (Boot boot) = boot-keeps s boot
  keeps s (MadeRm manager) = made-keeps s manager
  keeps s (Plain change) = plain-keeps lists formed s change
  keeps s (Ready transaction part) = ready-keeps s transaction part
  keeps s (Single transaction part) = single-keeps lists formed s transaction part
  keeps s (Held transaction enlistment manager information) = held-keeps s transaction enlistment manager information
  keeps s (Decide transaction) = decide-keeps lists formed s transaction
  keeps s (Undo transaction) = undo-keeps s transaction
  keeps s (Done transaction done) = done-keeps s transaction done

  good-after : (s : Durable) (event : Event) → IsGoodState s → is_grammatical event ≡ true → event_applies s event ≡ true → IsGoodState (after_event s event)
  good-after s event good spelled applies =
      let few = and_parts (fact_applies s event && is_within_limits (fact_of s event)) (nat_lt (s.events + 1) (2 ^ 63)) applies in
      let both = and_parts (fact_applies s event) (is_within_limits (fact_of s event)) few.0 in
      keeps s event good spelled both.0 both.1 (ltb-true _ _ few.1)

  good-after-events : (s : Durable) (events : List Event) → IsGoodState s → list_all is_grammatical events ≡ true → events_apply s events ≡ true → IsGoodState (after_events s events)
  good-after-events s [] good spelled apply = good
  good-after-events s (event ∷ events) good spelled apply =
      let parts = and_parts (event_applies s event) (events_apply (after_event s event) events) apply in
      let words = and_parts (is_grammatical event) (list_all is_grammatical events) spelled in
      good-after-events (after_event s event) events (good-after s event good words.0 parts.0) words.1 parts.1

  good-after-log : (base : Durable) (log : List (List Event)) → IsGoodState base → list_all (list_all is_grammatical) log ≡ true → log_applies base log ≡ true → IsGoodState (stand base log)
  good-after-log base [] good spelled apply = good
  good-after-log base (group ∷ groups) good spelled apply =
      let parts = and_parts (events_apply base group) (log_applies (after_events base group) groups) apply in
      let words = and_parts (list_all is_grammatical group) (list_all (list_all is_grammatical) groups) spelled in
      good-after-log (after_events base group) groups (good-after-events base group good words.0 parts.0) words.1 parts.1

  pub good_states_law : GoodStatesLaw
  good_states_law = (empty-good, good-after, good-after-events, good-after-log)
