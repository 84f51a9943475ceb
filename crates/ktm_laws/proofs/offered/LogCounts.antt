-- What applies within the counts of events and of boots.
use Rattle.std.proofs.Common.{◌≡◌, ℕ, ◌+◌, ◌-◌, ◌<◌, ◌^◌, Bool, true, false, List, [], ◌∷◌, ◌++◌, length, nat_le, Option, refl, arith}
use Rattle.std.proofs.lemmas.Bool.{and_from, and_parts, leb-false, lt-ltb, or_parts}
use Rattle.std.specs.List.{list_all, flat_map}
use Rattle.ktm_world.specs.declared.command.Line.{Line}
use Rattle.ktm_world.specs.declared.event.DonePart.{DonePart}
use Rattle.ktm_world.specs.declared.event.Event.{Event}
use Rattle.ktm_world.specs.Durable.{Durable, Recorded, after_event, after_events, events_apply, fact_applies, fact_of, has_undone, is_within_limits, is_worn}
use Rattle.ktm_world.specs.World.{World, done_if, own_events, own_group, present}
use Rattle.ktm_world.proofs.offered.Durables.{after_events-events}
use Rattle.ktm_records.specs.Kept.{facts_apply, limits_hold}
use Rattle.ktm_records.specs.Spelling.{SpellingLaw, most_at_once}
use Rattle.ktm_laws.specs.Running.{HasEventsLeft, LastsFor}
use Rattle.txf_laws.specs.GoodState.{IsGoodState, is_drawn, is_of_object}
use Rattle.txf_laws.specs.Grammatical.{is_grammatical}
use Rattle.txf_laws.specs.OwnGroup.{OwnGroupLaw}
use Rattle.txf_laws.proofs.offered.Elements.{list_all-at, list_all-from, IsIn-unflat}

-- ---- what applies

-- events apply where the facts do, the limits hold, and they do not come to the end of their count
pub apply-from : (events : List Event) (s : Durable) → facts_apply s events ≡ true → limits_hold s events ≡ true → s.events + length events < 2 ^ 63 → events_apply s events ≡ true
apply-from [] s facts limits few = refl
apply-from (event ∷ events) s facts limits few =
    let fact = and_parts (fact_applies s event) (facts_apply (after_event s event) events) facts in
    let limit = and_parts (is_within_limits (fact_of s event)) (limits_hold (after_event s event) events) limits in
    and_from _ _ (and_from _ _ (and_from _ _ fact.0 limit.0) (lt-ltb (s.events + 1) (2 ^ 63) (omega (arith, few)))) (apply-from events (after_event s event) fact.1 limit.1 (omega (arith, few)))

-- the count lasts for a line, and for those behind it
pub lasts-behind : (w : World) (line : Option Line) (lines : List (Option Line)) → LastsFor (length (line ∷ lines)) w → LastsFor (length lines + 1) w
lasts-behind w line lines lasts =
    let now = lasts.now in
    let end = lasts.restarted in
    record { now = omega (arith, now); restarted = omega (arith, end) }

-- where the count lasts for a line it lasts for a command
pub left-from : (w : World) (lines : ℕ) → LastsFor (lines + 1) w → HasEventsLeft (present w)
left-from w lines lasts = let now = lasts.now in omega (arith, now)

-- ---- the group of a restart

done-grammatical : (s : Durable) (t : Recorded) → is_drawn s t.id ≡ true → list_all is_grammatical (own_events t) ≡ true
done-grammatical s t drawn = go (has_undone DonePart.Files t) (has_undone DonePart.Keys t)
  where
    object : is_of_object t.id ≡ true
    object = (and_parts (is_of_object t.id) _ drawn).0

    go : (a b : Bool) → list_all is_grammatical (done_if a t.id DonePart.Files ++ done_if b t.id DonePart.Keys) ≡ true
    go true true = and_from _ _ (and_from _ _ (and_from _ _ object refl) refl) (and_from _ _ (and_from _ _ (and_from _ _ object refl) refl) refl)
    go true false = and_from _ _ (and_from _ _ (and_from _ _ object refl) refl) refl
    go false true = and_from _ _ (and_from _ _ (and_from _ _ object refl) refl) refl
    go false false = refl

pub own-grammatical : (s : Durable) → IsGoodState s → list_all is_grammatical (own_group s) ≡ true
own-grammatical s good = and_from _ _ refl (list_all-from is_grammatical (flat_map own_events s.transactions) (λ event there.
    let from = IsIn-unflat own_events s.transactions event there in
    list_all-at is_grammatical (own_events from.0) (done-grammatical s from.0 (list_all-at (λ (t : Recorded). is_drawn s t.id) s.transactions good.transactions_drawn from.0 from.1)) event from.2))

-- of a state that is not worn the counts do not end with it
pub counts-left : (s : Durable) → is_worn s ≡ false → (s.boots + 2 < 2 ^ 32) × (s.events < 2 ^ 62)
counts-left s fresh =
    let parts = or_parts (nat_le (2 ^ 32 - 2) s.boots) (nat_le (2 ^ 62) s.events) fresh in
    let boots = leb-false (2 ^ 32 - 2) s.boots parts.0 in
    let events = leb-false (2 ^ 62) s.events parts.1 in
    (omega (arith, boots), omega (arith, events))

-- a good state that is not worn takes it
pub own-applies : OwnGroupLaw → SpellingLaw → (s : Durable) → IsGoodState s → is_worn s ≡ false → events_apply s (own_group s) ≡ true
own-applies law spelling s good fresh =
    let left = counts-left s fresh in
    let few = (spelling.own_groups s good).1 in
    let events = left.1 in
    (law s good left.0 (omega (arith, few, events))).0

-- so many events there are then
pub own-counts : SpellingLaw → (s : Durable) → IsGoodState s → is_worn s ≡ false → (after_events s (own_group s)).events < 2 ^ 62 + most_at_once
own-counts spelling s good fresh =
    let before = (counts-left s fresh).1 in
    let few = (spelling.own_groups s good).1 in
    let all = after_events-events s (own_group s) in
    omega (arith, before, few, all)
