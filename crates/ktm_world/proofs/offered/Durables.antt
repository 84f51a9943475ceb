-- What the groups of a log make of a durable state, group after group.
use Rattle.std.proofs.Common.{◌≡◌, ℕ, ◌+◌, ◌-◌, ◌^◌, ◌≤◌, ◌==◌, ◌&&◌, Bool, true, List, [], ◌∷◌, ◌++◌, length, nat_lt, nat_le, IsTrue, Option, None, Some, refl, sym, ◌∙◌, ap, arith}
use Rattle.std.proofs.Math.Bool.{and_assoc, and-true}
use Rattle.std.proofs.lemmas.Bool.{and_parts, eqb-true, leb-true}
use Rattle.std.proofs.lemmas.List.Sums.{fold-append}
use Rattle.ktm_base.specs.declared.limits.TheConstants.{MOST_LIVE}
use Rattle.ktm_world.specs.declared.event.DonePart.{DonePart}
use Rattle.ktm_world.specs.declared.event.Event.{Event}
use Rattle.ktm_world.specs.declared.event.Event.TheVariants.{Boot, MadeRm, Plain, Ready, Single, Held, Decide, Undo, Done}
use Rattle.ktm_world.specs.Durable.{Durable, Recorded, stand, fact_of, fact_applies, event_applies, after_event, after_events, events_apply, log_applies, decide_recorded, finish_recorded, recorded_at, units_in_use, nodes_in_use, keys_in_use, changes_in_wait, enlistments_in_use, is_within_limits}
use Rattle.ktm_world.specs.Logs.{Group, as_groups}

pub after_events-append : (s : Durable) (a b : List Event) → after_events s (a ++ b) ≡ after_events (after_events s a) b
after_events-append s a b = fold-append after_event s a b

pub stand-append : (base : Durable) (gs hs : List Group) → stand base (gs ++ hs) ≡ stand (stand base gs) hs
stand-append base gs hs = fold-append after_events base gs hs

pub stand-as_groups : (s : Durable) (events : List Event) → stand s (as_groups events) ≡ after_events s events
stand-as_groups s [] = refl
stand-as_groups s (event ∷ events) = refl

pub log_applies-append : (base : Durable) (gs hs : List Group) → log_applies base (gs ++ hs) ≡ (log_applies base gs && log_applies (stand base gs) hs)
log_applies-append base [] hs = refl
log_applies-append base (g ∷ gs) hs =
    ap (λ b. events_apply base g && b) (log_applies-append (after_events base g) gs hs)
    ∙ sym (and_assoc (events_apply base g) (log_applies (after_events base g) gs) (log_applies (stand (after_events base g) gs) hs))

pub log_applies-as_groups : (s : Durable) (events : List Event) → log_applies s (as_groups events) ≡ events_apply s events
log_applies-as_groups s [] = refl
log_applies-as_groups s (event ∷ events) = and-true (events_apply s (event ∷ events))

-- ---- no event changes the units or the image, and each counts for one

decided-header : (s : Durable) (t : Option Recorded) → (decide_recorded s t).units ≡ s.units
decided-header s None = refl
decided-header s (Some t) = refl

decided-image : (s : Durable) (t : Option Recorded) → (decide_recorded s t).image ≡ s.image
decided-image s None = refl
decided-image s (Some t) = refl

finished-units : (s : Durable) (done : DonePart) (t : Option Recorded) → (finish_recorded s done t).units ≡ s.units
finished-units s done None = refl
finished-units s done (Some t) = refl

finished-image : (s : Durable) (done : DonePart) (t : Option Recorded) → (finish_recorded s done t).image ≡ s.image
finished-image s done None = refl
finished-image s done (Some t) = refl

pub after_event-units : (s : Durable) (event : Event) → (after_event s event).units ≡ s.units
after_event-units s (Boot boot) = refl
after_event-units s (MadeRm manager) = refl
after_event-units s (Plain change) = refl
after_event-units s (Ready transaction part) = refl
after_event-units s (Single transaction part) = refl
after_event-units s (Held transaction enlistment manager information) = refl
after_event-units s (Decide transaction) = decided-header s (recorded_at s.transactions transaction)
after_event-units s (Undo transaction) = refl
after_event-units s (Done transaction done) = finished-units s done (recorded_at s.transactions transaction)

after_event-image : (s : Durable) (event : Event) → (after_event s event).image ≡ s.image
after_event-image s (Boot boot) = refl
after_event-image s (MadeRm manager) = refl
after_event-image s (Plain change) = refl
after_event-image s (Ready transaction part) = refl
after_event-image s (Single transaction part) = refl
after_event-image s (Held transaction enlistment manager information) = refl
after_event-image s (Decide transaction) = decided-image s (recorded_at s.transactions transaction)
after_event-image s (Undo transaction) = refl
after_event-image s (Done transaction done) = finished-image s done (recorded_at s.transactions transaction)

pub after_events-units : (s : Durable) (events : List Event) → (after_events s events).units ≡ s.units
after_events-units s [] = refl
after_events-units s (event ∷ events) = after_events-units (after_event s event) events ∙ after_event-units s event

pub after_events-image : (s : Durable) (events : List Event) → (after_events s events).image ≡ s.image
after_events-image s [] = refl
after_events-image s (event ∷ events) = after_events-image (after_event s event) events ∙ after_event-image s event

pub after_events-events : (s : Durable) (events : List Event) → (after_events s events).events ≡ s.events + length events
after_events-events s [] = omega arith
after_events-events s (event ∷ events) = after_events-events (after_event s event) events ∙ omega arith

pub stand-units : (base : Durable) (log : List Group) → (stand base log).units ≡ base.units
stand-units base [] = refl
stand-units base (group ∷ groups) = stand-units (after_events base group) groups ∙ after_events-units base group

pub stand-image : (base : Durable) (log : List Group) → (stand base log).image ≡ base.image
stand-image base [] = refl
stand-image base (group ∷ groups) = stand-image (after_events base group) groups ∙ after_events-image base group

-- how many events there are in the groups
abbrev pub count_events : List Group → ℕ
count_events [] = 0
count_events (group ∷ groups) = length group + count_events groups

pub stand-events : (base : Durable) (log : List Group) → (stand base log).events ≡ base.events + count_events log
stand-events base [] = omega arith
stand-events base (group ∷ groups) = let more = after_events-events base group in stand-events (after_events base group) groups ∙ omega (arith, more)

-- ---- the keys stay within the units

third : (a b c d e f g : Bool) → (a && b && c && d && e && f && g) ≡ true → c ≡ true
third a b c d e f g all =
    (and_parts (a && b) c (and_parts (a && b && c) d (and_parts (a && b && c && d) e (and_parts (a && b && c && d && e) f (and_parts (a && b && c && d && e && f) g all).0).0).0).0).1

few_within : (s : Durable) → is_within_limits s ≡ true → length s.keys ≤ s.units
unfolding is_within_limits
few_within s within =
    let few = leb-true (keys_in_use s) s.units
    (third (nat_le (units_in_use s) s.units) (nat_le (nodes_in_use s) s.units) (nat_le (keys_in_use s) s.units) (nat_le (changes_in_wait s) s.units) (nat_le (length s.transactions) MOST_LIVE)
    (nat_le (enlistments_in_use s) MOST_LIVE) (nat_le (length s.managers) MOST_LIVE) within) in
    omega (arith, few)

after_event-keys : (s : Durable) (event : Event) → IsTrue (event_applies s event) → length (after_event s event).keys ≤ s.units
after_event-keys s event applies =
    let parts = and_parts (fact_applies s event && is_within_limits (fact_of s event)) (nat_lt (s.events + 1) (2 ^ 63)) applies in
    let same = after_event-units s event in
    let few = few_within (fact_of s event) (and_parts (fact_applies s event) (is_within_limits (fact_of s event)) parts.0).1 in
    omega (arith, same, few)

after_events-keys : (s : Durable) (events : List Event) → IsTrue (events_apply s events) → length s.keys ≤ s.units → length (after_events s events).keys ≤ s.units
after_events-keys s [] applies within = within
after_events-keys s (event ∷ events) applies within =
    let parts = and_parts (event_applies s event) (events_apply (after_event s event) events) applies in
    let same = after_event-units s event in
    let one = after_event-keys s event parts.0 in
    let rest = after_events-keys (after_event s event) events parts.1 (omega (arith, same, one)) in
    omega (arith, same, rest)

pub few_keys : (base : Durable) (log : List Group) → IsTrue (log_applies base log) → length base.keys ≤ base.units → length (stand base log).keys ≤ base.units
few_keys base [] applies within = within
few_keys base (group ∷ groups) applies within =
    let parts = and_parts (events_apply base group) (log_applies (after_events base group) groups) applies in
    let same = after_events-units base group in
    let one = after_events-keys base group parts.0 within in
    let rest = few_keys (after_events base group) groups parts.1 (omega (arith, same, one)) in
    omega (arith, same, rest)

-- ---- each boot is an event

decided-boots : (s : Durable) (t : Option Recorded) → (decide_recorded s t).boots ≡ s.boots
decided-boots s None = refl
decided-boots s (Some t) = refl

finished-boots : (s : Durable) (done : DonePart) (t : Option Recorded) → (finish_recorded s done t).boots ≡ s.boots
finished-boots s done None = refl
finished-boots s done (Some t) = refl

after_event-boots : (s : Durable) (event : Event) → IsTrue (fact_applies s event) → s.boots ≤ s.events → (after_event s event).boots ≤ s.events + 1
after_event-boots s (Boot boot) applies few =
    let next = and_parts (boot == s.boots + 1) (nat_lt boot (2 ^ 32 - 1)) applies in
    let is : boot ≡ s.boots + 1 = eqb-true boot (s.boots + 1) next.0 in
    omega (arith, is, few)
after_event-boots s (MadeRm manager) applies few = omega (arith, few)
after_event-boots s (Plain change) applies few = omega (arith, few)
after_event-boots s (Ready transaction part) applies few = omega (arith, few)
after_event-boots s (Single transaction part) applies few = omega (arith, few)
after_event-boots s (Held transaction enlistment manager information) applies few = omega (arith, few)
after_event-boots s (Decide transaction) applies few = omega (arith, few, decided-boots s (recorded_at s.transactions transaction))
after_event-boots s (Undo transaction) applies few = omega (arith, few)
after_event-boots s (Done transaction done) applies few = omega (arith, few, finished-boots s done (recorded_at s.transactions transaction))

after_events-boots : (s : Durable) (events : List Event) → IsTrue (events_apply s events) → s.boots ≤ s.events → (after_events s events).boots ≤ (after_events s events).events
after_events-boots s [] applies few = few
after_events-boots s (event ∷ events) applies few =
    let parts = and_parts (event_applies s event) (events_apply (after_event s event) events) applies in
    let one = and_parts (fact_applies s event && is_within_limits (fact_of s event)) (nat_lt (s.events + 1) (2 ^ 63)) parts.0 in
    let fact = and_parts (fact_applies s event) (is_within_limits (fact_of s event)) one.0 in
    after_events-boots (after_event s event) events parts.1 (after_event-boots s event fact.0 few)

pub few_boots : (base : Durable) (log : List Group) → IsTrue (log_applies base log) → base.boots ≤ base.events → (stand base log).boots ≤ (stand base log).events
few_boots base [] applies few = few
few_boots base (group ∷ groups) applies few =
    let parts = and_parts (events_apply base group) (log_applies (after_events base group) groups) applies in
    few_boots (after_events base group) groups parts.1 (after_events-boots base group parts.0 few)
