-- What an event that is taken has been tested for.
use Rattle.std.proofs.Common.{◌≡◌, ℕ, ◌+◌, ◌^◌, ◌==◌, ◌&&◌, not, Bool, true, false, List, [], Option, Some, None, nat_lt, is_none, refl, sym, ◌∙◌, ap, subst}
use Rattle.std.specs.Prelude.{Result, Ok, Err, IfOk}
use Rattle.std.proofs.Math.Bool.{and-true}
use Rattle.std.proofs.lemmas.Bool.{and_left, and_parts, true≢false}
use Rattle.ktm_base.specs.declared.id.Id.{Id}
use Rattle.ktm_world.specs.declared.change.Change.{Change}
use Rattle.ktm_world.specs.declared.event.Event.{Event}
use Rattle.ktm_world.specs.declared.event.Event.TheVariants.{Single}
use Rattle.ktm_world.specs.declared.event.Part.{Part}
use Rattle.ktm_world.specs.declared.event.Part.TheVariants.{Changes, Settings}
use Rattle.ktm_world.specs.Durable.{Durable, Recorded, are_recorded_changes, event_applies, fact_applies, fact_of, has_changes_part, has_settings_part, is_within_limits, recorded_at, recorded_changes_apply, recorded_or_new, settings_apply, with_committed}
use Rattle.ktm_world.specs.Keys.{OwnSettings, are_good_settings}
use Rattle.ktm_replayed.specs.Replayed.{Takes}
use Rattle.ktm_waiting.proofs.offered.TableSteps.{or-new, or_new}

takes-by : (s s' : Durable) (event : Event) (taken : Bool) → taken ≡ fact_applies s event → (taken ≡ true → s' ≡ fact_of s event) → Takes s event taken s'
takes-by s s' event taken is after = record {
  refused = λ none. and_left _ _ (and_left _ _ (sym is ∙ none));
  fact = λ some. sym is ∙ some;
  after = after;
}

pub takes-none : (s s' : Durable) (event : Event) → event_applies s event ≡ false → Takes s event false s'
takes-none s s' event none = record { refused = λ refused. none; fact = λ is. absurd (true≢false (sym is)); after = λ is. absurd (true≢false (sym is)) }

pub takes-ok : {E : Type 0} (r : Result Bool E) (s s' : Durable) (event : Event) (b : Bool) → b ≡ fact_applies s event → IfOk r (λ a. a ≡ b) → (r ≡ Ok true → s' ≡ fact_of s event) → IfOk r (λ taken. Takes s event taken s')
takes-ok (Ok a) s s' event b is same after = takes-by s s' event a (same ∙ is) (λ some. after (ap Ok some))
takes-ok (Err e) s s' event b is same after = tt

-- one that is taken unless its limits are passed
pub takes-tested : {E : Type 0} (r : Result Bool E) (s s' : Durable) (event : Event) → fact_applies s event ≡ true → (r ≡ Ok true → s' ≡ fact_of s event) → (r ≡ Ok false → is_within_limits (fact_of s event) ≡ false) → IfOk r (λ taken. Takes s event taken s')
takes-tested (Ok true) s s' event fact after past = takes-by s s' event true (sym fact) (λ is. after refl)
takes-tested (Ok false) s s' event fact after past =
    takes-none s s' event (ap (λ b. b && is_within_limits (fact_of s event) && nat_lt (s.events + 1) (2 ^ 63)) fact ∙ ap (λ b. b && nat_lt (s.events + 1) (2 ^ 63)) (past refl))
takes-tested (Err e) s s' event fact after past = tt

-- of a transaction of which nothing is recorded, no part is
new-changes : (ts : List Recorded) (id : Id) → is_none (recorded_at ts id) ≡ true → not (has_changes_part (recorded_or_new ts id)) ≡ true
new-changes ts id none = ap (λ (t : Recorded). not (has_changes_part t)) (or-new ts id) ∙ go (recorded_at ts id) none
  where
    go : (o : Option Recorded) → is_none o ≡ true → not (has_changes_part (or_new id o)) ≡ true
    go None is = refl
    go (Some t) is = absurd (true≢false (sym is))

new-settings : (ts : List Recorded) (id : Id) → is_none (recorded_at ts id) ≡ true → not (has_settings_part (recorded_or_new ts id)) ≡ true
new-settings ts id none = ap (λ (t : Recorded). not (has_settings_part t)) (or-new ts id) ∙ go (recorded_at ts id) none
  where
    go : (o : Option Recorded) → is_none o ≡ true → not (has_settings_part (or_new id o)) ≡ true
    go None is = refl
    go (Some t) is = absurd (true≢false (sym is))

-- the one part of a transaction, where the transaction is of the present boot and nothing of it is recorded
single-changes : (s : Durable) (id : Id) (cs : List Change) → (id.boot == s.boots && is_none (recorded_at s.transactions id)) ≡ true
    → (are_recorded_changes cs && recorded_changes_apply s (Some id) cs) ≡ fact_applies s (Single id (Changes cs))
single-changes s id cs may =
    let new = new-changes s.transactions id (and_parts (id.boot == s.boots) (is_none (recorded_at s.transactions id)) may).1 in
    ap (λ b. (b && are_recorded_changes cs) && recorded_changes_apply s (Some id) cs) (sym new)
    ∙ ap (λ b. b && true && (not (has_changes_part (recorded_or_new s.transactions id)) && are_recorded_changes cs && recorded_changes_apply s (Some id) cs)) (sym may)

pub single-settings : (s : Durable) (id : Id) (ss : OwnSettings) → (id.boot == s.boots && is_none (recorded_at s.transactions id)) ≡ true
    → (are_good_settings ss && settings_apply s (Some id) ss) ≡ fact_applies s (Single id (Settings ss))
single-settings s id ss may =
    let new = new-settings s.transactions id (and_parts (id.boot == s.boots) (is_none (recorded_at s.transactions id)) may).1 in
    ap (λ b. (b && are_good_settings ss) && settings_apply s (Some id) ss) (sym new)
    ∙ ap (λ b. b && true && (not (has_settings_part (recorded_or_new s.transactions id)) && are_good_settings ss && settings_apply s (Some id) ss)) (sym may)

pub takes-changes : {E : Type 0} (r : Result Bool E) (s s' : Durable) (id : Id) (part : Part) (cs : List Change) → Changes cs ≡ part
    → (id.boot == s.boots && is_none (recorded_at s.transactions id)) ≡ true → IfOk r (λ a. a ≡ (are_recorded_changes cs && recorded_changes_apply s (Some id) cs))
    → (r ≡ Ok true → s' ≡ with_committed s cs []) → IfOk r (λ taken. Takes s (Single id part) taken s')
takes-changes r s s' id part cs is may applies after =
    subst (λ (p : Part). IfOk r (λ taken. Takes s (Single id p) taken s')) is
    (takes-ok r s s' (Single id (Changes cs)) (are_recorded_changes cs && recorded_changes_apply s (Some id) cs) (single-changes s id cs may) applies after)

pub takes-settings : {E : Type 0} (r : Result Bool E) (s s' : Durable) (id : Id) (part : Part) (ss : OwnSettings) → Settings ss ≡ part
    → (id.boot == s.boots && is_none (recorded_at s.transactions id)) ≡ true → IfOk r (λ a. a ≡ (are_good_settings ss && settings_apply s (Some id) ss))
    → (r ≡ Ok true → s' ≡ with_committed s [] ss) → IfOk r (λ taken. Takes s (Single id part) taken s')
takes-settings r s s' id part ss is may applies after =
    subst (λ (p : Part). IfOk r (λ taken. Takes s (Single id p) taken s')) is
    (takes-ok r s s' (Single id (Settings ss)) (are_good_settings ss && settings_apply s (Some id) ss) (single-settings s id ss may) applies after)

-- ---- the limits

-- an event that is taken, and may be counted, applies where the limits hold
pub event-tested : (s : Durable) (event : Event) → fact_applies s event ≡ true → nat_lt (s.events + 1) (2 ^ 63) ≡ true → is_within_limits (fact_of s event) ≡ event_applies s event
event-tested s event fact left =
    sym (ap (λ b. b && is_within_limits (fact_of s event) && nat_lt (s.events + 1) (2 ^ 63)) fact ∙ ap (λ b. is_within_limits (fact_of s event) && b) left ∙ and-true (is_within_limits (fact_of s event)))

-- the limits do not depend on how many events there were
pub limits-counted : (s : Durable) (events : ℕ) → is_within_limits (record s { events = events }) ≡ is_within_limits s
unfolding is_within_limits
limits-counted s events = refl
