-- What steps record: each event is one of a fact, and there are no more than facts.
use Rattle.std.proofs.Common.{◌≡◌, ℕ, ◌+◌, ◌≤◌, Bool, true, false, List, [], ◌∷◌, ◌++◌, length, Option, Some, None, refl, sym, ◌∙◌, ap, arith, subst}
use Rattle.std.specs.Prelude.{if◌then◌else◌}
use Rattle.std.proofs.lemmas.Bool.{true≢false, and_from}
use Rattle.std.proofs.lemmas.List.{length-append}
use Rattle.std.specs.List.{AllByRecursion, list_all}
use Rattle.ktm_world.specs.declared.event.DonePart.{DonePart}
use Rattle.ktm_world.specs.declared.event.Event.{Event}
use Rattle.ktm_world.specs.declared.event.Part.{Part}
use Rattle.ktm_world.specs.declared.input.PhaseInput.{PhaseInput}
use Rattle.ktm_world.specs.declared.step.Fact.{Fact}
use Rattle.ktm_world.specs.declared.step.Step.{Step}
use Rattle.ktm_world.specs.Changes.{has_changes}
use Rattle.ktm_world.specs.Enlistments.{Enlistment, Manager, is_durable_at, is_superior}
use Rattle.ktm_world.specs.TransactionCalls.{recovery_of}
use Rattle.ktm_world.specs.Phases.{Course, enlistment_part, event_if, has_settings}
use Rattle.ktm_world.specs.Rows.{row}
use Rattle.ktm_world.specs.Steps.{Basis, basis, event_of_caller, events_ahead, events_of, held_event, is_recorded_by, led, seen}
use Rattle.ktm_steps.proofs.offered.Ahead.{events-ahead}
use Rattle.ktm_steps.proofs.offered.Lists.{Pass, row_lists, row-passes}

-- ---- each event

-- the event of each fact is so
pub record Facts (P : Event → Type 0) (b : Basis) : Type 0 where
  pub ready_files : P (Event.Ready b.id (Part.Changes b.changes))
  pub ready_keys : P (Event.Ready b.id (Part.Settings b.settings))
  pub ready : (e : Enlistment) → b.caller ≡ Some e → P (Event.Ready b.id (enlistment_part e))
  pub held : (e : Enlistment) → b.superior ≡ Some e → P (Event.Held b.id e.id e.manager e.information)
  pub decide : P (Event.Decide b.id)
  pub undo : P (Event.Undo b.id)
  pub done_files : P (Event.Done b.id DonePart.Files)
  pub done_keys : P (Event.Done b.id DonePart.Keys)
  pub done : (e : Enlistment) → b.caller ≡ Some e → P (Event.Done b.id (DonePart.Enlistment e.id))
  pub single_files : P (Event.Single b.id (Part.Changes b.changes))
  pub single_keys : P (Event.Single b.id (Part.Settings b.settings))

all-if : (P : Event → Type 0) (is : Bool) (event : Event) → P event → AllByRecursion P (event_if is event)
all-if P true event so = (so, tt)
all-if P false event so = tt

all-of_caller : (P : Event → Type 0) (o : Option Enlistment) (ms : List Manager) (event : Enlistment → Event) → ((e : Enlistment) → o ≡ Some e → P (event e)) → AllByRecursion P (event_of_caller o ms event)
all-of_caller P None ms event so = tt
all-of_caller P (Some e) ms event so = all-if P (is_durable_at ms e.manager) (event e) (so e refl)

all-held : (P : Event → Type 0) (b : Basis) (o : Option Enlistment) → b.superior ≡ o → Facts P b → AllByRecursion P (held_event b.id o)
all-held P b None is facts = tt
all-held P b (Some e) is facts = (facts.held e is, tt)

pub all-append : {X : Type 0} (P : X → Type 0) (xs ys : List X) → AllByRecursion P xs → AllByRecursion P ys → AllByRecursion P (xs ++ ys)
all-append P [] ys all all' = all'
all-append P (x ∷ xs) ys all all' = (all.0, all-append P xs ys all.1 all')

all-of : (P : Event → Type 0) (fact : Fact) (b : Basis) → Facts P b → AllByRecursion P (events_of fact b)
all-of P Fact.ReadyFiles b facts = all-if P (has_changes b.changes) _ facts.ready_files
all-of P Fact.ReadyKeys b facts = all-if P (has_settings b.settings) _ facts.ready_keys
all-of P Fact.Ready b facts = all-of_caller P b.caller b.managers _ facts.ready
all-of P Fact.Held b facts = all-held P b b.superior refl facts
all-of P Fact.Decide b facts = all-if P b.is_recorded _ facts.decide
all-of P Fact.Undo b facts = all-if P b.is_recorded _ facts.undo
all-of P Fact.DoneFiles b facts = all-if P (has_changes b.changes) _ facts.done_files
all-of P Fact.DoneKeys b facts = all-if P (has_settings b.settings) _ facts.done_keys
all-of P Fact.Done b facts = all-of_caller P b.caller b.managers _ facts.done
all-of P Fact.SingleFiles b facts = (facts.single_files, tt)
all-of P Fact.SingleKeys b facts = (facts.single_keys, tt)

-- the event of each fact is so, whether the log has the transaction or not
facts-recorded : (P : Event → Type 0) (b : Basis) (is : Bool) → Facts P b → Facts P (record b { is_recorded = is })
facts-recorded P b is facts = record {
  ready_files = facts.ready_files;
  ready_keys = facts.ready_keys;
  ready = facts.ready;
  held = facts.held;
  decide = facts.decide;
  undo = facts.undo;
  done_files = facts.done_files;
  done_keys = facts.done_keys;
  done = facts.done;
  single_files = facts.single_files;
  single_keys = facts.single_keys;
}

pub all-ahead : (P : Event → Type 0) (steps : List Step) (b : Basis) → Facts P b → AllByRecursion P (events_ahead steps b)
all-ahead P [] b facts = tt
all-ahead P (Step.Record fact ∷ steps) b facts =
    all-append P (events_of fact b) _ (all-of P fact b facts) (all-ahead P steps (record b { is_recorded = is_recorded_by fact b }) (facts-recorded P b (is_recorded_by fact b) facts))
all-ahead P (_ ∷ steps) b facts = all-ahead P steps b facts

-- ---- how many

-- how many facts are recorded
abbrev pub records : List Step → ℕ
records [] = 0
records (Step.Record fact ∷ steps) = 1 + records steps
records (_ ∷ steps) = records steps

one-if : (is : Bool) (event : Event) → length (event_if is event) ≤ 1
one-if true event = omega arith
one-if false event = omega arith

one-of_caller : (o : Option Enlistment) (ms : List Manager) (event : Enlistment → Event) → length (event_of_caller o ms event) ≤ 1
one-of_caller None ms event = omega arith
one-of_caller (Some e) ms event = one-if (is_durable_at ms e.manager) (event e)

one-held : (b : Basis) (o : Option Enlistment) → length (held_event b.id o) ≤ 1
one-held b None = omega arith
one-held b (Some e) = omega arith

one-of : (fact : Fact) (b : Basis) → length (events_of fact b) ≤ 1
one-of Fact.ReadyFiles b = one-if (has_changes b.changes) _
one-of Fact.ReadyKeys b = one-if (has_settings b.settings) _
one-of Fact.Ready b = one-of_caller b.caller b.managers _
one-of Fact.Held b = one-held b b.superior
one-of Fact.Decide b = one-if b.is_recorded _
one-of Fact.Undo b = one-if b.is_recorded _
one-of Fact.DoneFiles b = one-if (has_changes b.changes) _
one-of Fact.DoneKeys b = one-if (has_settings b.settings) _
one-of Fact.Done b = one-of_caller b.caller b.managers _
one-of Fact.SingleFiles b = omega arith
one-of Fact.SingleKeys b = omega arith

pub few-ahead : (steps : List Step) (b : Basis) → length (events_ahead steps b) ≤ records steps
few-ahead [] b = omega arith
few-ahead (Step.Record fact ∷ steps) b =
    let next = record b { is_recorded = is_recorded_by fact b } in
    let both = length-append (events_of fact b) (events_ahead steps next) in let one = one-of fact b in let more = few-ahead steps next in omega arith
few-ahead (_ ∷ steps) b = few-ahead steps b

-- ---- of rows

-- the events of a row, where none was recorded before
pub led-events : (input : PhaseInput) (c : Course) → c.events ≡ [] → (led input c).events ≡ events_ahead (row (seen c) input) (basis c)
unfolding led
led-events input c none = events-ahead (row (seen c) input) c ∙ ap (λ es. es ++ events_ahead (row (seen c) input) (basis c)) none

-- each is so
pub all-led : (P : Event → Type 0) (input : PhaseInput) (c : Course) → c.events ≡ [] → Facts P (basis c) → AllByRecursion P (led input c).events
all-led P input c none facts = subst (AllByRecursion P) (sym (led-events input c none)) (all-ahead P (row (seen c) input) (basis c) facts)

-- each passes the test
pub passes-led : (test : Event → Bool) (input : PhaseInput) (c : Course) → c.events ≡ [] → Facts (λ e. test e ≡ true) (basis c) → list_all test (led input c).events ≡ true
passes-led test input c none facts = passes (led input c).events (all-led (λ e. test e ≡ true) input c none facts)
  where
    passes : (es : List Event) → AllByRecursion (λ e. test e ≡ true) es → list_all test es ≡ true
    passes [] all = refl
    passes (e ∷ es) all = and_from _ _ all.0 (passes es all.1)

-- is it an event of a transaction in which nothing stands of what there is to commit
abbrev pub is_bare : Event → Bool
is_bare (Event.Ready id (Part.Enlistment enlistment manager information)) = true
is_bare (Event.Held id enlistment manager information) = true
is_bare (Event.Decide id) = true
is_bare (Event.Undo id) = true
is_bare (Event.Done id part) = true
is_bare _ = false

-- what is so of those is to be said of the files and of the keys alone
pub bare-facts : (P : Event → Type 0) (b : Basis) → ((event : Event) → is_bare event ≡ true → P event)
    → P (Event.Ready b.id (Part.Changes b.changes)) × P (Event.Single b.id (Part.Changes b.changes)) → P (Event.Ready b.id (Part.Settings b.settings)) × P (Event.Single b.id (Part.Settings b.settings)) → Facts P b
bare-facts P b bare files keys = record {
  ready_files = files.0;
  ready_keys = keys.0;
  ready = λ e is. bare (Event.Ready b.id (enlistment_part e)) refl;
  held = λ e is. bare (Event.Held b.id e.id e.manager e.information) refl;
  decide = bare (Event.Decide b.id) refl;
  undo = bare (Event.Undo b.id) refl;
  done_files = bare (Event.Done b.id DonePart.Files) refl;
  done_keys = bare (Event.Done b.id DonePart.Keys) refl;
  done = λ e is. bare (Event.Done b.id (DonePart.Enlistment e.id)) refl;
  single_files = files.1;
  single_keys = keys.1;
}

-- ---- rows that record nothing

-- is nothing recorded
abbrev pub records_nothing : List Step → Bool
records_nothing [] = true
records_nothing (Step.Record fact ∷ steps) = false
records_nothing (_ ∷ steps) = records_nothing steps

none-ahead : (steps : List Step) (b : Basis) → records_nothing steps ≡ true → events_ahead steps b ≡ []
none-ahead [] b is = refl
none-ahead (Step.Record fact ∷ steps) b is = absurd (true≢false (sym is))
none-ahead (_ ∷ steps) b is = none-ahead steps b is

-- a row of which no list records anything
pub silent-led : (input : PhaseInput) (c : Course) → c.events ≡ [] → Pass records_nothing (row_lists input) → (led input c).events ≡ []
silent-led input c none pass = led-events input c none ∙ none-ahead (row (seen c) input) (basis c) (row-passes records_nothing (seen c) input pass)

-- RecoverEnlistment records nothing
pub silent-recovery : (e : Enlistment) → Pass records_nothing (row_lists (recovery_of e))
silent-recovery e = go (is_superior e)
  where
    go : (above : Bool) → Pass records_nothing (row_lists (if above then PhaseInput.RecoverSuperior else PhaseInput.Recover))
    go true = (refl, tt)
    go false = (refl, (refl, (refl, (refl, tt))))
