-- The courses of transactions that have changes with other bytes to commit.
use Rattle.std.proofs.Common.{◌≡◌, ℕ, ◌||◌, Bool, true, false, List, [], ◌∷◌, ◌++◌, map, Option, Some, None, refl, sym, ◌∙◌, ap}
use Rattle.std.specs.Prelude.{if◌then◌else◌}
use Rattle.std.specs.List.{list_any}
use Rattle.std.proofs.lemmas.List.{map-append}
use Rattle.ktm_base.specs.declared.id.Id.{Id}
use Rattle.ktm_world.specs.declared.event.DonePart.{DonePart}
use Rattle.ktm_world.specs.declared.event.Event.{Event}
use Rattle.ktm_world.specs.declared.event.Part.{Part}
use Rattle.ktm_world.specs.declared.input.PhaseInput.{PhaseInput}
use Rattle.ktm_world.specs.declared.object.Transaction.{Transaction}
use Rattle.ktm_world.specs.declared.object.TransactionOutcome.{TransactionOutcome}
use Rattle.ktm_world.specs.declared.reply.Reply.{Reply}
use Rattle.ktm_world.specs.declared.reply.Reply.TheVariants.{Done}
use Rattle.ktm_world.specs.declared.step.Fact.{Fact}
use Rattle.ktm_world.specs.declared.step.Step.{Step}
use Rattle.ktm_world.specs.Changes.{has_changes}
use Rattle.ktm_world.specs.Enlistments.{Enlistment, Manager, is_unfinished, is_durable_at}
use Rattle.ktm_world.specs.Files.{without_transaction}
use Rattle.ktm_world.specs.Keys.{without_own}
use Rattle.ktm_world.specs.Outcome.{Outcome, only_reply}
use Rattle.ktm_world.specs.Phases.{Course, has_settings, event_if, work_of, ended, enlistment_part}
use Rattle.ktm_world.specs.Present.{Present}
use Rattle.ktm_world.specs.Rows.{row}
use Rattle.ktm_world.specs.Steps.{Basis, basis, seen, event_of_caller, held_event, events_of, is_recorded_by, changing, carried, run, led}
use Rattle.ktm_world.specs.Transactions.{change_at, is_undecided}
use Rattle.ktm_world.specs.TransactionCalls.{course_of, released, arrived, commit_reply, commit_of, aborted_by, rollback_of, goes_on, answering, transaction_in}
use Rattle.ktm_mapped.specs.Mapped.{mapped_change, mapped_event, mapped_group}
use Rattle.ktm_mapped.proofs.offered.Lists.{cond-mapped}
use Rattle.ktm_mapped.proofs.offered.Holds.{has_changes-mapped}
use Rattle.ktm_alike.specs.Alike.{mapped_work, mapped_present, mapped_outcome}
use Rattle.ktm_alike.proofs.offered.Files.{own_changes-mapped, without_transaction-mapped}

-- a course, of which what it commits and records has other bytes
abbrev mapped_course : (ℕ → ℕ) → Course → Course
mapped_course f c = record c { changes = map (mapped_change f) c.changes; events = mapped_group f c.events; works = map (mapped_work f) c.works }

-- what is read of such a course when it is recorded
abbrev mapped_basis : (ℕ → ℕ) → Basis → Basis
mapped_basis f b = record b { changes = map (mapped_change f) b.changes }

module _ (f : ℕ → ℕ) where
  -- ---- what is recorded

  event_if-mapped : (b : Bool) (event : Event) → event_if b (mapped_event f event) ≡ mapped_group f (event_if b event)
  event_if-mapped true event = refl
  event_if-mapped false event = refl

  event_of_caller-mapped : (o : Option Enlistment) (ms : List Manager) (event : Enlistment → Event) → ((e : Enlistment) → event e ≡ mapped_event f (event e))
      → event_of_caller o ms event ≡ mapped_group f (event_of_caller o ms event)
  event_of_caller-mapped None ms event same = refl
  event_of_caller-mapped (Some e) ms event same = ap (event_if (is_durable_at ms e.manager)) (same e) ∙ event_if-mapped (is_durable_at ms e.manager) (event e)

  held_event-mapped : (id : Id) (o : Option Enlistment) → held_event id o ≡ mapped_group f (held_event id o)
  held_event-mapped id None = refl
  held_event-mapped id (Some e) = refl

  events_of-mapped : (fact : Fact) (b : Basis) → events_of fact (mapped_basis f b) ≡ mapped_group f (events_of fact b)
  events_of-mapped Fact.ReadyFiles b =
      (λ i. event_if (has_changes-mapped f b.changes i) (Event.Ready b.id (Part.Changes (map (mapped_change f) b.changes)))) ∙ event_if-mapped (has_changes b.changes) (Event.Ready b.id (Part.Changes b.changes))
  events_of-mapped Fact.ReadyKeys b = event_if-mapped (has_settings b.settings) (Event.Ready b.id (Part.Settings b.settings))
  events_of-mapped Fact.Ready b = event_of_caller-mapped b.caller b.managers (λ e. Event.Ready b.id (enlistment_part e)) (λ e. refl)
  events_of-mapped Fact.Held b = held_event-mapped b.id b.superior
  events_of-mapped Fact.Decide b = event_if-mapped b.is_recorded (Event.Decide b.id)
  events_of-mapped Fact.Undo b = event_if-mapped b.is_recorded (Event.Undo b.id)
  events_of-mapped Fact.DoneFiles b =
      (λ i. event_if (has_changes-mapped f b.changes i) (Event.Done b.id DonePart.Files)) ∙ event_if-mapped (has_changes b.changes) (Event.Done b.id DonePart.Files)
  events_of-mapped Fact.DoneKeys b = event_if-mapped (has_settings b.settings) (Event.Done b.id DonePart.Keys)
  events_of-mapped Fact.Done b = event_of_caller-mapped b.caller b.managers (λ e. Event.Done b.id (DonePart.Enlistment e.id)) (λ e. refl)
  events_of-mapped Fact.SingleFiles b = refl
  events_of-mapped Fact.SingleKeys b = refl

  is_recorded_by-mapped : (fact : Fact) (b : Basis) → is_recorded_by fact (mapped_basis f b) ≡ is_recorded_by fact b
  is_recorded_by-mapped Fact.ReadyFiles b = λ i. b.is_recorded || has_changes-mapped f b.changes i
  is_recorded_by-mapped _ b = refl

  -- ---- steps

  work_of-mapped : (c : Course) → work_of (mapped_course f c) ≡ map (mapped_work f) (work_of c)
  work_of-mapped c =
      (λ i. if has_changes-mapped f c.changes i || has_settings c.settings then record { transaction = Some c.transaction.id; changes = map (mapped_change f) c.changes; settings = c.settings } ∷ [] else [])
      ∙ cond-mapped (map (mapped_work f)) (has_changes c.changes || has_settings c.settings) (record { transaction = Some c.transaction.id; changes = c.changes; settings = c.settings } ∷ []) []

  changing-mapped : (c : Course) (o : Option Enlistment) (g : Enlistment → Enlistment) → changing (mapped_course f c) o g ≡ mapped_course f (changing c o g)
  changing-mapped c None g = refl
  changing-mapped c (Some e) g = refl

  ended-mapped : (c : Course) (outcome : TransactionOutcome) → ended (mapped_course f c) outcome ≡ mapped_course f (ended c outcome)
  unfolding ended
  ended-mapped c outcome = refl

  carried-mapped : (step : Step) (c : Course) → carried step (mapped_course f c) ≡ mapped_course f (carried step c)
  carried-mapped (Step.Record fact) c = λ i. record (mapped_course f c) {
    events = ((λ j. mapped_group f c.events ++ events_of-mapped fact (basis c) j) ∙ sym (map-append (mapped_event f) c.events (events_of fact (basis c)))) i;
    transaction = record c.transaction { is_recorded = is_recorded_by-mapped fact (basis c) i };
  }
  carried-mapped Step.Commit c = λ i. record (mapped_course f c) {
    works = ((λ j. map (mapped_work f) c.works ++ work_of-mapped c j) ∙ sym (map-append (mapped_work f) c.works (work_of c))) i;
  }
  carried-mapped (Step.Tell who kind) c = refl
  carried-mapped (Step.Ask who kind owed) c = refl
  carried-mapped (Step.Change answer) c = changing-mapped c c.caller _
  carried-mapped (Step.Enter phase) c = refl
  carried-mapped (Step.Decide outcome) c = refl
  carried-mapped (Step.End outcome) c = ended-mapped c outcome
  carried-mapped (Step.EndWhereFinished outcome) c =
      (λ i. if list_any (is_unfinished c.transaction.id) c.enlistments then mapped_course f c else ended-mapped c outcome i)
      ∙ cond-mapped (mapped_course f) (list_any (is_unfinished c.transaction.id) c.enlistments) c (ended c outcome)

  run-mapped : (steps : List Step) (c : Course) → run steps (mapped_course f c) ≡ mapped_course f (run steps c)
  run-mapped [] c = refl
  run-mapped (step ∷ steps) c = ap (run steps) (carried-mapped step c) ∙ run-mapped steps (carried step c)

  seen-mapped : (c : Course) → seen (mapped_course f c) ≡ seen c
  seen-mapped c = λ i. record (seen c) { has_files = has_changes-mapped f c.changes i }

  led-mapped : (input : PhaseInput) (c : Course) → led input (mapped_course f c) ≡ mapped_course f (led input c)
  unfolding led
  led-mapped input c = (λ i. run (row (seen-mapped c i) input) (mapped_course f c)) ∙ run-mapped (row (seen c) input) c

  -- ---- where a course has come to

  course_of-mapped : (x : Present) (t : Transaction) (caller : Option Enlistment) → course_of (mapped_present f x) t caller ≡ mapped_course f (course_of x t caller)
  course_of-mapped x t caller = λ i. record (course_of x t caller) { changes = own_changes-mapped f x.files.table.own t.id i }

  gone-mapped : (x : Present) (t : Transaction) (caller : Option Enlistment) (input : PhaseInput) → led input (course_of (mapped_present f x) t caller) ≡ mapped_course f (led input (course_of x t caller))
  gone-mapped x t caller input = ap (led input) (course_of-mapped x t caller) ∙ led-mapped input (course_of x t caller)

  released-mapped : (c : Course) (o : Outcome) → released (mapped_course f c) (mapped_outcome f o) ≡ mapped_outcome f (released c o)
  released-mapped c o =
      (λ i. if is_undecided c.transaction then mapped_outcome f o else record (mapped_outcome f o) {
        forgotten = c.transaction.id ∷ [];
        table = without_transaction-mapped f o.table c.transaction.id i;
        own = without_own o.own c.transaction.id;
      })
      ∙ cond-mapped (mapped_outcome f) (is_undecided c.transaction) o (record o {
        forgotten = c.transaction.id ∷ [];
        table = without_transaction o.table c.transaction.id;
        own = without_own o.own c.transaction.id;
      })

  arrived-mapped : (x : Present) (c : Course) (reply : Reply) → arrived (mapped_present f x) (mapped_course f c) reply ≡ mapped_outcome f (arrived x c reply)
  arrived-mapped x c reply = released-mapped c (record (only_reply x reply) {
    events = c.events;
    works = c.works;
    sent = c.sent;
    transactions = record x.transactions { items = change_at x.transactions.items c.transaction.id (λ t. c.transaction); enlistments = c.enlistments };
  })

  -- ---- the calls by which a transaction goes on

  pub commit_of-mapped : (x : Present) (t : Option Transaction) → commit_of (mapped_present f x) t ≡ mapped_outcome f (commit_of x t)
  commit_of-mapped x None = refl
  commit_of-mapped x (Some t) =
      ap (λ c. arrived (mapped_present f x) c (commit_reply c)) (gone-mapped x t None PhaseInput.CommitTransaction)
      ∙ (let c = led PhaseInput.CommitTransaction (course_of x t None) in arrived-mapped x c (commit_reply c))

  pub aborted_by-mapped : (x : Present) (t : Transaction) (caller : Option Enlistment) (reply : Reply) → aborted_by (mapped_present f x) t caller reply ≡ mapped_outcome f (aborted_by x t caller reply)
  aborted_by-mapped x t caller reply =
      ap (λ c. arrived (mapped_present f x) c reply) (gone-mapped x t caller PhaseInput.Rollback) ∙ arrived-mapped x (led PhaseInput.Rollback (course_of x t caller)) reply

  pub rollback_of-mapped : (x : Present) (t : Option Transaction) → rollback_of (mapped_present f x) t ≡ mapped_outcome f (rollback_of x t)
  rollback_of-mapped x None = refl
  rollback_of-mapped x (Some t) = aborted_by-mapped x t None Done

  goes_on-mapped : (x : Present) (e : Enlistment) (t : Option Transaction) (input : PhaseInput) → goes_on (mapped_present f x) e t input ≡ mapped_outcome f (goes_on x e t input)
  goes_on-mapped x e None input = refl
  goes_on-mapped x e (Some t) input =
      ap (λ c. arrived (mapped_present f x) c Done) (gone-mapped x t (Some e) input) ∙ arrived-mapped x (led input (course_of x t (Some e))) Done

  pub answering-mapped : (x : Present) (e : Option Enlistment) (input : Enlistment → PhaseInput) → answering (mapped_present f x) e input ≡ mapped_outcome f (answering x e input)
  answering-mapped x None input = refl
  answering-mapped x (Some e) input = goes_on-mapped x e (transaction_in x e) (input e)
