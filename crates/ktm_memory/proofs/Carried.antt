-- What memory shows once a transaction has gone on by steps.
use Rattle.ktm_object.specs.Table.{HandleTable}
use Rattle.std.specs.Prelude.{if◌then◌else◌}
use Rattle.std.proofs.Common.{◌≡◌, ◌||◌, ◌++◌, Bool, true, false, cond, not, List, [], ◌∷◌, fold, map, Option, Some, None, refl, sym, ◌∙◌, ap, inl, inr}
use Rattle.std.proofs.lemmas.Bool.{cases_Bool}
use Rattle.std.specs.List.{list_any}
use Rattle.ktm_base.specs.declared.id.Id.{Id}
use Rattle.ktm_standing.specs.Courses.{LeadsOn, LogsNext, aside, with_course, with_outcome}
use Rattle.ktm_standing.proofs.offered.Courses.{led_on, released-by}
use Rattle.ktm_course.specs.Moved.{is_commit, records_files}
use Rattle.ktm_courses.proofs.offered.Moves.{NoBoots, NoBoots-append, NoBoots-none, NoBoots-one, is_boot}
use Rattle.ktm_courses.proofs.offered.OutcomesMade.{events-kept}
use Rattle.ktm_steps.proofs.offered.Ahead.{events-ahead}
use Rattle.ktm_steps.proofs.offered.Staying.{Stays, run-keeps, stays, stays-step, stays-then}
use Rattle.ktm_tm.specs.Courses.{caller_of}
use Rattle.ktm_trace.proofs.Tracing.{traces_law}
use Rattle.ktm_trace.specs.Traces.{traces_after, traces_of}
use Rattle.ktm_world.specs.declared.event.DonePart.{DonePart}
use Rattle.ktm_world.specs.declared.event.Event.{Event}
use Rattle.ktm_world.specs.declared.event.Part.{Part}
use Rattle.ktm_world.specs.declared.object.Transaction.{Transaction}
use Rattle.ktm_world.specs.declared.reply.Reply.TheVariants.{Done}
use Rattle.ktm_world.specs.declared.step.Fact.{Fact}
use Rattle.ktm_world.specs.declared.step.Step.{Step}
use Rattle.ktm_world.specs.Changes.{has_changes}
use Rattle.ktm_world.specs.Durable.{after_events, next_after_all}
use Rattle.ktm_world.specs.Enlistments.{Enlistment, Manager, is_durable_at}
use Rattle.ktm_world.specs.Files.{FilesNow, own_changes}
use Rattle.ktm_world.specs.Keys.{KeysNow, own_settings, stored_all, without_own}
use Rattle.ktm_world.specs.Outcome.{Outcome, apply, served}
use Rattle.ktm_world.specs.Phases.{Course, enlistment_part, event_if, has_settings}
use Rattle.ktm_world.specs.Present.{Present, Transactions}
use Rattle.ktm_world.specs.Rows.{aborts}
use Rattle.ktm_world.specs.Steps.{Basis, basis, carried, event_of_caller, events_ahead, events_of, held_event, is_recorded_by, run}
use Rattle.ktm_world.specs.Transactions.{change_at, is_undecided, same_id, transaction_at}
use Rattle.ktm_world.specs.TransactionCalls.{arrived, course_of}
use Rattle.txf_laws.proofs.offered.Tables.{same_id-from}
use Rattle.txf_laws.specs.FileEffects.{forgotten}
use Rattle.txf_laws.specs.Reservations.{files_committed}
use Rattle.txf_volume.specs.Held.{files_of}
use Rattle.ktm_memory.specs.Memory.{IsReleased, MemoryState, Shows, course_then, is_known}

-- ---- no step records a boot

no_boots-if : (b : Bool) (event : Event) → is_boot event ≡ false → NoBoots (event_if b event)
no_boots-if true event is = NoBoots-one event is
no_boots-if false event is = NoBoots-none

no_boots-caller : (caller : Option Enlistment) (ms : List Manager) (event : Enlistment → Event) → ((e : Enlistment) → is_boot (event e) ≡ false) → NoBoots (event_of_caller caller ms event)
no_boots-caller None ms event none = NoBoots-none
no_boots-caller (Some e) ms event none = no_boots-if (is_durable_at ms e.manager) (event e) (none e)

no_boots-held : (id : Id) (superior : Option Enlistment) → NoBoots (held_event id superior)
no_boots-held id None = NoBoots-none
no_boots-held id (Some e) = NoBoots-one _ refl

no_boots-fact : (fact : Fact) (b : Basis) → NoBoots (events_of fact b)
no_boots-fact Fact.ReadyFiles b = no_boots-if (has_changes b.changes) (Event.Ready b.id (Part.Changes b.changes)) refl
no_boots-fact Fact.ReadyKeys b = no_boots-if (has_settings b.settings) (Event.Ready b.id (Part.Settings b.settings)) refl
no_boots-fact Fact.Ready b = no_boots-caller b.caller b.managers (λ e. Event.Ready b.id (enlistment_part e)) (λ e. refl)
no_boots-fact Fact.Held b = no_boots-held b.id b.superior
no_boots-fact Fact.Decide b = no_boots-if b.is_recorded (Event.Decide b.id) refl
no_boots-fact Fact.Undo b = no_boots-if b.is_recorded (Event.Undo b.id) refl
no_boots-fact Fact.DoneFiles b = no_boots-if (has_changes b.changes) (Event.Done b.id DonePart.Files) refl
no_boots-fact Fact.DoneKeys b = no_boots-if (has_settings b.settings) (Event.Done b.id DonePart.Keys) refl
no_boots-fact Fact.Done b = no_boots-caller b.caller b.managers (λ e. Event.Done b.id (DonePart.Enlistment e.id)) (λ e. refl)
no_boots-fact Fact.SingleFiles b = NoBoots-one (Event.Single b.id (Part.Changes b.changes)) refl
no_boots-fact Fact.SingleKeys b = NoBoots-one (Event.Single b.id (Part.Settings b.settings)) refl

no_boots : (steps : List Step) (b : Basis) → NoBoots (events_ahead steps b)
no_boots [] b = NoBoots-none
no_boots (Step.Record fact ∷ steps) b = NoBoots-append (no_boots-fact fact b) (no_boots steps (record b { is_recorded = is_recorded_by fact b }))
no_boots (Step.Commit ∷ steps) b = no_boots steps b
no_boots (Step.Tell who kind ∷ steps) b = no_boots steps b
no_boots (Step.Ask who kind owed ∷ steps) b = no_boots steps b
no_boots (Step.Change answer ∷ steps) b = no_boots steps b
no_boots (Step.Enter phase ∷ steps) b = no_boots steps b
no_boots (Step.Decide outcome ∷ steps) b = no_boots steps b
no_boots (Step.End outcome ∷ steps) b = no_boots steps b
no_boots (Step.EndWhereFinished outcome ∷ steps) b = no_boots steps b

-- ---- the outcome, part by part

pub arrived-events : (x : Present) (c : Course) → (arrived x c Done).events ≡ c.events
arrived-events x c = go (is_undecided c.transaction) refl
  where
    go : (b : Bool) → is_undecided c.transaction ≡ b → (arrived x c Done).events ≡ c.events
    go true is = ap (λ (o : Outcome). o.events) (released-by true c _ is)
    go false is = ap (λ (o : Outcome). o.events) (released-by false c _ is)

pub arrived-sent : (x : Present) (c : Course) → (arrived x c Done).sent ≡ c.sent
arrived-sent x c = go (is_undecided c.transaction) refl
  where
    go : (b : Bool) → is_undecided c.transaction ≡ b → (arrived x c Done).sent ≡ c.sent
    go true is = ap (λ (o : Outcome). o.sent) (released-by true c _ is)
    go false is = ap (λ (o : Outcome). o.sent) (released-by false c _ is)

-- what its outcome leaves of the machine, the files, the keys and the handles
record Leaves (x : Present) (c : Course) (commits : Bool) (y : Present) : Type 0 where
  is_up : y.machine.is_up ≡ x.machine.is_up
  handles : y.handles ≡ x.handles
  files : y.files ≡ (if commits then files_committed x.files c.transaction.id else (if not (is_undecided c.transaction) then forgotten x.files c.transaction.id else x.files))
  store : y.keys.store ≡ (if commits then stored_all x.keys.store (own_settings x.keys.own c.transaction.id) else x.keys.store)
  own : y.keys.own ≡ (if commits || not (is_undecided c.transaction) then without_own x.keys.own c.transaction.id else x.keys.own)

outcome-leaves : (x : Present) (c : Course) (commits : Bool) → Leaves x c commits (with_outcome x c commits)
outcome-leaves x c true = record { is_up = refl; handles = refl; files = refl; store = refl; own = refl }
outcome-leaves x c false = elim (cases_Bool (is_undecided c.transaction)) [
  | inl waits ↦ record { is_up = rw waits refl; handles = rw waits refl; files = rw waits refl; store = rw waits refl; own = rw waits refl }
  | inr known ↦ record { is_up = rw known refl; handles = rw known refl; files = rw known refl; store = rw known refl; own = rw known refl }
]

-- ---- the transaction, once it is changed

found_changed : (ts : List Transaction) (t u : Transaction) → transaction_at ts t.id ≡ Some t → u.id ≡ t.id → transaction_at (change_at ts t.id (λ v. u)) t.id ≡ Some u
found_changed [] t u found same = absurd (cc)
found_changed (v ∷ vs) t u found same = elim (cases_Bool (same_id v.id t.id)) [
  | inl is ↦ rw (is, same_id-from u.id t.id same) refl
  | inr other ↦ rw (other, other) (found_changed vs t u (rw other at found) same)
]

-- ---- what is so in memory

-- what the steps have made of memory, before what the transaction did is committed or forgotten
pub record HasGoneOn (old new : MemoryState) (t : Transaction) (steps : List Step) (c : Course) (b : Basis) : Type 0 where
  pub is_up : new.is_up ≡ old.is_up
  pub handles : new.handles ≡ old.handles
  pub files : new.files ≡ old.files
  pub keys : new.keys ≡ old.keys
  pub next_node : new.next_node ≡ cond (records_files steps) (next_after_all old.next_node (own_changes (files_of old.files).table.own t.id)) old.next_node
  pub boot : new.tm.boot ≡ old.tm.boot
  pub now : new.tm.now ≡ record old.tm.now { items = change_at old.tm.now.items t.id (λ u. c.transaction); enlistments = c.enlistments }
  pub managers : new.tm.managers ≡ map (served None c.sent) old.tm.managers
  pub traces : new.trace ≡ fold traces_after old.trace (events_ahead steps b)

-- memory shows it once the steps are carried out
pub carried_shows : (old gone new : MemoryState) (x : Present) (t : Transaction) (caller : Option Id) (steps : List Step) (commits : Bool) → Shows old x → transaction_at old.tm.now.items t.id ≡ Some t
    → LeadsOn x t (caller_of x.transactions.enlistments caller) steps → LogsNext x t (caller_of x.transactions.enlistments caller) steps → commits ≡ list_any is_commit steps
    → HasGoneOn old gone t steps (course_then x t caller steps) (basis (course_of x t (caller_of x.transactions.enlistments caller))) → IsReleased t.id commits (is_known gone.tm.now t.id) gone new
    → Shows new (apply x (arrived x (course_then x t caller steps) Done))
carried_shows old gone new x t caller steps commits shows there leads next where_commits gone_on released =
    let start = course_of x t (caller_of x.transactions.enlistments caller) in
    let c = run steps start in
    let y = apply x (arrived x c Done) in
    let z = with_course x c commits in
    let stays_id : c.transaction.id ≡ t.id = (run-keeps (Stays start) (λ step d so. stays-then start d (carried step d) so (stays-step step d)) steps start (stays start)).id in
    let same : aside z ≡ aside y = ap (λ b. aside (with_course x c b)) where_commits ∙ sym (led_on x t (caller_of x.transactions.enlistments caller) steps Done leads) in
    let left = outcome-leaves x c commits in
    let events : after_events x.recorded c.events ≡ y.recorded = sym (ap (after_events x.recorded) (arrived-events x c)) in
    let ahead : c.events ≡ events_ahead steps (basis start) = events-ahead steps start in
    let known : is_known gone.tm.now t.id ≡ not (is_undecided c.transaction) =
    ap (λ (ts : Transactions). is_known ts t.id) gone_on.now ∙ ap (λ (o : Option Transaction). elim o as (λ _. Bool) [ None ↦ true | Some u ↦ not (is_undecided u) ]) (found_changed old.tm.now.items t c.transaction there stays_id) in
    record {
      is_up = released.rest.is_up ∙ gone_on.is_up ∙ shows.is_up ∙ sym left.is_up ∙ ap (λ (p : Present). p.machine.is_up) same;
      boot = ap (λ tm. tm.boot) released.rest.tm ∙ gone_on.boot ∙ shows.boot ∙ sym (ap (λ es. (after_events x.recorded es).boots) ahead ∙ (events-kept (events_ahead steps (basis start)) x.recorded (no_boots steps (basis start))).0) ∙ ap (λ s. s.boots) events;
      transactions = ap (λ tm. tm.now) released.rest.tm ∙ gone_on.now ∙ ap (λ (ts : Transactions). record ts { items = change_at ts.items t.id (λ u. c.transaction); enlistments = c.enlistments }) shows.transactions
          ∙ ap (λ (id : Id). record x.transactions { items = change_at x.transactions.items id (λ u. c.transaction); enlistments = c.enlistments }) (sym stays_id) ∙ ap (λ (p : Present). p.transactions) same;
      managers = ap (λ tm. tm.managers) released.rest.tm ∙ gone_on.managers ∙ ap (map (served None c.sent)) shows.managers ∙ ap (λ (p : Present). p.managers) same;
      traces = released.rest.trace ∙ gone_on.traces ∙ ap (λ ts. fold traces_after ts (events_ahead steps (basis start))) shows.traces ∙ sym (traces_law.events x.recorded (events_ahead steps (basis start)))
          ∙ sym (ap (λ es. traces_of (after_events x.recorded es)) ahead) ∙ ap traces_of events;
      files = released.files ∙ files commits (is_known gone.tm.now t.id) (not (is_undecided c.transaction)) (files_of gone.files) x.files t.id c.transaction.id (ap files_of gone_on.files ∙ shows.files) known (sym stays_id)
          ∙ sym left.files ∙ ap (λ (p : Present). p.files) same;
      next_node = released.rest.next_node ∙ gone_on.next_node ∙ ap (λ n. cond (records_files steps) (next_after_all n (own_changes (files_of old.files).table.own t.id)) n) shows.next_node
          ∙ ap (λ (fs : FilesNow). cond (records_files steps) (next_after_all x.recorded.next_node (own_changes fs.table.own t.id)) x.recorded.next_node) shows.files ∙ sym next ∙ ap (λ s. s.next_node) events;
      keys = keys commits (is_known gone.tm.now t.id) (not (is_undecided c.transaction)) new.keys gone.keys x.keys t.id c.transaction.id (gone_on.keys ∙ shows.keys) known (sym stays_id) z.keys released.store released.own left.store left.own
          ∙ ap (λ (p : Present). p.keys) same;
      handles = ap (λ (t : HandleTable). t.handles) (released.rest.handles ∙ gone_on.handles) ∙ shows.handles ∙ sym left.handles ∙ ap (λ (p : Present). p.handles) same;
    }
  where
    files : (commits a b : Bool) (fs gs : FilesNow) (i j : Id) → fs ≡ gs → a ≡ b → i ≡ j
        → (if commits then files_committed fs i else (if a then forgotten fs i else fs)) ≡ (if commits then files_committed gs j else (if b then forgotten gs j else gs))
    files commits a b fs gs i j are is same k = if commits then files_committed (are k) (same k) else (if is k then forgotten (are k) (same k) else are k)

    keys : (commits a b : Bool) (after before now : KeysNow) (i j : Id) → before ≡ now → a ≡ b → i ≡ j → (left : KeysNow)
        → after.store ≡ (if commits then stored_all before.store (own_settings before.own i) else before.store)
        → after.own ≡ (if commits || a then without_own before.own i else before.own)
        → left.store ≡ (if commits then stored_all now.store (own_settings now.own j) else now.store)
        → left.own ≡ (if commits || b then without_own now.own j else now.own)
        → after ≡ left
    keys commits a b after before now i j are is same left store own store_left own_left k = record {
      store = (store ∙ (λ l. if commits then stored_all (are l).store (own_settings (are l).own (same l)) else (are l).store) ∙ sym store_left) k;
      own = (own ∙ (λ l. if commits || is l then without_own (are l).own (same l) else (are l).own) ∙ sym own_left) k;
    }

-- what a rollback records leaves the number of the next node
pub aborts_log : (x : Present) (t : Transaction) → LogsNext x t None aborts
aborts_log x t = ap (λ es. (after_events x.recorded es).next_node) (events-ahead aborts (course_of x t None)) ∙ go t.is_recorded
  where
    go : (b : Bool) → (after_events x.recorded (event_if b (Event.Undo t.id) ++ [])).next_node ≡ x.recorded.next_node
    go true = refl
    go false = refl
