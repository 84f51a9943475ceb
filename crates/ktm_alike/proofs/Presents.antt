-- What is so after an outcome with other bytes, and after several.
use Rattle.std.proofs.Common.{◌≡◌, ℕ, not, Bool, List, [], ◌∷◌, ◌++◌, map, filter, Option, Some, None, refl, sym, ◌∙◌, ap}
use Rattle.std.specs.Prelude.{if◌then◌else◌}
use Rattle.std.proofs.lemmas.List.{map-append}
use Rattle.ktm_base.specs.declared.id.Label.{Label}
use Rattle.ktm_base.specs.declared.id.Pid.{Pid}
use Rattle.ktm_world.specs.declared.object.Object.{Object}
use Rattle.ktm_world.specs.declared.object.Object.TheVariants.{Transaction as TransactionObject, Manager as ManagerObject, Enlistment as EnlistmentObject, File as FileObject}
use Rattle.ktm_world.specs.declared.object.Transaction.{Transaction}
use Rattle.ktm_world.specs.declared.reply.Reply.TheVariants.{Done}
use Rattle.ktm_world.specs.Committed.{committed_with}
use Rattle.ktm_world.specs.Files.{FirstOpen, files_with, first_open}
use Rattle.ktm_world.specs.HandleCalls.{has_handle, abort_active, last_handle_gone, handle_gone, close_handle, closed_in_turn, exit, labels_of, without_handle}
use Rattle.ktm_world.specs.Handles.{object_at}
use Rattle.ktm_world.specs.Outcome.{Outcome, only_reply, committed_now, is_forgotten, first_opens_after, served, apply, joined, and_then}
use Rattle.ktm_world.specs.Present.{Present}
use Rattle.ktm_world.specs.Transactions.{is_active, transaction_at}
use Rattle.ktm_world.specs.TransactionCalls.{aborted_by, is_due, aborted_if_due, aborted_in_turn, with_clock, tick}
use Rattle.ktm_mapped.specs.Mapped.{IsBlank, mapped_event}
use Rattle.ktm_mapped.proofs.offered.Lists.{cond-mapped, filter-mapped}
use Rattle.ktm_mapped.proofs.offered.Events.{after_events-mapped}
use Rattle.ktm_alike.specs.Alike.{mapped_first, mapped_table, mapped_committed, mapped_work, mapped_present, mapped_outcome}
use Rattle.ktm_alike.proofs.offered.Files.{committed_with-mapped}
use Rattle.ktm_alike.proofs.offered.Outcomes.{first_opens-mapped}
use Rattle.ktm_alike.proofs.Courses.{aborted_by-mapped}

module _ (f : ℕ → ℕ) (blank : IsBlank f) where
  -- ---- one outcome

  first_opens_after-mapped : (x : Present) (o : Outcome) → first_opens_after (mapped_present f x) (mapped_outcome f o) ≡ map (mapped_first f) (first_opens_after x o)
  first_opens_after-mapped x o =
      ap (filter lasts) (first_opens-mapped f blank (committed_now x) x.files.first_opens o.openings)
      ∙ filter-mapped lasts lasts (mapped_first f) (λ g. refl) (x.files.first_opens ++ map (first_open (committed_now x)) o.openings)
    where
      lasts : FirstOpen → Bool
      lasts g = not (is_forgotten o.forgotten g.transaction)

  pub apply-mapped : (x : Present) (o : Outcome) → apply (mapped_present f x) (mapped_outcome f o) ≡ mapped_present f (apply x o)
  apply-mapped x o = λ i. record {
    machine = x.machine;
    recorded = after_events-mapped f blank x.recorded o.events i;
    transactions = o.transactions;
    managers = map (served o.took o.sent) (x.managers ++ o.made);
    files = files_with (committed i) (first_opens_after-mapped x o i) (mapped_table f o.table);
    keys = record { store = (committed i).store; own = o.own };
    handles = o.handles;
  }
    where
      committed : committed_with (mapped_committed f (committed_now x)) (map (mapped_work f) o.works) ≡ mapped_committed f (committed_with (committed_now x) o.works)
      committed = committed_with-mapped f blank (committed_now x) o.works

  -- ---- one outcome and then another

  joined-mapped : (a b : Outcome) → joined (mapped_outcome f a) (mapped_outcome f b) ≡ mapped_outcome f (joined a b)
  joined-mapped a b = λ i. record (mapped_outcome f (joined a b)) { events = sym (map-append (mapped_event f) a.events b.events) i; works = sym (map-append (mapped_work f) a.works b.works) i }

  and_then-mapped : (x : Present) (o : Outcome) (next before : Present → Outcome) → ((y : Present) → next (mapped_present f y) ≡ mapped_outcome f (before y))
      → and_then (mapped_present f x) (mapped_outcome f o) next ≡ mapped_outcome f (and_then x o before)
  and_then-mapped x o next before same =
      ap (λ y. joined (mapped_outcome f o) (next y)) (apply-mapped x o)
      ∙ ap (joined (mapped_outcome f o)) (same (apply x o))
      ∙ joined-mapped o (before (apply x o))

  -- ---- handles that are closed

  abort_active-mapped : (x : Present) (t : Option Transaction) → abort_active (mapped_present f x) t ≡ mapped_outcome f (abort_active x t)
  abort_active-mapped x None = refl
  abort_active-mapped x (Some t) =
      (λ i. if is_active t then aborted_by-mapped f x t None Done i else only_reply (mapped_present f x) Done)
      ∙ cond-mapped (mapped_outcome f) (is_active t) (aborted_by x t None Done) (only_reply x Done)

  last_handle_gone-mapped : (x : Present) (object : Object) → last_handle_gone (mapped_present f x) object ≡ mapped_outcome f (last_handle_gone x object)
  last_handle_gone-mapped x (TransactionObject id) = abort_active-mapped x (transaction_at x.transactions.items id)
  last_handle_gone-mapped x (ManagerObject id) = refl
  last_handle_gone-mapped x (EnlistmentObject id) = refl
  last_handle_gone-mapped x (FileObject number) = refl

  handle_gone-mapped : (object : Option Object) (x : Present) → handle_gone object (mapped_present f x) ≡ mapped_outcome f (handle_gone object x)
  handle_gone-mapped None x = refl
  handle_gone-mapped (Some object) x =
      (λ i. if has_handle x.handles object then only_reply (mapped_present f x) Done else last_handle_gone-mapped x object i)
      ∙ cond-mapped (mapped_outcome f) (has_handle x.handles object) (only_reply x Done) (last_handle_gone x object)

  pub close_handle-mapped : (x : Present) (process : Pid) (label : Label) → close_handle (mapped_present f x) process label ≡ mapped_outcome f (close_handle x process label)
  unfolding close_handle
  close_handle-mapped x process label =
      and_then-mapped x (record (only_reply x Done) { handles = without_handle x.handles process label }) (handle_gone (object_at x.handles process label)) (handle_gone (object_at x.handles process label)) (handle_gone-mapped (object_at x.handles process label))

  closed_in_turn-mapped : (x : Present) (process : Pid) (labels : List Label) → closed_in_turn (mapped_present f x) process labels ≡ mapped_outcome f (closed_in_turn x process labels)
  closed_in_turn-mapped x process [] = refl
  closed_in_turn-mapped x process (label ∷ labels) =
      ap (λ o. and_then (mapped_present f x) o (λ next. closed_in_turn next process labels)) (close_handle-mapped x process label)
      ∙ and_then-mapped x (close_handle x process label) (λ next. closed_in_turn next process labels) (λ next. closed_in_turn next process labels) (λ next. closed_in_turn-mapped next process labels)

  pub exit-mapped : (x : Present) (process : Pid) → exit (mapped_present f x) process ≡ mapped_outcome f (exit x process)
  unfolding exit
  exit-mapped x process = closed_in_turn-mapped x process (labels_of x.handles process)

  -- ---- the passing of time

  aborted_if_due-mapped : (x : Present) (t : Option Transaction) → aborted_if_due (mapped_present f x) t ≡ mapped_outcome f (aborted_if_due x t)
  aborted_if_due-mapped x None = refl
  aborted_if_due-mapped x (Some t) =
      (λ i. if is_due x.transactions.clock t then aborted_by-mapped f x t None Done i else only_reply (mapped_present f x) Done)
      ∙ cond-mapped (mapped_outcome f) (is_due x.transactions.clock t) (aborted_by x t None Done) (only_reply x Done)

  aborted_in_turn-mapped : (x : Present) (ts : List Transaction) → aborted_in_turn (mapped_present f x) ts ≡ mapped_outcome f (aborted_in_turn x ts)
  aborted_in_turn-mapped x [] = refl
  aborted_in_turn-mapped x (t ∷ ts) =
      ap (λ o. and_then (mapped_present f x) o (λ next. aborted_in_turn next ts)) (aborted_if_due-mapped x (transaction_at x.transactions.items t.id))
      ∙ and_then-mapped x (aborted_if_due x (transaction_at x.transactions.items t.id)) (λ next. aborted_in_turn next ts) (λ next. aborted_in_turn next ts) (λ next. aborted_in_turn-mapped next ts)

  pub tick-mapped : (x : Present) (ms : ℕ) → tick (mapped_present f x) ms ≡ mapped_outcome f (tick x ms)
  unfolding tick
  tick-mapped x ms = aborted_in_turn-mapped (with_clock x ms) x.transactions.items
