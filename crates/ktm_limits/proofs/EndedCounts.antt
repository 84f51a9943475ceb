-- What ends makes no more of what limits count: courses that arrive, handles that are closed, and what follows one upon another.
use Rattle.std.specs.Prelude.{if◌then◌else◌}
use Rattle.std.proofs.Common.{◌≡◌, ℕ, not, Bool, true, false, List, [], ◌∷◌, ◌++◌, filter, map, Option, Some, None, refl, sym, ◌∙◌, ap, subst, arith, length-append}
use Rattle.std.proofs.lemmas.Bool.{true≢false}
use Rattle.std.proofs.lemmas.List.{append-nil, length-map}
use Rattle.std.proofs.lemmas.List.Sums.{fold-append}
use Rattle.ktm_base.specs.declared.id.Id.{Id}
use Rattle.ktm_base.specs.declared.id.Label.{Label}
use Rattle.ktm_base.specs.declared.id.Pid.{Pid}
use Rattle.ktm_world.specs.declared.input.PhaseInput.{PhaseInput}
use Rattle.ktm_world.specs.declared.object.Handle.{Handle}
use Rattle.ktm_world.specs.declared.object.Object.{Object}
use Rattle.ktm_world.specs.declared.object.Object.TheVariants.{Transaction as TransactionObject, Manager as ManagerObject, Enlistment as EnlistmentObject, File as FileObject}
use Rattle.ktm_world.specs.declared.object.Phase.{Phase}
use Rattle.ktm_world.specs.declared.object.Phase.TheVariants.{Active, Ended}
use Rattle.ktm_world.specs.declared.object.Transaction.{Transaction}
use Rattle.ktm_world.specs.declared.reply.Reply.{Reply}
use Rattle.ktm_world.specs.declared.reply.Reply.TheVariants.{Done}
use Rattle.ktm_world.specs.Enlistments.{Enlistment}
use Rattle.ktm_world.specs.Committed.{with_work}
use Rattle.ktm_world.specs.Durable.{after_events}
use Rattle.ktm_world.specs.Files.{FilesNow, FirstOpen, first_open, own_changes}
use Rattle.ktm_world.specs.FileUses.{units_used, nodes_used, file_changes_waiting}
use Rattle.ktm_world.specs.HandleCalls.{is_handle, without_handle, same_object, has_handle, closed_file, abort_active, last_handle_gone, handle_gone, close_handle, labels_of, closed_in_turn, exit}
use Rattle.ktm_world.specs.Handles.{object_at}
use Rattle.ktm_world.specs.Keys.{keys_used, own_settings}
use Rattle.ktm_world.specs.Outcome.{Outcome, apply, only_reply, committed_now, is_forgotten, first_opens_after, joined, and_then, served}
use Rattle.ktm_world.specs.Phases.{Course}
use Rattle.ktm_world.specs.Present.{Present}
use Rattle.ktm_world.specs.Steps.{led}
use Rattle.ktm_world.specs.TransactionCalls.{aborted_by, aborted_if_due, aborted_in_turn, arrived, course_of, is_due, may_roll_back, tick, with_clock}
use Rattle.ktm_world.specs.Transactions.{is_active, is_live, transaction_at}
use Rattle.txf_laws.specs.Elements.{IsIn}
use Rattle.txf_laws.specs.Footprint.{ListsLaw}
use Rattle.txf_laws.specs.Formed.{FormedLaw}
use Rattle.txf_laws.specs.SoundFiles.{IsSoundFiles}
use Rattle.txf_laws.proofs.offered.Reservations.{named}
use Rattle.ktm_owned.proofs.offered.OwnedAfterCourses.{Goes, both-forgotten, only_reply-goes, and_then-goes, course-goes}
use Rattle.ktm_courses.proofs.offered.Calls.{transaction_at-found}
use Rattle.ktm_owned.proofs.offered.ClosedFiles.{unbinding, unbinding-goes, file-goes, bound-object, unbound}
use Rattle.ktm_owned.proofs.offered.CoursesKept.{led-is}
use Rattle.txf_laws.proofs.offered.Elements.{IsIn-filter, length-filter-less, filter-true}
use Rattle.ktm_records.proofs.offered.LiveEnlistments.{fades-led}
use Rattle.ktm_records.proofs.offered.NoMore.{NoMore, no_more-then, no_more-arrived, no_more-left, no_more-reply, units-events}
use Rattle.txf_laws.proofs.offered.OlderVersions.{AreFixed}
use Rattle.ktm_owned.proofs.offered.EndedTransactions.{AreInOrder, unchanged}
use Rattle.ktm_records.proofs.offered.UnitsPassed.{NoMoreFiles, files-same, files-then}
use Rattle.std.proofs.lemmas.Bool.{and_parts}

-- the transactions that are found first by their Ids
pub found-itself : (ts : List Transaction) (id : Id) (t : Transaction) → transaction_at ts id ≡ Some t → transaction_at ts t.id ≡ Some t
found-itself ts id t found = ap (transaction_at ts) (transaction_at-found ts id t found).1 ∙ found

pub active-live : (t : Transaction) → is_active t ≡ true → is_live t ≡ true
active-live t = go t.phase
  where
    go : (phase : Phase) → is_active (record t { phase = phase }) ≡ true → is_live (record t { phase = phase }) ≡ true
    go Active is = refl
    go _ is = absurd (true≢false (sym is))

pub rolling-live : (t : Transaction) → may_roll_back t ≡ true → is_live t ≡ true
rolling-live t = go t.phase
  where
    go : (phase : Phase) → may_roll_back (record t { phase = phase }) ≡ true → is_live (record t { phase = phase }) ≡ true
    go Ended is = absurd (true≢false (sym is))
    go _ is = refl

-- ---- one outcome after another

module _ (lists : ListsLaw) (formed : FormedLaw) where
  -- an outcome that keeps the files sound and opens none first makes no more of what limits count
  pub record Spends (x : Present) (o : Outcome) : Type 0 where
    pub goes : Goes lists formed x o
    pub less : AreInOrder x → IsSoundFiles x → AreFixed x.files.first_opens → NoMore x (apply x o)

  -- first opens of the same version have the same bytes still
  pub fixed-after : (x : Present) (o : Outcome) → o.openings ≡ [] → AreFixed x.files.first_opens → AreFixed (apply x o).files.first_opens
  fixed-after x o none fixed a b there there' same = fixed a b (within a there) (within b there') same
    where
      within : (f : FirstOpen) → IsIn f (first_opens_after x o) → IsIn f x.files.first_opens
      within f there = subst (IsIn f) (ap (λ os. x.files.first_opens ++ map (first_open (committed_now x)) os) none ∙ append-nil x.files.first_opens)
          (IsIn-filter (λ f. not (is_forgotten o.forgotten f.transaction)) (x.files.first_opens ++ map (first_open (committed_now x)) o.openings) f there).0

  joined-files : (x : Present) (a b : Outcome) → a.openings ≡ [] → b.openings ≡ [] → (apply x (joined a b)).files ≡ (apply (apply x a) b).files
  joined-files x a b none none' i = record {
    tree = (fold-append with_work (committed_now x) a.works b.works i).tree;
    versions = (fold-append with_work (committed_now x) a.works b.works i).versions;
    first_opens = firsts i;
    table = b.table;
  }
    where
      y : Present
      y = apply x a

      firsts : first_opens_after x (joined a b) ≡ first_opens_after y b
      firsts =
          ap (λ os. filter (λ f. not (is_forgotten (a.forgotten ++ b.forgotten) f.transaction)) (x.files.first_opens ++ map (first_open (committed_now x)) os)) (ap (λ os. os ++ b.openings) none ∙ none')
          ∙ both-forgotten a.forgotten b.forgotten (x.files.first_opens ++ [])
          ∙ ap (λ os. filter (λ f. not (is_forgotten b.forgotten f.transaction)) (filter (λ f. not (is_forgotten a.forgotten f.transaction)) (x.files.first_opens ++ map (first_open (committed_now x)) os))) (sym none)
          ∙ ap (filter (λ f. not (is_forgotten b.forgotten f.transaction))) (sym (append-nil y.files.first_opens))
          ∙ ap (λ os. filter (λ f. not (is_forgotten b.forgotten f.transaction)) (y.files.first_opens ++ map (first_open (committed_now y)) os)) (sym none')

  -- the two come to the same as one
  joined-less : (x : Present) (a b : Outcome) → a.openings ≡ [] → b.openings ≡ [] → NoMore (apply (apply x a) b) (apply x (joined a b))
  joined-less x a b none none' = record {
    room = (let p = units-events (a.events ++ b.events) x.recorded in let q = units-events b.events (after_events x.recorded a.events) in let r = units-events a.events x.recorded in p ∙ sym r ∙ sym q);
    live = omega arith;
    enlisted = omega arith;
    managers = (let p = length-map (x.managers ++ (a.made ++ b.made)) (served a.took (a.sent ++ b.sent)) in
        let q = length-append x.managers (a.made ++ b.made) in
        let r = length-append a.made b.made in
        let s = length-map (map (served a.took a.sent) (x.managers ++ a.made) ++ b.made) (served b.took b.sent) in
        let t = length-append (map (served a.took a.sent) (x.managers ++ a.made)) b.made in
        let u = length-map (x.managers ++ a.made) (served a.took a.sent) in
        let v = length-append x.managers a.made in omega arith);
    handles = omega arith;
    last_transaction = omega arith;
    last_manager = omega arith;
    last_enlistment = omega arith;
    files = files-same (apply (apply x a) b).files (apply x (joined a b)).files (joined-files x a b none none');
    keys = (let e = ap (λ c. keys_used (record { store = c.store; own = b.own })) (fold-append with_work (committed_now x) a.works b.works) in omega arith);
    unset = omega arith;
  }

  pub and_then-spends : (x : Present) (o : Outcome) (next : Present → Outcome) → Spends x o → ((y : Present) → Spends y (next y)) → Spends x (and_then x o next)
  and_then-spends x o next first second = record {
    goes = and_then-goes lists formed x o next first.goes (λ y. (second y).goes);
    less = λ order sound fixed.
        let y = apply x o in
        let kept = first.goes.keeps order sound in
        no_more-then x y (apply x (and_then x o next)) (first.less order sound fixed)
        (no_more-then y (apply y (next y)) (apply x (and_then x o next)) ((second y).less kept.0 kept.1 (fixed-after x o first.goes.opens fixed)) (joined-less x o (next y) first.goes.opens (second y).goes.opens));
  }

  pub reply-spends : (x : Present) (reply : Reply) → Spends x (only_reply x reply)
  reply-spends x reply = record { goes = only_reply-goes lists formed x reply; less = λ order sound fixed. no_more-reply x reply }

  either-spends : (x : Present) (b : Bool) (o p : Outcome) → (b ≡ true → Spends x o) → (b ≡ false → Spends x p) → Spends x (if b then o else p)
  either-spends x true o p first second = first refl
  either-spends x false o p first second = second refl

  -- ---- courses, and time

  pub course-spends : (x : Present) (t : Transaction) (caller : Option Enlistment) (input : PhaseInput) (reply : Course → Reply) → IsIn t x.transactions.items → transaction_at x.transactions.items t.id ≡ Some t → is_live t ≡ true
      → Spends x (arrived x (led input (course_of x t caller)) (reply (led input (course_of x t caller))))
  course-spends x t caller input reply there found live =
      let c = led input (course_of x t caller) in
      let is = led-is t (own_changes x.files.table.own t.id) (own_settings x.keys.own t.id) input (course_of x t caller) (record { id = refl; changes = refl; settings = refl; works = refl; events = refl; outcome = refl }) in
      record {
        goes = course-goes lists formed x t caller input reply there;
        less = λ order sound fixed. no_more-arrived lists formed x order sound fixed t there found live c (reply c) is (fades-led input (course_of x t caller));
      }

  -- a transaction that is live rolls back
  aborts : (x : Present) (id : Id) (t : Transaction) → transaction_at x.transactions.items id ≡ Some t → is_live t ≡ true → Spends x (aborted_by x t None Done)
  aborts x id t found live = course-spends x t None PhaseInput.Rollback (λ c. Done) (transaction_at-found x.transactions.items id t found).0 (found-itself x.transactions.items id t found) live

  due-spends : (x : Present) (id : Id) → Spends x (aborted_if_due x (transaction_at x.transactions.items id))
  due-spends x id = go (transaction_at x.transactions.items id) refl
    where
      go : (t : Option Transaction) → transaction_at x.transactions.items id ≡ t → Spends x (aborted_if_due x t)
      go None found = reply-spends x Done
      go (Some t) found = either-spends x (is_due x.transactions.clock t) (aborted_by x t None Done) (only_reply x Done)
          (λ due. aborts x id t found (rolling-live t (and_parts _ (may_roll_back t) due).1)) (λ early. reply-spends x Done)

  turn-spends : (ts : List Transaction) (x : Present) → Spends x (aborted_in_turn x ts)
  turn-spends [] x = reply-spends x Done
  turn-spends (t ∷ ts) x = and_then-spends x (aborted_if_due x (transaction_at x.transactions.items t.id)) (λ next. aborted_in_turn next ts) (due-spends x t.id) (turn-spends ts)

  pub tick-less : (x : Present) (ms : ℕ) → AreInOrder x → IsSoundFiles x → AreFixed x.files.first_opens → NoMore x (apply x (tick x ms))
  unfolding tick
  tick-less x ms order sound fixed =
      let later = with_clock x ms in
      let spends = (turn-spends x.transactions.items later).less (record { transactions_rise = order.transactions_rise; labels_differ = order.labels_differ })
      (unchanged lists formed x later refl refl (named x sound) (λ id was. was) (λ u has. (u, has, refl)) sound) fixed in
      record {
        room = spends.room;
        live = spends.live;
        enlisted = spends.enlisted;
        managers = spends.managers;
        handles = spends.handles;
        last_transaction = spends.last_transaction;
        last_manager = spends.last_manager;
        last_enlistment = spends.last_enlistment;
        files = spends.files;
        keys = spends.keys;
        unset = spends.unset;
      }

  pub tick-fixed : (x : Present) (ms : ℕ) → AreFixed x.files.first_opens → AreFixed (apply x (tick x ms)).files.first_opens
  unfolding tick
  tick-fixed x ms fixed = fixed-after (with_clock x ms) (aborted_in_turn (with_clock x ms) x.transactions.items) (turn-spends x.transactions.items (with_clock x ms)).goes.opens fixed

  -- ---- handles

  unbinding-less : (x : Present) (process : Pid) (label : Label) → NoMore x (apply x (unbinding lists formed x process label))
  unbinding-less x process label = no_more-left x (unbinding lists formed x process label) refl refl refl refl refl refl (omega arith) (omega arith) (length-filter-less (λ h. not (is_handle process label h)) x.handles) refl refl refl

  unbinding-spends : (x : Present) (process : Pid) (label : Label) → (AreInOrder x → (n : ℕ) (h : Handle) → IsIn h x.handles → is_handle process label h ≡ true → same_object h.object (FileObject n) ≡ false)
      → Spends x (unbinding lists formed x process label)
  unbinding-spends x process label apart = record { goes = unbinding-goes lists formed x process label apart; less = λ order sound fixed. unbinding-less x process label }

  active-spends : (y : Present) (id : Id) → Spends y (abort_active y (transaction_at y.transactions.items id))
  active-spends y id = go (transaction_at y.transactions.items id) refl
    where
      go : (t : Option Transaction) → transaction_at y.transactions.items id ≡ t → Spends y (abort_active y t)
      go None found = reply-spends y Done
      go (Some t) found = either-spends y (is_active t) (aborted_by y t None Done) (only_reply y Done) (λ active. aborts y id t found (active-live t active)) (λ other. reply-spends y Done)

  gone-spends : (y : Present) (object : Object) → Spends y (last_handle_gone y object) → Spends y (handle_gone (Some object) y)
  gone-spends y object last = either-spends y (has_handle y.handles object) (only_reply y Done) (last_handle_gone y object) (λ has. reply-spends y Done) (λ none. last)

  -- no open file counts
  closed-files : (f : FilesNow) (n : ℕ) → NoMoreFiles f (record f { table = closed_file f.table n })
  unfolding units_used nodes_used file_changes_waiting
  closed-files f n = record { changes = omega arith; last_open = omega arith; next_node = omega arith; units = omega arith; nodes = omega arith }

  closed-less : (y : Present) (n : ℕ) → NoMore y (apply y (record (only_reply y Done) { table = closed_file y.files.table n }))
  closed-less y n = record {
    room = refl;
    live = omega arith;
    enlisted = omega arith;
    managers = (no_more-reply y Done).managers;
    handles = omega arith;
    last_transaction = omega arith;
    last_manager = omega arith;
    last_enlistment = omega arith;
    files = files-then y.files (record y.files { table = closed_file y.files.table n }) _ (closed-files y.files n)
        (files-same _ _ (λ i. record { tree = y.files.tree; versions = y.files.versions; first_opens = (filter-true (y.files.first_opens ++ []) ∙ append-nil y.files.first_opens) i; table = closed_file y.files.table n }));
    keys = omega arith;
    unset = omega arith;
  }

  file-spends : (x : Present) (process : Pid) (label : Label) (n : ℕ) → object_at x.handles process label ≡ Some (FileObject n)
      → Spends x (and_then x (unbinding lists formed x process label) (handle_gone (Some (FileObject n))))
  file-spends x process label n bound = record {
    goes = file-goes lists formed x process label n bound;
    less = λ order sound fixed. go (has_handle (without_handle x.handles process label) (FileObject n));
  }
    where
      x1 : Present
      x1 = apply x (unbinding lists formed x process label)

      after : (o : Outcome) → o.openings ≡ [] → NoMore x1 (apply x1 o) → NoMore x (apply x (joined (unbinding lists formed x process label) o))
      after o none less = no_more-then x x1 _ (unbinding-less x process label) (no_more-then x1 (apply x1 o) _ less (joined-less x (unbinding lists formed x process label) o refl none))

      go : (b : Bool) → NoMore x (apply x (joined (unbinding lists formed x process label) (if b then only_reply x1 Done else record (only_reply x1 Done) { table = closed_file x1.files.table n })))
      go true = after (only_reply x1 Done) refl (no_more-reply x1 Done)
      go false = after (record (only_reply x1 Done) { table = closed_file x1.files.table n }) refl (closed-less x1 n)

  pub close_handle-spends : (x : Present) (process : Pid) (label : Label) → Spends x (close_handle x process label)
  unfolding close_handle
  close_handle-spends x process label = go (object_at x.handles process label) refl
    where
      go : (o : Option Object) → object_at x.handles process label ≡ o → Spends x (and_then x (unbinding lists formed x process label) (handle_gone o))
      go None none = and_then-spends x (unbinding lists formed x process label) (handle_gone None)
          (unbinding-spends x process label (λ order n h there is. absurd (true≢false (sym is ∙ unbound x.handles process label none h there)))) (λ y. reply-spends y Done)
      go (Some (TransactionObject id)) bound = and_then-spends x (unbinding lists formed x process label) (handle_gone (Some (TransactionObject id)))
          (unbinding-spends x process label (λ order n h there is. subst (λ k. same_object k (FileObject n) ≡ false) (sym (bound-object x.handles process label (TransactionObject id) order.labels_differ bound h there is)) refl))
          (λ y. gone-spends y (TransactionObject id) (active-spends y id))
      go (Some (ManagerObject id)) bound = and_then-spends x (unbinding lists formed x process label) (handle_gone (Some (ManagerObject id)))
          (unbinding-spends x process label (λ order n h there is. subst (λ k. same_object k (FileObject n) ≡ false) (sym (bound-object x.handles process label (ManagerObject id) order.labels_differ bound h there is)) refl))
          (λ y. gone-spends y (ManagerObject id) (reply-spends y Done))
      go (Some (EnlistmentObject id)) bound = and_then-spends x (unbinding lists formed x process label) (handle_gone (Some (EnlistmentObject id)))
          (unbinding-spends x process label (λ order n h there is. subst (λ k. same_object k (FileObject n) ≡ false) (sym (bound-object x.handles process label (EnlistmentObject id) order.labels_differ bound h there is)) refl))
          (λ y. gone-spends y (EnlistmentObject id) (reply-spends y Done))
      go (Some (FileObject n)) bound = file-spends x process label n bound

  closed_in_turn-spends : (labels : List Label) (process : Pid) (x : Present) → Spends x (closed_in_turn x process labels)
  closed_in_turn-spends [] process x = reply-spends x Done
  closed_in_turn-spends (label ∷ labels) process x =
      and_then-spends x (close_handle x process label) (λ next. closed_in_turn next process labels) (close_handle-spends x process label) (closed_in_turn-spends labels process)

  pub exit-spends : (x : Present) (process : Pid) → Spends x (exit x process)
  unfolding exit
  exit-spends x process = closed_in_turn-spends (labels_of x.handles process) process x
