-- Closing handles, one after another.
use Rattle.std.proofs.Common.{◌≡◌, Bool, true, false, cond, List, [], ◌∷◌, not, Option, Some, None, option_and_then, refl, sym, ◌∙◌, ap, subst, arith}
use Rattle.std.specs.Option.{option_map}
use Rattle.ktm_base.specs.declared.id.Label.{Label}
use Rattle.ktm_base.specs.declared.id.Pid.{Pid}
use Rattle.ktm_object.specs.declared.closed.Closed.{Closed}
use Rattle.ktm_object.specs.Table.{HandleTable, closed_of, closing, first_label}
use Rattle.ktm_world.specs.declared.object.Handle.{Handle}
use Rattle.ktm_world.specs.declared.input.PhaseInput.{PhaseInput}
use Rattle.ktm_world.specs.declared.object.Object.{Object}
use Rattle.ktm_world.specs.declared.object.Object.TheVariants.{Transaction as TransactionObject, Manager as ManagerObject, Enlistment as EnlistmentObject, File as FileObject}
use Rattle.ktm_world.specs.declared.object.Transaction.{Transaction}
use Rattle.ktm_world.specs.declared.reply.Reply.TheVariants.{Done}
use Rattle.ktm_world.specs.HandleCalls.{abort_active, close_handle, closed_in_turn, exit, handle_gone, has_handle, labels_of, last_handle_gone, without_handle}
use Rattle.ktm_world.specs.Handles.{object_at}
use Rattle.ktm_world.specs.Outcome.{Outcome, and_then, apply, joined, only_reply}
use Rattle.ktm_world.specs.Present.{Present}
use Rattle.ktm_world.specs.Steps.{led}
use Rattle.ktm_world.specs.Transactions.{is_active, is_undecided, transaction_at}
use Rattle.ktm_world.specs.TransactionCalls.{aborted_by, course_of}
use Rattle.ktm_steps.proofs.offered.Ways.{if_cases}
use Rattle.ktm_trace.specs.Contents.{KeptLaw}
use Rattle.ktm_standing.specs.Courses.{aside}
use Rattle.ktm_standing.specs.Effects.{IsLater}
use Rattle.ktm_standing.proofs.offered.Applied.{later-joined, later-reply}
use Rattle.ktm_standing.proofs.offered.Handles.{apply-unbinding, later-close, later-gone, unbinding}
use Rattle.ktm_memory.specs.Memory.{MemoryState, Settles, Shows, TellsWithin}
use Rattle.ktm_memory.proofs.Behind.{ComesBehind, LooksAside, settles-behind, settles-reply, settles-same, told-rest}

-- ---- what is told of a handle that is closed

-- it was bound, and was the last one where no other is
pub record IsClosed (handles : List Handle) (process : Pid) (label : Label) (closed : Closed) : Type 0 where
  pub named : object_at handles process label ≡ Some closed.object
  pub labelled : closed.label ≡ label
  pub last : closed.is_last ≡ not (has_handle (without_handle handles process label) closed.object)

pub closed_is : (handles : List Handle) (process : Pid) (label : Label) (closed : Closed) → Some closed ≡ closed_of handles process label → IsClosed handles process label closed
closed_is handles process label closed told = go (object_at handles process label) refl told
  where
    go : (named : Option Object) → object_at handles process label ≡ named → Some closed ≡ option_map (closing handles process label) named → IsClosed handles process label closed
    go None at is = absurd (cc)
    go (Some object) at is = let same : closing handles process label object ≡ closed = cc in subst (λ c. IsClosed handles process label c) same (record { named = at; labelled = refl; last = refl })

pub none_closed : (handles : List Handle) (process : Pid) (label : Label) → None ≡ closed_of handles process label → object_at handles process label ≡ None
none_closed handles process label told = go (object_at handles process label) told
  where
    go : (named : Option Object) → None ≡ option_map (closing handles process label) named → named ≡ None
    go None is = refl
    go (Some object) is = absurd (cc)

-- the least label of the process is the first of its labels
pub first_closed : (handles : List Handle) (process : Pid) (closed : Closed) (labels : List Label) → labels_of handles process ≡ closed.label ∷ labels → Some closed ≡ option_and_then (closed_of handles process) (first_label (labels_of handles process))
    → Some closed ≡ closed_of handles process closed.label
first_closed handles process closed labels are told = told ∙ ap (λ (ls : List Label). option_and_then (closed_of handles process) (first_label ls)) are

-- ---- one handle

looks-gone : (object : Option Object) → LooksAside (λ x. handle_gone object x)
looks-gone None x = refl
looks-gone (Some object) x = refl

-- the label is unbound
settles-unbinding : (m : MemoryState) (handles : HandleTable) (process : Pid) (label : Label) → handles.handles ≡ without_handle m.handles.handles process label
    → Settles m (λ x. unbinding x process label) (record m { handles = handles })
settles-unbinding m handles process label are = record { shows = shows; slots = λ x now. omega arith }
  where
    shows : (x : Present) → Shows m x → Unit {0} → Shows (record m { handles = handles }) (apply x (unbinding x process label))
    shows x now may = subst (λ (y : Present). Shows (record m { handles = handles }) y) (sym (apply-unbinding x process label)) (record {
      is_up = now.is_up;
      boot = now.boot;
      transactions = now.transactions;
      managers = now.managers;
      traces = now.traces;
      files = now.files;
      next_node = now.next_node;
      keys = now.keys;
      handles = are ∙ ap (λ (hs : List Handle). without_handle hs process label) now.handles;
    })

-- once the label is unbound, what depended on the handle ends
gone-behind : (m : MemoryState) (process : Pid) (label : Label) (named : Option Object) → object_at m.handles.handles process label ≡ named
    → ComesBehind m (λ x. unbinding x process label) (λ x. handle_gone named x) (λ x. close_handle x process label)
unfolding close_handle
gone-behind m process label named is = record {
  comes = λ x now. ap (λ (o : Option Object). and_then x (unbinding x process label) (handle_gone o)) (ap (λ (hs : List Handle). object_at hs process label) (sym now.handles) ∙ is);
  opens = λ x now. refl;
  later = λ x now. later-gone (apply x (unbinding x process label)) named;
}

-- the handle is closed
pub settles-close : (m n : MemoryState) (handles : HandleTable) (process : Pid) (label : Label) (closed : Closed) → handles.handles ≡ without_handle m.handles.handles process label
    → IsClosed m.handles.handles process label closed → Settles (record m { handles = handles }) (λ x. handle_gone (Some closed.object) x) n → Settles m (λ x. close_handle x process label) n
settles-close m n handles process label closed are is gone =
    settles-behind m (record m { handles = handles }) n (λ x. unbinding x process label) (λ x. handle_gone (Some closed.object) x) (λ x. close_handle x process label)
    (gone-behind m process label (Some closed.object) is.named) (settles-unbinding m handles process label are) gone

-- there is room for what that tells
pub told-gone : (m : MemoryState) (handles : HandleTable) (process : Pid) (label : Label) (closed : Closed) → KeptLaw → handles.handles ≡ without_handle m.handles.handles process label
    → IsClosed m.handles.handles process label closed → TellsWithin m (λ x. close_handle x process label) → TellsWithin (record m { handles = handles }) (λ x. handle_gone (Some closed.object) x)
told-gone m handles process label closed kept are is told =
    told-rest m (record m { handles = handles }) (λ x. unbinding x process label) (λ x. handle_gone (Some closed.object) x) (λ x. close_handle x process label) kept (looks-gone (Some closed.object))
    (gone-behind m process label (Some closed.object) is.named) (settles-unbinding m handles process label are) told

-- there was no handle
pub settles-unbound : (m : MemoryState) (handles : HandleTable) (process : Pid) (label : Label) → handles.handles ≡ without_handle m.handles.handles process label
    → object_at m.handles.handles process label ≡ None → Settles m (λ x. close_handle x process label) (record m { handles = handles })
settles-unbound m handles process label are none =
    settles-behind m (record m { handles = handles }) (record m { handles = handles }) (λ x. unbinding x process label) (λ x. only_reply x Done) (λ x. close_handle x process label)
    (gone-behind m process label None none) (settles-unbinding m handles process label are) (settles-reply (record m { handles = handles }))

-- ---- all handles of a process

later-closed : (x : Present) (process : Pid) (labels : List Label) → IsLater (closed_in_turn x process labels)
later-closed x process [] = later-reply x Done
later-closed x process (label ∷ labels) = later-joined (close_handle x process label) _ (later-close x process label) (later-closed (apply x (close_handle x process label)) process labels)

looks-close : (process : Pid) (label : Label) → LooksAside (λ x. close_handle x process label)
unfolding close_handle
looks-close process label x = ap (λ (o : Outcome). joined (unbinding x process label) o) (sym (looks-gone (object_at x.handles process label) (apply (aside x) (unbinding x process label))) ∙ looks-gone (object_at x.handles process label) (apply x (unbinding x process label)))

looks-closed : (process : Pid) (labels : List Label) → LooksAside (λ x. closed_in_turn x process labels)
looks-closed process [] x = refl
looks-closed process (label ∷ labels) x =
    let o = close_handle x process label in
    ap (λ (first : Outcome). joined first (closed_in_turn (apply (aside x) first) process labels)) (looks-close process label x)
    ∙ ap (λ (rest : Outcome). joined o rest) (sym (looks-closed process labels (apply (aside x) o)) ∙ looks-closed process labels (apply x o))

pub looks-exit : (process : Pid) → LooksAside (λ x. exit x process)
unfolding exit
looks-exit process x = looks-closed process (labels_of x.handles process) x

-- a handle is gone, and the others stay
gone-handles : (x : Present) (object : Option Object) → (handle_gone object x).handles ≡ x.handles
gone-handles x None = refl
gone-handles x (Some object) = go (has_handle x.handles object)
  where
    rolled : (t : Transaction) → (aborted_by x t None Done).handles ≡ x.handles
    rolled t = if_cases (λ (o : Outcome). o.handles ≡ x.handles) (is_undecided (led PhaseInput.Rollback (course_of x t None)).transaction) _ _ (λ kept. refl) (λ known. refl)

    active : (t : Transaction) (b : Bool) → (cond b (aborted_by x t None Done) (only_reply x Done)).handles ≡ x.handles
    active t true = rolled t
    active t false = refl

    found : (t : Option Transaction) → (abort_active x t).handles ≡ x.handles
    found None = refl
    found (Some t) = active t (is_active t)

    last : (object : Object) → (last_handle_gone x object).handles ≡ x.handles
    last (TransactionObject id) = found (transaction_at x.transactions.items id)
    last (ManagerObject id) = refl
    last (EnlistmentObject id) = refl
    last (FileObject number) = refl

    go : (b : Bool) → (cond b (only_reply x Done) (last_handle_gone x object)).handles ≡ x.handles
    go true = refl
    go false = last object

close-handles : (x : Present) (process : Pid) (label : Label) → (close_handle x process label).handles ≡ without_handle x.handles process label
unfolding close_handle
close-handles x process label = gone-handles (apply x (unbinding x process label)) (object_at x.handles process label)

-- the least label goes first
pub exit-behind : (m : MemoryState) (handles : List Handle) (process : Pid) (label : Label) → handles ≡ without_handle m.handles.handles process label
    → labels_of m.handles.handles process ≡ label ∷ labels_of handles process → ComesBehind m (λ x. close_handle x process label) (λ x. exit x process) (λ x. exit x process)
unfolding exit
exit-behind m handles process label are labels = record {
  comes = λ x now.
      ap (λ (ls : List Label). closed_in_turn x process ls)
      (ap (λ (hs : List Handle). labels_of hs process) (sym now.handles)
      ∙ labels
      ∙ ap (λ (hs : List Handle). label ∷ labels_of hs process) (are ∙ ap (λ (hs : List Handle). without_handle hs process label) now.handles ∙ sym (close-handles x process label)));
  opens = λ x now. (later-close x process label).opens;
  later = λ x now. let y = apply x (close_handle x process label) in later-closed y process (labels_of y.handles process);
}

-- none is left
pub settles-none : (m : MemoryState) (process : Pid) → labels_of m.handles.handles process ≡ [] → Settles m (λ x. exit x process) m
unfolding exit
settles-none m process none =
    settles-same m m (λ x. only_reply x Done) (λ x. exit x process) (λ x now. ap (λ (ls : List Label). closed_in_turn x process ls) (ap (λ (hs : List Handle). labels_of hs process) (sym now.handles) ∙ none)) (settles-reply m)
