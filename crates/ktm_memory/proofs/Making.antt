-- What memory shows once something is made, and its label bound to it.
use Rattle.std.proofs.Common.{◌≡◌, ℕ, ◌+◌, ◌++◌, true, List, [], ◌∷◌, map, Option, Some, None, is_some, refl, sym, ◌∙◌, ap, subst, append-nil}
use Rattle.std.proofs.lemmas.Bool.{false≢true}
use Rattle.ktm_base.specs.declared.id.Id.{Id}
use Rattle.ktm_base.specs.declared.id.Label.{Label}
use Rattle.ktm_base.specs.declared.id.Pid.{Pid}
use Rattle.ktm_standing.specs.Effects.{IsSilent, plain_changes}
use Rattle.ktm_standing.proofs.offered.Applied.{apply-kept, opens_all, served-none}
use Rattle.ktm_standing.proofs.offered.Effects.{effects_law}
use Rattle.ktm_object.specs.Table.{HandleTable}
use Rattle.ktm_tm.specs.TmState.{TmState, id_after, next_id, with_enlisted, with_new}
use Rattle.ktm_trace.specs.Traces.{traces_of}
use Rattle.ktm_world.specs.declared.change.Change.{Change}
use Rattle.ktm_world.specs.declared.object.Handle.{Handle}
use Rattle.ktm_world.specs.declared.object.Object.TheVariants.{Transaction as TransactionObject, Manager as ManagerObject, Enlistment as EnlistmentObject}
use Rattle.ktm_world.specs.declared.object.Transaction.{Transaction}
use Rattle.ktm_world.specs.declared.options.Durability.{Durability}
use Rattle.ktm_world.specs.declared.options.Durability.TheVariants.{Durable, Volatile}
use Rattle.ktm_world.specs.declared.options.EnlistmentKind.{EnlistmentKind}
use Rattle.ktm_world.specs.Durable.{next_after_all}
use Rattle.ktm_world.specs.Enlistments.{Manager}
use Rattle.ktm_world.specs.FileOutcome.{FileOutcome, files_after, next_node_after}
use Rattle.ktm_world.specs.Files.{FileTable, FilesNow}
use Rattle.ktm_world.specs.Keys.{Own}
use Rattle.ktm_world.specs.Labels.{with_handle}
use Rattle.ktm_world.specs.Outcome.{Outcome, apply, served}
use Rattle.ktm_world.specs.Present.{Present, Transactions}
use Rattle.ktm_world.specs.TransactionCalls.{create_enlistment, create_resource_manager, create_transaction, is_durable}
use Rattle.txf_volume.specs.Held.{FilesHeld, files_of}
use Rattle.ktm_memory.specs.Memory.{MemoryState, Shows}
use Rattle.ktm_memory.specs.Opening.{files_outcome}
use Rattle.ktm_memory.specs.Settled.{handles_then}

-- ---- what records nothing, and makes something of transactions and handles alone

-- the outcome records nothing, and makes these transactions and handles
record IsMadeOf (m : MemoryState) (x : Present) (o : Outcome) (tm : TmState) (table : HandleTable) : Type 0 where
  silent : IsSilent o
  forgets : o.forgotten ≡ []
  opens : o.table ≡ x.files.table
  own : o.own ≡ x.keys.own
  boot : tm.boot ≡ m.tm.boot
  now : tm.now ≡ o.transactions
  managers : tm.managers ≡ m.tm.managers
  handles : table.handles ≡ o.handles

made_shows : (m : MemoryState) (x : Present) (o : Outcome) (tm : TmState) (handles : HandleTable) → Shows m x → IsMadeOf m x o tm handles → Shows (record m { tm = tm; handles = handles }) (apply x o)
made_shows m x o tm handles shows made = subst (λ (y : Present). Shows (record m { tm = tm; handles = handles }) y) (sym (apply-kept x o made.silent made.forgets)) (record {
  is_up = shows.is_up;
  boot = made.boot ∙ shows.boot;
  transactions = made.now;
  managers = made.managers ∙ shows.managers;
  traces = shows.traces;
  files = shows.files ∙ ap (λ (t : FileTable). record x.files { table = t }) (sym made.opens);
  next_node = shows.next_node;
  keys = shows.keys ∙ ap (λ (own : List Own). record x.keys { own = own }) (sym made.own);
  handles = made.handles;
})

-- a transaction begins
pub begun_shows : (m : MemoryState) (x : Present) (process : Pid) (label : Label) (timeout : ℕ) (tm : TmState) (handles : HandleTable) → Shows m x → tm.boot ≡ m.tm.boot → tm.now ≡ with_new m.tm.boot m.tm.now timeout → tm.managers ≡ m.tm.managers
    → handles.handles ≡ with_handle m.handles.handles process label (TransactionObject (next_id m.tm.boot m.tm.now)) → Shows (record m { tm = tm; handles = handles }) (apply x (create_transaction x process label timeout))
unfolding create_transaction
begun_shows m x process label timeout tm handles shows boot now managers bound = made_shows m x (create_transaction x process label timeout) tm handles shows (record {
  silent = record { records = refl; commits = refl; sends = refl; opens = refl; makes = refl; takes = refl };
  forgets = refl;
  opens = refl;
  own = refl;
  boot = boot;
  now = now ∙ (λ i. with_new (shows.boot i) (shows.transactions i) timeout);
  managers = managers;
  handles = bound ∙ (λ i. with_handle (shows.handles i) process label (TransactionObject (next_id (shows.boot i) (shows.transactions i))));
})

-- an enlistment is made
pub enlisted_shows : (m : MemoryState) (x : Present) (process : Pid) (label : Label) (manager transaction : Id) (kind : EnlistmentKind) (of : Option Manager) (in_it : Option Transaction) (tm : TmState) (handles : HandleTable) → Shows m x
    → is_some of ≡ true → is_some in_it ≡ true → ((u : Manager) → of ≡ Some u → u.id ≡ manager) → ((u : Transaction) → in_it ≡ Some u → u.id ≡ transaction)
    → tm.boot ≡ m.tm.boot → tm.now ≡ with_enlisted m.tm.boot m.tm.now manager transaction kind → tm.managers ≡ m.tm.managers
    → handles.handles ≡ with_handle m.handles.handles process label (EnlistmentObject (id_after m.tm.boot m.tm.now.last_enlistment))
    → Shows (record m { tm = tm; handles = handles }) (apply x (create_enlistment x process label of in_it kind))
unfolding create_enlistment
enlisted_shows m x process label manager transaction kind (Some u) (Some t) tm handles shows some_manager some_transaction manager_is transaction_is boot now managers bound =
    made_shows m x (create_enlistment x process label (Some u) (Some t) kind) tm handles shows (record {
      silent = record { records = refl; commits = refl; sends = refl; opens = refl; makes = refl; takes = refl };
      forgets = refl;
      opens = refl;
      own = refl;
      boot = boot;
      now = now ∙ (λ i. with_enlisted (shows.boot i) (shows.transactions i) (sym (manager_is u refl) i) (sym (transaction_is t refl) i) kind);
      managers = managers;
      handles = bound ∙ (λ i. with_handle (shows.handles i) process label (EnlistmentObject (id_after (shows.boot i) (shows.transactions i).last_enlistment)));
    })
enlisted_shows m x process label manager transaction kind None in_it tm handles shows some_manager some_transaction manager_is transaction_is boot now managers bound = absurd (false≢true some_manager)
enlisted_shows m x process label manager transaction kind (Some u) None tm handles shows some_manager some_transaction manager_is transaction_is boot now managers bound = absurd (false≢true some_transaction)

-- ---- a resource manager is made

-- memory looks at nothing that it records
record IsRecordedAside (x y : Present) : Type 0 where
  boots : y.recorded.boots ≡ x.recorded.boots
  traces : traces_of y.recorded ≡ traces_of x.recorded
  next_node : y.recorded.next_node ≡ x.recorded.next_node

manager_aside : (x : Present) (process : Pid) (label : Label) (durability : Durability) → IsRecordedAside x (apply x (create_resource_manager x process label durability))
unfolding create_resource_manager
manager_aside x process label Volatile = record { boots = refl; traces = refl; next_node = refl }
manager_aside x process label Durable = record { boots = refl; traces = refl; next_node = refl }

none_served : (ms : List Manager) → ms ≡ map (served None []) ms
none_served ms = sym (served-none ms) ∙ ap (map (served None [])) (append-nil ms)

pub manager_shows : (m : MemoryState) (x : Present) (process : Pid) (label : Label) (durability : Durability) (tm : TmState) (handles : HandleTable) → Shows m x → tm.boot ≡ m.tm.boot
    → tm.now ≡ record m.tm.now { last_manager = m.tm.now.last_manager + 1 }
    → tm.managers ≡ m.tm.managers ++ record { id = id_after m.tm.boot m.tm.now.last_manager; is_durable = is_durable durability; queue = [] } ∷ []
    → handles.handles ≡ with_handle m.handles.handles process label (ManagerObject (id_after m.tm.boot m.tm.now.last_manager))
    → Shows (record m { tm = tm; handles = handles }) (apply x (create_resource_manager x process label durability))
unfolding create_resource_manager
manager_shows m x process label durability tm handles shows boot now managers bound =
    let recorded = manager_aside x process label durability in
    record {
      is_up = shows.is_up;
      boot = boot ∙ shows.boot ∙ sym recorded.boots;
      transactions = now ∙ ap (λ (ts : Transactions). record ts { last_manager = ts.last_manager + 1 }) shows.transactions;
      managers = managers ∙ (λ i. shows.managers i ++ record { id = id_after (shows.boot i) (shows.transactions i).last_manager; is_durable = is_durable durability; queue = [] } ∷ []) ∙ none_served _;
      traces = shows.traces ∙ sym recorded.traces;
      files = shows.files ∙ (λ i. record x.files { first_opens = sym (opens_all x.files.first_opens) i });
      next_node = shows.next_node ∙ sym recorded.next_node;
      keys = shows.keys;
      handles = bound ∙ (λ i. with_handle (shows.handles i) process label (ManagerObject (id_after (shows.boot i) (shows.transactions i).last_manager)));
    }

-- ---- a plain call changes the files

next_by : (n : ℕ) (change : Option Change) → next_node_after n change ≡ next_after_all n (plain_changes None change)
next_by n None = refl
next_by n (Some change) = refl

pub changed_shows : (m : MemoryState) (x : Present) (process : Pid) (label : Option Label) (plan : FileOutcome) (files : FilesHeld) (next : ℕ) (handles : HandleTable) → Shows m x
    → files_of files ≡ files_after (files_of m.files) None plan → next ≡ next_node_after m.next_node plan.change → handles.handles ≡ handles_then m.handles.handles process label plan.opened
    → Shows (record m { files = files; next_node = next; handles = handles }) (apply x (files_outcome x process None label plan))
changed_shows m x process None plan files next handles shows made after bound = subst (λ (y : Present). Shows (record m { files = files; next_node = next; handles = handles }) y) (sym (effects_law.files x None plan)) (record {
  is_up = shows.is_up;
  boot = shows.boot;
  transactions = shows.transactions;
  managers = shows.managers;
  traces = shows.traces;
  files = made ∙ ap (λ (fs : FilesNow). files_after fs None plan) shows.files;
  next_node = after ∙ ap (λ (n : ℕ). next_node_after n plan.change) shows.next_node ∙ next_by x.recorded.next_node plan.change;
  keys = shows.keys;
  handles = bound ∙ shows.handles;
})
changed_shows m x process (Some named) plan files next handles shows made after bound = subst (λ (y : Present). Shows (record m { files = files; next_node = next; handles = handles }) y) (sym (effects_law.opens x process named None plan)) (record {
  is_up = shows.is_up;
  boot = shows.boot;
  transactions = shows.transactions;
  managers = shows.managers;
  traces = shows.traces;
  files = made ∙ ap (λ (fs : FilesNow). files_after fs None plan) shows.files;
  next_node = after ∙ ap (λ (n : ℕ). next_node_after n plan.change) shows.next_node ∙ next_by x.recorded.next_node plan.change;
  keys = shows.keys;
  handles = bound ∙ ap (λ (hs : List Handle). handles_then hs process (Some named) plan.opened) shows.handles;
})
