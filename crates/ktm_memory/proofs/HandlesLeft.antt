-- What depended on a handle that is closed.
use Rattle.std.proofs.Common.{◌≡◌, ℕ, Bool, true, false, cond, not, Some, None, refl, sym, ap, subst, ◌∙◌, arith}
use Rattle.std.proofs.lemmas.Bool.{false_from_ne_true}
use Rattle.ktm_base.specs.declared.id.Id.{Id}
use Rattle.ktm_world.specs.declared.object.Object.{Object}
use Rattle.ktm_world.specs.declared.object.Object.TheVariants.{File as FileObject}
use Rattle.ktm_world.specs.declared.object.Phase.{Phase}
use Rattle.ktm_world.specs.declared.object.Phase.TheVariants.{Active}
use Rattle.ktm_world.specs.declared.object.Transaction.{Transaction}
use Rattle.ktm_world.specs.declared.reply.Reply.TheVariants.{Done}
use Rattle.ktm_world.specs.Files.{FilesNow}
use Rattle.ktm_world.specs.HandleCalls.{abort_active, closed_file, handle_gone, has_handle, last_handle_gone}
use Rattle.ktm_world.specs.Outcome.{apply, only_reply}
use Rattle.ktm_world.specs.Present.{Present}
use Rattle.ktm_world.specs.Transactions.{is_active, transaction_at}
use Rattle.ktm_world.specs.TransactionCalls.{aborted_by}
use Rattle.txf_volume.specs.Held.{FilesHeld, files_of}
use Rattle.ktm_standing.proofs.offered.Applied.{apply-kept}
use Rattle.ktm_memory.specs.Memory.{MemoryState, Settles, Shows}

-- ---- an active transaction

active_from : (t : Transaction) → t.phase ≡ Active → is_active t ≡ true
active_from t is = ap (λ (p : Phase). is_active (record t { phase = p })) is

active_to : (t : Transaction) → is_active t ≡ true → t.phase ≡ Active
active_to t active = go t.phase active
  where
    go : (phase : Phase) → is_active (record t { phase = phase }) ≡ true → phase ≡ Active
    go Active active = refl
    go _ active = absurd (cc)

-- an active transaction that is found rolls back
pub active-aborts : (m : MemoryState) (id : Id) (t : Transaction) → transaction_at m.tm.now.items id ≡ Some t → t.phase ≡ Active
    → (x : Present) → Shows m x → abort_active x (transaction_at x.transactions.items id) ≡ aborted_by x t None Done
active-aborts m id t found active x shows =
    ap (λ o. abort_active x o) (ap (λ ts. transaction_at ts.items id) (sym shows.transactions) ∙ found)
    ∙ ap (λ b. cond b (aborted_by x t None Done) (only_reply x Done)) (active_from t active)

-- a transaction that is not active stays
pub others-stay : (m : MemoryState) (id : Id) (t : Transaction) → transaction_at m.tm.now.items id ≡ Some t → (t.phase ≡ Active → ⊥)
    → (x : Present) → Shows m x → abort_active x (transaction_at x.transactions.items id) ≡ only_reply x Done
others-stay m id t found other x shows =
    ap (λ o. abort_active x o) (ap (λ ts. transaction_at ts.items id) (sym shows.transactions) ∙ found)
    ∙ ap (λ b. cond b (aborted_by x t None Done) (only_reply x Done)) (false_from_ne_true (is_active t) (λ active. other (active_to t active)))

-- where no transaction is found nothing rolls back
pub none-stays : (m : MemoryState) (id : Id) → transaction_at m.tm.now.items id ≡ None → (x : Present) → Shows m x → abort_active x (transaction_at x.transactions.items id) ≡ only_reply x Done
none-stays m id found x shows = ap (λ o. abort_active x o) (ap (λ ts. transaction_at ts.items id) (sym shows.transactions) ∙ found)

-- ---- a handle that is gone

true_from_not : (last b : Bool) → not last ≡ true → last ≡ not b → b ≡ true
true_from_not true b other is = absurd (cc)
true_from_not false true other is = refl
true_from_not false false other is = absurd (cc)

false_from_not : (last b : Bool) → not last ≡ false → last ≡ not b → b ≡ false
false_from_not false b only is = absurd (cc)
false_from_not true true only is = absurd (cc)
false_from_not true false only is = refl

-- another handle names the object
pub others-name : (m : MemoryState) (object : Object) (last : Bool) → not last ≡ true → last ≡ not (has_handle m.handles.handles object)
    → (x : Present) → Shows m x → handle_gone (Some object) x ≡ only_reply x Done
others-name m object last other is x shows =
    ap (λ hs. cond (has_handle hs object) (only_reply x Done) (last_handle_gone x object)) (sym shows.handles)
    ∙ ap (λ b. cond b (only_reply x Done) (last_handle_gone x object)) (true_from_not last (has_handle m.handles.handles object) other is)

-- no other one does
pub none-names : (m : MemoryState) (object named : Object) (last : Bool) → object ≡ named → not last ≡ false → last ≡ not (has_handle m.handles.handles object)
    → (x : Present) → Shows m x → handle_gone (Some object) x ≡ last_handle_gone x named
none-names m object named last are only is x shows =
    ap (λ hs. cond (has_handle hs object) (only_reply x Done) (last_handle_gone x object)) (sym shows.handles)
    ∙ ap (λ b. cond b (only_reply x Done) (last_handle_gone x object)) (false_from_not last (has_handle m.handles.handles object) only is)
    ∙ ap (λ o. last_handle_gone x o) are

-- the file is closed
pub settles-file : (m : MemoryState) (number : ℕ) (files : FilesHeld) → files_of files ≡ record (files_of m.files) { table = closed_file (files_of m.files).table number }
    → Settles m (λ x. last_handle_gone x (FileObject number)) (record m { files = files })
settles-file m number files are = record { shows = shows; slots = λ x now. omega arith }
  where
    closed : FilesNow → FilesNow
    closed fs = record fs { table = closed_file fs.table number }

    after : (x : Present) → apply x (last_handle_gone x (FileObject number)) ≡ record x { files = closed x.files }
    after x = apply-kept x (last_handle_gone x (FileObject number)) (record { records = refl; commits = refl; sends = refl; opens = refl; makes = refl; takes = refl }) refl

    shows : (x : Present) → Shows m x → Unit {0} → Shows (record m { files = files }) (apply x (last_handle_gone x (FileObject number)))
    shows x now may = subst (λ (y : Present). Shows (record m { files = files }) y) (sym (after x)) (record {
      is_up = now.is_up;
      boot = now.boot;
      transactions = now.transactions;
      managers = now.managers;
      traces = now.traces;
      files = are ∙ ap closed now.files;
      next_node = now.next_node;
      keys = now.keys;
      handles = now.handles;
    })
