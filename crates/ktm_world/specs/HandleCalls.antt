-- The calls on handles: closing and duplicating them, and the end of a process.
use Rattle.std.specs.Prelude.{ℕ, ◌==◌, ◌&&◌, not, Bool, false, List, [], ◌∷◌, filter, nat_lt, Option, Some, None, if◌then◌else◌}
use Rattle.std.specs.List.{list_any}
use Rattle.ktm_base.specs.declared.id.Label.{Label}
use Rattle.ktm_base.specs.declared.id.Pid.{Pid}
use Rattle.ktm_base.specs.declared.refusal.Refusal.{Refusal}
use Rattle.ktm_base.specs.declared.refusal.Refusal.TheVariants.{HandleNoLongerValid}
use Rattle.ktm_world.specs.declared.object.Handle.{Handle}
use Rattle.ktm_world.specs.declared.object.Object.{Object}
use Rattle.ktm_world.specs.declared.object.Object.TheVariants.{Transaction as TransactionObject, Manager as ManagerObject, Enlistment as EnlistmentObject, File as FileObject}
use Rattle.ktm_world.specs.declared.object.Transaction.{Transaction}
use Rattle.ktm_world.specs.declared.reply.Reply.TheVariants.{Done}
use Rattle.ktm_world.specs.Handles.{object_at}
use Rattle.ktm_world.specs.Transactions.{same_id, transaction_at, is_active}
use Rattle.ktm_world.specs.Files.{FileTable}
use Rattle.ktm_world.specs.Labels.{holds_of, invalid_handle, file_number, is_dead, binding}
use Rattle.ktm_world.specs.Outcome.{Outcome, only_reply, and_then}
use Rattle.ktm_world.specs.Present.{Present}
use Rattle.ktm_world.specs.TransactionCalls.{aborted_by, bound_test, handle_test}

-- is it the handle of this process with this label
abbrev pub is_handle : Pid → Label → Handle → Bool
is_handle process label h = (h.process.0 == process.0) && (h.label.0 == label.0)

-- the handles but that of this process with this label
abbrev pub without_handle : List Handle → Pid → Label → List Handle
without_handle handles process label = filter (λ h. not (is_handle process label h)) handles

-- are they the same object
abbrev pub same_object : Object → Object → Bool
same_object (TransactionObject a) (TransactionObject b) = same_id a b
same_object (ManagerObject a) (ManagerObject b) = same_id a b
same_object (EnlistmentObject a) (EnlistmentObject b) = same_id a b
same_object (FileObject a) (FileObject b) = a == b
same_object _ _ = false

-- does some handle name the object
abbrev pub has_handle : List Handle → Object → Bool
has_handle handles object = list_any (λ h. same_object h.object object) handles

-- ---- CloseHandle

-- an open file ends with its last handle
abbrev pub closed_file : FileTable → ℕ → FileTable
closed_file table number = record table { opens = filter (λ o. not (o.number == number)) table.opens }

-- a transaction rolls back, if it is active
abbrev pub abort_active : Present → Option Transaction → Outcome
abort_active x None = only_reply x Done
abort_active x (Some t) = if is_active t then aborted_by x t None Done else only_reply x Done

-- the last handle of an object is gone: an open file ends, an active transaction rolls back, and nothing else depends on handles
abbrev pub last_handle_gone : Present → Object → Outcome
last_handle_gone x (TransactionObject id) = abort_active x (transaction_at x.transactions.items id)
last_handle_gone x (ManagerObject id) = only_reply x Done
last_handle_gone x (EnlistmentObject id) = only_reply x Done
last_handle_gone x (FileObject number) = record (only_reply x Done) { table = closed_file x.files.table number }

-- a handle of this object is gone: something ends where it was the last one
abbrev pub handle_gone : Option Object → Present → Outcome
handle_gone None x = only_reply x Done
handle_gone (Some object) x = if has_handle x.handles object then only_reply x Done else last_handle_gone x object

-- the label is unbound, and then what depended on the handle ends
unfoldable pub close_handle : Present → Pid → Label → Outcome
close_handle x process label =
    and_then x (record (only_reply x Done) { handles = without_handle x.handles process label }) (handle_gone (object_at x.handles process label))

-- the tests of CloseHandle
abbrev pub close_handle_tests : Present → Pid → Label → List (Bool × Refusal)
close_handle_tests x process label = invalid_handle (object_at x.handles process label) ∷ []

-- ---- exit

-- is it a handle of the process
abbrev pub is_of_process : Pid → Handle → Bool
is_of_process process h = h.process.0 == process.0

-- a label at its place among rising ones
abbrev pub with_label : List Label → Label → List Label
with_label [] label = label ∷ []
with_label (l ∷ ls) label = if nat_lt label.0 l.0 then label ∷ l ∷ ls else l ∷ with_label ls label

-- the labels of a process, rising
abbrev pub labels_of : List Handle → Pid → List Label
labels_of [] process = []
labels_of (h ∷ hs) process = if is_of_process process h then with_label (labels_of hs process) h.label else labels_of hs process

-- the handles with these labels are closed, one after another
abbrev pub closed_in_turn : Present → Pid → List Label → Outcome
closed_in_turn x process [] = only_reply x Done
closed_in_turn x process (label ∷ labels) = and_then x (close_handle x process label) (λ next. closed_in_turn next process labels)

-- all handles of the process are closed, by rising label
unfoldable pub exit : Present → Pid → Outcome
exit x process = closed_in_turn x process (labels_of x.handles process)

-- ---- DuplicateHandle

-- the label is bound to the object
abbrev pub bind_to : Present → Pid → Label → Option Object → Outcome
bind_to x process label None = only_reply x Done
bind_to x process label (Some object) = binding process label object (only_reply x Done)

-- the label is bound to what the label of the other process names
unfoldable pub duplicate_handle : Present → Pid → Label → Pid → Label → Outcome
duplicate_handle x process label from source = bind_to x process label (object_at x.handles from source)

-- the tests of DuplicateHandle
unfoldable pub duplicate_handle_tests : Present → Pid → Label → Pid → Label → List (Bool × Refusal)
duplicate_handle_tests x process label from source =
    invalid_handle (object_at x.handles from source)
    ∷ (holds_of (is_dead x.files) (file_number (object_at x.handles from source)), HandleNoLongerValid)
    ∷ bound_test x process label
    ∷ handle_test x
    ∷ []
