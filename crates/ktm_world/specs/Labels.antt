-- What the labels of a process name, and the tests on them.
use Rattle.std.specs.Prelude.{ℕ, ◌==◌, ◌&&◌, not, Bool, true, false, List, [], ◌∷◌, ◌++◌, find, Option, Some, None, is_some, is_none, option_and_then}
use Rattle.ktm_base.specs.declared.id.Id.{Id}
use Rattle.ktm_base.specs.declared.id.Label.{Label}
use Rattle.ktm_base.specs.declared.id.Pid.{Pid}
use Rattle.ktm_base.specs.declared.refusal.Refusal.{Refusal}
use Rattle.ktm_base.specs.declared.refusal.Refusal.TheVariants.{InvalidHandle, HandleNoLongerValid, TransactionAlreadyCommitted, TransactionAlreadyAborted, TransactionNotActive}
use Rattle.ktm_world.specs.declared.command.View.{View}
use Rattle.ktm_world.specs.declared.command.View.TheVariants.{Plain, Transaction as Through}
use Rattle.ktm_world.specs.declared.object.Handle.{Handle}
use Rattle.ktm_world.specs.declared.object.Object.{Object}
use Rattle.ktm_world.specs.declared.object.Object.TheVariants.{Manager as ManagerObject, Enlistment as EnlistmentObject, File as FileObject}
use Rattle.ktm_world.specs.declared.object.Transaction.{Transaction}
use Rattle.ktm_world.specs.Handles.{object_at, transaction_id}
use Rattle.ktm_world.specs.Transactions.{transaction_at, is_active, is_committed, is_aborted}
use Rattle.ktm_world.specs.Enlistments.{Enlistment, Manager, manager_at, enlistment_at}
use Rattle.ktm_world.specs.Files.{FilesNow, OpenFile}
use Rattle.ktm_world.specs.Outcome.{Outcome}
use Rattle.ktm_world.specs.Present.{Present}
use Rattle.ktm_world.specs.Tree.{Tree, is_file}

-- the resource manager that a handle names, if it names one
abbrev pub manager_id : Option Object → Option Id
manager_id (Some (ManagerObject id)) = Some id
manager_id _ = None

-- the enlistment that a handle names, if it names one
abbrev pub enlistment_id : Option Object → Option Id
enlistment_id (Some (EnlistmentObject id)) = Some id
enlistment_id _ = None

-- the open file that a handle names, if it names one
abbrev pub file_number : Option Object → Option ℕ
file_number (Some (FileObject number)) = Some number
file_number _ = None

-- the transaction that a label of the process names
abbrev pub transaction_named : Present → Pid → Label → Option Transaction
transaction_named x process label = option_and_then (transaction_at x.transactions.items) (transaction_id (object_at x.handles process label))

-- the resource manager that a label of the process names
abbrev pub manager_named : Present → Pid → Label → Option Manager
manager_named x process label = option_and_then (manager_at x.managers) (manager_id (object_at x.handles process label))

-- the enlistment that a label of the process names
abbrev pub enlistment_named : Present → Pid → Label → Option Enlistment
enlistment_named x process label = option_and_then (enlistment_at x.transactions.enlistments) (enlistment_id (object_at x.handles process label))

-- the open file with this number
abbrev pub open_file_at : List OpenFile → ℕ → Option OpenFile
open_file_at opens number = find (λ o. o.number == number) opens

-- the open file that a label of the process names
abbrev pub file_named : Present → Pid → Label → Option OpenFile
file_named x process label = option_and_then (open_file_at x.files.table.opens) (file_number (object_at x.handles process label))

-- is the label of the process bound
abbrev pub is_bound : Present → Pid → Label → Bool
is_bound x process label = is_some (object_at x.handles process label)

-- what a test says of a thing that is there
abbrev pub holds_of : {T : Type 0} → (T → Bool) → Option T → Bool
holds_of test None = false
holds_of test (Some t) = test t

-- a label that is not bound, or names an object of another kind
abbrev pub invalid_handle : {T : Type 0} → Option T → Bool × Refusal
invalid_handle named = (is_none named, InvalidHandle)

-- the tests on the outcome of a transaction
abbrev pub outcome_tests : Option Transaction → List (Bool × Refusal)
outcome_tests t = (holds_of is_committed t, TransactionAlreadyCommitted) ∷ (holds_of is_aborted t, TransactionAlreadyAborted) ∷ []

-- the tests of a call that wants an active transaction
abbrev pub active_tests : Option Transaction → List (Bool × Refusal)
active_tests t = outcome_tests t ++ (holds_of (λ t. not (is_active t)) t, TransactionNotActive) ∷ []

-- the tests on the label of a transaction that is to be active
abbrev pub transaction_tests : Option Transaction → List (Bool × Refusal)
transaction_tests t = invalid_handle t ∷ active_tests t

-- the transaction that a call is made in
abbrev pub id_of_named : Option Transaction → Option Id
id_of_named None = None
id_of_named (Some t) = Some t.id

-- the tests on a view: those of its transaction, and none where it is plain
abbrev pub view_tests : Present → Pid → View → List (Bool × Refusal)
view_tests x process Plain = []
view_tests x process (Through label) = transaction_tests (transaction_named x process label)

-- the transaction that a view is through, if it is through one
abbrev pub viewer : Present → Pid → View → Option Id
viewer x process Plain = None
viewer x process (Through label) = id_of_named (transaction_named x process label)

-- ---- dead file handles

-- a file is open until the outcome of its transaction is known, and a plain one is dead once it is gone from the tree
abbrev pub is_dead_file : Tree → Option OpenFile → Bool
is_dead_file tree None = true
is_dead_file tree (Some o) = is_none o.transaction && not (is_file tree o.node)

-- is the handle of the file with this number dead
abbrev pub is_dead : FilesNow → ℕ → Bool
is_dead files number = is_dead_file files.tree (open_file_at files.table.opens number)

-- the transaction of an open file, if it has one
abbrev pub transaction_of : Present → OpenFile → Option Transaction
transaction_of x o = option_and_then (transaction_at x.transactions.items) o.transaction

-- its transaction is not active
abbrev pub is_suspended : Present → OpenFile → Bool
is_suspended x o = holds_of (λ t. not (is_active t)) (transaction_of x o)

-- the tests on the handle of an open file
abbrev pub file_tests : Present → Pid → Label → List (Bool × Refusal)
file_tests x process label =
    let number = file_number (object_at x.handles process label) in
    invalid_handle number
    ∷ (holds_of (is_dead x.files) number, HandleNoLongerValid)
    ∷ (holds_of (is_suspended x) (file_named x process label), TransactionNotActive)
    ∷ []

-- ---- binding labels

-- the handles with one more
abbrev pub with_handle : List Handle → Pid → Label → Object → List Handle
with_handle handles process label object = handles ++ record { process = process; label = label; object = object } ∷ []

-- an outcome by which the label is bound to an object too
abbrev pub binding : Pid → Label → Object → Outcome → Outcome
binding process label object o = record o { handles = with_handle o.handles process label object }
