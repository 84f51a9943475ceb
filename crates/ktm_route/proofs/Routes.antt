-- From the tests of a command to those of its layer.
use Rattle.std.proofs.Common.{◌≡◌, ℕ, not, cond, Bool, true, false, List, [], ◌∷◌, ◌++◌, Option, Some, None, is_some, is_none, refl, sym, ◌∙◌, ap, subst, inl, inr}
use Rattle.std.proofs.lemmas.Bool.{cases_Bool}
use Rattle.ktm_base.specs.declared.id.Id.{Id}
use Rattle.ktm_base.specs.declared.id.Label.{Label}
use Rattle.ktm_base.specs.declared.id.Pid.{Pid}
use Rattle.ktm_base.specs.declared.refusal.Refusal.{Refusal}
use Rattle.ktm_base.specs.declared.refusal.Refusal.TheVariants.{MachineDown, InvalidHandle, InvalidParameter, TransactionNotActive, TransactionNotFound}
use Rattle.ktm_world.specs.declared.command.Command.{Command}
use Rattle.ktm_world.specs.declared.command.Command.TheVariants.{CommitTransaction, CreateTransaction, DuplicateHandle, GetTransactionInformation, OpenTransaction, RollbackTransaction, KvSet, KvUnset, KvGet, KvList}
use Rattle.ktm_world.specs.declared.command.View.{View}
use Rattle.ktm_world.specs.declared.command.View.TheVariants.{Plain, Transaction as Through}
use Rattle.ktm_world.specs.declared.object.Object.{Object}
use Rattle.ktm_world.specs.declared.object.Object.TheVariants.{Transaction as TransactionObject}
use Rattle.ktm_world.specs.declared.object.Transaction.{Transaction}
use Rattle.ktm_world.specs.declared.reply.Reply.TheVariants.{Refused}
use Rattle.ktm_world.specs.Decide.{caller, command_effect, command_tests, of_keys, refusal_of, transacted, decide}
use Rattle.ktm_world.specs.Files.{FilesNow}
use Rattle.ktm_world.specs.KeyCalls.{KeyOutcome, kv_set_tests, kv_set, kv_unset_tests, kv_unset, kv_get_tests, kv_get, kv_list}
use Rattle.ktm_world.specs.Labels.{holds_of, id_of_named, invalid_handle, is_bound, transaction_named, transaction_tests, view_tests, viewer}
use Rattle.ktm_world.specs.Outcome.{Outcome, first_refusal, only_reply, refuse_or}
use Rattle.ktm_world.specs.Present.{Present}
use Rattle.ktm_world.specs.TransactionCalls.{bound_test, commit_transaction, create_transaction, create_transaction_tests, get_transaction_information, handle_test, no_transaction_left, open_to_transaction, open_transaction, open_transaction_tests, opened_object, quota_test, rollback_transaction, rollback_transaction_tests, transaction_with}
use Rattle.ktm_world.specs.HandleCalls.{duplicate_handle, duplicate_handle_tests}
use Rattle.ktm_world.specs.Handles.{object_at}
use Rattle.ktm_world.specs.Transactions.{is_active}
use Rattle.txf_laws.proofs.offered.Elements.{not-not}
use Rattle.ktm_standing.proofs.offered.Named.{named_law}
use Rattle.ktm_owned.proofs.offered.KeysKept.{not_refused}
use Rattle.ktm_memory.proofs.offered.Tests.{test_passes, test_refuses}
use Rattle.ktm_memory.specs.Routed.{IsActiveCaller}
use Rattle.ktm_route.specs.Route.{source_tests}
use Rattle.ktm_world.specs.Uses.{key_room}
use Rattle.kv_rm.specs.declared.call.KvCall.TheVariants.{Set, Unset, Get, List as Listing}
use Rattle.kv_rm.specs.Calls.{key_outcome, unless_refused}

-- ---- tests, one list behind another

-- the first refusal of some tests is that of them with others behind
pub first_of-append : (tests more : List (Bool × Refusal)) (refusal : Refusal) → first_refusal tests ≡ Some refusal → first_refusal (tests ++ more) ≡ Some refusal
first_of-append [] more refusal e = absurd (cc)
first_of-append (test ∷ tests) more refusal e = elim (cases_Bool test.0) [
  | inl holds ↦ rw holds (rw holds at e)
  | inr fails ↦ rw fails (first_of-append tests more refusal (rw fails at e))
]

-- where some tests refuse nothing, the others decide
pub first_of-passed : (tests more : List (Bool × Refusal)) → first_refusal tests ≡ None → first_refusal (tests ++ more) ≡ first_refusal more
first_of-passed [] more e = refl
first_of-passed (test ∷ tests) more e = elim (cases_Bool test.0) [
  | inl holds ↦ (let some : Some test.1 ≡ None = rw holds at e in absurd (cc))
  | inr fails ↦ rw fails (first_of-passed tests more (rw fails at e))
]

-- a machine that is up goes by the tests of the command
pub up_or : (x : Present) (tests : List (Bool × Refusal)) (effect : Outcome) → x.machine.is_up ≡ true
    → refuse_or x (first_refusal ((not x.machine.is_up, MachineDown) ∷ tests)) effect ≡ refuse_or x (first_refusal tests) effect
up_or x tests effect up = ap (λ u. refuse_or x (cond (not u) (Some MachineDown) (first_refusal tests)) effect) up

-- a command is refused for the first of its tests that refuse it
pub refusal_first : (x : Present) (process : Pid) (command : Command) (tests more : List (Bool × Refusal)) (refusal : Refusal) → x.machine.is_up ≡ true
    → command_tests x process command ≡ tests ++ more → first_refusal tests ≡ Some refusal → refusal_of x process command ≡ Some refusal
refusal_first x process command tests more refusal up are is =
    ap (λ u. cond (not u) (Some MachineDown) (first_refusal (command_tests x process command))) up
    ∙ ap first_refusal are ∙ first_of-append tests more refusal is

-- a command whose first tests refuse it
pub refused_first : (x : Present) (process : Pid) (command : Command) (tests more : List (Bool × Refusal)) (refusal : Refusal) → x.machine.is_up ≡ true
    → command_tests x process command ≡ tests ++ more → first_refusal tests ≡ Some refusal → decide x process command ≡ only_reply x (Refused refusal)
refused_first x process command tests more refusal up are is =
    ap (λ r. refuse_or x r (command_effect x process command)) (refusal_first x process command tests more refusal up are is)

-- ---- the transaction that a label names

pub none_named : (named : Option Transaction) → None ≡ named → first_refusal (transaction_tests named) ≡ Some InvalidHandle
none_named named is = ap (λ n. first_refusal (transaction_tests n)) (sym is)

pub same_named : (named : Option Transaction) (t : Transaction) (r : Option Refusal) → Some t ≡ named → r ≡ first_refusal (transaction_tests (Some t)) → first_refusal (transaction_tests named) ≡ r
same_named named t r is tested = ap (λ n. first_refusal (transaction_tests n)) (sym is) ∙ sym tested

pub view_passed : (x : Present) (process : Pid) (view : View) (label : Label) (t : Transaction) → view ≡ Through label → (transaction_named x process label ≡ Some t) × (first_refusal (transaction_tests (Some t)) ≡ None)
    → (first_refusal (view_tests x process view) ≡ None) × (viewer x process view ≡ Some t.id)
view_passed x process view label t is (named, passed) = (
  ap (λ v. first_refusal (view_tests x process v)) is ∙ ap (λ n. first_refusal (transaction_tests n)) named ∙ passed,
  ap (λ v. viewer x process v) is ∙ ap id_of_named named,
)

pub view_refused : (x : Present) (process : Pid) (view : View) (label : Label) (refusal : Refusal) → view ≡ Through label → first_refusal (transaction_tests (transaction_named x process label)) ≡ Some refusal
    → first_refusal (view_tests x process view) ≡ Some refusal
view_refused x process view label refusal is tested = ap (λ v. first_refusal (view_tests x process v)) is ∙ tested

-- a transaction that passes the tests is active
pub passed_active : (t : Transaction) → first_refusal (transaction_tests (Some t)) ≡ None → is_active t ≡ true
passed_active t passed = not-not (is_active t) (not_refused (transaction_tests (Some t)) passed (not (is_active t), TransactionNotActive) (inr (inr (inr (inl refl)))))

-- a transaction that a label names, and that passes the tests, is an active caller
pub active_named : (x : Present) (process : Pid) (label : Label) (t : Transaction) → transaction_named x process label ≡ Some t → first_refusal (transaction_tests (Some t)) ≡ None → IsActiveCaller x (Some t.id)
active_named x process label t named passed =
    ap (holds_of (λ u. not (is_active u))) (named_law.transactions x process label t named) ∙ ap not (passed_active t passed)

-- the transaction of a view that passes the tests is an active caller, if it is through one
pub active_viewer : (x : Present) (process : Pid) (view : View) (who : Option Id) → first_refusal (view_tests x process view) ≡ None → viewer x process view ≡ who → IsActiveCaller x who
active_viewer x process Plain who passed is = subst (IsActiveCaller x) is tt
active_viewer x process (Through label) who passed is = subst (IsActiveCaller x) is (go (transaction_named x process label) refl passed)
  where
    go : (named : Option Transaction) → transaction_named x process label ≡ named → first_refusal (transaction_tests named) ≡ None → IsActiveCaller x (id_of_named named)
    go None named none = absurd (cc)
    go (Some t) named none = active_named x process label t named none

-- ---- calls on keys

-- a refusal of the keys' own tests is one of the machine
keys_refused : (x : Present) (r : Option Refusal) (o : KeyOutcome) → refuse_or x r (of_keys x o) ≡ of_keys x (unless_refused x.keys r o)
keys_refused x None o = refl
keys_refused x (Some refusal) o = refl

-- through an active transaction
keys_through : (x : Present) (process : Pid) (label : Label) (t : Transaction) (tests : Option Id → List (Bool × Refusal)) (call : Option Id → KeyOutcome)
    → x.machine.is_up ≡ true → transaction_named x process label ≡ Some t → first_refusal (transaction_tests (Some t)) ≡ None
    → refuse_or x (first_refusal ((not x.machine.is_up, MachineDown) ∷ transacted x process label (tests (caller x process label)))) (of_keys x (call (caller x process label)))
    ≡ of_keys x (unless_refused x.keys (first_refusal (tests (Some t.id))) (call (Some t.id)))
keys_through x process label t tests call up named passed =
    up_or x (transacted x process label (tests (caller x process label))) (of_keys x (call (caller x process label))) up
    ∙ ap (λ (n : Option Transaction). refuse_or x (first_refusal (transaction_tests n ++ tests (id_of_named n))) (of_keys x (call (id_of_named n)))) named
    ∙ ap (λ r. refuse_or x r (of_keys x (call (Some t.id)))) (first_of-passed (transaction_tests (Some t)) (tests (Some t.id)) passed)
    ∙ keys_refused x (first_refusal (tests (Some t.id))) (call (Some t.id))

-- through a view
keys_viewed : (x : Present) (process : Pid) (view : View) (who : Option Id) (tests : Option Id → List (Bool × Refusal)) (call : Option Id → KeyOutcome)
    → x.machine.is_up ≡ true → viewer x process view ≡ who → first_refusal (view_tests x process view) ≡ None
    → refuse_or x (first_refusal ((not x.machine.is_up, MachineDown) ∷ (view_tests x process view ++ tests (viewer x process view)))) (of_keys x (call (viewer x process view)))
    ≡ of_keys x (unless_refused x.keys (first_refusal (tests who)) (call who))
keys_viewed x process view who tests call up is passed =
    up_or x (view_tests x process view ++ tests (viewer x process view)) (of_keys x (call (viewer x process view))) up
    ∙ ap (λ w. refuse_or x (first_refusal (view_tests x process view ++ tests w)) (of_keys x (call w))) is
    ∙ ap (λ r. refuse_or x r (of_keys x (call who))) (first_of-passed (view_tests x process view) (tests who) passed)
    ∙ keys_refused x (first_refusal (tests who)) (call who)

-- where nothing of the keys is tested
keys_listed : (x : Present) (process : Pid) (view : View) (who : Option Id) (call : Option Id → KeyOutcome)
    → x.machine.is_up ≡ true → viewer x process view ≡ who → first_refusal (view_tests x process view) ≡ None
    → refuse_or x (first_refusal ((not x.machine.is_up, MachineDown) ∷ view_tests x process view)) (of_keys x (call (viewer x process view))) ≡ of_keys x (call who)
keys_listed x process view who call up is passed =
    up_or x (view_tests x process view) (of_keys x (call (viewer x process view))) up
    ∙ ap (λ r. refuse_or x r (of_keys x (call (viewer x process view)))) passed
    ∙ ap (λ w. of_keys x (call w)) is

-- each call on keys through its transaction or view
module _ (x : Present) (process : Pid) (up : x.machine.is_up ≡ true) where
  module _ (label : Label) (t : Transaction) (named : transaction_named x process label ≡ Some t) (passed : first_refusal (transaction_tests (Some t)) ≡ None) where
    pub set_routed : (key value : List ℕ) → decide x process (KvSet label key value) ≡ of_keys x (key_outcome x.keys (key_room x) (Some t.id) (Set key value))
    set_routed key value = keys_through x process label t (λ who. kv_set_tests x.keys (key_room x) who key value) (λ who. kv_set x.keys who key value) up named passed

    pub unset_routed : (key : List ℕ) → decide x process (KvUnset label key) ≡ of_keys x (key_outcome x.keys (key_room x) (Some t.id) (Unset key))
    unset_routed key = keys_through x process label t (λ who. kv_unset_tests x.keys (key_room x) who key) (λ who. kv_unset x.keys who key) up named passed

  module _ (view : View) (who : Option Id) (is : viewer x process view ≡ who) (passed : first_refusal (view_tests x process view) ≡ None) where
    pub get_routed : (key : List ℕ) → decide x process (KvGet view key) ≡ of_keys x (key_outcome x.keys (key_room x) who (Get key))
    get_routed key = keys_viewed x process view who (λ w. kv_get_tests x.keys w key) (λ w. kv_get x.keys w key) up is passed

    pub list_routed : decide x process (KvList view) ≡ of_keys x (key_outcome x.keys (key_room x) who Listing)
    list_routed = keys_listed x process view who (λ w. kv_list x.keys w) up is passed

-- ---- calls on transactions and handles

module _ (x : Present) (process : Pid) (up : x.machine.is_up ≡ true) where
  module _ (label : Label) (timeout : ℕ) where
    pub create_bound : is_bound x process label ≡ true → decide x process (CreateTransaction label timeout) ≡ only_reply x (Refused InvalidParameter)
    unfolding create_transaction_tests
    create_bound bound =
        up_or x (create_transaction_tests x process label) (create_transaction x process label timeout) up
        ∙ test_refuses x (is_bound x process label) InvalidParameter (quota_test x (no_transaction_left x.transactions) ∷ []) (create_transaction x process label timeout) bound

    pub create_routed : is_bound x process label ≡ false
        → decide x process (CreateTransaction label timeout) ≡ refuse_or x (first_refusal (quota_test x (no_transaction_left x.transactions) ∷ [])) (create_transaction x process label timeout)
    unfolding create_transaction_tests
    create_routed free =
        up_or x (create_transaction_tests x process label) (create_transaction x process label timeout) up
        ∙ test_passes x (is_bound x process label) InvalidParameter (quota_test x (no_transaction_left x.transactions) ∷ []) (create_transaction x process label timeout) free

  module _ (label : Label) (guid : List ℕ) where
    pub open_bound : is_bound x process label ≡ true → decide x process (OpenTransaction label guid) ≡ only_reply x (Refused InvalidParameter)
    unfolding open_transaction_tests
    open_bound bound =
        up_or x (open_transaction_tests x process label guid) (open_transaction x process label guid) up
        ∙ test_refuses x (is_bound x process label) InvalidParameter ((is_none (transaction_with x guid), TransactionNotFound) ∷ handle_test x ∷ []) (open_transaction x process label guid) bound

    -- a label that is not bound, and the transaction with the GUID
    opens : (found : Option Transaction) → is_bound x process label ≡ false → transaction_with x guid ≡ found
        → decide x process (OpenTransaction label guid) ≡ refuse_or x (first_refusal ((is_none found, TransactionNotFound) ∷ handle_test x ∷ [])) (open_to_transaction x process label found)
    unfolding open_transaction_tests open_transaction
    opens found free is =
        up_or x (open_transaction_tests x process label guid) (open_transaction x process label guid) up
        ∙ test_passes x (is_bound x process label) InvalidParameter ((is_none (transaction_with x guid), TransactionNotFound) ∷ handle_test x ∷ []) (open_transaction x process label guid) free
        ∙ ap (λ (n : Option Transaction). refuse_or x (first_refusal ((is_none n, TransactionNotFound) ∷ handle_test x ∷ [])) (open_to_transaction x process label n)) is

    pub open_unknown : is_bound x process label ≡ false → transaction_with x guid ≡ None → decide x process (OpenTransaction label guid) ≡ only_reply x (Refused TransactionNotFound)
    open_unknown free none = opens None free none

    pub open_routed : (t : Transaction) → is_bound x process label ≡ false → transaction_with x guid ≡ Some t
        → decide x process (OpenTransaction label guid) ≡ refuse_or x (first_refusal (handle_test x ∷ [])) (opened_object x process label (TransactionObject t.id))
    open_routed t free found = opens (Some t) free found

  module _ (label : Label) where
    -- the transaction that the label names
    commits : (named : Option Transaction) → transaction_named x process label ≡ named → decide x process (CommitTransaction label) ≡ refuse_or x (first_refusal (transaction_tests named)) (commit_transaction x named)
    commits named is =
        up_or x (transaction_tests (transaction_named x process label)) (commit_transaction x (transaction_named x process label)) up
        ∙ ap (λ (n : Option Transaction). refuse_or x (first_refusal (transaction_tests n)) (commit_transaction x n)) is

    pub commit_routed : (t : Transaction) → transaction_named x process label ≡ Some t → first_refusal (transaction_tests (Some t)) ≡ None → decide x process (CommitTransaction label) ≡ commit_transaction x (Some t)
    commit_routed t named passed = commits (Some t) named ∙ ap (λ r. refuse_or x r (commit_transaction x (Some t))) passed

    pub commit_refused : (refusal : Refusal) → first_refusal (transaction_tests (transaction_named x process label)) ≡ Some refusal → decide x process (CommitTransaction label) ≡ only_reply x (Refused refusal)
    commit_refused refusal is = commits (transaction_named x process label) refl ∙ ap (λ r. refuse_or x r (commit_transaction x (transaction_named x process label))) is

    rolls_back : (named : Option Transaction) → transaction_named x process label ≡ named
        → decide x process (RollbackTransaction label) ≡ refuse_or x (first_refusal (rollback_transaction_tests named)) (rollback_transaction x named)
    rolls_back named is =
        up_or x (rollback_transaction_tests (transaction_named x process label)) (rollback_transaction x (transaction_named x process label)) up
        ∙ ap (λ (n : Option Transaction). refuse_or x (first_refusal (rollback_transaction_tests n)) (rollback_transaction x n)) is

    pub rollback_unnamed : transaction_named x process label ≡ None → decide x process (RollbackTransaction label) ≡ only_reply x (Refused InvalidHandle)
    rollback_unnamed none = rolls_back None none

    pub rollback_routed : (t : Transaction) → transaction_named x process label ≡ Some t → first_refusal (rollback_transaction_tests (Some t)) ≡ None → decide x process (RollbackTransaction label) ≡ rollback_transaction x (Some t)
    rollback_routed t named passed = rolls_back (Some t) named ∙ ap (λ r. refuse_or x r (rollback_transaction x (Some t))) passed

    pub rollback_refused : (t : Transaction) (refusal : Refusal) → transaction_named x process label ≡ Some t → first_refusal (rollback_transaction_tests (Some t)) ≡ Some refusal
        → decide x process (RollbackTransaction label) ≡ only_reply x (Refused refusal)
    rollback_refused t refusal named is = rolls_back (Some t) named ∙ ap (λ r. refuse_or x r (rollback_transaction x (Some t))) is

    tells : (named : Option Transaction) → transaction_named x process label ≡ named
        → decide x process (GetTransactionInformation label) ≡ refuse_or x (first_refusal (invalid_handle named ∷ [])) (get_transaction_information x named)
    tells named is =
        up_or x (invalid_handle (transaction_named x process label) ∷ []) (get_transaction_information x (transaction_named x process label)) up
        ∙ ap (λ (n : Option Transaction). refuse_or x (first_refusal (invalid_handle n ∷ [])) (get_transaction_information x n)) is

    pub information_unnamed : transaction_named x process label ≡ None → decide x process (GetTransactionInformation label) ≡ only_reply x (Refused InvalidHandle)
    information_unnamed none = tells None none

    pub information_routed : (t : Transaction) → transaction_named x process label ≡ Some t → decide x process (GetTransactionInformation label) ≡ get_transaction_information x (Some t)
    information_routed t named = tells (Some t) named

  module _ (label : Label) (from : Pid) (source : Label) where
    -- the tests of the handle come first
    duplicates : decide x process (DuplicateHandle label from source)
        ≡ refuse_or x (first_refusal (source_tests x.files (object_at x.handles from source) ++ bound_test x process label ∷ handle_test x ∷ [])) (duplicate_handle x process label from source)
    unfolding duplicate_handle_tests
    duplicates = up_or x (duplicate_handle_tests x process label from source) (duplicate_handle x process label from source) up

    pub duplicate_refused : (refusal : Refusal) → first_refusal (source_tests x.files (object_at x.handles from source)) ≡ Some refusal → decide x process (DuplicateHandle label from source) ≡ only_reply x (Refused refusal)
    duplicate_refused refusal is =
        duplicates
        ∙ ap (λ r. refuse_or x r (duplicate_handle x process label from source)) (first_of-append (source_tests x.files (object_at x.handles from source)) (bound_test x process label ∷ handle_test x ∷ []) refusal is)

    passes_source : first_refusal (source_tests x.files (object_at x.handles from source)) ≡ None
        → decide x process (DuplicateHandle label from source) ≡ refuse_or x (first_refusal (bound_test x process label ∷ handle_test x ∷ [])) (duplicate_handle x process label from source)
    passes_source passed =
        duplicates
        ∙ ap (λ r. refuse_or x r (duplicate_handle x process label from source)) (first_of-passed (source_tests x.files (object_at x.handles from source)) (bound_test x process label ∷ handle_test x ∷ []) passed)

    pub duplicate_bound : first_refusal (source_tests x.files (object_at x.handles from source)) ≡ None → is_bound x process label ≡ true → decide x process (DuplicateHandle label from source) ≡ only_reply x (Refused InvalidParameter)
    duplicate_bound passed bound = passes_source passed ∙ test_refuses x (is_bound x process label) InvalidParameter (handle_test x ∷ []) (duplicate_handle x process label from source) bound

    pub duplicate_routed : first_refusal (source_tests x.files (object_at x.handles from source)) ≡ None → is_bound x process label ≡ false
        → decide x process (DuplicateHandle label from source) ≡ refuse_or x (first_refusal (handle_test x ∷ [])) (duplicate_handle x process label from source)
    duplicate_routed passed free = passes_source passed ∙ test_passes x (is_bound x process label) InvalidParameter (handle_test x ∷ []) (duplicate_handle x process label from source) free

-- a handle that passes is bound
pub source_named : (files : FilesNow) (named : Option Object) → first_refusal (source_tests files named) ≡ None → is_some named ≡ true
source_named files None passed = absurd (cc)
source_named files (Some object) passed = refl

-- a label that is not bound names nothing
pub unbound_names : (named : Option Object) → is_some named ≡ false → named ≡ None
unbound_names None free = refl
unbound_names (Some object) free = absurd (cc)
