-- The calls on transactions, resource managers and enlistments: for each the tests in their order, and what it does.
use Rattle.std.specs.Prelude.{ℕ, ◌+◌, ◌-◌, ◌^◌, ◌==◌, ◌&&◌, ◌||◌, not, Bool, true, false, List, [], ◌∷◌, ◌++◌, length, map, filter, find, min, count_by, nat_lt, nat_le, Option, Some, None, is_some, is_none, option_map, if◌then◌else◌, bytes_eq}
use Rattle.ktm_base.specs.declared.limits.TheConstants.{MOST_LIVE, MOST_NUMBER, MOST_INFORMATION_BYTES}
use Rattle.ktm_base.specs.Guid.{guid_of}
use Rattle.ktm_base.specs.declared.id.Id.{Id}
use Rattle.ktm_base.specs.declared.id.Label.{Label}
use Rattle.ktm_base.specs.declared.id.ObjectKind.{ObjectKind}
use Rattle.ktm_base.specs.declared.id.Pid.{Pid}
use Rattle.ktm_base.specs.declared.notify.Notify.{Notify}
use Rattle.ktm_base.specs.declared.refusal.Refusal.{Refusal}
use Rattle.ktm_base.specs.declared.refusal.Refusal.TheVariants.{EnlistmentNotSuperior, TransactionRequestNotValid, InvalidParameter, TransactionNotFound, ResourceManagerNotFound, EnlistmentNotFound, TransactionSuperiorExists, WaitTimeout, NotEnoughQuota}
use Rattle.ktm_world.specs.declared.event.Event.TheVariants.{MadeRm}
use Rattle.ktm_world.specs.declared.input.PhaseInput.{PhaseInput}
use Rattle.ktm_world.specs.declared.object.Object.{Object}
use Rattle.ktm_world.specs.declared.object.Phase.{Phase}
use Rattle.ktm_world.specs.declared.object.Phase.TheVariants.{Active, Requested, PrePreparing, PrePrepared, Preparing, SinglePhase, Held, InDoubt, Committing}
use Rattle.ktm_world.specs.declared.object.Transaction.{Transaction}
use Rattle.ktm_world.specs.declared.object.TransactionOutcome.TheVariants.{Undetermined}
use Rattle.ktm_world.specs.declared.options.Durability.{Durability}
use Rattle.ktm_world.specs.declared.options.Durability.TheVariants.{Volatile, Durable}
use Rattle.ktm_world.specs.declared.options.EnlistmentKind.{EnlistmentKind}
use Rattle.ktm_world.specs.declared.reply.Reply.{Reply}
use Rattle.ktm_world.specs.declared.reply.Reply.TheVariants.{Done, Guid, Committed, Pending, Information, Notification, Contents}
use Rattle.ktm_world.specs.declared.reply.TransactionState.{TransactionState}
use Rattle.ktm_world.specs.declared.reply.TransactionState.TheVariants.{Normal, Indoubt, CommittedNotify}
use Rattle.ktm_world.specs.Handles.{no_handle_left}
use Rattle.ktm_world.specs.Keys.{own_settings, without_own}
use Rattle.ktm_world.specs.Transactions.{same_id, transaction_at, change_at, is_live, is_undecided}
use Rattle.ktm_world.specs.Enlistments.{Enlistment, Manager, Note, Sent, is_superior, is_open_for_votes, owes_commit, is_live_enlistment, is_ended, has_id, with_enlistments, superior_of}
use Rattle.ktm_world.specs.Files.{own_changes, without_transaction}
use Rattle.ktm_world.specs.Labels.{is_bound, holds_of, invalid_handle, outcome_tests, transaction_tests, binding}
use Rattle.ktm_world.specs.Outcome.{Outcome, only_reply, and_then}
use Rattle.ktm_world.specs.Phases.{Course, is_single_phase}
use Rattle.ktm_world.specs.Present.{Present, Transactions}
use Rattle.ktm_world.specs.Steps.{led, share_of}

-- ---- a transaction's course, and what it comes to

-- the transaction as it is now, with what it has to commit, and the enlistment that makes the call, if one does
abbrev pub course_of : Present → Transaction → Option Enlistment → Course
course_of x t caller = record {
  transaction = t;
  enlistments = x.transactions.enlistments;
  managers = x.managers;
  changes = own_changes x.files.table.own t.id;
  settings = own_settings x.keys.own t.id;
  caller = caller;
  sent = [];
  events = [];
  works = [];
}

-- once its outcome is known a transaction holds nothing
abbrev pub released : Course → Outcome → Outcome
released c o =
    if is_undecided c.transaction then o else
    record o {
      forgotten = c.transaction.id ∷ [];
      table = without_transaction o.table c.transaction.id;
      own = without_own o.own c.transaction.id;
    }

-- where a course has come to
abbrev pub arrived : Present → Course → Reply → Outcome
arrived x c reply = released c (record (only_reply x reply) {
  events = c.events;
  works = c.works;
  sent = c.sent;
  transactions = record x.transactions { items = change_at x.transactions.items c.transaction.id (λ t. c.transaction); enlistments = c.enlistments };
})

-- ---- objects and their GUIDs

-- the GUID of an object of this image
abbrev pub guid_in : Present → ObjectKind → Id → List ℕ
guid_in x kind id = guid_of kind x.recorded.image id

-- the Id of the object of this boot that follows the last one of its kind
abbrev pub new_id : Present → ℕ → Id
new_id x last = record { boot = x.recorded.boots; number = last + 1 }

-- the test that the label is bound
abbrev pub bound_test : Present → Pid → Label → Bool × Refusal
bound_test x process label = (is_bound x process label, InvalidParameter)

-- the test that no handle is left
abbrev pub handle_test : Present → Bool × Refusal
handle_test x = (no_handle_left x.handles, NotEnoughQuota)

-- the test that no handle is left, or no object of a kind
abbrev pub quota_test : Present → Bool → Bool × Refusal
quota_test x none_left = (no_handle_left x.handles || none_left, NotEnoughQuota)

-- a label bound to an object that is there
abbrev pub opened_object : Present → Pid → Label → Object → Outcome
opened_object x process label object = binding process label object (only_reply x Done)

-- ---- transactions

-- a transaction with the next number begins, and the label is bound to it
unfoldable pub create_transaction : Present → Pid → Label → ℕ → Outcome
create_transaction x process label timeout =
    let id = new_id x x.transactions.last_transaction in
    binding process label (Object.Transaction id) (record (only_reply x (Guid (guid_in x ObjectKind.Transaction id))) {
      transactions = record x.transactions {
        last_transaction = x.transactions.last_transaction + 1;
        items = x.transactions.items ++ record { id = id; timeout = timeout; created = x.transactions.clock; phase = Active; outcome = Undetermined; is_recorded = false } ∷ [];
      };
    })

-- would one transaction more pass the limit on live ones, or the greatest number
abbrev pub no_transaction_left : Transactions → Bool
no_transaction_left ts = nat_lt MOST_LIVE (count_by is_live ts.items + 1) || nat_lt MOST_NUMBER (ts.last_transaction + 1)

-- the tests of CreateTransaction
unfoldable pub create_transaction_tests : Present → Pid → Label → List (Bool × Refusal)
create_transaction_tests x process label = bound_test x process label ∷ quota_test x (no_transaction_left x.transactions) ∷ []

-- the live transaction with a GUID
abbrev pub transaction_with : Present → List ℕ → Option Transaction
transaction_with x guid = find (λ t. is_live t && bytes_eq (guid_in x ObjectKind.Transaction t.id) guid) x.transactions.items

-- the label is bound to the transaction
abbrev pub open_to_transaction : Present → Pid → Label → Option Transaction → Outcome
open_to_transaction x process label None = only_reply x Done
open_to_transaction x process label (Some t) = opened_object x process label (Object.Transaction t.id)

-- OpenTransaction binds the label to the live transaction with the GUID
unfoldable pub open_transaction : Present → Pid → Label → List ℕ → Outcome
open_transaction x process label guid = open_to_transaction x process label (transaction_with x guid)

-- the tests of OpenTransaction
unfoldable pub open_transaction_tests : Present → Pid → Label → List ℕ → List (Bool × Refusal)
open_transaction_tests x process label guid =
    bound_test x process label ∷ (is_none (transaction_with x guid), TransactionNotFound) ∷ handle_test x ∷ []

-- committed where it has ended by this, and pending else
abbrev pub commit_reply : Course → Reply
commit_reply c = if is_ended c.transaction.phase then Committed else Pending

-- a transaction is asked to commit, and goes as far as it can
abbrev pub commit_of : Present → Option Transaction → Outcome
commit_of x None = only_reply x Done
commit_of x (Some t) = let c = led PhaseInput.CommitTransaction (course_of x t None) in arrived x c (commit_reply c)

-- CommitTransaction asks the transaction to commit
unfoldable pub commit_transaction : Present → Option Transaction → Outcome
commit_transaction x t = commit_of x t

-- the phases in which a transaction may be rolled back, and in which its timeout does so
abbrev pub may_roll_back : Transaction → Bool
may_roll_back t = elim t.phase as (λ _. Bool) [ Active ↦ true | Requested ↦ true | PrePreparing ↦ true | PrePrepared ↦ true | Preparing ↦ true | _ ↦ false ]

-- a transaction rolls back, by this enlistment, if one asks for it
abbrev pub aborted_by : Present → Transaction → Option Enlistment → Reply → Outcome
aborted_by x t caller reply = arrived x (led PhaseInput.Rollback (course_of x t caller)) reply

-- a transaction rolls back, and no enlistment asks for it
abbrev pub rollback_of : Present → Option Transaction → Outcome
rollback_of x None = only_reply x Done
rollback_of x (Some t) = aborted_by x t None Done

-- RollbackTransaction rolls the transaction back
unfoldable pub rollback_transaction : Present → Option Transaction → Outcome
rollback_transaction x t = rollback_of x t

-- the tests of RollbackTransaction
abbrev pub rollback_transaction_tests : Option Transaction → List (Bool × Refusal)
rollback_transaction_tests t = invalid_handle t ∷ outcome_tests t ++ (holds_of (λ t. not (may_roll_back t)) t, TransactionRequestNotValid) ∷ []

-- the state that is told of a phase
abbrev pub state_in : Phase → TransactionState
state_in InDoubt = Indoubt
state_in Committing = CommittedNotify
state_in _ = Normal

-- the reply that tells a transaction's GUID, state and outcome
abbrev pub information_of : Present → Option Transaction → Reply
information_of x None = Done
information_of x (Some t) = Information (guid_in x ObjectKind.Transaction t.id) (state_in t.phase) t.outcome

-- GetTransactionInformation tells a transaction's GUID, state and outcome
unfoldable pub get_transaction_information : Present → Option Transaction → Outcome
get_transaction_information x t = only_reply x (information_of x t)

-- ---- time

-- the clock stays at its greatest value
abbrev pub later : ℕ → ℕ → ℕ
later clock ms = min (clock + ms) (2 ^ 64 - 1)

-- the two timeouts that mean none
abbrev pub never_times_out : ℕ → Bool
never_times_out timeout = timeout == 0 || timeout == 2 ^ 32 - 1

-- its timeout has been reached, in a phase in which that rolls it back
abbrev pub is_due : ℕ → Transaction → Bool
is_due clock t = not (never_times_out t.timeout) && nat_le (t.created + t.timeout) clock && may_roll_back t

-- a transaction rolls back, if it is due
abbrev pub aborted_if_due : Present → Option Transaction → Outcome
aborted_if_due x None = only_reply x Done
aborted_if_due x (Some t) = if is_due x.transactions.clock t then aborted_by x t None Done else only_reply x Done

-- each of these transactions in turn rolls back where it is due
abbrev pub aborted_in_turn : Present → List Transaction → Outcome
aborted_in_turn x [] = only_reply x Done
aborted_in_turn x (t ∷ ts) = and_then x (aborted_if_due x (transaction_at x.transactions.items t.id)) (λ next. aborted_in_turn next ts)

-- the clock is so many milliseconds later
abbrev pub with_clock : Present → ℕ → Present
with_clock x ms = record x { transactions = record x.transactions { clock = later x.transactions.clock ms } }

-- so many milliseconds pass, and the timeouts that are reached roll their transactions back, in order of creation
unfoldable pub tick : Present → ℕ → Outcome
tick x ms = aborted_in_turn (with_clock x ms) x.transactions.items

-- ---- resource managers

-- does a resource manager of this durability outlive a restart
abbrev pub is_durable : Durability → Bool
is_durable Volatile = false
is_durable Durable = true

-- CreateResourceManager makes one with the next number, recorded where it is durable, and binds the label to it
unfoldable pub create_resource_manager : Present → Pid → Label → Durability → Outcome
create_resource_manager x process label durability =
    let id = new_id x x.transactions.last_manager in
    binding process label (Object.Manager id) (record (only_reply x (Guid (guid_in x ObjectKind.Manager id))) {
      events = if is_durable durability then MadeRm id ∷ [] else [];
      made = record { id = id; is_durable = is_durable durability; queue = [] } ∷ [];
      transactions = record x.transactions { last_manager = x.transactions.last_manager + 1 };
    })

-- would one resource manager more pass the limit on them, or the greatest number
abbrev pub no_manager_left : List Manager → Transactions → Bool
no_manager_left ms ts = nat_lt MOST_LIVE (length ms + 1) || nat_lt MOST_NUMBER (ts.last_manager + 1)

-- the tests of CreateResourceManager
unfoldable pub create_resource_manager_tests : Present → Pid → Label → List (Bool × Refusal)
create_resource_manager_tests x process label = bound_test x process label ∷ quota_test x (no_manager_left x.managers x.transactions) ∷ []

-- the resource manager with a GUID
abbrev pub manager_with : Present → List ℕ → Option Manager
manager_with x guid = find (λ m. bytes_eq (guid_in x ObjectKind.Manager m.id) guid) x.managers

-- the label is bound to the resource manager
abbrev pub open_to_manager : Present → Pid → Label → Option Manager → Outcome
open_to_manager x process label None = only_reply x Done
open_to_manager x process label (Some m) = opened_object x process label (Object.Manager m.id)

-- OpenResourceManager binds the label to the resource manager with the GUID
unfoldable pub open_resource_manager : Present → Pid → Label → List ℕ → Outcome
open_resource_manager x process label guid = open_to_manager x process label (manager_with x guid)

-- the tests of OpenResourceManager
unfoldable pub open_resource_manager_tests : Present → Pid → Label → List ℕ → List (Bool × Refusal)
open_resource_manager_tests x process label guid =
    bound_test x process label ∷ (is_none (manager_with x guid), ResourceManagerNotFound) ∷ handle_test x ∷ []

-- does the transaction wait for its superior after a restart
abbrev pub is_in_doubt : Transaction → Bool
is_in_doubt t = elim t.phase as (λ _. Bool) [ InDoubt ↦ true | _ ↦ false ]

-- it was brought back and not recovered yet; a superior is to be recovered only while its transaction is in doubt
abbrev pub is_to_recover : Present → Id → Enlistment → Bool
is_to_recover x manager e =
    same_id e.manager manager && not e.is_recovered && (not (is_superior e) || holds_of is_in_doubt (transaction_at x.transactions.items e.transaction))

-- a RECOVER for each enlistment of the resource manager that is to be recovered, and a LAST_RECOVER
abbrev pub recover_notes : Present → Id → List Sent
recover_notes x manager =
    map (λ e. record { manager = manager; note = record { kind = Notify.Recover; enlistment = Some e.id } }) (filter (is_to_recover x manager) x.transactions.enlistments)
    ++ record { manager = manager; note = record { kind = Notify.LastRecover; enlistment = None } } ∷ []

-- the resource manager is sent these
abbrev pub recover_all : Present → Option Manager → Outcome
recover_all x None = only_reply x Done
recover_all x (Some m) = record (only_reply x Done) { sent = recover_notes x m.id }

-- it is told of each of its enlistments that is to be recovered, and then that these were all
unfoldable pub recover_resource_manager : Present → Option Manager → Outcome
recover_resource_manager x m = recover_all x m

-- does no notification wait for the resource manager
abbrev pub has_empty_queue : Manager → Bool
has_empty_queue m = length m.queue == 0

-- the tests of GetNotificationResourceManager
abbrev pub get_notification_tests : Option Manager → List (Bool × Refusal)
get_notification_tests m = invalid_handle m ∷ (holds_of has_empty_queue m, WaitTimeout) ∷ []

-- the reply that tells the first notification
abbrev pub note_reply : Present → List Note → Reply
note_reply x [] = Done
note_reply x (note ∷ notes) = Notification note.kind (option_map (guid_in x ObjectKind.Enlistment) note.enlistment)

-- the resource manager takes its first notification
abbrev pub take_first : Present → Option Manager → Outcome
take_first x None = only_reply x Done
take_first x (Some m) = record (only_reply x (note_reply x m.queue)) { took = Some m.id }

-- the first notification that waits is taken
unfoldable pub get_notification : Present → Option Manager → Outcome
get_notification x m = take_first x m

-- ---- enlistments

-- is it the kind of a superior
abbrev pub is_superior_kind : EnlistmentKind → Bool
is_superior_kind EnlistmentKind.Superior = true
is_superior_kind _ = false

-- has the transaction a superior
abbrev pub has_superior : Present → Transaction → Bool
has_superior x t = is_some (superior_of x.transactions.enlistments t.id)

-- an enlistment with the next number is made, and the label is bound to it
abbrev pub enlist : Present → Pid → Label → Option Manager → Option Transaction → EnlistmentKind → Outcome
enlist x process label (Some m) (Some t) kind =
    let id = new_id x x.transactions.last_enlistment in
    binding process label (Object.Enlistment id) (record (only_reply x (Guid (guid_in x ObjectKind.Enlistment id))) {
      transactions = record x.transactions {
        last_enlistment = x.transactions.last_enlistment + 1;
        enlistments = x.transactions.enlistments
            ++ record { id = id; manager = m.id; transaction = t.id; kind = kind; owes = None; is_read_only = false; is_prepared = false; is_finished = false; is_recovered = true; information = [] }
            ∷ [];
      };
    })
enlist x process label _ _ kind = only_reply x Done

-- CreateEnlistment makes an enlistment of the resource manager in the transaction
unfoldable pub create_enlistment : Present → Pid → Label → Option Manager → Option Transaction → EnlistmentKind → Outcome
create_enlistment x process label m t kind = enlist x process label m t kind

-- would one enlistment more pass the limit on live ones, or the greatest number
abbrev pub no_enlistment_left : Transactions → Bool
no_enlistment_left ts = nat_lt MOST_LIVE (count_by (is_live_enlistment ts.items) ts.enlistments + 1) || nat_lt MOST_NUMBER (ts.last_enlistment + 1)

-- a superior wants a durable resource manager, and a transaction without one
unfoldable pub create_enlistment_tests : Present → Pid → Label → Option Manager → Option Transaction → EnlistmentKind → List (Bool × Refusal)
create_enlistment_tests x process label m t kind =
    invalid_handle m ∷ transaction_tests t
    ++ ((is_bound x process label || (is_superior_kind kind && holds_of (λ m. not m.is_durable) m), InvalidParameter)
    ∷ (is_superior_kind kind && holds_of (has_superior x) t, TransactionSuperiorExists)
    ∷ quota_test x (no_enlistment_left x.transactions)
    ∷ [])

-- the live enlistment of a resource manager with a GUID
abbrev pub enlistment_with : Present → Option Manager → List ℕ → Option Enlistment
enlistment_with x None guid = None
enlistment_with x (Some m) guid =
    find (λ e. same_id e.manager m.id && is_live_enlistment x.transactions.items e && bytes_eq (guid_in x ObjectKind.Enlistment e.id) guid) x.transactions.enlistments

-- the label is bound to the enlistment
abbrev pub open_to_enlistment : Present → Pid → Label → Option Enlistment → Outcome
open_to_enlistment x process label None = only_reply x Done
open_to_enlistment x process label (Some e) = opened_object x process label (Object.Enlistment e.id)

-- OpenEnlistment binds the label to the resource manager's live enlistment with the GUID
unfoldable pub open_enlistment : Present → Pid → Label → Option Manager → List ℕ → Outcome
open_enlistment x process label m guid = open_to_enlistment x process label (enlistment_with x m guid)

-- the tests of OpenEnlistment
unfoldable pub open_enlistment_tests : Present → Pid → Label → Option Manager → List ℕ → List (Bool × Refusal)
open_enlistment_tests x process label m guid =
    invalid_handle m
    ∷ bound_test x process label
    ∷ (is_none (enlistment_with x m guid), EnlistmentNotFound)
    ∷ handle_test x
    ∷ []

-- the transaction of an enlistment
abbrev pub transaction_in : Present → Enlistment → Option Transaction
transaction_in x e = transaction_at x.transactions.items e.transaction

-- does the phase of its transaction pass the test
abbrev pub phase_passes : Present → (Phase → Bool) → Enlistment → Bool
phase_passes x test e = holds_of (λ t. test t.phase) (transaction_in x e)

-- the phases in which an ordinary enlistment may still vote
abbrev pub is_voting : Phase → Bool
is_voting phase = elim phase as (λ _. Bool) [ Active ↦ true | Requested ↦ true | PrePreparing ↦ true | PrePrepared ↦ true | Preparing ↦ true | SinglePhase ↦ true | _ ↦ false ]

-- the phases in which a superior may roll back
abbrev pub lets_superior_roll_back : Phase → Bool
lets_superior_roll_back phase = elim phase as (λ _. Bool) [ Active ↦ true | Requested ↦ true | PrePreparing ↦ true | PrePrepared ↦ true | Preparing ↦ true | Held ↦ true | InDoubt ↦ true | _ ↦ false ]

-- the phases in which a superior may ask that its transaction pre-prepares
abbrev pub before_pre_prepare : Phase → Bool
before_pre_prepare phase = elim phase as (λ _. Bool) [ Active ↦ true | Requested ↦ true | _ ↦ false ]

-- the phases in which a superior may ask that its transaction prepares
abbrev pub before_prepare : Phase → Bool
before_prepare phase = elim phase as (λ _. Bool) [ Active ↦ true | Requested ↦ true | PrePrepared ↦ true | _ ↦ false ]

-- the phases in which a transaction waits for its superior to decide
abbrev pub waits_for_superior : Phase → Bool
waits_for_superior phase = elim phase as (λ _. Bool) [ Held ↦ true | InDoubt ↦ true | _ ↦ false ]

-- ---- when a call of an enlistment is allowed

-- an ordinary enlistment that has not voted yet, in a phase in which it may
abbrev pub may_vote : Present → Enlistment → Bool
may_vote x e = not (is_superior e) && is_open_for_votes e && phase_passes x is_voting e

-- may it roll its transaction back: a superior until it has decided, another one while it may vote
abbrev pub may_roll_back_by : Present → Enlistment → Bool
may_roll_back_by x e = if is_superior e then phase_passes x lets_superior_roll_back e else may_vote x e

-- is it asked to commit in one phase, and has it not answered
abbrev pub may_reject_one_phase : Present → Enlistment → Bool
may_reject_one_phase x e = phase_passes x is_single_phase e && owes_commit e

-- it was brought back and not recovered yet, a superior's transaction being in doubt
abbrev pub may_recover : Present → Enlistment → Bool
may_recover x e = not e.is_recovered && (not (is_superior e) || holds_of is_in_doubt (transaction_in x e))

-- an ordinary enlistment that can still vote, or a superior whose transaction does not wait for it; the outcome is not known
abbrev pub may_set_information : Present → Enlistment → Bool
may_set_information x e =
    holds_of is_undecided (transaction_in x e) && (if is_superior e then phase_passes x (λ phase. not (waits_for_superior phase)) e else is_open_for_votes e)

-- the tests of a call that is allowed so
abbrev pub enlistment_tests : Option Enlistment → (Enlistment → Bool) → List (Bool × Refusal)
enlistment_tests e allowed = invalid_handle e ∷ (holds_of (λ e. not (allowed e)) e, TransactionRequestNotValid) ∷ []

-- the tests of a superior's call
abbrev pub superior_tests : Present → Option Enlistment → (Phase → Bool) → List (Bool × Refusal)
superior_tests x e allowed =
    invalid_handle e ∷ (holds_of (λ e. not (is_superior e)) e, EnlistmentNotSuperior) ∷ (holds_of (λ e. not (phase_passes x allowed e)) e, TransactionRequestNotValid) ∷ []

-- ---- what a call of an enlistment does

-- a transaction goes on by what comes to it from an enlistment
abbrev pub goes_on : Present → Enlistment → Option Transaction → PhaseInput → Outcome
goes_on x e None input = only_reply x Done
goes_on x e (Some t) input = arrived x (led input (course_of x t (Some e))) Done

-- the enlistment's transaction goes on by what comes to it
abbrev pub answering : Present → Option Enlistment → (Enlistment → PhaseInput) → Outcome
answering x None input = only_reply x Done
answering x (Some e) input = goes_on x e (transaction_in x e) (input e)

-- PrePrepareComplete: the enlistment has pre-prepared
unfoldable pub pre_prepare_complete : Present → Option Enlistment → Outcome
pre_prepare_complete x e = answering x e (λ e. PhaseInput.PrePrepareComplete)

-- PrepareComplete: the enlistment is prepared
unfoldable pub prepare_complete : Present → Option Enlistment → Outcome
prepare_complete x e = answering x e (λ e. PhaseInput.PrepareComplete)

-- ReadOnlyEnlistment: the enlistment takes no part in the outcome
unfoldable pub read_only_enlistment : Present → Option Enlistment → Outcome
read_only_enlistment x e = answering x e (λ e. PhaseInput.ReadOnly (share_of e))

-- CommitComplete: the enlistment has committed
unfoldable pub commit_complete : Present → Option Enlistment → Outcome
commit_complete x e = answering x e (λ e. PhaseInput.CommitComplete)

-- RollbackComplete: the enlistment has rolled back
unfoldable pub rollback_complete : Present → Option Enlistment → Outcome
rollback_complete x e = answering x e (λ e. PhaseInput.RollbackComplete)

-- SinglePhaseReject: the enlistment wants two phases
unfoldable pub single_phase_reject : Present → Option Enlistment → Outcome
single_phase_reject x e = answering x e (λ e. PhaseInput.SinglePhaseReject)

-- RollbackEnlistment rolls the enlistment's transaction back
unfoldable pub rollback_enlistment : Present → Option Enlistment → Outcome
rollback_enlistment x e = answering x e (λ e. PhaseInput.Rollback)

-- PrePrepareEnlistment: the superior asks that its transaction pre-prepares
unfoldable pub pre_prepare_enlistment : Present → Option Enlistment → Outcome
pre_prepare_enlistment x e = answering x e (λ e. PhaseInput.PrePrepare)

-- PrepareEnlistment: the superior asks that its transaction prepares
unfoldable pub prepare_enlistment : Present → Option Enlistment → Outcome
prepare_enlistment x e = answering x e (λ e. PhaseInput.Prepare)

-- CommitEnlistment: the superior decides that its transaction commits
unfoldable pub commit_enlistment : Present → Option Enlistment → Outcome
commit_enlistment x e = answering x e (λ e. PhaseInput.Commit)

-- what comes to its transaction where an enlistment recovers
abbrev pub recovery_of : Enlistment → PhaseInput
recovery_of e = if is_superior e then PhaseInput.RecoverSuperior else PhaseInput.Recover

-- RecoverEnlistment: the enlistment is recovered, and told how its transaction stands
unfoldable pub recover_enlistment : Present → Option Enlistment → Outcome
recover_enlistment x e = answering x e recovery_of

-- the tests of SetEnlistmentRecoveryInformation
abbrev pub set_information_tests : Present → Option Enlistment → List ℕ → List (Bool × Refusal)
set_information_tests x e information = enlistment_tests e (may_set_information x) ++ (nat_lt MOST_INFORMATION_BYTES (length information), InvalidParameter) ∷ []

-- the enlistment has this recovery information from now on
abbrev pub keep_information : Present → Option Enlistment → List ℕ → Outcome
keep_information x None information = only_reply x Done
keep_information x (Some e) information = record (only_reply x Done) {
  transactions = record x.transactions { enlistments = with_enlistments (has_id e.id) (λ e. record e { information = information }) x.transactions.enlistments };
}

-- SetEnlistmentRecoveryInformation keeps the bytes with the enlistment
unfoldable pub set_information : Present → Option Enlistment → List ℕ → Outcome
set_information x e information = keep_information x e information

-- the reply that tells an enlistment's recovery information
abbrev pub information_in : Option Enlistment → Reply
information_in None = Done
information_in (Some e) = Contents e.information

-- GetEnlistmentRecoveryInformation tells the bytes
unfoldable pub get_information : Present → Option Enlistment → Outcome
get_information x e = only_reply x (information_in e)
