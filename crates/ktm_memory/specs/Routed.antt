-- A call whose labels have become objects, and what it comes to.
use Rattle.std.specs.Prelude.{◌≡◌, not, true, false, [], ◌∷◌, All, Option, Some, None, is_some}
use Rattle.std.specs.List.{list_any}
use Rattle.ktm_base.specs.declared.id.Id.{Id}
use Rattle.ktm_base.specs.declared.id.Label.{Label}
use Rattle.ktm_base.specs.declared.id.Pid.{Pid}
use Rattle.ktm_base.specs.declared.refusal.Refusal.TheVariants.{WaitTimeout}
use Rattle.ktm_standing.specs.Files.{MayCommitNow, MayMake}
use Rattle.ktm_course.specs.Moved.{is_commit}
use Rattle.ktm_event.specs.Spelling.{IsSpellableEvent}
use Rattle.ktm_world.specs.declared.input.PhaseInput.{PhaseInput}
use Rattle.ktm_world.specs.declared.object.Transaction.{Transaction}
use Rattle.ktm_world.specs.declared.reply.Reply.{Reply}
use Rattle.ktm_world.specs.declared.reply.Reply.TheVariants.{Done}
use Rattle.ktm_world.specs.Decide.{of_keys}
use Rattle.ktm_world.specs.Enlistments.{Enlistment, enlistment_at, manager_at}
use Rattle.ktm_world.specs.Handles.{object_at}
use Rattle.ktm_world.specs.Labels.{holds_of}
use Rattle.ktm_world.specs.Outcome.{Outcome, first_refusal, refuse_or}
use Rattle.ktm_world.specs.Phases.{Course as Going}
use Rattle.ktm_world.specs.Present.{Present}
use Rattle.ktm_world.specs.Rows.{row}
use Rattle.ktm_world.specs.Steps.{led, seen}
use Rattle.ktm_world.specs.TransactionCalls.{arrived, commit_reply, course_of, create_enlistment, create_resource_manager, create_transaction, get_information, get_notification, get_transaction_information, has_empty_queue, no_enlistment_left, no_manager_left, no_transaction_left, quota_test, recover_resource_manager, set_information}
use Rattle.ktm_world.specs.Transactions.{is_active, is_live, transaction_at}
use Rattle.ktm_world.specs.Uses.{file_room, key_room}
use Rattle.kv_rm.specs.Calls.{key_outcome}
use Rattle.ktm_tm.specs.Courses.{caller_of}
use Rattle.txf_calls.specs.Calls.{file_effect, file_outcome, file_tests}
use Rattle.txf_calls.specs.Fits.{MayBeUsed}
use Rattle.txf_calls.specs.declared.call.FileCall.{FileCall}
use Rattle.txf_calls.specs.declared.call.FileCall.TheVariants.{WriteUnits}
use Rattle.ktm_memory.specs.Opening.{files_outcome}
use Rattle.ktm_memory.specs.Settled.{labels_outcome, labels_tests}
use Rattle.ktm_memory.specs.Units.{SuitsCall}
use Rattle.ktm_memory.specs.declared.extent.Extent.{Extent}
use Rattle.ktm_memory.specs.declared.routed.Routed.{Routed}
use Rattle.ktm_memory.specs.declared.routed.Routed.TheVariants.{Create, Course, Information, MakeManager, Recover, Take, Enlist, Inform, Tell, Handles, Keys, Files, Units}
use Rattle.ktm_memory.specs.declared.settlement.Labels.{Labels}
use Rattle.ktm_memory.specs.declared.settlement.Labels.TheVariants.{Bind, Duplicate, Unbind, UnbindAll}

-- where a transaction has come to by what comes to it, where this enlistment calls, if one does
abbrev pub course_to : Present → Transaction → Option Id → PhaseInput → Going
course_to x t caller input = led input (course_of x t (caller_of x.transactions.enlistments caller))

-- what is replied to what comes to a transaction: whether it has committed, where that is asked, and else that it is done
abbrev pub reply_to : PhaseInput → Going → Reply
reply_to PhaseInput.CommitTransaction c = commit_reply c
reply_to _ c = Done

-- what the call comes to, once its labels are known
abbrev pub outcome_of : Present → Pid → Routed → Outcome
outcome_of x process (Create label timeout) = refuse_or x (first_refusal (quota_test x (no_transaction_left x.transactions) ∷ [])) (create_transaction x process label timeout)
outcome_of x process (Course t caller input) = let c = course_to x t caller input in arrived x c (reply_to input c)
outcome_of x process (Information t) = get_transaction_information x (Some t)
outcome_of x process (MakeManager label durability) =
    refuse_or x (first_refusal (quota_test x (no_manager_left x.managers x.transactions) ∷ [])) (create_resource_manager x process label durability)
outcome_of x process (Recover manager) = recover_resource_manager x (manager_at x.managers manager)
outcome_of x process (Take manager) = refuse_or x (first_refusal ((holds_of has_empty_queue (manager_at x.managers manager), WaitTimeout) ∷ [])) (get_notification x (manager_at x.managers manager))
outcome_of x process (Enlist label manager transaction kind) =
    refuse_or x (first_refusal (quota_test x (no_enlistment_left x.transactions) ∷ [])) (create_enlistment x process label (manager_at x.managers manager) (transaction_at x.transactions.items transaction) kind)
outcome_of x process (Inform enlistment information) = set_information x (enlistment_at x.transactions.enlistments enlistment) information
outcome_of x process (Tell enlistment) = get_information x (enlistment_at x.transactions.enlistments enlistment)
outcome_of x process (Handles labels) = refuse_or x (first_refusal (labels_tests x labels)) (labels_outcome x process labels)
outcome_of x process (Keys who call) = of_keys x (key_outcome x.keys (key_room x) who call)
outcome_of x process (Files who label call) = files_outcome x process who label (file_outcome x.files (file_room x) who call)
outcome_of x process (Units who file start contents extent) = files_outcome x process who None (file_outcome x.files (file_room x) who (WriteUnits file start contents))

-- the label is free, if there is one
abbrev pub IsFreeLabel : Present → Pid → Option Label → Type 0
IsFreeLabel x process None = Unit {0}
IsFreeLabel x process (Some label) = object_at x.handles process label ≡ None

-- the transaction in which a call is made, if it is made in one, is active
abbrev pub IsActiveCaller : Present → Option Id → Type 0
IsActiveCaller x None = Unit {0}
IsActiveCaller x (Some id) = holds_of (λ t. not (is_active t)) (transaction_at x.transactions.items id) ≡ false

-- the open file that is used may be used so, a label is free, the transaction of the call is active, what the call comes to where it is not refused can be made, and it can be recorded, by the extent if there is one
pub record IsReadyCall (x : Present) (process : Pid) (who : Option Id) (label : Option Label) (call : FileCall) (extent : Option Extent) : Type 0 where
  pub usable : MayBeUsed x.files call
  pub free : IsFreeLabel x process label
  pub active : IsActiveCaller x who
  pub may : first_refusal (file_tests x.files (file_room x) who call) ≡ None → MayMake x who (file_effect x.files who call)
  pub suits : SuitsCall x.files who call extent

-- the transaction is there and has not ended, and is the caller's, if there is one; what it commits can be committed, what it records has bytes, and it is active
-- where it is to commit
pub record IsReadyCourse (x : Present) (t : Transaction) (caller : Option Id) (input : PhaseInput) : Type 0 where
  pub there : transaction_at x.transactions.items t.id ≡ Some t
  pub called : (id : Id) → caller ≡ Some id → (e : Enlistment) × (enlistment_at x.transactions.enlistments id ≡ Some e) × (e.transaction ≡ t.id)
  pub may : list_any is_commit (row (seen (course_of x t None)) input) ≡ true → MayCommitNow x t
  pub spelled : All IsSpellableEvent (course_to x t caller input).events
  pub active : input ≡ PhaseInput.CommitTransaction → is_active t ≡ true
  pub live : is_live t ≡ true

-- a label that is to be bound is free, and one that is to be duplicated is bound
abbrev pub AreReady : Present → Pid → Labels → Type 0
AreReady x process (Bind label object) = object_at x.handles process label ≡ None
AreReady x process (Duplicate label from source) = (object_at x.handles process label ≡ None) × (is_some (object_at x.handles from source) ≡ true)
AreReady x process (Unbind label) = Unit {0}
AreReady x process UnbindAll = Unit {0}

-- the labels were found to be what the call wants: one that is not bound, one that is, a transaction, a resource manager, an enlistment, or an
-- open file
abbrev pub IsReadyFor : Present → Pid → Routed → Type 0
IsReadyFor x process (Create label timeout) = object_at x.handles process label ≡ None
IsReadyFor x process (Course t caller input) = IsReadyCourse x t caller input
IsReadyFor x process (Information t) = Unit {0}
IsReadyFor x process (MakeManager label durability) = object_at x.handles process label ≡ None
IsReadyFor x process (Recover manager) = is_some (manager_at x.managers manager) ≡ true
IsReadyFor x process (Take manager) = is_some (manager_at x.managers manager) ≡ true
IsReadyFor x process (Enlist label manager transaction kind) =
    (object_at x.handles process label ≡ None) × (is_some (manager_at x.managers manager) ≡ true) × (is_some (transaction_at x.transactions.items transaction) ≡ true)
IsReadyFor x process (Inform enlistment information) = is_some (enlistment_at x.transactions.enlistments enlistment) ≡ true
IsReadyFor x process (Tell enlistment) = is_some (enlistment_at x.transactions.enlistments enlistment) ≡ true
IsReadyFor x process (Handles labels) = AreReady x process labels
IsReadyFor x process (Keys who call) = IsActiveCaller x who
IsReadyFor x process (Files who label call) = IsReadyCall x process who label call None
IsReadyFor x process (Units who file start contents extent) = IsReadyCall x process who None (WriteUnits file start contents) (Some extent)
