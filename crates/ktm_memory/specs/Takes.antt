-- Which calls may take memory, once their labels are known: out of memory they alone may give up.
use Rattle.std.specs.Prelude.{◌&&◌, ◌||◌, not, Bool, true, false, [], ◌∷◌, Option, is_none}
use Rattle.ktm_base.specs.declared.id.Id.{Id}
use Rattle.ktm_world.specs.FileOutcome.{FileOutcome}
use Rattle.ktm_world.specs.Outcome.{first_refusal}
use Rattle.ktm_world.specs.Present.{Present}
use Rattle.ktm_world.specs.TransactionCalls.{handle_test, no_enlistment_left, no_manager_left, no_transaction_left, quota_test}
use Rattle.ktm_world.specs.Uses.{file_room, key_room}
use Rattle.kv_rm.specs.Calls.{is_refused, key_outcome}
use Rattle.txf_calls.specs.Calls.{file_outcome, takes_memory as decision_takes_memory}
use Rattle.txf_calls.specs.declared.call.FileCall.{FileCall}
use Rattle.txf_calls.specs.declared.call.FileCall.TheVariants.{WriteUnits}
use Rattle.ktm_memory.specs.declared.routed.Routed.{Routed}
use Rattle.ktm_memory.specs.declared.routed.Routed.TheVariants.{Create, Course, Information, MakeManager, Recover, Take, Enlist, Inform, Tell, Handles, Keys, Files, Units}
use Rattle.ktm_memory.specs.declared.settlement.Labels.{Labels}
use Rattle.ktm_memory.specs.declared.settlement.Labels.TheVariants.{Bind, Duplicate, Unbind, UnbindAll}

-- does what a call on files comes to only answer
abbrev pub is_quiet : FileOutcome → Bool
is_quiet o = is_none o.change && is_none o.first && is_none o.opened

-- may a call on files take memory, to be decided, or to be made where it does not only answer
abbrev pub files_take_memory : Present → Option Id → FileCall → Bool
files_take_memory x who call = decision_takes_memory call || not (is_quiet (file_outcome x.files (file_room x) who call))

-- may it take memory to bind or to unbind labels: for a handle more, where nothing refuses it
abbrev pub labels_take_memory : Present → Labels → Bool
labels_take_memory x (Bind label object) = is_none (first_refusal (handle_test x ∷ []))
labels_take_memory x (Duplicate label from source) = is_none (first_refusal (handle_test x ∷ []))
labels_take_memory x (Unbind label) = false
labels_take_memory x UnbindAll = false

-- may a call take memory whose labels are known
abbrev pub routed_takes_memory : Present → Routed → Bool
routed_takes_memory x (Create label timeout) = is_none (first_refusal (quota_test x (no_transaction_left x.transactions) ∷ []))
routed_takes_memory x (Course t caller input) = false
routed_takes_memory x (Information t) = false
routed_takes_memory x (MakeManager label durability) = is_none (first_refusal (quota_test x (no_manager_left x.managers x.transactions) ∷ []))
routed_takes_memory x (Recover manager) = true
routed_takes_memory x (Take manager) = false
routed_takes_memory x (Enlist label manager transaction kind) = is_none (first_refusal (quota_test x (no_enlistment_left x.transactions) ∷ []))
routed_takes_memory x (Inform enlistment information) = false
routed_takes_memory x (Tell enlistment) = true
routed_takes_memory x (Handles labels) = labels_take_memory x labels
routed_takes_memory x (Keys who call) = not (is_refused (key_outcome x.keys (key_room x) who call).reply)
routed_takes_memory x (Files who label call) = files_take_memory x who call
routed_takes_memory x (Units who file start contents extent) = files_take_memory x who (WriteUnits file start contents)
