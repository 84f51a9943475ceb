-- What is left to do, in the model's own words, and what each part of it makes of what is so now.
use Rattle.std.specs.Prelude.{Bool, List, [], ◌∷◌, Option, Some, None, option_to_list, if◌then◌else◌}
use Rattle.ktm_base.specs.declared.refusal.Refusal.{Refusal}
use Rattle.ktm_base.specs.declared.id.Label.{Label}
use Rattle.ktm_base.specs.declared.id.Pid.{Pid}
use Rattle.ktm_course.specs.Moved.{records_files}
use Rattle.ktm_standing.specs.Effects.{handles_with}
use Rattle.ktm_world.specs.declared.change.Change.{Change as OfFile}
use Rattle.ktm_world.specs.declared.object.Handle.{Handle}
use Rattle.ktm_world.specs.declared.reply.Reply.TheVariants.{Done}
use Rattle.ktm_world.specs.Files.{OpenFile, own_changes}
use Rattle.ktm_world.specs.HandleCalls.{close_handle, duplicate_handle, exit}
use Rattle.ktm_world.specs.Outcome.{Outcome, only_reply}
use Rattle.ktm_world.specs.Present.{Present}
use Rattle.ktm_world.specs.Enlistments.{enlistment_at, manager_at}
use Rattle.ktm_world.specs.TransactionCalls.{arrived, create_enlistment, create_resource_manager, create_transaction, get_notification, handle_test, opened_object, recover_resource_manager, set_information, tick}
use Rattle.ktm_world.specs.Transactions.{transaction_at}
use Rattle.ktm_memory.specs.Memory.{course_then}
use Rattle.ktm_memory.specs.Opening.{files_outcome}
use Rattle.ktm_memory.specs.declared.settlement.Labels.{Labels}
use Rattle.ktm_memory.specs.declared.settlement.Labels.TheVariants.{Bind, Duplicate, Unbind, UnbindAll}
use Rattle.ktm_memory.specs.declared.settlement.Settlement.{Settlement}
use Rattle.ktm_memory.specs.declared.settlement.Settlement.TheVariants.{Nothing, Begin, Change, Course, Handles, Pass, MakeManager, Recover, Take, Enlist, Inform}

-- the tests of what becomes of labels, once they are known: one that is bound wants a handle more
abbrev pub labels_tests : Present → Labels → List (Bool × Refusal)
labels_tests x (Bind label object) = handle_test x ∷ []
labels_tests x (Duplicate label from source) = handle_test x ∷ []
labels_tests x (Unbind label) = []
labels_tests x UnbindAll = []

-- what becomes of labels
abbrev pub labels_outcome : Present → Pid → Labels → Outcome
labels_outcome x process (Bind label object) = opened_object x process label object
labels_outcome x process (Duplicate label from source) = duplicate_handle x process label from source
labels_outcome x process (Unbind label) = close_handle x process label
labels_outcome x process UnbindAll = exit x process

-- what is left to do, as an outcome on what is so now, but for its reply
abbrev pub left_to_do : Present → Settlement → Outcome
left_to_do x Nothing = only_reply x Done
left_to_do x (Begin process label timeout) = create_transaction x process label timeout
left_to_do x (Change process label plan ready) = files_outcome x process None label plan
left_to_do x (Course t caller steps) = arrived x (course_then x t caller steps.items) Done
left_to_do x (Handles process labels) = labels_outcome x process labels
left_to_do x (Pass ms) = tick x ms
left_to_do x (MakeManager process label durability) = create_resource_manager x process label durability
left_to_do x (Recover manager) = recover_resource_manager x (manager_at x.managers manager)
left_to_do x (Take manager) = get_notification x (manager_at x.managers manager)
left_to_do x (Enlist process label manager transaction kind) = create_enlistment x process label (manager_at x.managers manager) (transaction_at x.transactions.items transaction) kind
left_to_do x (Inform enlistment information) = set_information x (enlistment_at x.transactions.enlistments enlistment) information

-- the changes of files that are left to be recorded: that of a plain call, and those of a transaction whose steps record them
abbrev pub changes_put : Present → Settlement → List OfFile
changes_put x (Change process label plan ready) = option_to_list plan.change
changes_put x (Course t caller steps) = if records_files steps.items then own_changes x.files.table.own t.id else []
changes_put x _ = []

-- ---- the same within the machine, which no public clause cites

-- the handles once the label, if there is one, is bound to the file that is opened, if one is
abbrev pub handles_then : List Handle → Pid → Option Label → Option OpenFile → List Handle
handles_then handles process None opened = handles
handles_then handles process (Some label) opened = handles_with handles process label opened
