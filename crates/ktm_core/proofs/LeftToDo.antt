-- What is left to do has the same events, whatever was recorded.
use Rattle.std.proofs.Common.{◌≡◌, ℕ, List, [], ◌∷◌, Option, Some, None, refl, sym, ◌∙◌, ap}
use Rattle.ktm_base.specs.declared.id.Label.{Label}
use Rattle.ktm_base.specs.declared.id.Pid.{Pid}
use Rattle.ktm_world.specs.declared.object.Object.{Object}
use Rattle.ktm_world.specs.declared.object.Transaction.{Transaction}
use Rattle.ktm_world.specs.declared.options.EnlistmentKind.{EnlistmentKind}
use Rattle.ktm_world.specs.declared.reply.Reply.TheVariants.{Done}
use Rattle.ktm_world.specs.Decide.{bound_file, events_of}
use Rattle.ktm_world.specs.Enlistments.{Enlistment, Manager, enlistment_at, manager_at}
use Rattle.ktm_world.specs.FileOutcome.{FileOutcome}
use Rattle.ktm_world.specs.Files.{OpenFile}
use Rattle.ktm_world.specs.HandleCalls.{close_handle, closed_in_turn, duplicate_handle, exit, handle_gone, labels_of, without_handle}
use Rattle.ktm_world.specs.Handles.{object_at}
use Rattle.ktm_world.specs.Outcome.{Outcome, apply, joined, only_reply}
use Rattle.ktm_world.specs.Present.{Present}
use Rattle.ktm_world.specs.TransactionCalls.{aborted_if_due, aborted_in_turn, create_enlistment, create_resource_manager, create_transaction, enlist, get_notification, keep_information, recover_resource_manager, set_information, take_first, tick, with_clock}
use Rattle.ktm_world.specs.Transactions.{transaction_at}
use Rattle.ktm_standing.specs.Courses.{aside}
use Rattle.ktm_journal.specs.Image.{JournalState}
use Rattle.ktm_memory.specs.Memory.{MemoryState, present_of}
use Rattle.ktm_memory.specs.Opening.{files_outcome}
use Rattle.ktm_memory.specs.Settled.{labels_outcome, left_to_do}
use Rattle.ktm_memory.specs.declared.settlement.Labels.{Labels}
use Rattle.ktm_memory.specs.declared.settlement.Labels.TheVariants.{Bind, Duplicate, Unbind, UnbindAll}
use Rattle.ktm_memory.specs.declared.settlement.Settlement.{Settlement}
use Rattle.ktm_memory.specs.declared.settlement.Settlement.TheVariants.{Nothing, Begin, Change, Course, Handles, Pass, MakeManager, Recover, Take, Enlist, Inform}

-- ---- handles that are closed, and timeouts that are reached

-- the label is unbound
abbrev unbound : Present → Pid → Label → Outcome
unbound x process label = record (only_reply x Done) { handles = without_handle x.handles process label }

gone-aside : (object : Option Object) (x : Present) → handle_gone object (aside x) ≡ handle_gone object x
gone-aside None x = refl
gone-aside (Some object) x = refl

close-aside : (x : Present) (process : Pid) (label : Label) → close_handle (aside x) process label ≡ close_handle x process label
unfolding close_handle
close-aside x process label =
    let named = object_at x.handles process label in
    ap (λ (o : Outcome). joined (unbound x process label) o) (sym (gone-aside named (apply (aside x) (unbound x process label))) ∙ gone-aside named (apply x (unbound x process label)))

closed-aside : (labels : List Label) (x : Present) (process : Pid) → closed_in_turn (aside x) process labels ≡ closed_in_turn x process labels
closed-aside [] x process = refl
closed-aside (label ∷ labels) x process =
    let o = close_handle x process label in
    ap (λ (first : Outcome). joined first (closed_in_turn (apply (aside x) first) process labels)) (close-aside x process label)
    ∙ ap (λ (next : Outcome). joined o next) (sym (closed-aside labels (apply (aside x) o) process) ∙ closed-aside labels (apply x o) process)

due-aside : (found : Option Transaction) (x : Present) → aborted_if_due (aside x) found ≡ aborted_if_due x found
due-aside None x = refl
due-aside (Some t) x = refl

turn-aside : (ts : List Transaction) (x : Present) → aborted_in_turn (aside x) ts ≡ aborted_in_turn x ts
turn-aside [] x = refl
turn-aside (t ∷ ts) x =
    let o = aborted_if_due x (transaction_at x.transactions.items t.id) in
    ap (λ (first : Outcome). joined first (aborted_in_turn (apply (aside x) first) ts)) (due-aside (transaction_at x.transactions.items t.id) x)
    ∙ ap (λ (next : Outcome). joined o next) (sym (turn-aside ts (apply (aside x) o)) ∙ turn-aside ts (apply x o))

-- ---- calls whose events are those of their change, or none

bound-records : (process : Pid) (label : Label) (opened : Option OpenFile) (o : Outcome) → (bound_file process label opened o).events ≡ o.events
bound-records process label None o = refl
bound-records process label (Some file) o = refl

files-record : (x : Present) (process : Pid) (label : Option Label) (o : FileOutcome) → (files_outcome x process None label o).events ≡ events_of None o.change
files-record x process None o = refl
files-record x process (Some label) o = bound-records process label o.opened _

enlisting-records : (x : Present) (process : Pid) (label : Label) (m : Option Manager) (t : Option Transaction) (kind : EnlistmentKind) → (enlist x process label m t kind).events ≡ []
enlisting-records x process label None t kind = refl
enlisting-records x process label (Some m) None kind = refl
enlisting-records x process label (Some m) (Some t) kind = refl

informing-records : (x : Present) (e : Option Enlistment) (information : List ℕ) → (keep_information x e information).events ≡ []
informing-records x None information = refl
informing-records x (Some e) information = refl

taking-records : (x : Present) (m : Option Manager) → (take_first x m).events ≡ []
taking-records x None = refl
taking-records x (Some m) = refl

-- ---- whatever is left to do

labels-aside : (labels : Labels) (x : Present) (process : Pid) → (labels_outcome (aside x) process labels).events ≡ (labels_outcome x process labels).events
unfolding duplicate_handle exit
labels-aside (Bind label object) x process = refl
labels-aside (Duplicate label from source) x process = refl
labels-aside (Unbind label) x process = ap (λ (o : Outcome). o.events) (close-aside x process label)
labels-aside UnbindAll x process = ap (λ (o : Outcome). o.events) (closed-aside (labels_of x.handles process) x process)

-- with a journal of another count it has the same events
pub events_alike : (m : MemoryState) (j : JournalState) (rest : Settlement) → (left_to_do (present_of (record m { journal = j })) rest).events ≡ (left_to_do (present_of m) rest).events
unfolding create_transaction create_resource_manager create_enlistment recover_resource_manager get_notification set_information tick
events_alike m j Nothing = refl
events_alike m j (Begin process label timeout) = refl
events_alike m j (Change process label plan ready) = files-record (present_of (record m { journal = j })) process label plan ∙ sym (files-record (present_of m) process label plan)
events_alike m j (Course t caller steps) = refl
events_alike m j (Handles process labels) = sym (labels-aside labels (present_of (record m { journal = j })) process) ∙ labels-aside labels (present_of m) process
events_alike m j (Pass ms) =
    ap (λ (o : Outcome). o.events) (sym (turn-aside (present_of m).transactions.items (with_clock (present_of (record m { journal = j })) ms)) ∙ turn-aside (present_of m).transactions.items (with_clock (present_of m) ms))
events_alike m j (MakeManager process label durability) = refl
events_alike m j (Recover manager) = refl
events_alike m j (Take manager) =
    let found = manager_at (present_of m).managers manager in
    taking-records (present_of (record m { journal = j })) found ∙ sym (taking-records (present_of m) found)
events_alike m j (Enlist process label manager transaction kind) =
    let found = manager_at (present_of m).managers manager in
    let t = transaction_at (present_of m).transactions.items transaction in
    enlisting-records (present_of (record m { journal = j })) process label found t kind ∙ sym (enlisting-records (present_of m) process label found t kind)
events_alike m j (Inform enlistment information) =
    let e = enlistment_at (present_of m).transactions.enlistments enlistment in
    informing-records (present_of (record m { journal = j })) e information ∙ sym (informing-records (present_of m) e information)
