-- What is left to do sends the same, whatever was recorded.
use Rattle.std.proofs.Common.{◌≡◌, ℕ, List, [], ◌∷◌, Option, Some, None, refl, sym, ◌∙◌, ap}
use Rattle.ktm_base.specs.declared.id.Label.{Label}
use Rattle.ktm_base.specs.declared.id.Pid.{Pid}
use Rattle.ktm_world.specs.declared.object.Object.{Object}
use Rattle.ktm_world.specs.declared.object.Transaction.{Transaction}
use Rattle.ktm_world.specs.declared.options.EnlistmentKind.{EnlistmentKind}
use Rattle.ktm_world.specs.declared.reply.Reply.TheVariants.{Done}
use Rattle.ktm_world.specs.Decide.{bound_file}
use Rattle.ktm_world.specs.Durable.{empty_state}
use Rattle.ktm_world.specs.Enlistments.{Enlistment, Manager, enlistment_at, manager_at}
use Rattle.ktm_world.specs.FileOutcome.{FileOutcome}
use Rattle.ktm_world.specs.Files.{OpenFile}
use Rattle.ktm_world.specs.HandleCalls.{close_handle, closed_in_turn, duplicate_handle, exit, handle_gone, labels_of, without_handle}
use Rattle.ktm_world.specs.Handles.{object_at}
use Rattle.ktm_world.specs.Outcome.{Outcome, apply, joined, only_reply}
use Rattle.ktm_world.specs.Present.{Present}
use Rattle.ktm_world.specs.TransactionCalls.{aborted_if_due, aborted_in_turn, create_enlistment, create_resource_manager, create_transaction, enlist, get_notification, keep_information, recover_resource_manager, set_information, take_first, tick, with_clock}
use Rattle.ktm_world.specs.Transactions.{transaction_at}
use Rattle.ktm_standing.specs.Courses.{aside}
use Rattle.ktm_memory.specs.Memory.{MemoryState, Shows, present_of}
use Rattle.ktm_memory.specs.Opening.{files_outcome}
use Rattle.ktm_memory.specs.Settled.{labels_outcome, left_to_do}
use Rattle.ktm_memory.specs.declared.settlement.Labels.{Labels}
use Rattle.ktm_memory.specs.declared.settlement.Labels.TheVariants.{Bind, Duplicate, Unbind, UnbindAll}
use Rattle.ktm_memory.specs.declared.settlement.Settlement.{Settlement}
use Rattle.ktm_memory.specs.declared.settlement.Settlement.TheVariants.{Nothing, Begin, Change, Course, Handles, Pass, MakeManager, Recover, Take, Enlist, Inform}

-- ---- handles that are closed, and timeouts that are reached

-- the label is unbound
abbrev unbound : Present → Pid → Label → Outcome
unbound x process label = record (only_reply x Done) { handles = without_handle x.handles process label }

gone-aside : (object : Option Object) (x : Present) → handle_gone object (aside x) ≡ handle_gone object x
gone-aside None x = refl
gone-aside (Some object) x = refl

close-aside : (x : Present) (process : Pid) (label : Label) → close_handle (aside x) process label ≡ close_handle x process label
unfolding close_handle
close-aside x process label =
    let named = object_at x.handles process label in
    ap (λ (o : Outcome). joined (unbound x process label) o) (sym (gone-aside named (apply (aside x) (unbound x process label))) ∙ gone-aside named (apply x (unbound x process label)))

closed-aside : (labels : List Label) (x : Present) (process : Pid) → closed_in_turn (aside x) process labels ≡ closed_in_turn x process labels
closed-aside [] x process = refl
closed-aside (label ∷ labels) x process =
    let o = close_handle x process label in
    ap (λ (first : Outcome). joined first (closed_in_turn (apply (aside x) first) process labels)) (close-aside x process label)
    ∙ ap (λ (next : Outcome). joined o next) (sym (closed-aside labels (apply (aside x) o) process) ∙ closed-aside labels (apply x o) process)

due-aside : (found : Option Transaction) (x : Present) → aborted_if_due (aside x) found ≡ aborted_if_due x found
due-aside None x = refl
due-aside (Some t) x = refl

turn-aside : (ts : List Transaction) (x : Present) → aborted_in_turn (aside x) ts ≡ aborted_in_turn x ts
turn-aside [] x = refl
turn-aside (t ∷ ts) x =
    let o = aborted_if_due x (transaction_at x.transactions.items t.id) in
    ap (λ (first : Outcome). joined first (aborted_in_turn (apply (aside x) first) ts)) (due-aside (transaction_at x.transactions.items t.id) x)
    ∙ ap (λ (next : Outcome). joined o next) (sym (turn-aside ts (apply (aside x) o)) ∙ turn-aside ts (apply x o))

-- ---- calls that send nothing

bound-sends : (process : Pid) (label : Label) (opened : Option OpenFile) (o : Outcome) → (bound_file process label opened o).sent ≡ o.sent
bound-sends process label None o = refl
bound-sends process label (Some file) o = refl

files-send : (x : Present) (process : Pid) (label : Option Label) (o : FileOutcome) → (files_outcome x process None label o).sent ≡ []
files-send x process None o = refl
files-send x process (Some label) o = bound-sends process label o.opened _

enlisting-sends : (x : Present) (process : Pid) (label : Label) (m : Option Manager) (t : Option Transaction) (kind : EnlistmentKind) → (enlist x process label m t kind).sent ≡ []
enlisting-sends x process label None t kind = refl
enlisting-sends x process label (Some m) None kind = refl
enlisting-sends x process label (Some m) (Some t) kind = refl

informing-sends : (x : Present) (e : Option Enlistment) (information : List ℕ) → (keep_information x e information).sent ≡ []
informing-sends x None information = refl
informing-sends x (Some e) information = refl

taking-sends : (x : Present) (m : Option Manager) → (take_first x m).sent ≡ []
taking-sends x None = refl
taking-sends x (Some m) = refl

-- ---- whatever is left to do

labels-aside : (labels : Labels) (x : Present) (process : Pid) → (labels_outcome (aside x) process labels).sent ≡ (labels_outcome x process labels).sent
unfolding duplicate_handle exit
labels-aside (Bind label object) x process = refl
labels-aside (Duplicate label from source) x process = refl
labels-aside (Unbind label) x process = ap (λ (o : Outcome). o.sent) (close-aside x process label)
labels-aside UnbindAll x process = ap (λ (o : Outcome). o.sent) (closed-aside (labels_of x.handles process) x process)

-- it sends the same where nothing was recorded
left-aside : (rest : Settlement) (x : Present) → (left_to_do (aside x) rest).sent ≡ (left_to_do x rest).sent
unfolding create_transaction create_resource_manager create_enlistment recover_resource_manager get_notification set_information tick
left-aside Nothing x = refl
left-aside (Begin process label timeout) x = refl
left-aside (Change process label plan ready) x = files-send (aside x) process label plan ∙ sym (files-send x process label plan)
left-aside (Course t caller steps) x = refl
left-aside (Handles process labels) x = labels-aside labels x process
left-aside (Pass ms) x = ap (λ (o : Outcome). o.sent) (turn-aside x.transactions.items (with_clock x ms))
left-aside (MakeManager process label durability) x = refl
left-aside (Recover manager) x = refl
left-aside (Take manager) x =
    let m = manager_at x.managers manager in
    taking-sends (aside x) m ∙ sym (taking-sends x m)
left-aside (Enlist process label manager transaction kind) x =
    let m = manager_at x.managers manager in
    let t = transaction_at x.transactions.items transaction in
    enlisting-sends (aside x) process label m t kind ∙ sym (enlisting-sends x process label m t kind)
left-aside (Inform enlistment information) x =
    let e = enlistment_at x.transactions.enlistments enlistment in
    informing-sends (aside x) e information ∙ sym (informing-sends x e information)

-- on whatever memory shows it sends what it sends on what memory makes of itself
pub sends-alike : (m : MemoryState) (rest : Settlement) (x : Present) → Shows m x → (left_to_do x rest).sent ≡ (left_to_do (present_of m) rest).sent
sends-alike m rest x shows = sym (left-aside rest x) ∙ ap (λ (y : Present). (left_to_do y rest).sent) same ∙ left-aside rest (present_of m)
  where
    same : aside x ≡ aside (present_of m)
    same i = record {
      machine = record { is_up = (sym shows.is_up) i };
      recorded = empty_state 0 0;
      transactions = (sym shows.transactions) i;
      managers = (sym shows.managers) i;
      files = (sym shows.files) i;
      keys = (sym shows.keys) i;
      handles = (sym shows.handles) i;
    }
