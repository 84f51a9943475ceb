-- How many bytes rollbacks record where handles are closed and a process ends.
use Rattle.std.proofs.Common.{◌+◌, ◌*◌, ◌≤◌, nat_lt, List, [], ◌∷◌, length, Option, Some, None, ◌∙◌, ap, arith, inl, inr}
use Rattle.std.proofs.lemmas.Bool.{cases_Bool}
use Rattle.std.proofs.lemmas.List.Sums.{sum_by-append}
use Rattle.ktm_base.specs.declared.id.Label.{Label}
use Rattle.ktm_base.specs.declared.id.Pid.{Pid}
use Rattle.ktm_world.specs.declared.event.Event.TheVariants.{Undo}
use Rattle.ktm_world.specs.declared.input.PhaseInput.{PhaseInput}
use Rattle.ktm_world.specs.declared.object.Handle.{Handle}
use Rattle.ktm_world.specs.declared.object.Object.{Object}
use Rattle.ktm_world.specs.declared.object.Transaction.{Transaction}
use Rattle.ktm_world.specs.declared.reply.Reply.TheVariants.{Done}
use Rattle.ktm_world.specs.Sizes.{event_size}
use Rattle.ktm_world.specs.HandleCalls.{abort_active, close_handle, closed_in_turn, exit, handle_gone, has_handle, is_of_process, labels_of, last_handle_gone, with_label, without_handle}
use Rattle.ktm_world.specs.Handles.{object_at}
use Rattle.ktm_world.specs.Outcome.{apply, only_reply}
use Rattle.ktm_world.specs.Present.{Present}
use Rattle.ktm_world.specs.Steps.{led}
use Rattle.ktm_world.specs.TransactionCalls.{aborted_by, course_of}
use Rattle.ktm_world.specs.Transactions.{is_active, transaction_at}
use Rattle.ktm_records.proofs.offered.AgreementOfCourses.{arrival}
use Rattle.ktm_records.proofs.offered.AgreementOfRollbacks.{rollback-undone}
use Rattle.ktm_steps.proofs.offered.Ways.{if_cases}
use Rattle.ktm_room.proofs.offered.CourseSizes.{if-sized, sizes}

-- ---- one handle

undo-size : (x : Present) (t : Transaction) → sizes (aborted_by x t None Done).events ≤ 9
undo-size x t =
    let same = ap sizes ((arrival x (led PhaseInput.Rollback (course_of x t None)) Done).events ∙ (rollback-undone (course_of x t None)).events) in
    let one = if-sized t.is_recorded (Undo t.id) in
    omega (arith, same, one)

active-size : (x : Present) (o : Option Transaction) → sizes (abort_active x o).events ≤ 9
active-size x None = omega arith
active-size x (Some t) = if_cases (λ o. sizes o.events ≤ 9) (is_active t) (aborted_by x t None Done) (only_reply x Done) (λ active. undo-size x t) (λ other. omega arith)

last-size : (x : Present) (object : Object) → sizes (last_handle_gone x object).events ≤ 9
last-size x (Object.Transaction id) = active-size x (transaction_at x.transactions.items id)
last-size x (Object.Manager id) = omega arith
last-size x (Object.Enlistment id) = omega arith
last-size x (Object.File number) = omega arith

gone-size : (o : Option Object) (x : Present) → sizes (handle_gone o x).events ≤ 9
gone-size None x = omega arith
gone-size (Some object) x = if_cases (λ o. sizes o.events ≤ 9) (has_handle x.handles object) (only_reply x Done) (last_handle_gone x object) (λ has. omega arith) (λ last. last-size x object)

pub close_handle-size : (x : Present) (process : Pid) (label : Label) → sizes (close_handle x process label).events ≤ 9
unfolding close_handle
close_handle-size x process label = gone-size (object_at x.handles process label) (apply x (record (only_reply x Done) { handles = without_handle x.handles process label }))

-- ---- all handles of a process

closed-size : (labels : List Label) (x : Present) (process : Pid) → sizes (closed_in_turn x process labels).events ≤ 9 * length labels
closed-size [] x process = omega arith
closed-size (label ∷ labels) x process =
    let o = close_handle x process label in
    let both = sum_by-append event_size o.events (closed_in_turn (apply x o) process labels).events in
    let first = close_handle-size x process label in
    let rest = closed-size labels (apply x o) process in
    omega (arith, both, first, rest)

length-with_label : (labels : List Label) (label : Label) → length (with_label labels label) ≤ length labels + 1
length-with_label [] label = omega arith
length-with_label (l ∷ ls) label = let rest = length-with_label ls label in elim (cases_Bool (nat_lt label.0 l.0)) [
  | inl before ↦ rw before (omega arith)
  | inr behind ↦ rw behind (omega (arith, rest))
]

length-labels_of : (handles : List Handle) (process : Pid) → length (labels_of handles process) ≤ length handles
length-labels_of [] process = omega arith
length-labels_of (h ∷ hs) process =
    let rest = length-labels_of hs process in
    let more = length-with_label (labels_of hs process) h.label in
    elim (cases_Bool (is_of_process process h)) [
      | inl own ↦ rw own (omega (arith, rest, more))
      | inr other ↦ rw other (omega (arith, rest))
    ]

pub exit-size : (x : Present) (process : Pid) → sizes (exit x process).events ≤ 9 * length x.handles
unfolding exit
exit-size x process =
    let all = closed-size (labels_of x.handles process) x process in
    let few = length-labels_of x.handles process in
    omega (arith, all, few)
