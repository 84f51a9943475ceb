-- What closing handles leaves, and that it records nothing.
use Rattle.std.proofs.Common.{◌≡◌, ◌++◌, ◌||◌, cond, not, Bool, true, false, List, [], ◌∷◌, Option, Some, None, refl, sym, ap, ◌∙◌, inl, inr}
use Rattle.std.proofs.lemmas.Bool.{and_from, and_parts, cases_Bool, or_cases, or_left, not-true, true≢false}
use Rattle.std.specs.List.{list_all}
use Rattle.ktm_base.specs.declared.id.Id.{Id}
use Rattle.ktm_base.specs.declared.id.Label.{Label}
use Rattle.ktm_base.specs.declared.id.Pid.{Pid}
use Rattle.ktm_world.specs.declared.event.Event.{Event}
use Rattle.ktm_world.specs.declared.input.PhaseInput.{PhaseInput}
use Rattle.ktm_world.specs.declared.object.Object.{Object}
use Rattle.ktm_world.specs.declared.object.Object.TheVariants.{Transaction as TransactionObject, Manager as ManagerObject, Enlistment as EnlistmentObject, File as FileObject}
use Rattle.ktm_world.specs.declared.object.Phase.{Phase}
use Rattle.ktm_world.specs.declared.object.Phase.TheVariants.{Active}
use Rattle.ktm_world.specs.declared.object.Transaction.{Transaction}
use Rattle.ktm_world.specs.declared.reply.Reply.TheVariants.{Done}
use Rattle.ktm_world.specs.HandleCalls.{abort_active, close_handle, closed_in_turn, exit, handle_gone, has_handle, labels_of, last_handle_gone, without_handle}
use Rattle.ktm_world.specs.Handles.{object_at}
use Rattle.ktm_world.specs.Outcome.{Outcome, apply, only_reply}
use Rattle.ktm_world.specs.Phases.{event_if}
use Rattle.ktm_world.specs.Present.{Present}
use Rattle.ktm_world.specs.Steps.{led}
use Rattle.ktm_world.specs.Transactions.{is_active, transaction_at}
use Rattle.ktm_world.specs.TransactionCalls.{aborted_by, course_of}
use Rattle.ktm_world.specs.Lawful.{stage_in}
use Rattle.std.proofs.lemmas.Option.{none-some}
use Rattle.ktm_courses.specs.SoundCourse.{IsSoundCourse, is_recorded_as, is_recorded_as_asked}
use Rattle.ktm_courses.proofs.offered.HandlesAndTime.{Closes, close_handle-so}
use Rattle.ktm_records.proofs.offered.AgreementOfCourses.{arrival}
use Rattle.ktm_records.proofs.offered.AgreementOfRollbacks.{rollback-undone}
use Rattle.ktm_standing.specs.Effects.{IsLater}
use Rattle.ktm_standing.proofs.offered.Applied.{apply-kept, later-joined, later-reply}
use Rattle.ktm_standing.proofs.offered.Found.{change_at-passes, found-passes}
use Rattle.ktm_standing.proofs.offered.Timeouts.{later-rollback}

-- the label is unbound
abbrev pub unbinding : Present → Pid → Label → Outcome
unbinding x process label = record (only_reply x Done) { handles = without_handle x.handles process label }

pub apply-unbinding : (x : Present) (process : Pid) (label : Label) → apply x (unbinding x process label) ≡ record x { handles = without_handle x.handles process label }
apply-unbinding x process label = apply-kept x (unbinding x process label) (record { records = refl; commits = refl; sends = refl; opens = refl; makes = refl; takes = refl }) refl

-- ---- it opens, makes and takes nothing

later-active : (x : Present) (t : Option Transaction) → IsLater (abort_active x t)
later-active x None = later-reply x Done
later-active x (Some t) = go (is_active t)
  where
    go : (b : Bool) → IsLater (cond b (aborted_by x t None Done) (only_reply x Done))
    go true = later-rollback x t
    go false = later-reply x Done

later-last : (x : Present) (object : Object) → IsLater (last_handle_gone x object)
later-last x (TransactionObject id) = later-active x (transaction_at x.transactions.items id)
later-last x (ManagerObject id) = later-reply x Done
later-last x (EnlistmentObject id) = later-reply x Done
later-last x (FileObject number) = record { opens = refl; makes = refl; takes = refl }

pub later-gone : (x : Present) (object : Option Object) → IsLater (handle_gone object x)
later-gone x None = later-reply x Done
later-gone x (Some object) = go (has_handle x.handles object)
  where
    go : (b : Bool) → IsLater (cond b (only_reply x Done) (last_handle_gone x object))
    go true = later-reply x Done
    go false = later-last x object

closing : Closes (λ x. Unit {0}) (λ x o. IsLater o)
closing = record {
  rolls = record { reply = λ x asked. later-reply x Done; rolls = λ x t asked there may. later-rollback x t; goes_on = λ x a next first second. later-joined a (next (apply x a)) first (second tt) };
  unbinds = λ x process label asked. record { opens = refl; makes = refl; takes = refl };
  ends = λ x number asked. record { opens = refl; makes = refl; takes = refl };
}

pub later-close : (x : Present) (process : Pid) (label : Label) → IsLater (close_handle x process label)
later-close x process label = close_handle-so (λ x. Unit {0}) (λ x o. IsLater o) closing x process label tt

later-closed : (x : Present) (process : Pid) (labels : List Label) → IsLater (closed_in_turn x process labels)
later-closed x process [] = later-reply x Done
later-closed x process (label ∷ labels) = later-joined (close_handle x process label) _ (later-close x process label) (later-closed (apply x (close_handle x process label)) process labels)

-- ---- what it leaves

-- ---- it records nothing

-- is nothing of the transaction in the log while it is active
abbrev pub is_bare : Transaction → Bool
is_bare t = not (is_active t) || not t.is_recorded

-- nothing is recorded, and active transactions stay so
pub record RecordsNothing (o : Outcome) : Type 0 where
  pub records : o.events ≡ []
  pub bare : list_all is_bare o.transactions.items ≡ true

-- in a sound machine nothing of active transactions is in the log
pub bare_course : (x : Present) → IsSoundCourse x → list_all is_bare x.transactions.items ≡ true
bare_course x course = go x.transactions.items course.phases.recorded
  where
    one : (t : Transaction) → is_recorded_as_asked x.managers x.transactions.enlistments t ≡ true → is_bare t ≡ true
    one t = by t.phase
      where
        by : (phase : Phase) → is_recorded_as phase x.managers x.transactions.enlistments t.id t.is_recorded ≡ true → is_bare (record t { phase = phase }) ≡ true
        by Active as_asked = as_asked
        by _ as_asked = refl

    go : (ts : List Transaction) → list_all (is_recorded_as_asked x.managers x.transactions.enlistments) ts ≡ true → list_all is_bare ts ≡ true
    go [] all = refl
    go (t ∷ ts) all = let parts = and_parts (is_recorded_as_asked x.managers x.transactions.enlistments t) (list_all (is_recorded_as_asked x.managers x.transactions.enlistments) ts) all in and_from _ _ (one t parts.0) (go ts parts.1)

nothing : (x : Present) → list_all is_bare x.transactions.items ≡ true → RecordsNothing (only_reply x Done)
nothing x bare = record { records = refl; bare = bare }

rolls : (x : Present) (id : Id) (t : Transaction) → transaction_at x.transactions.items id ≡ Some t → is_active t ≡ true → list_all is_bare x.transactions.items ≡ true → RecordsNothing (aborted_by x t None Done)
unfolding led
rolls x id t found active bare =
    let d = led PhaseInput.Rollback (course_of x t None) in
    let here = arrival x d Done in
    let undone = rollback-undone (course_of x t None) in
    let none : t.is_recorded ≡ false = elim (or_cases _ _ (found-passes is_bare x.transactions.items id t bare found)) [ inl other ↦ absurd (true≢false (sym active ∙ not-true _ other)) | inr none ↦ not-true _ none ] in
    record {
      records = here.events ∙ undone.events ∙ ap (λ b. event_if b (Event.Undo t.id)) none;
      bare = ap (list_all is_bare) here.items ∙ change_at-passes is_bare (λ u. d.transaction) (λ u. or_left _ _ (ap not (not_active d.transaction undone.stage))) x.transactions.items d.transaction.id bare;
    }
  where
    not_active : (u : Transaction) → stage_in u.phase ≡ None → is_active u ≡ false
    not_active u = by u.phase
      where
        by : (phase : Phase) → stage_in phase ≡ None → is_active (record u { phase = phase }) ≡ false
        by Active none = absurd (none-some _ (sym none))
        by _ none = refl

pub gone_records : (x : Present) (object : Option Object) → list_all is_bare x.transactions.items ≡ true → RecordsNothing (handle_gone object x)
gone_records x None bare = nothing x bare
gone_records x (Some object) bare = go (has_handle x.handles object)
  where
    active : (id : Id) (t : Option Transaction) → transaction_at x.transactions.items id ≡ t → RecordsNothing (abort_active x t)
    active id None found = nothing x bare
    active id (Some t) found = elim (cases_Bool (is_active t)) [ inl is ↦ rw is (rolls x id t found is bare) | inr other ↦ rw other (nothing x bare) ]

    last : (object : Object) → RecordsNothing (last_handle_gone x object)
    last (TransactionObject id) = active id (transaction_at x.transactions.items id) refl
    last (ManagerObject id) = nothing x bare
    last (EnlistmentObject id) = nothing x bare
    last (FileObject number) = record { records = refl; bare = bare }

    go : (b : Bool) → RecordsNothing (cond b (only_reply x Done) (last_handle_gone x object))
    go true = nothing x bare
    go false = last object

pub close_records : (x : Present) (process : Pid) (label : Label) → list_all is_bare x.transactions.items ≡ true → RecordsNothing (close_handle x process label)
unfolding close_handle
close_records x process label bare =
    let gone = gone_records (apply x (unbinding x process label)) (object_at x.handles process label) bare in
    record { records = gone.records; bare = gone.bare }

closed_records : (labels : List Label) (x : Present) (process : Pid) → list_all is_bare x.transactions.items ≡ true → RecordsNothing (closed_in_turn x process labels)
closed_records [] x process bare = nothing x bare
closed_records (label ∷ labels) x process bare =
    let first = close_records x process label bare in
    let rest = closed_records labels (apply x (close_handle x process label)) process first.bare in
    record { records = ap (λ es. es ++ (closed_in_turn (apply x (close_handle x process label)) process labels).events) first.records ∙ rest.records; bare = rest.bare }

pub exit_records : (x : Present) (process : Pid) → list_all is_bare x.transactions.items ≡ true → RecordsNothing (exit x process)
unfolding exit
exit_records x process bare = closed_records (labels_of x.handles process) x process bare
