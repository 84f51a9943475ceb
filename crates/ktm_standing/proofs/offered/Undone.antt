-- What the passing of time records: that those transactions roll back that are due then, where the log has something of them.
use Rattle.std.proofs.Common.{◌≡◌, ℕ, ◌++◌, List, [], ◌∷◌, None, refl, ◌∙◌, ap, inl, inr}
use Rattle.std.specs.List.{flat_map}
use Rattle.std.proofs.lemmas.Bool.{cases_Bool}
use Rattle.ktm_world.specs.declared.event.Event.TheVariants.{Undo}
use Rattle.ktm_world.specs.declared.input.PhaseInput.{PhaseInput}
use Rattle.ktm_world.specs.declared.object.Transaction.{Transaction}
use Rattle.ktm_world.specs.declared.reply.Reply.TheVariants.{Done}
use Rattle.ktm_world.specs.Outcome.{Outcome, apply, joined, only_reply}
use Rattle.ktm_world.specs.Phases.{event_if}
use Rattle.ktm_world.specs.Present.{Present, Transactions}
use Rattle.ktm_world.specs.Steps.{led}
use Rattle.ktm_world.specs.TransactionCalls.{aborted_by, aborted_if_due, aborted_in_turn, course_of, is_due, later, tick, with_clock}
use Rattle.ktm_courses.specs.SoundCourse.{IsSoundCourse}
use Rattle.ktm_records.proofs.offered.AgreementOfCourses.{arrival}
use Rattle.ktm_records.proofs.offered.AgreementOfRollbacks.{rollback-undone}
use Rattle.ktm_standing.specs.Effects.{undo_of}
use Rattle.ktm_standing.proofs.offered.Courses.{arrived-transactions}
use Rattle.ktm_standing.proofs.offered.Distinct.{AreFound, Rise, rise-found, rise-rest}
use Rattle.ktm_standing.proofs.offered.Timeouts.{found-behind_rollback}

-- one after another, where each is found as it was
in_turn_records : (x : Present) (ts : List Transaction) → Rise ts → AreFound x.transactions.items ts → (aborted_in_turn x ts).events ≡ flat_map (undo_of x.transactions.clock) ts
in_turn_records x [] rise found = refl
in_turn_records x (t ∷ ts) rise found =
    ap (λ (o : Outcome). (joined o (aborted_in_turn (apply x o) ts)).events) (ap (aborted_if_due x) found.0)
    ∙ elim (cases_Bool (is_due x.transactions.clock t)) [
      | inl due ↦
          (let d = led PhaseInput.Rollback (course_of x t None) in
          let o = aborted_by x t None Done in
          let now : o.transactions.clock ≡ x.transactions.clock = ap (λ (all : Transactions). all.clock) (arrived-transactions x d Done) in
          let then = in_turn_records (apply x o) ts (rise-rest t ts rise) (found-behind_rollback x t ts rise found.1) ∙ ap (λ clock. flat_map (undo_of clock) ts) now in
          let here : o.events ≡ event_if t.is_recorded (Undo t.id) = (arrival x d Done).events ∙ (rollback-undone (course_of x t None)).events in
          rw due (ap (λ es. es ++ (aborted_in_turn (apply x o) ts).events) here ∙ ap (λ es. event_if t.is_recorded (Undo t.id) ++ es) then))
      | inr later ↦ (let then = in_turn_records (apply x (only_reply x Done)) ts (rise-rest t ts rise) found.1 in rw later then)
    ]

pub tick_records : (x : Present) (ms : ℕ) → IsSoundCourse x → (tick x ms).events ≡ flat_map (undo_of (later x.transactions.clock ms)) x.transactions.items
unfolding tick
tick_records x ms course = in_turn_records (with_clock x ms) x.transactions.items course.transactions.rise (rise-found x.transactions.items course.transactions.rise)
