-- What is recorded of a transaction that rolls back, with which what is so then agrees.
use Rattle.std.proofs.Common.{◌≡◌, Bool, true, false, [], ◌∷◌, ◌++◌, Option, None, refl, sym, ◌∙◌, ap, List}
use Rattle.std.specs.List.{list_any, list_all}
use Rattle.ktm_base.specs.declared.notify.Notify.{Notify}
use Rattle.ktm_world.specs.declared.event.Event.{Event}
use Rattle.ktm_world.specs.declared.input.PhaseInput.{PhaseInput}
use Rattle.ktm_world.specs.declared.object.Phase.TheVariants.{Aborting}
use Rattle.ktm_world.specs.declared.object.Transaction.{Transaction}
use Rattle.ktm_world.specs.declared.object.TransactionOutcome.TheVariants.{Aborted}
use Rattle.ktm_world.specs.declared.reply.Reply.{Reply}
use Rattle.ktm_world.specs.declared.step.Fact.{Fact}
use Rattle.ktm_world.specs.declared.step.Owed.{Owed}
use Rattle.ktm_world.specs.declared.step.Step.{Step}
use Rattle.ktm_world.specs.declared.step.Who.{Who}
use Rattle.ktm_world.specs.Enlistments.{Enlistment, is_unfinished}
use Rattle.ktm_world.specs.Lawful.{stage_in}
use Rattle.ktm_world.specs.Outcome.{apply, committed_now}
use Rattle.ktm_world.specs.Phases.{Course, ended, event_if}
use Rattle.ktm_world.specs.Present.{Present}
use Rattle.ktm_world.specs.Steps.{led, run}
use Rattle.ktm_world.specs.TransactionCalls.{aborted_by, course_of}
use Rattle.txf_laws.specs.Elements.{IsIn}
use Rattle.ktm_courses.specs.SoundCourse.{IsSoundCourse}
use Rattle.ktm_records.proofs.offered.Agreement.{Agreed}
use Rattle.ktm_courses.proofs.offered.EnlistmentAnswers.{can_roll_back}
use Rattle.ktm_courses.proofs.offered.Calls.{rolled_back}
use Rattle.ktm_records.proofs.offered.AgreementOfCourses.{Follows, Was, agreed-arrived, begun, carried-itself, follows-from, none-in, none-unrecorded, placed-at, was, arrival}
use Rattle.ktm_records.proofs.LoggedTransaction.{tracks-undone}
use Rattle.ktm_courses.proofs.offered.HandlesAndTime.{Closes}
use Rattle.std.proofs.lemmas.List.Folds.{list_all-append}
use Rattle.std.proofs.lemmas.Bool.{and_from}
use Rattle.std.specs.Prelude.{⊤}
use Rattle.ktm_world.specs.declared.reply.Reply.TheVariants.{Done}
use Rattle.ktm_steps.proofs.offered.Ways.{if_cases}

-- a course that has rolled back: undone where the log had it, with nothing committed, in a phase that the log knows nothing of
pub record HasUndone (c d : Course) : Type 0 where
  pub events : d.events ≡ c.events ++ event_if c.transaction.is_recorded (Event.Undo c.transaction.id)
  pub works : d.works ≡ c.works
  pub stage : stage_in d.transaction.phase ≡ None

-- it rolls back, before it has ended
abbrev undoing : List Step
undoing = Step.Record Fact.Undo ∷ Step.Decide Aborted ∷ Step.Enter Aborting ∷ Step.Ask Who.Recovered Notify.Rollback Owed.Rollback ∷ Step.Tell Who.OtherSuperior Notify.Rollback ∷ []

pub rollback-undone : (c : Course) → HasUndone c (led PhaseInput.Rollback c)
unfolding led ended
rollback-undone c =
    let d = run undoing c in
    if_cases (λ d. HasUndone c d) (list_any (is_unfinished d.transaction.id) d.enlistments) d (ended d Aborted) (λ some. record { events = refl; works = refl; stage = refl }) (λ none. record { events = refl; works = refl; stage = refl })

-- ---- rollbacks alone are recorded

-- is the event a rollback
abbrev pub is_undo : Event → Bool
is_undo (Event.Undo id) = true
is_undo _ = false

pub undoes-led : (c : Course) → c.events ≡ [] → list_all is_undo (led PhaseInput.Rollback c).events ≡ true
undoes-led c none = ap (list_all is_undo) ((rollback-undone c).events ∙ ap (λ es. es ++ event_if c.transaction.is_recorded (Event.Undo c.transaction.id)) none) ∙ go c.transaction.is_recorded
  where
    go : (b : Bool) → list_all is_undo (event_if b (Event.Undo c.transaction.id)) ≡ true
    go true = refl
    go false = refl

pub undoes-aborted : (x : Present) (t : Transaction) (caller : Option Enlistment) (reply : Reply) → list_all is_undo (aborted_by x t caller reply).events ≡ true
undoes-aborted x t caller reply = ap (list_all is_undo) (arrival x (led PhaseInput.Rollback (course_of x t caller)) reply).events ∙ undoes-led (course_of x t caller) refl

-- rollbacks alone are recorded where handles are closed, and as time passes
pub undoes-closing : Closes (λ x. ⊤) (λ x o. list_all is_undo o.events ≡ true)
undoes-closing = record {
  rolls = record {
    reply = λ x asked. refl;
    rolls = λ x t asked there can. undoes-aborted x t None Done;
    goes_on = λ x a next first second. list_all-append is_undo a.events (next (apply x a)).events ∙ and_from _ _ first (second tt);
  };
  unbinds = λ x process label asked. refl;
  ends = λ x number asked. refl;
}

-- ---- what is so agrees

module _ (x : Present) (sound : IsSoundCourse x) (agreed : Agreed x) (t : Transaction) (there : IsIn t x.transactions.items) (caller : Option Enlistment) where
  abbrev c : Course
  c = course_of x t caller

  -- what the log has of it
  abbrev had : Was x t (placed-at x sound t there)
  had = was x sound t there agreed.agrees

  undo-follows : (d : Course) → HasUndone c d → Follows x t.id had.before had.behind d
  undo-follows d undone = go t.is_recorded refl
    where
      go : (b : Bool) → t.is_recorded ≡ b → Follows x t.id had.before had.behind d
      go true recorded = follows-from x t.id had.before had.behind d None (Event.Undo t.id ∷ []) [] (undone.events ∙ ap (λ b. event_if b (Event.Undo t.id)) recorded) undone.works
          (tracks-undone x t.id had.before had.behind had.o x.recorded (committed_now x) had.tracks) (sym (none-in d undone.stage)) (λ r none. absurd none)
      go false other = follows-from x t.id had.before had.behind d had.o [] [] (undone.events ∙ ap (λ b. event_if b (Event.Undo t.id)) other) undone.works
          had.tracks (had.own ∙ begun x t caller ∙ none-unrecorded c other ∙ sym (none-in d undone.stage)) (carried-itself x sound agreed t there)

  pub agreed-aborted_by : (reply : Reply) → can_roll_back t.phase ≡ true → Agreed (apply x (aborted_by x t caller reply))
  agreed-aborted_by reply can =
      let arrives = rolled_back x sound t there caller can in
      agreed-arrived x sound agreed t there caller (led PhaseInput.Rollback c) arrives.moved reply arrives.stands.outcome (undo-follows (led PhaseInput.Rollback c) (rollback-undone c))
