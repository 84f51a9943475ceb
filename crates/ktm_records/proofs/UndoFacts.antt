-- What rollbacks record applies, but for the limits: one, those at the end of a process, and those as time passes.
use Rattle.std.proofs.Common.{◌≡◌, ℕ, ◌&&◌, not, true, false, Option, None, refl, sym, ◌∙◌, ap, subst, inl}
use Rattle.std.proofs.lemmas.Bool.{and_from, not_from_false, true≢false}
use Rattle.ktm_base.specs.declared.id.Label.{Label}
use Rattle.ktm_base.specs.declared.id.Pid.{Pid}
use Rattle.ktm_world.specs.declared.event.Event.{Event}
use Rattle.ktm_world.specs.declared.input.PhaseInput.{PhaseInput}
use Rattle.ktm_world.specs.declared.object.Transaction.{Transaction}
use Rattle.ktm_world.specs.declared.recorded.Stage.{Stage}
use Rattle.ktm_world.specs.declared.reply.Reply.{Reply}
use Rattle.ktm_world.specs.declared.reply.Reply.TheVariants.{Done}
use Rattle.ktm_world.specs.Enlistments.{Enlistment}
use Rattle.ktm_world.specs.Durable.{Recorded, is_decided}
use Rattle.ktm_world.specs.HandleCalls.{close_handle, exit}
use Rattle.ktm_world.specs.Lawful.{Agrees, Summary, stays, summary_now}
use Rattle.ktm_world.specs.Outcome.{Outcome, apply}
use Rattle.ktm_world.specs.Present.{Present}
use Rattle.ktm_world.specs.Steps.{led}
use Rattle.ktm_world.specs.TransactionCalls.{aborted_by, course_of, tick, with_clock}
use Rattle.ktm_world.specs.Transactions.{is_undecided, same_id}
use Rattle.txf_laws.specs.Elements.{IsIn}
use Rattle.ktm_records.specs.Kept.{facts_apply}
use Rattle.ktm_courses.specs.SoundCourse.{IsSoundCourse, is_outcome_of}
use Rattle.ktm_records.proofs.offered.Agreement.{Agreed}
use Rattle.ktm_records.proofs.AgreementOfCalls.{agreed-alike, IsAgreed, StaysAgreed, agreed-closing}
use Rattle.ktm_courses.proofs.offered.EnlistmentAnswers.{can_roll_back, undecided-rolls}
use Rattle.ktm_courses.proofs.offered.Beginnings.{sound-clock}
use Rattle.txf_laws.proofs.offered.Elements.{list_all-at, list_any-from}
use Rattle.ktm_records.proofs.Facts.{facts-append, facts-if}
use Rattle.ktm_records.proofs.offered.AgreementOfCourses.{arrival}
use Rattle.ktm_records.proofs.RecordedEnlistments.{recalled-of, summaries-at}
use Rattle.ktm_records.proofs.Rollbacks.{Waits, waits}
use Rattle.txf_laws.proofs.offered.Tables.{same_id-from}
use Rattle.ktm_records.proofs.offered.AgreementOfRollbacks.{rollback-undone}
use Rattle.ktm_courses.proofs.offered.HandlesAndTime.{Closes, close_handle-so, exit-so, tick-so}

-- what an outcome records applies
abbrev pub FactsOf : Present → Outcome → Type 0
FactsOf x o = facts_apply x.recorded o.events ≡ true

-- ---- one rollback

module _ (x : Present) (sound : IsSoundCourse x) (agrees : Agrees x) (t : Transaction) (there : IsIn t x.transactions.items) where
  -- an undecided transaction that the log has may be undone
  undo-fact : is_undecided t ≡ true → (caller : Option Enlistment) (reply : Reply) → FactsOf x (aborted_by x t caller reply)
  undo-fact undecided caller reply =
      ap (facts_apply x.recorded) ((arrival x (led PhaseInput.Rollback (course_of x t caller)) reply).events ∙ (rollback-undone (course_of x t caller)).events)
      ∙ facts-if x.recorded t.is_recorded (Event.Undo t.id) (λ recorded.
      let r = recalled-of x sound agrees t there (summary_now x t at.stage) (subst (IsIn (summary_now x t at.stage)) (sym (summaries-at x t at.stage recorded at.stands (stays-in at.stage at.waiting))) (inl refl)) in
      list_any-from (λ (u : Recorded). same_id u.id t.id && not (is_decided u.stage)) x.recorded.transactions r.0 r.2
      (and_from _ _ (same_id-from r.0.id t.id (ap (λ (s : Summary). s.id) r.1)) (not_from_false _ (ap (λ (s : Summary). is_decided s.stage) r.1 ∙ at.waiting))))
    where
      at : Waits t.phase
      at = waits t undecided t.phase (list_all-at (λ t. is_outcome_of t.phase t) x.transactions.items sound.transactions.outcomes t there)

      stays-in : (stage : Stage) → is_decided stage ≡ false → stays (summary_now x t stage) ≡ true
      stays-in Stage.Ready is = refl
      stays-in Stage.Held is = refl
      stays-in Stage.Decided is = absurd (true≢false is)

  pub facts-aborted_by : can_roll_back t.phase ≡ true → (caller : Option Enlistment) (reply : Reply) → FactsOf x (aborted_by x t caller reply)
  facts-aborted_by can = undo-fact (undecided-rolls t can (list_all-at (λ t. is_outcome_of t.phase t) x.transactions.items sound.transactions.outcomes t there))

-- ---- handles and time

facts-closing : Closes IsAgreed (λ x o. StaysAgreed x o × FactsOf x o)
facts-closing = record {
  rolls = record {
    reply = λ x is. (agreed-closing.rolls.reply x is, refl);
    rolls = λ x t is there can. (agreed-closing.rolls.rolls x t is there can, facts-aborted_by x is.0 is.1.agrees t there can None Done);
    goes_on = λ x a next first second. let rest = second (first.0.0.sound, first.0.1) in (agreed-closing.rolls.goes_on x a next first.0 (λ is. rest.0), facts-append a.events (next (apply x a)).events x.recorded first.1 rest.1);
  };
  unbinds = λ x process label is. (agreed-closing.unbinds x process label is, refl);
  ends = λ x number is. (agreed-closing.ends x number is, refl);
}

pub facts-closed : (x : Present) (process : Pid) (label : Label) → IsSoundCourse x → Agreed x → FactsOf x (close_handle x process label)
facts-closed x process label sound agreed = (close_handle-so _ _ facts-closing x process label (sound, agreed)).1

pub facts-exit : (x : Present) (process : Pid) → IsSoundCourse x → Agreed x → FactsOf x (exit x process)
facts-exit x process sound agreed = (exit-so _ _ facts-closing x process (sound, agreed)).1

pub facts-tick : (x : Present) (ms : ℕ) → IsSoundCourse x → Agreed x → FactsOf x (tick x ms)
facts-tick x ms sound agreed = (tick-so _ _ facts-closing.rolls x ms (sound-clock x ms sound, agreed-alike x (with_clock x ms) refl agreed)).1
