-- What a rollback records applies.
use Rattle.std.specs.Prelude.{if◌then◌else◌}
use Rattle.std.proofs.Common.{◌≡◌, ◌+◌, ◌<◌, ◌^◌, ◌&&◌, ◌||◌, not, Bool, true, false, [], ◌∷◌, Option, Some, refl, sym, ◌∙◌, ap, subst, inl}
use Rattle.std.proofs.lemmas.Bool.{and_from, lt-ltb, not_from_false, true≢false}
use Rattle.ktm_world.specs.declared.event.Event.{Event}
use Rattle.ktm_world.specs.declared.input.PhaseInput.{PhaseInput}
use Rattle.ktm_world.specs.declared.object.Phase.{Phase}
use Rattle.ktm_world.specs.declared.object.Transaction.{Transaction}
use Rattle.ktm_world.specs.declared.object.TransactionOutcome.{TransactionOutcome}
use Rattle.ktm_world.specs.declared.object.TransactionOutcome.TheVariants.{Undetermined, Committed, Aborted}
use Rattle.ktm_world.specs.declared.recorded.Stage.{Stage}
use Rattle.ktm_world.specs.declared.reply.Reply.{Reply}
use Rattle.ktm_world.specs.Enlistments.{Enlistment}
use Rattle.ktm_world.specs.Durable.{Recorded, events_apply, is_decided, without_recorded}
use Rattle.ktm_world.specs.Lawful.{Agrees, Summary, stage_in, summary_of}
use Rattle.ktm_world.specs.Phases.{Course, event_if}
use Rattle.ktm_world.specs.Present.{Present}
use Rattle.ktm_world.specs.Steps.{led}
use Rattle.ktm_world.specs.TransactionCalls.{aborted_by, course_of}
use Rattle.ktm_world.specs.Transactions.{is_aborted, is_committed, is_undecided, same_id}
use Rattle.txf_laws.specs.Elements.{IsIn}
use Rattle.txf_laws.specs.GoodState.{IsGoodState}
use Rattle.ktm_records.specs.Rollbacks.{RollbacksLaw}
use Rattle.ktm_courses.specs.SoundCourse.{IsSoundCourse, is_outcome_of}
use Rattle.txf_laws.proofs.offered.Elements.{list_all-at, list_any-from}
use Rattle.ktm_records.proofs.offered.AgreementOfCourses.{arrival, course_in, course_now, course_summaries, begun, placed-at, was, was-in}
use Rattle.txf_laws.proofs.offered.Limits.{Less-filter, limits-less}
use Rattle.txf_laws.proofs.offered.Lists.{IsIn-unmap}
use Rattle.ktm_records.proofs.LoggedOrder.{if_there}
use Rattle.txf_laws.proofs.offered.Tables.{same_id-from}
use Rattle.ktm_records.proofs.offered.AgreementOfRollbacks.{rollback-undone}

-- an outcome that is not known is neither
unknown : (t : Transaction) → is_undecided t ≡ true → (is_committed t ≡ false) × (is_aborted t ≡ false)
unknown t undecided = go t.outcome undecided
  where
    go : (outcome : TransactionOutcome) → is_undecided (record t { outcome = outcome }) ≡ true → (is_committed (record t { outcome = outcome }) ≡ false) × (is_aborted (record t { outcome = outcome }) ≡ false)
    go Undetermined is = (refl, refl)
    go Committed is = absurd (true≢false (sym is))
    go Aborted is = absurd (true≢false (sym is))

-- an undecided transaction that the log has waits there
pub record Waits (phase : Phase) : Type 0 where
  pub stage : Stage
  pub stands : stage_in phase ≡ Some stage
  pub waiting : is_decided stage ≡ false

pub waits : (t : Transaction) → is_undecided t ≡ true → (phase : Phase) → is_outcome_of phase t ≡ true → Waits phase
waits t undecided Phase.Committing is = absurd (true≢false (sym is ∙ (unknown t undecided).0))
waits t undecided Phase.Aborting is = absurd (true≢false (sym is ∙ (unknown t undecided).1))
waits t undecided Phase.Ended is = absurd (true≢false (sym is ∙ (λ i. (unknown t undecided).0 i || (unknown t undecided).1 i)))
waits t undecided Phase.Held is = record { stage = Stage.Held; stands = refl; waiting = refl }
waits t undecided Phase.InDoubt is = record { stage = Stage.Held; stands = refl; waiting = refl }
waits t undecided _ is = record { stage = Stage.Ready; stands = refl; waiting = refl }

module _ (x : Present) (t : Transaction) (caller : Option Enlistment) (sound : IsSoundCourse x) (good : IsGoodState x.recorded) (agrees : Agrees x) (there : IsIn t x.transactions.items) (undecided : is_undecided t ≡ true)
    (few : x.recorded.events + 1 < 2 ^ 63) where
  abbrev c : Course
  c = course_of x t caller

  at : Waits t.phase
  at = waits t undecided t.phase (list_all-at (λ t. is_outcome_of t.phase t) x.transactions.items sound.transactions.outcomes t there)

  one : (stage : Stage) → is_decided stage ≡ false → course_in c (Some stage) ≡ course_now c stage ∷ []
  one Stage.Ready is = refl
  one Stage.Held is = refl
  one Stage.Decided is = absurd (true≢false is)

  -- what was recorded of it
  has : t.is_recorded ≡ true → (r : Recorded) × (summary_of r ≡ course_now c at.stage) × IsIn r x.recorded.transactions
  has recorded =
      let mine : course_summaries c ≡ course_now c at.stage ∷ [] = (λ i. if recorded i then course_in c (stage_in t.phase) else []) ∙ ap (course_in c) at.stands ∙ one at.stage at.waiting in
      let had = was x sound t there agrees in
      let r = IsIn-unmap summary_of (course_now c at.stage) (if_there had.o) (subst (IsIn (course_now c at.stage)) (sym (had.own ∙ begun x t caller ∙ mine)) (inl refl)) in
      (r.0, r.1, was-in x t (placed-at x sound t there) had r.0 r.2)

  applies : (b : Bool) → t.is_recorded ≡ b → events_apply x.recorded (event_if b (Event.Undo t.id)) ≡ true
  applies false is = refl
  applies true is =
      let r = has is in
      let same : (r.0).id ≡ t.id = ap (λ (s : Summary). s.id) r.1 in
      let waits' : is_decided (r.0).stage ≡ false = ap (λ (s : Summary). is_decided s.stage) r.1 ∙ at.waiting in
      and_from _ _ (and_from _ _ (and_from _ _
      (list_any-from (λ (r : Recorded). same_id r.id t.id && not (is_decided r.stage)) x.recorded.transactions r.0 r.2 (and_from _ _ (same_id-from (r.0).id t.id same) (not_from_false _ waits')))
      (limits-less x.recorded (without_recorded x.recorded.transactions t.id) (Less-filter (λ r. not (same_id r.id t.id)) x.recorded.transactions) good.limits))
      (lt-ltb _ _ few)) refl

  undo-applies : (reply : Reply) → events_apply x.recorded (aborted_by x t caller reply).events ≡ true
  undo-applies reply = ap (events_apply x.recorded) ((arrival x (led PhaseInput.Rollback c) reply).events ∙ (rollback-undone c).events) ∙ applies t.is_recorded refl

pub rollbacks_law : RollbacksLaw
rollbacks_law x t caller reply sound good agrees there undecided few = undo-applies x t caller sound good agrees there undecided few reply
