-- What was recorded agrees with what is so now after steps of a transaction that record nothing.
use Rattle.std.specs.Prelude.{if◌then◌else◌}
use Rattle.std.proofs.Common.{◌≡◌, ◌&&◌, not, Bool, true, false, List, [], ◌∷◌, map, filter, Option, Some, None, refl, sym, ◌∙◌, ap, inl, inr}
use Rattle.std.proofs.lemmas.Bool.{cases_Bool, true≢false}
use Rattle.std.specs.List.{list_any}
use Rattle.ktm_base.specs.declared.id.Id.{Id}
use Rattle.ktm_world.specs.declared.input.PhaseInput.{PhaseInput}
use Rattle.ktm_world.specs.declared.object.Phase.TheVariants.{Aborting}
use Rattle.ktm_world.specs.declared.object.Transaction.{Transaction}
use Rattle.ktm_world.specs.declared.object.TransactionOutcome.TheVariants.{Aborted}
use Rattle.ktm_world.specs.declared.recorded.Stage.{Stage}
use Rattle.ktm_world.specs.declared.reply.Reply.{Reply}
use Rattle.ktm_world.specs.Enlistments.{Enlistment, Sent, has_id, is_durable_at, is_superior, is_unfinished, superior_of, takes_part, with_enlistments}
use Rattle.ktm_world.specs.Lawful.{brought_back, is_held_stage, stage_in, stays, superior_now}
use Rattle.ktm_world.specs.Outcome.{apply}
use Rattle.ktm_world.specs.Phases.{Course, ended, owing, unchanged, changing_one}
use Rattle.ktm_world.specs.Present.{Present}
use Rattle.ktm_world.specs.TransactionCalls.{arrived, course_of, recovery_of}
use Rattle.ktm_world.specs.Transactions.{same_id}
use Rattle.ktm_world.specs.World.{by_rising_id}
use Rattle.ktm_world.specs.Durable.{is_ready}
use Rattle.ktm_world.specs.Steps.{led, answered, carried, changing, is_meant, run, seen}
use Rattle.txf_laws.specs.Elements.{IsIn}
use Rattle.ktm_courses.specs.SoundCourse.{IsSoundCourse}
use Rattle.ktm_records.proofs.offered.Agreement.{Agreed, filter-alike}
use Rattle.ktm_records.proofs.offered.AgreementOfCourses.{agreed-arrived, begun, carried-itself, course_enlistments, course_in, course_summaries, follows-from, none-in, none-unrecorded, was}
use Rattle.ktm_courses.proofs.offered.Endings.{Arrives}
use Rattle.ktm_steps.specs.Laws.{by}
use Rattle.ktm_steps.proofs.offered.Lists.{Pass, row-passes, row_lists}
use Rattle.ktm_world.specs.Rows.{row}
use Rattle.ktm_world.specs.declared.step.Answered.{Answered}
use Rattle.ktm_world.specs.declared.step.Step.{Step}
use Rattle.ktm_steps.proofs.offered.Ways.{if_cases}

-- a step records and commits nothing, and the log has to have of the transaction what it had to have
pub record IsSilent (c d : Course) : Type 0 where
  pub events : d.events ≡ c.events
  pub works : d.works ≡ c.works
  pub summaries : course_summaries d ≡ course_summaries c

pub agreed-silent : (x : Present) (t : Transaction) (caller : Option Enlistment) (d : Course) (reply : Reply) (sound : IsSoundCourse x) (agreed : Agreed x) (there : IsIn t x.transactions.items) → Arrives x.recorded.boots (course_of x t caller) d
    → IsSilent (course_of x t caller) d → Agreed (apply x (arrived x d reply))
agreed-silent x t caller d reply sound agreed there arrives silent =
    let had = was x sound t there agreed.agrees in
    agreed-arrived x sound agreed t there caller d arrives.moved reply arrives.stands.outcome
    (follows-from x t.id had.before had.behind d had.o [] [] silent.events silent.works had.tracks (had.own ∙ begun x t caller ∙ sym silent.summaries) (carried-itself x sound agreed t there))

-- ---- enlistments that are as they would be brought back

-- a step leaves an enlistment as it would be brought back, and whether it is
pub record IsBackAlike (e f : Enlistment) : Type 0 where
  pub back : brought_back f ≡ brought_back e
  pub kind : is_superior f ≡ is_superior e
  pub read_only : f.is_read_only ≡ e.is_read_only
  pub prepared : f.is_prepared ≡ e.is_prepared
  pub finished : f.is_finished ≡ e.is_finished

alike-same : (e : Enlistment) → IsBackAlike e e
alike-same e = record { back = refl; kind = refl; read_only = refl; prepared = refl; finished = refl }

pub alike-stepped : (test : Enlistment → Bool) (f : Enlistment → Enlistment) → ((e : Enlistment) → IsBackAlike e (f e)) → (e : Enlistment) → IsBackAlike e (if test e then f e else e)
alike-stepped test f alike e = if_cases (λ g. IsBackAlike e g) (test e) (f e) e (λ is. alike e) (λ other. alike-same e)

-- the enlistments of a course that the log has to have
abbrev pub is_kept : Course → Enlistment → Bool
is_kept c e = takes_part c.transaction.id e && is_durable_at c.managers e.manager && e.is_prepared && not e.is_finished

-- where none is there is none to be brought back
pub none-kept : (c : Course) → ((e : Enlistment) → IsIn e c.enlistments → is_kept c e ≡ false) → course_enlistments c ≡ []
none-kept c none = ap (λ es. by_rising_id (map brought_back es)) (filter-alike (is_kept c) (λ e. false) c.enlistments none ∙ filter-false c.enlistments)
  where
    filter-false : (es : List Enlistment) → filter (λ (e : Enlistment). false) es ≡ []
    filter-false [] = refl
    filter-false (e ∷ es) = filter-false es

kept-alike : (c : Course) (step : Enlistment → Enlistment) → ((e : Enlistment) → IsBackAlike e (step e)) → (es : List Enlistment) → map brought_back (filter (is_kept c) (map step es)) ≡ map brought_back (filter (is_kept c) es)
kept-alike c step alike [] = refl
kept-alike c step alike (e ∷ es) =
    let same : is_kept c (step e) ≡ is_kept c e =
    λ i. same_id ((alike e).back i).transaction c.transaction.id && not ((alike e).kind i) && not ((alike e).read_only i) && is_durable_at c.managers ((alike e).back i).manager && (alike e).prepared i && not ((alike e).finished i) in
    elim (cases_Bool (is_kept c e)) [
      | inl is ↦ rw (same ∙ is, is) (λ i. (alike e).back i ∷ kept-alike c step alike es i)
      | inr other ↦ rw (same ∙ other, other) (kept-alike c step alike es)
    ]

superior-alike : (id : Id) (step : Enlistment → Enlistment) → ((e : Enlistment) → IsBackAlike e (step e)) → (es : List Enlistment) → superior_now (superior_of (map step es) id) ≡ superior_now (superior_of es id)
superior-alike id step alike [] = refl
superior-alike id step alike (e ∷ es) =
    let same : (same_id (step e).transaction id && is_superior (step e)) ≡ (same_id e.transaction id && is_superior e) = λ i. same_id ((alike e).back i).transaction id && (alike e).kind i in
    elim (cases_Bool (same_id e.transaction id && is_superior e)) [
      | inl is ↦ rw (same ∙ is, is) (λ i. superior_now (Some ((alike e).back i)))
      | inr other ↦ rw (same ∙ other, other) (superior-alike id step alike es)
    ]

-- so the log has to have the same enlistments
pub enlistments-alike : (c : Course) (test : Enlistment → Bool) (f : Enlistment → Enlistment) → ((e : Enlistment) → IsBackAlike e (f e)) → course_enlistments (record c { enlistments = with_enlistments test f c.enlistments }) ≡ course_enlistments c
enlistments-alike c test f alike = ap by_rising_id (kept-alike c (λ e. if test e then f e else e) (alike-stepped test f alike) c.enlistments)

-- the log has to have the same of a transaction, where a step leaves its enlistments as they would be brought back
pub in-alike : (c : Course) (step : Enlistment → Enlistment) (sent : List Sent) → ((e : Enlistment) → IsBackAlike e (step e)) → (stage : Option Stage) → course_in (record c { enlistments = map step c.enlistments; sent = sent }) stage ≡ course_in c stage
in-alike c step sent alike None = refl
in-alike c step sent alike (Some stage) = ap (λ s. filter stays (s ∷ [])) (λ i. record {
  id = c.transaction.id;
  stage = stage;
  superior = if is_ready stage then None else superior-alike c.transaction.id step alike c.enlistments i;
  enlistments = by_rising_id (kept-alike c step alike c.enlistments i);
  changes = if is_held_stage stage then c.changes else [];
  settings = if is_held_stage stage then c.settings else [];
})

summaries-alike : (c : Course) (step : Enlistment → Enlistment) (sent : List Sent) → ((e : Enlistment) → IsBackAlike e (step e)) → course_summaries (record c { enlistments = map step c.enlistments; sent = sent }) ≡ course_summaries c
summaries-alike c step sent alike = elim (cases_Bool c.transaction.is_recorded) [ inl recorded ↦ rw recorded (in-alike c step sent alike (stage_in c.transaction.phase)) | inr other ↦ rw other refl ]

-- ---- steps

silent-then : {c d e : Course} → IsSilent c d → IsSilent d e → IsSilent c e
silent-then first second = record { events = second.events ∙ first.events; works = second.works ∙ first.works; summaries = second.summaries ∙ first.summaries }

-- some enlistments are changed so, and something is sent
silent-changing : (c : Course) (test : Enlistment → Bool) (f : Enlistment → Enlistment) (sent : List Sent) → ((e : Enlistment) → IsBackAlike e (f e)) → IsSilent c (record c { enlistments = with_enlistments test f c.enlistments; sent = sent })
silent-changing c test f sent alike = record {
  events = refl;
  works = refl;
  summaries = summaries-alike c (λ e. if test e then f e else e) sent (alike-stepped test f alike);
}

-- where the log does not have it, and goes on not to have it
silent-unrecorded : (c d : Course) → d.events ≡ c.events → d.works ≡ c.works → c.transaction.is_recorded ≡ false → d.transaction.is_recorded ≡ c.transaction.is_recorded → IsSilent c d
silent-unrecorded c d events works other same = record { events = events; works = works; summaries = none-unrecorded d (same ∙ other) ∙ sym (none-unrecorded c other) }

-- where its phase is one of which the log has nothing
silent-nothing : (c d : Course) → d.events ≡ c.events → d.works ≡ c.works → stage_in c.transaction.phase ≡ None → stage_in d.transaction.phase ≡ None → IsSilent c d
silent-nothing c d events works before after = record { events = events; works = works; summaries = none-in d after ∙ sym (none-in c before) }

pub silent-rollback_complete : (c : Course) (e : Enlistment) → c.transaction.phase ≡ Aborting → IsSilent (by c e) (led PhaseInput.RollbackComplete (by c e))
unfolding led ended
silent-rollback_complete c e phase =
    let d = changing_one (by c e) e.id (answered Answered.Finished) in
    if_cases (λ x. IsSilent (by c e) x) (list_any (is_unfinished d.transaction.id) d.enlistments) d (ended d Aborted)
    (λ some. silent-nothing (by c e) d refl refl (ap stage_in phase) (ap stage_in phase)) (λ none. silent-nothing (by c e) (ended d Aborted) refl refl (ap stage_in phase) refl)

pub silent-single_phase_reject : (c : Course) → c.transaction.is_recorded ≡ false → IsSilent c (led PhaseInput.SinglePhaseReject c)
unfolding led
silent-single_phase_reject c other = silent-unrecorded c _ refl refl other refl

-- ---- rows by which enlistments recover, or are told something

-- is nothing else done
abbrev tells_only : List Step → Bool
tells_only [] = true
tells_only (Step.Tell who kind ∷ steps) = tells_only steps
tells_only (Step.Ask who kind owed ∷ steps) = tells_only steps
tells_only (Step.Change Answered.Recovered ∷ steps) = tells_only steps
tells_only _ = false

silent-recovering : (c : Course) (o : Option Enlistment) → IsSilent c (changing c o (answered Answered.Recovered))
silent-recovering c None = record { events = refl; works = refl; summaries = refl }
silent-recovering c (Some e) = silent-changing c (has_id e.id) (answered Answered.Recovered) c.sent (λ f. record { back = refl; kind = refl; read_only = refl; prepared = refl; finished = refl })

silent-run : (steps : List Step) (c : Course) → tells_only steps ≡ true → IsSilent c (run steps c)
silent-run [] c only = record { events = refl; works = refl; summaries = refl }
silent-run (Step.Tell who kind ∷ steps) c only = silent-then (silent-changing c (is_meant who c) unchanged (carried (Step.Tell who kind) c).sent alike-same) (silent-run steps (carried (Step.Tell who kind) c) only)
silent-run (Step.Ask who kind owed ∷ steps) c only =
    silent-then (silent-changing c (is_meant who c) (owing owed) (carried (Step.Ask who kind owed) c).sent (λ f. record { back = refl; kind = refl; read_only = refl; prepared = refl; finished = refl })) (silent-run steps (carried (Step.Ask who kind owed) c) only)
silent-run (Step.Change Answered.Recovered ∷ steps) c only = silent-then (silent-recovering c c.caller) (silent-run steps (carried (Step.Change Answered.Recovered) c) only)
silent-run (_ ∷ steps) c only = absurd (true≢false (sym only))

pub silent-recovered : (c : Course) (e : Enlistment) → IsSilent c (led (recovery_of e) c)
unfolding led
silent-recovered c e = silent-run (row (seen c) (recovery_of e)) c (row-passes tells_only (seen c) (recovery_of e)
    (if_cases (λ input. Pass tells_only (row_lists input)) (is_superior e) PhaseInput.RecoverSuperior PhaseInput.Recover (λ above. (refl, tt)) (λ below. (refl, (refl, (refl, (refl, tt)))))))
