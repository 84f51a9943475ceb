-- The calls on transactions and enlistments record no more than the debts fall by.
use Rattle.std.proofs.Common.{◌≡◌, ◌+◌, ◌≤◌, ◌&&◌, not, Bool, true, false, List, [], ◌∷◌, Option, Some, None, is_none, refl, sym, ◌∙◌, ap, subst, arith, inl, inr}
use Rattle.std.proofs.lemmas.Bool.{and_parts, not-true, true≢false}
use Rattle.std.proofs.lemmas.Option.{none-some, same_Some}
use Rattle.ktm_world.specs.declared.input.PhaseInput.{PhaseInput}
use Rattle.ktm_world.specs.declared.object.Phase.{Phase}
use Rattle.ktm_world.specs.declared.object.Phase.TheVariants.{Active, Requested, PrePrepared, Preparing, SinglePhase, Committing}
use Rattle.ktm_world.specs.declared.object.Transaction.{Transaction}
use Rattle.ktm_world.specs.declared.reply.Reply.TheVariants.{Done}
use Rattle.ktm_world.specs.declared.step.Answered.{Answered}
use Rattle.ktm_world.specs.declared.step.Owed.{Owed}
use Rattle.ktm_world.specs.declared.step.Step.{Step}
use Rattle.ktm_world.specs.Enlistments.{Enlistment, allows_one_phase, is_superior, owes_commit, owes_pre_prepare, owes_prepare, takes_part}
use Rattle.ktm_world.specs.Labels.{transaction_tests}
use Rattle.ktm_world.specs.Phases.{Course, is_single_phase}
use Rattle.ktm_world.specs.Present.{Present}
use Rattle.ktm_world.specs.Rows.{row}
use Rattle.ktm_world.specs.Steps.{answered, led, seen, share_of}
use Rattle.ktm_world.specs.TransactionCalls.{answering, before_pre_prepare, before_prepare, commit_of, commit_reply, course_of, enlistment_tests, is_voting, may_reject_one_phase, may_roll_back_by, may_vote, phase_passes, recovery_of, rollback_of, rollback_transaction_tests, superior_tests, transaction_in, waits_for_superior}
use Rattle.ktm_world.specs.Transactions.{same_id}
use Rattle.txf_laws.specs.Elements.{IsIn}
use Rattle.txf_laws.proofs.offered.Elements.{not-not}
use Rattle.ktm_steps.proofs.offered.Fading.{fades-run}
use Rattle.ktm_steps.proofs.offered.Ways.{if_cases}
use Rattle.ktm_courses.specs.SoundCourse.{IsSoundCourse, is_part_as, owes_until_finished}
use Rattle.ktm_courses.proofs.offered.Arrivals.{brought-now, stands-now}
use Rattle.ktm_courses.proofs.offered.Calls.{Passes, active-phase, enlistment-allowed, may-roll, of-answering, passed, phase-passed, rolls, single-phase, superior-allowed}
use Rattle.ktm_courses.proofs.offered.Endings.{part-parts, waiting-parts}
use Rattle.ktm_courses.proofs.offered.EnlistmentAnswers.{answer_in, can_roll_back, is-committing, is-pre_preparing, is-preparing, owed-commit, owed-pre_prepare, owed-prepare, phase-owing, preparing-parts, takes_part-owing, until-owed}
use Rattle.ktm_debts.specs.Debts.{enlistment_debt, enlistments_debt}
use Rattle.ktm_debts.proofs.CourseDebts.{Pays, course-paid}
use Rattle.ktm_debts.proofs.EnlistmentDebts.{all-fall, answer-falls, by_parts}
use Rattle.ktm_debts.proofs.RowDebts.{given_by, may_come}
use Rattle.ktm_debts.proofs.UnchangedDebts.{pays-reply}

-- ---- what comes to a transaction

-- this may come to it, and its enlistments owe so much less then
record Comes (x : Present) (t : Transaction) (caller : Option Enlistment) (input : PhaseInput) : Type 0 where
  phase : may_come input t.phase ≡ true
  falls : given_by input + enlistments_debt (led input (course_of x t caller)).enlistments t.id ≤ enlistments_debt x.transactions.enlistments t.id

-- where no enlistment has to owe less
comes-as : (x : Present) (t : Transaction) (caller : Option Enlistment) (input : PhaseInput) → may_come input t.phase ≡ true → given_by input ≡ 0 → Comes x t caller input
unfolding led
comes-as x t caller input may none = record {
  phase = may;
  falls =
      let c = course_of x t caller in
      let fades = fades-run (row (seen c) input) c in
      let less = all-fall x.transactions.enlistments (led input c).enlistments fades.change fades.is fades.each t.id in
      omega arith;
}

rolling : (x : Present) (t : Transaction) (caller : Option Enlistment) → can_roll_back t.phase ≡ true → Comes x t caller PhaseInput.Rollback
rolling x t caller can = comes-as x t caller PhaseInput.Rollback can refl

-- ---- transactions

pub pays-commit : (x : Present) (o : Option Transaction) → IsSoundCourse x → ((t : Transaction) → o ≡ Some t → IsIn t x.transactions.items) → Passes (transaction_tests o) → Pays x (commit_of x o)
pays-commit x None sound there tests = pays-reply x Done
pays-commit x (Some t) sound there tests =
    let here = passed tests in let committed = passed here.1 in let aborted = passed committed.1 in let active = passed aborted.1 in
    let comes = comes-as x t None PhaseInput.CommitTransaction (ap is_voting (active-phase t (not-not _ active.0))) refl in
    course-paid x t None PhaseInput.CommitTransaction (commit_reply (led PhaseInput.CommitTransaction (course_of x t None))) sound (there t refl) comes.phase (λ e none. absurd (none-some e none)) comes.falls

pub pays-aborted : (x : Present) (t : Transaction) → IsSoundCourse x → IsIn t x.transactions.items → can_roll_back t.phase ≡ true → Pays x (rollback_of x (Some t))
pays-aborted x t sound there can = let comes = rolling x t None can in course-paid x t None PhaseInput.Rollback Done sound there comes.phase (λ e none. absurd (none-some e none)) comes.falls

pub pays-rollback : (x : Present) (o : Option Transaction) → IsSoundCourse x → ((t : Transaction) → o ≡ Some t → IsIn t x.transactions.items) → Passes (rollback_transaction_tests o) → Pays x (rollback_of x o)
pays-rollback x None sound there tests = pays-reply x Done
pays-rollback x (Some t) sound there tests =
    let here = passed tests in let committed = passed here.1 in let aborted = passed committed.1 in let may = passed aborted.1 in
    pays-aborted x t sound (there t refl) (may-roll t (not-not _ may.0))

-- ---- one that takes part

-- by what counts of it
parts-debt : (e : Enlistment) (finished prepared : Bool) → is_superior e ≡ false → e.is_read_only ≡ false → e.is_finished ≡ finished → e.is_prepared ≡ prepared → enlistment_debt e ≡ by_parts false false finished prepared
parts-debt e finished prepared below takes ends ready = λ i. by_parts (below i) (takes i) (ends i) (ready i)

-- it has voted, and owes only that it finishes
votes-less : (e : Enlistment) → is_superior e ≡ false → e.is_read_only ≡ false → e.is_finished ≡ false → e.is_prepared ≡ false → 224 + enlistment_debt (answered Answered.Prepared e) ≤ enlistment_debt e
votes-less e below takes ends ready =
    let before = parts-debt e false false below takes ends ready in
    let after = parts-debt (answered Answered.Prepared e) false true below takes ends refl in
    omega arith

-- it has finished, and owes nothing
finishes-less : (e : Enlistment) → is_superior e ≡ false → e.is_read_only ≡ false → e.is_finished ≡ false → 32 + enlistment_debt (answered Answered.Finished e) ≤ enlistment_debt e
finishes-less e below takes ends = go e.is_prepared refl
  where
    go : (prepared : Bool) → e.is_prepared ≡ prepared → 32 + enlistment_debt (answered Answered.Finished e) ≤ enlistment_debt e
    go true ready =
        let before = parts-debt e false true below takes ends ready in
        let after = parts-debt (answered Answered.Finished e) true true below takes refl ready in
        omega arith
    go false ready =
        let before = parts-debt e false false below takes ends ready in
        let after = parts-debt (answered Answered.Finished e) true false below takes refl ready in
        omega arith

-- while one commits in one phase it has not finished
single-parts : (e : Enlistment) → is_part_as SinglePhase e ≡ true → e.is_finished ≡ false
single-parts e part =
    let three = and_parts (owes_commit e && not e.is_prepared && not e.is_finished) (allows_one_phase e) part in
    not-true _ (and_parts (owes_commit e && not e.is_prepared) (not e.is_finished) three.0).1

-- ---- enlistments

-- the phases in which a superior asks are those in which enlistments vote
prepares-voting : (phase : Phase) → before_prepare phase ≡ true → is_voting phase ≡ true
prepares-voting Active is = refl
prepares-voting Requested is = refl
prepares-voting PrePrepared is = refl
prepares-voting _ is = absurd (true≢false (sym is))

pre_prepares-voting : (phase : Phase) → before_pre_prepare phase ≡ true → is_voting phase ≡ true
pre_prepares-voting Active is = refl
pre_prepares-voting Requested is = refl
pre_prepares-voting _ is = absurd (true≢false (sym is))

-- the steps behind the first one
abbrev behind : List Step → List Step
behind [] = []
behind (step ∷ steps) = steps

-- this may come from an enlistment to its transaction
abbrev Answers : Present → PhaseInput → Enlistment → Type 0
Answers x input e = (t : Transaction) → IsIn t x.transactions.items → same_id e.transaction t.id ≡ true → transaction_in x e ≡ Some t → Comes x t (Some e) input

module _ (x : Present) (sound : IsSoundCourse x) (e : Enlistment) (there : IsIn e x.transactions.enlistments) (t : Transaction) (at : IsIn t x.transactions.items) (own : same_id e.transaction t.id ≡ true) where
  abbrev c : Course
  c = course_of x t (Some e)

  module _ (owed : Owed) (owes : e.owes ≡ Some owed) where
    asked : answer_in t.phase ≡ Some owed
    asked = phase-owing x.recorded.boots c e (stands-now x t (Some e) sound at) (brought-now x t (Some e) sound) sound.enlistments.rise there own owed owes

    takes : takes_part t.id e ≡ true
    takes = takes_part-owing x.recorded.boots c e (stands-now x t (Some e) sound at) (brought-now x t (Some e) sound) sound.enlistments.rise there own owed owes

    -- it is as the phase asks
    stands : (phase : Phase) → t.phase ≡ phase → is_part_as phase e ≡ true
    stands phase is = subst (λ p. is_part_as p e ≡ true) is ((stands-now x t (Some e) sound at).stand.parts e there takes)

  comes-pre_prepared : owes_pre_prepare e ≡ true → Comes x t (Some e) PhaseInput.PrePrepareComplete
  comes-pre_prepared owes = comes-as x t (Some e) PhaseInput.PrePrepareComplete (ap is_voting (is-pre_preparing t.phase (asked Owed.PrePrepare (owed-pre_prepare e owes)))) refl

  comes-prepared : owes_prepare e ≡ true → Comes x t (Some e) PhaseInput.PrepareComplete
  unfolding led
  comes-prepared owes =
      let owed = owed-prepare e owes in
      let phase = is-preparing t.phase (asked Owed.Prepare owed) in
      let part = part-parts t.id e (takes Owed.Prepare owed) in
      record {
        phase = ap is_voting phase;
        falls = elim (preparing-parts e (stands Owed.Prepare owed Preparing phase)) [
          | inl waits ↦ absurd (true≢false (sym (waiting-parts e waits).0 ∙ ap is_none owed))
          | inr votes ↦ answer-falls c e (answered Answered.Prepared) 224 sound.enlistments.rise there own refl (votes-less e part.1 part.2 votes.2 votes.0) (behind (row (seen c) PhaseInput.PrepareComplete))
        ];
      }

  comes-committed : owes_commit e ≡ true → Comes x t (Some e) PhaseInput.CommitComplete
  unfolding led
  comes-committed owes =
      let owed = owed-commit e owes in
      let part = part-parts t.id e (takes Owed.Commit owed) in
      let falls = λ (ends : e.is_finished ≡ false). answer-falls c e (answered Answered.Finished) 32 sound.enlistments.rise there own refl (finishes-less e part.1 part.2 ends) (behind (row (seen c) PhaseInput.CommitComplete)) in
      elim (is-committing t.phase (asked Owed.Commit owed)) [
        | inl phase ↦ record {
          phase = ap (may_come PhaseInput.CommitComplete) phase;
          falls = falls (until-owed owes_commit e Owed.Commit owed (and_parts e.is_prepared (owes_until_finished owes_commit e) (stands Owed.Commit owed Committing phase)).1).2;
        }
        | inr phase ↦ record { phase = ap (may_come PhaseInput.CommitComplete) phase; falls = falls (single-parts e (stands Owed.Commit owed SinglePhase phase)) }
      ]

module _ (x : Present) (sound : IsSoundCourse x) (o : Option Enlistment) (there : (e : Enlistment) → o ≡ Some e → IsIn e x.transactions.enlistments) where
  pays-answering : (input : Enlistment → PhaseInput) → ((e : Enlistment) → o ≡ Some e → Answers x (input e) e) → Pays x (answering x o input)
  pays-answering input answers = of-answering (Pays x) x o input (pays-reply x Done) (λ e is t at own found.
      let comes = answers e is t at own found in
      course-paid x t (Some e) (input e) Done sound at comes.phase (λ f same. subst (λ g. IsIn g x.transactions.enlistments) (same_Some e f same) (there e is)) comes.falls)

  pub pays-pre_prepare_complete : Passes (enlistment_tests o owes_pre_prepare) → Pays x (answering x o (λ e. PhaseInput.PrePrepareComplete))
  pays-pre_prepare_complete tests = pays-answering (λ e. PhaseInput.PrePrepareComplete) (λ e is t at own found. comes-pre_prepared x sound e (there e is) t at own (enlistment-allowed o owes_pre_prepare e is tests))

  pub pays-prepare_complete : Passes (enlistment_tests o owes_prepare) → Pays x (answering x o (λ e. PhaseInput.PrepareComplete))
  pays-prepare_complete tests = pays-answering (λ e. PhaseInput.PrepareComplete) (λ e is t at own found. comes-prepared x sound e (there e is) t at own (enlistment-allowed o owes_prepare e is tests))

  pub pays-read_only : Passes (enlistment_tests o (may_vote x)) → Pays x (answering x o (λ e. PhaseInput.ReadOnly (share_of e)))
  pays-read_only tests = pays-answering (λ e. PhaseInput.ReadOnly (share_of e)) (λ e is t at own found.
      comes-as x t (Some e) (PhaseInput.ReadOnly (share_of e)) (phase-passed x is_voting e t found (and_parts _ (phase_passes x is_voting e) (enlistment-allowed o (may_vote x) e is tests)).1) refl)

  pub pays-commit_complete : Passes (enlistment_tests o owes_commit) → Pays x (answering x o (λ e. PhaseInput.CommitComplete))
  pays-commit_complete tests = pays-answering (λ e. PhaseInput.CommitComplete) (λ e is t at own found. comes-committed x sound e (there e is) t at own (enlistment-allowed o owes_commit e is tests))

  pub pays-rollback_complete : Pays x (answering x o (λ e. PhaseInput.RollbackComplete))
  pays-rollback_complete = pays-answering (λ e. PhaseInput.RollbackComplete) (λ e is t at own found. comes-as x t (Some e) PhaseInput.RollbackComplete refl refl)

  pub pays-reject : Passes (enlistment_tests o (may_reject_one_phase x)) → Pays x (answering x o (λ e. PhaseInput.SinglePhaseReject))
  pays-reject tests = pays-answering (λ e. PhaseInput.SinglePhaseReject) (λ e is t at own found.
      let may = and_parts (phase_passes x is_single_phase e) (owes_commit e) (enlistment-allowed o (may_reject_one_phase x) e is tests) in
      comes-as x t (Some e) PhaseInput.SinglePhaseReject (ap is_voting (single-phase t.phase (phase-passed x is_single_phase e t found may.0))) refl)

  pub pays-rollback_enlistment : Passes (enlistment_tests o (may_roll_back_by x)) → Pays x (answering x o (λ e. PhaseInput.Rollback))
  pays-rollback_enlistment tests = pays-answering (λ e. PhaseInput.Rollback) (λ e is t at own found. rolling x t (Some e) (rolls x sound o there e t found (enlistment-allowed o (may_roll_back_by x) e is tests)))

  pub pays-pre_prepare : Passes (superior_tests x o before_pre_prepare) → Pays x (answering x o (λ e. PhaseInput.PrePrepare))
  pays-pre_prepare tests = pays-answering (λ e. PhaseInput.PrePrepare) (λ e is t at own found.
      comes-as x t (Some e) PhaseInput.PrePrepare (pre_prepares-voting t.phase (phase-passed x before_pre_prepare e t found (superior-allowed x o before_pre_prepare e is tests))) refl)

  pub pays-prepare : Passes (superior_tests x o before_prepare) → Pays x (answering x o (λ e. PhaseInput.Prepare))
  pays-prepare tests = pays-answering (λ e. PhaseInput.Prepare) (λ e is t at own found.
      comes-as x t (Some e) PhaseInput.Prepare (prepares-voting t.phase (phase-passed x before_prepare e t found (superior-allowed x o before_prepare e is tests))) refl)

  pub pays-decide : Passes (superior_tests x o waits_for_superior) → Pays x (answering x o (λ e. PhaseInput.Commit))
  pays-decide tests = pays-answering (λ e. PhaseInput.Commit) (λ e is t at own found. comes-as x t (Some e) PhaseInput.Commit (phase-passed x waits_for_superior e t found (superior-allowed x o waits_for_superior e is tests)) refl)

  pub pays-recover : Pays x (answering x o recovery_of)
  pays-recover = pays-answering recovery_of (λ e is t at own found.
      if_cases (Comes x t (Some e)) (is_superior e) PhaseInput.RecoverSuperior PhaseInput.Recover (λ above. comes-as x t (Some e) PhaseInput.RecoverSuperior refl refl) (λ below. comes-as x t (Some e) PhaseInput.Recover refl refl))
