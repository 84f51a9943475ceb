-- The calls of the model come to their rows.
use Rattle.std.specs.Prelude.{if◌then◌else◌}
use Rattle.std.proofs.Common.{◌≡◌, ◌&&◌, ◌||◌, not, Bool, true, false, Some, None, Err, refl, ◌∙◌, ap}
use Rattle.ktm_base.specs.declared.id.Label.{Label}
use Rattle.ktm_base.specs.declared.id.Pid.{Pid}
use Rattle.ktm_base.specs.declared.refusal.Refusal.TheVariants.{EnlistmentNotSuperior, TransactionRequestNotValid}
use Rattle.ktm_world.specs.declared.command.Command.{Command}
use Rattle.ktm_world.specs.declared.object.Phase.{Phase}
use Rattle.ktm_world.specs.declared.object.Transaction.{Transaction}
use Rattle.ktm_world.specs.declared.reply.Reply.TheVariants.{Done}
use Rattle.ktm_world.specs.declared.input.PhaseInput.{PhaseInput}
use Rattle.ktm_world.specs.Decide.{call_of}
use Rattle.ktm_world.specs.Enlistments.{Enlistment, is_open_for_votes, is_superior, owes_commit, owes_pre_prepare, owes_prepare, owes_rollback}
use Rattle.ktm_world.specs.Labels.{enlistment_named, holds_of}
use Rattle.ktm_world.specs.Outcome.{first_refusal}
use Rattle.ktm_world.specs.Phases.{is_single_phase}
use Rattle.ktm_world.specs.Present.{Present}
use Rattle.ktm_world.specs.Steps.{led, share_of}
use Rattle.ktm_world.specs.TransactionCalls.{answering, arrived, before_pre_prepare, before_prepare, commit_complete, commit_enlistment, enlistment_tests, goes_on, is_in_doubt, is_voting, lets_superior_roll_back, may_recover as may_recover_in, may_reject_one_phase, may_roll_back_by, may_set_information as may_set_information_now, may_vote as may_vote_in, phase_passes, pre_prepare_complete, pre_prepare_enlistment, prepare_complete, prepare_enlistment, read_only_enlistment, recover_enlistment, rollback_complete, rollback_enlistment, single_phase_reject, superior_tests, waits_for_superior, recovery_of}
use Rattle.ktm_world.specs.Transactions.{is_undecided}
use Rattle.ktm_phase.specs.declared.enlistment.Vote.{Vote}
use Rattle.ktm_phase.specs.declared.superior.SuperiorCall.{SuperiorCall}
use Rattle.ktm_phase.specs.Calls.{CallsLaw, ComesTo, Names, course_by, refusal_in, reply_call, superior_call}
use Rattle.ktm_phase.specs.Replies.{allows, commanded, if_allowed, may_recover, may_set_information, may_vote, recovered, replied}
use Rattle.ktm_phase.proofs.Coming.{of-allowed, of-command}

-- ---- what is allowed, and what comes then

allowed-refusal : (b : Bool) (input : PhaseInput) → (if not b then Some TransactionRequestNotValid else None) ≡ refusal_in (if_allowed b input)
allowed-refusal true input = refl
allowed-refusal false input = refl

command-refusal : (s b : Bool) (input : PhaseInput) → (if not s then Some EnlistmentNotSuperior else (if not b then Some TransactionRequestNotValid else None)) ≡ refusal_in (if s then if_allowed b input else Err EnlistmentNotSuperior)
command-refusal true b input = allowed-refusal b input
command-refusal false b input = refl

-- ---- calls

module _ (x : Present) (process : Pid) (label : Label) (e : Enlistment) (t : Transaction) (names : Names x process label e t) where
  passes : (test : Phase → Bool) → phase_passes x test e ≡ test t.phase
  passes test = ap (holds_of (λ (t : Transaction). test t.phase)) names.transaction

  -- the call brings this to the transaction
  brings : (input : Enlistment → PhaseInput) → answering x (enlistment_named x process label) input ≡ arrived x (led (input e) (course_by x t e)) Done
  brings input = ap (λ o. answering x o input) names.enlistment ∙ ap (λ o. goes_on x e o (input e)) names.transaction

  -- a call that is allowed so
  comes : (allowed : Enlistment → Bool) (b : Bool) (input : Enlistment → PhaseInput) → allowed e ≡ b
      → ComesTo x t e (enlistment_tests (enlistment_named x process label) allowed) (answering x (enlistment_named x process label) input) (if_allowed b (input e))
  comes allowed b input is = record {
    refused =
        ap (λ o. first_refusal (enlistment_tests o allowed)) names.enlistment
        ∙ ap (λ b. if not b then Some TransactionRequestNotValid else None) is ∙ allowed-refusal b (input e);
    leads = λ other came. of-allowed b (input e) other (λ came. answering x (enlistment_named x process label) input ≡ arrived x (led came (course_by x t e)) Done) came (λ allowed. brings input);
  }

  -- a call of a superior that these phases let it make
  commands : (test : Phase → Bool) (input : PhaseInput)
      → ComesTo x t e (superior_tests x (enlistment_named x process label) test) (answering x (enlistment_named x process label) (λ e. input)) (if is_superior e then if_allowed (test t.phase) input else Err EnlistmentNotSuperior)
  commands test input = record {
    refused =
        ap (λ o. first_refusal (superior_tests x o test)) names.enlistment
        ∙ ap (λ b. if not (is_superior e) then Some EnlistmentNotSuperior else (if not b then Some TransactionRequestNotValid else None)) (passes test) ∙ command-refusal (is_superior e) (test t.phase) input;
    leads = λ other came. of-command (is_superior e) (test t.phase) input other (λ came. answering x (enlistment_named x process label) (λ e. input) ≡ arrived x (led came (course_by x t e)) Done) came (λ may. brings (λ e. input));
  }

  may : may_vote_in x e ≡ may_vote t.phase e
  may = ap (λ b. not (is_superior e) && is_open_for_votes e && b) (passes is_voting)

  may_roll_back : may_roll_back_by x e ≡ allows t.phase e Vote.Rollback
  may_roll_back = λ i. if is_superior e then passes lets_superior_roll_back i else may i

  replies : (vote : Vote) → ComesTo x t e (call_of x process (reply_call vote label)).0 (call_of x process (reply_call vote label)).1 (replied t.phase e vote)
  unfolding pre_prepare_complete prepare_complete read_only_enlistment single_phase_reject commit_complete rollback_complete rollback_enlistment
  replies Vote.PrePrepareComplete = comes owes_pre_prepare (owes_pre_prepare e) (λ e. PhaseInput.PrePrepareComplete) refl
  replies Vote.PrepareComplete = comes owes_prepare (owes_prepare e) (λ e. PhaseInput.PrepareComplete) refl
  replies Vote.ReadOnly = comes (may_vote_in x) (may_vote t.phase e) (λ e. PhaseInput.ReadOnly (share_of e)) may
  replies Vote.SinglePhaseReject = comes (may_reject_one_phase x) (is_single_phase t.phase && owes_commit e) (λ e. PhaseInput.SinglePhaseReject) (ap (λ b. b && owes_commit e) (passes is_single_phase))
  replies Vote.CommitComplete = comes owes_commit (owes_commit e) (λ e. PhaseInput.CommitComplete) refl
  replies Vote.RollbackComplete = comes owes_rollback (owes_rollback e) (λ e. PhaseInput.RollbackComplete) refl
  replies Vote.Rollback = comes (may_roll_back_by x) (allows t.phase e Vote.Rollback) (λ e. PhaseInput.Rollback) may_roll_back

  superiors : (call : SuperiorCall) → ComesTo x t e (call_of x process (superior_call call label)).0 (call_of x process (superior_call call label)).1 (commanded t.phase e call)
  unfolding pre_prepare_enlistment prepare_enlistment commit_enlistment
  superiors SuperiorCall.PrePrepare = commands before_pre_prepare PhaseInput.PrePrepare
  superiors SuperiorCall.Prepare = commands before_prepare PhaseInput.Prepare
  superiors SuperiorCall.Commit = commands waits_for_superior PhaseInput.Commit

  recoveries : ComesTo x t e (call_of x process (Command.RecoverEnlistment label)).0 (call_of x process (Command.RecoverEnlistment label)).1 (recovered t.phase e)
  unfolding recover_enlistment
  recoveries = comes (may_recover_in x) (may_recover t.phase e) recovery_of (ap (λ o. not e.is_recovered && (not (is_superior e) || holds_of is_in_doubt o)) names.transaction)

  informed : may_set_information_now x e ≡ may_set_information t e
  informed = λ i. holds_of is_undecided (names.transaction i) && (if is_superior e then passes (λ phase. not (waits_for_superior phase)) i else is_open_for_votes e)

pub calls_law : CallsLaw
calls_law = record {
  replies = λ x process label e t vote names. replies x process label e t names vote;
  superiors = λ x process label e t call names. superiors x process label e t names call;
  recoveries = λ x process label e t names. recoveries x process label e t names;
  informed = λ x process label e t names. informed x process label e t names;
}
