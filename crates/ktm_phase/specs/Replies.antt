-- Which calls of an enlistment its state and the phase of its transaction allow, and what comes to the transaction by them.
use Rattle.std.specs.Prelude.{◌&&◌, ◌||◌, not, Bool, true, false, Result, Ok, Err, if◌then◌else◌}
use Rattle.ktm_base.specs.declared.refusal.Refusal.{Refusal}
use Rattle.ktm_base.specs.declared.refusal.Refusal.TheVariants.{EnlistmentNotSuperior, TransactionRequestNotValid}
use Rattle.ktm_world.specs.declared.object.Phase.{Phase}
use Rattle.ktm_world.specs.declared.object.Phase.TheVariants.{InDoubt}
use Rattle.ktm_world.specs.declared.object.Transaction.{Transaction}
use Rattle.ktm_world.specs.declared.input.PhaseInput.{PhaseInput}
use Rattle.ktm_world.specs.declared.step.Owed.{Owed}
use Rattle.ktm_world.specs.Enlistments.{Enlistment, is_open_for_votes, is_superior, owes_commit, owes_pre_prepare, owes_prepare, owes_rollback}
use Rattle.ktm_world.specs.Phases.{is_single_phase}
use Rattle.ktm_world.specs.TransactionCalls.{before_pre_prepare, before_prepare, is_voting, lets_superior_roll_back, waits_for_superior}
use Rattle.ktm_world.specs.Transactions.{is_undecided}
use Rattle.ktm_world.specs.Steps.{share_of}
use Rattle.ktm_phase.specs.declared.enlistment.Vote.{Vote}
use Rattle.ktm_phase.specs.declared.superior.SuperiorCall.{SuperiorCall}

-- ---- replies

-- does it owe an answer to this
abbrev pub owes : Owed → Enlistment → Bool
owes Owed.PrePrepare e = owes_pre_prepare e
owes Owed.Prepare e = owes_prepare e
owes Owed.Commit e = owes_commit e
owes Owed.Rollback e = owes_rollback e

-- an ordinary enlistment that has not voted yet, in a phase in which it may
abbrev pub may_vote : Phase → Enlistment → Bool
may_vote phase e = not (is_superior e) && is_open_for_votes e && is_voting phase

-- is the reply allowed in this phase
abbrev pub allows : Phase → Enlistment → Vote → Bool
allows phase e Vote.PrePrepareComplete = owes Owed.PrePrepare e
allows phase e Vote.PrepareComplete = owes Owed.Prepare e
allows phase e Vote.ReadOnly = may_vote phase e
allows phase e Vote.SinglePhaseReject = is_single_phase phase && owes Owed.Commit e
allows phase e Vote.CommitComplete = owes Owed.Commit e
allows phase e Vote.RollbackComplete = owes Owed.Rollback e
allows phase e Vote.Rollback = if is_superior e then lets_superior_roll_back phase else may_vote phase e

-- what comes to the transaction by a reply
abbrev pub input_of : Enlistment → Vote → PhaseInput
input_of e Vote.PrePrepareComplete = PhaseInput.PrePrepareComplete
input_of e Vote.PrepareComplete = PhaseInput.PrepareComplete
input_of e Vote.ReadOnly = PhaseInput.ReadOnly (share_of e)
input_of e Vote.SinglePhaseReject = PhaseInput.SinglePhaseReject
input_of e Vote.CommitComplete = PhaseInput.CommitComplete
input_of e Vote.RollbackComplete = PhaseInput.RollbackComplete
input_of e Vote.Rollback = PhaseInput.Rollback

-- this comes where it is allowed
abbrev pub if_allowed : Bool → PhaseInput → Result PhaseInput Refusal
if_allowed is_allowed input = if is_allowed then Ok input else Err TransactionRequestNotValid

-- what a reply comes to in this phase
abbrev pub replied : Phase → Enlistment → Vote → Result PhaseInput Refusal
replied phase e vote = if_allowed (allows phase e vote) (input_of e vote)

-- does a transaction in this phase wait for its superior after a restart
abbrev pub is_in_doubt : Phase → Bool
is_in_doubt phase = elim phase as (λ _. Bool) [ InDoubt ↦ true | _ ↦ false ]

-- it was brought back and is not recovered yet, a superior's transaction being in doubt
abbrev pub may_recover : Phase → Enlistment → Bool
may_recover phase e = not e.is_recovered && (not (is_superior e) || is_in_doubt phase)

-- what RecoverEnlistment comes to in this phase
abbrev pub recovered : Phase → Enlistment → Result PhaseInput Refusal
recovered phase e = if_allowed (may_recover phase e) (if is_superior e then PhaseInput.RecoverSuperior else PhaseInput.Recover)

-- ---- calls of superiors

-- does this phase let a superior make the call
abbrev pub lets : Phase → SuperiorCall → Bool
lets phase SuperiorCall.PrePrepare = before_pre_prepare phase
lets phase SuperiorCall.Prepare = before_prepare phase
lets phase SuperiorCall.Commit = waits_for_superior phase

-- what comes to the transaction by a superior's call
abbrev pub input_by : SuperiorCall → PhaseInput
input_by SuperiorCall.PrePrepare = PhaseInput.PrePrepare
input_by SuperiorCall.Prepare = PhaseInput.Prepare
input_by SuperiorCall.Commit = PhaseInput.Commit

-- what a superior's call comes to in this phase
abbrev pub commanded : Phase → Enlistment → SuperiorCall → Result PhaseInput Refusal
commanded phase e call =
    if is_superior e then if_allowed (lets phase call) (input_by call) else Err EnlistmentNotSuperior

-- ---- recovery information

-- may the recovery information be set: it is an ordinary enlistment that can still vote, or a superior whose transaction does not wait for it, and the outcome is not known
abbrev pub may_set_information : Transaction → Enlistment → Bool
may_set_information t e = is_undecided t && (if is_superior e then not (waits_for_superior t.phase) else is_open_for_votes e)
