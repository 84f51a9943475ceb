-- What comes where a call is allowed, and what is known of the outcome then.
use Rattle.std.specs.Prelude.{if◌then◌else◌}
use Rattle.std.proofs.Common.{◌≡◌, ◌&&◌, not, Bool, true, false, Option, Some, None, Result, Ok, Err, refl, sym, ◌∙◌, subst, inl, inr}
use Rattle.std.proofs.lemmas.Bool.{and_parts, true≢false}
use Rattle.ktm_base.specs.declared.refusal.Refusal.{Refusal}
use Rattle.ktm_base.specs.declared.refusal.Refusal.TheVariants.{EnlistmentNotSuperior, TransactionRequestNotValid}
use Rattle.ktm_world.specs.declared.object.Phase.{Phase}
use Rattle.ktm_world.specs.declared.object.Phase.TheVariants.{SinglePhase, Committing, Aborting, Ended}
use Rattle.ktm_world.specs.declared.input.PhaseInput.{PhaseInput}
use Rattle.ktm_world.specs.declared.step.Owed.{Owed}
use Rattle.ktm_world.specs.Enlistments.{Enlistment, is_open_for_votes, is_superior}
use Rattle.ktm_world.specs.TransactionCalls.{before_pre_prepare, before_prepare, is_voting, lets_superior_roll_back, waits_for_superior}
use Rattle.ktm_phase.specs.declared.enlistment.Vote.{Vote}
use Rattle.ktm_phase.specs.declared.superior.SuperiorCall.{SuperiorCall}
use Rattle.ktm_steps.specs.Outcomes.{IsKnownIn, MayBe, MayCome}
use Rattle.ktm_phase.specs.Coming.{ComingLaw, IsOwedIn, is_asked_in}
use Rattle.ktm_phase.specs.Replies.{allows, commanded, if_allowed, input_by, input_of, lets, may_recover, may_vote, owes, recovered, replied}

same_input : (a b : PhaseInput) (r : Result PhaseInput Refusal) → r ≡ Ok a → r ≡ Ok b → a ≡ b
same_input a b r first second = cc

no-input : (refusal : Refusal) (a : PhaseInput) (r : Result PhaseInput Refusal) → r ≡ Err refusal → r ≡ Ok a → ⊥
no-input refusal a r first second = cc

-- what holds of an input that comes where it is allowed holds of what comes
pub of-allowed : (b : Bool) (a input : PhaseInput) (P : PhaseInput → Type 0) → if_allowed b a ≡ Ok input → (b ≡ true → P a) → P input
of-allowed true a input P same holds = subst P (same_input a input (Ok a) refl same) (holds refl)
of-allowed false a input P same holds = absurd (no-input TransactionRequestNotValid input (Err TransactionRequestNotValid) refl same)

pub of-command : (s b : Bool) (a input : PhaseInput) (P : PhaseInput → Type 0) → (if s then if_allowed b a else Err EnlistmentNotSuperior) ≡ Ok input → (b ≡ true → P a) → P input
of-command true b a input P same holds = of-allowed b a input P same holds
of-command false b a input P same holds = absurd (no-input EnlistmentNotSuperior input (Err EnlistmentNotSuperior) refl same)

-- ---- what is known

-- nothing is known in a phase that passes a test which those of an outcome fail
undecided : (test : Phase → Bool) → test Committing ≡ false → test Aborting ≡ false → test Ended ≡ false → (phase : Phase) (known : Option Bool) → test phase ≡ true → IsKnownIn phase known → known ≡ None
undecided test committing aborting ended Committing known is by = absurd (true≢false (sym is ∙ committing))
undecided test committing aborting ended Aborting known is by = absurd (true≢false (sym is ∙ aborting))
undecided test committing aborting ended Ended known is by = absurd (true≢false (sym is ∙ ended))
undecided test committing aborting ended _ known is by = by

-- an answer that is owed is waited for
asked : (owed : Owed) (e : Enlistment) (o : Option Owed) (phase : Phase) → owes owed (record e { owes = o }) ≡ true → IsOwedIn phase o → is_asked_in phase owed ≡ true
asked Owed.PrePrepare e (Some Owed.PrePrepare) phase is fits = fits
asked Owed.PrePrepare e _ phase is fits = absurd (true≢false (sym is))
asked Owed.Prepare e (Some Owed.Prepare) phase is fits = fits
asked Owed.Prepare e _ phase is fits = absurd (true≢false (sym is))
asked Owed.Commit e (Some Owed.Commit) phase is fits = fits
asked Owed.Commit e _ phase is fits = absurd (true≢false (sym is))
asked Owed.Rollback e (Some Owed.Rollback) phase is fits = fits
asked Owed.Rollback e _ phase is fits = absurd (true≢false (sym is))

known-at-commit : (phase : Phase) (known : Option Bool) → is_asked_in phase Owed.Commit ≡ true → IsKnownIn phase known → MayBe known (Some true)
known-at-commit SinglePhase known is by = inl by
known-at-commit Committing known is by = inr by
known-at-commit _ known is by = absurd (true≢false (sym is))

known-at-rollback : (phase : Phase) (known : Option Bool) → is_asked_in phase Owed.Rollback ≡ true → IsKnownIn phase known → MayBe known (Some false)
known-at-rollback Aborting known is by = inr by
known-at-rollback _ known is by = absurd (true≢false (sym is))

module _ (phase : Phase) (known : Option Bool) (by : IsKnownIn phase known) where
  voting : (e : Enlistment) → may_vote phase e ≡ true → known ≡ None
  voting e may = undecided is_voting refl refl refl phase known (and_parts (not (is_superior e) && is_open_for_votes e) (is_voting phase) may).1 by

  rolling-back : (e : Enlistment) (s : Bool) → (if s then lets_superior_roll_back phase else may_vote phase e) ≡ true → known ≡ None
  rolling-back e true may = undecided lets_superior_roll_back refl refl refl phase known may by
  rolling-back e false may = voting e may

  replying : (e : Enlistment) (vote : Vote) → IsOwedIn phase e.owes → allows phase e vote ≡ true → MayCome known phase (input_of e vote)
  replying e Vote.PrePrepareComplete fits may = undecided (λ phase. is_asked_in phase Owed.PrePrepare) refl refl refl phase known (asked Owed.PrePrepare e e.owes phase may fits) by
  replying e Vote.PrepareComplete fits may = undecided (λ phase. is_asked_in phase Owed.Prepare) refl refl refl phase known (asked Owed.Prepare e e.owes phase may fits) by
  replying e Vote.ReadOnly fits may = voting e may
  replying e Vote.SinglePhaseReject fits may = tt
  replying e Vote.CommitComplete fits may = known-at-commit phase known (asked Owed.Commit e e.owes phase may fits) by
  replying e Vote.RollbackComplete fits may = known-at-rollback phase known (asked Owed.Rollback e e.owes phase may fits) by
  replying e Vote.Rollback fits may = rolling-back e (is_superior e) may

  commanding : (call : SuperiorCall) → lets phase call ≡ true → MayCome known phase (input_by call)
  commanding SuperiorCall.PrePrepare may = undecided before_pre_prepare refl refl refl phase known may by
  commanding SuperiorCall.Prepare may = undecided before_prepare refl refl refl phase known may by
  commanding SuperiorCall.Commit may = undecided waits_for_superior refl refl refl phase known may by

  recovering : (s : Bool) → MayCome known phase (if s then PhaseInput.RecoverSuperior else PhaseInput.Recover)
  recovering true = tt
  recovering false = by

  pub reply-may-come : (e : Enlistment) (vote : Vote) (input : PhaseInput) → IsOwedIn phase e.owes → replied phase e vote ≡ Ok input → MayCome known phase input
  reply-may-come e vote input fits came = of-allowed (allows phase e vote) (input_of e vote) input (MayCome known phase) came (replying e vote fits)

  pub command-may-come : (e : Enlistment) (call : SuperiorCall) (input : PhaseInput) → commanded phase e call ≡ Ok input → MayCome known phase input
  command-may-come e call input came = of-command (is_superior e) (lets phase call) (input_by call) input (MayCome known phase) came (commanding call)

  pub recovery-may-come : (e : Enlistment) (input : PhaseInput) → recovered phase e ≡ Ok input → MayCome known phase input
  recovery-may-come e input came = of-allowed (may_recover phase e) (if is_superior e then PhaseInput.RecoverSuperior else PhaseInput.Recover) input (MayCome known phase) came (λ may. recovering (is_superior e))

pub coming_law : ComingLaw
coming_law = record {
  replies = λ phase known e vote input by fits came. reply-may-come phase known by e vote input fits came;
  superiors = λ phase known e call input by came. command-may-come phase known by e call input came;
  recoveries = λ phase known e input by came. recovery-may-come phase known by e input came;
}
