-- What may come to a transaction by the calls that are allowed.
use Rattle.std.specs.Prelude.{◌≡◌, ⊤, Bool, true, false, Option, Some, None, Ok}
use Rattle.ktm_world.specs.declared.input.PhaseInput.{PhaseInput}
use Rattle.ktm_world.specs.declared.object.Phase.{Phase}
use Rattle.ktm_world.specs.declared.step.Owed.{Owed}
use Rattle.ktm_world.specs.Enlistments.{Enlistment}
use Rattle.ktm_steps.specs.Outcomes.{IsKnownIn, MayCome}
use Rattle.ktm_phase.specs.declared.enlistment.Vote.{Vote}
use Rattle.ktm_phase.specs.declared.superior.SuperiorCall.{SuperiorCall}
use Rattle.ktm_phase.specs.Replies.{commanded, recovered, replied}

-- is this answer waited for in this phase
abbrev pub is_asked_in : Phase → Owed → Bool
is_asked_in Phase.PrePreparing Owed.PrePrepare = true
is_asked_in Phase.Preparing Owed.Prepare = true
is_asked_in Phase.SinglePhase Owed.Commit = true
is_asked_in Phase.Committing Owed.Commit = true
is_asked_in Phase.Aborting Owed.Rollback = true
is_asked_in _ _ = false

-- the answer that is owed, if one is, is waited for in this phase
abbrev pub IsOwedIn : Phase → Option Owed → Type 0
IsOwedIn phase None = ⊤
IsOwedIn phase (Some answer) = is_asked_in phase answer ≡ true

-- what is allowed may come, where the enlistment owes nothing but what is waited for
pub record ComingLaw : Type 0 where
  pub replies : (phase : Phase) (known : Option Bool) (e : Enlistment) (vote : Vote) (input : PhaseInput) → IsKnownIn phase known → IsOwedIn phase e.owes → replied phase e vote ≡ Ok input → MayCome known phase input
  pub superiors : (phase : Phase) (known : Option Bool) (e : Enlistment) (call : SuperiorCall) (input : PhaseInput) → IsKnownIn phase known → commanded phase e call ≡ Ok input → MayCome known phase input
  pub recoveries : (phase : Phase) (known : Option Bool) (e : Enlistment) (input : PhaseInput) → IsKnownIn phase known → recovered phase e ≡ Ok input → MayCome known phase input
