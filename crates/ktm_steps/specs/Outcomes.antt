-- What a transaction on its way tells of its outcome is so, and an outcome that is known stays.
use Rattle.std.specs.Prelude.{◌≡◌, ⊤, ◌⊎◌, Bool, true, false, List, [], ◌∷◌, All, Option, Some, None}
use Rattle.ktm_base.specs.declared.notify.Notify.{Notify}
use Rattle.ktm_world.specs.declared.object.Phase.{Phase}
use Rattle.ktm_world.specs.declared.input.PhaseInput.{PhaseInput}
use Rattle.ktm_world.specs.declared.step.Step.{Step}
use Rattle.ktm_world.specs.Enlistments.{Sent}
use Rattle.ktm_world.specs.OneOutcome.{told_by, told_outcome}
use Rattle.ktm_world.specs.Phases.{Course, end_notice}
use Rattle.ktm_world.specs.Steps.{led, run}

-- ---- what is known of an outcome: nothing, that it is a commit, or that it is none

-- nothing is known, or this
abbrev pub MayBe : Option Bool → Option Bool → Type 0
MayBe known outcome = (known ≡ None) ⊎ (known ≡ outcome)

-- the notification tells nothing of an outcome, or what is known
abbrev pub TellsOnly : Option Bool → Notify → Type 0
TellsOnly known kind = (told_by kind ≡ None) ⊎ (told_by kind ≡ known)

-- where so much is known, the steps tell nothing else of the outcome, and decide nothing else
abbrev pub AreTrue : Option Bool → List Step → Type 0
AreTrue known [] = ⊤
AreTrue known (Step.Tell who kind ∷ steps) = TellsOnly known kind × AreTrue known steps
AreTrue known (Step.Ask who kind owed ∷ steps) = TellsOnly known kind × AreTrue known steps
AreTrue known (Step.Decide outcome ∷ steps) = MayBe known (told_outcome outcome) × AreTrue (told_outcome outcome) steps
AreTrue known (Step.End outcome ∷ steps) = MayBe known (told_outcome outcome) × TellsOnly (told_outcome outcome) (end_notice outcome) × AreTrue (told_outcome outcome) steps
AreTrue known (Step.EndWhereFinished outcome ∷ steps) =
    MayBe known (told_outcome outcome) × TellsOnly (told_outcome outcome) (end_notice outcome) × AreTrue known steps × AreTrue (told_outcome outcome) steps
AreTrue known (_ ∷ steps) = AreTrue known steps

-- ---- courses

-- what is known of its outcome
abbrev pub known : Course → Option Bool
known c = told_outcome c.transaction.outcome

-- what it has told of the outcome is so
abbrev pub IsTrue : Course → Type 0
IsTrue c = All (λ (s : Sent). TellsOnly (known c) s.note.kind) c.sent

-- what it has told is so, and what was known before is known still
pub record StaysTrue (before : Option Bool) (d : Course) : Type 0 where
  pub tells : IsTrue d
  pub stays : MayBe before (known d)

-- ---- what may be known when something comes

-- the outcome is known exactly in the phases in which it is decided
abbrev pub IsKnownIn : Phase → Option Bool → Type 0
IsKnownIn Phase.Committing known = known ≡ Some true
IsKnownIn Phase.Aborting known = known ≡ Some false
IsKnownIn Phase.Ended known = ⊤
IsKnownIn _ known = known ≡ None

-- what may be known in this phase when this comes: nothing where the outcome is still to be decided, and this outcome where an enlistment has finished or is told it
abbrev pub MayCome : Option Bool → Phase → PhaseInput → Type 0
MayCome known phase PhaseInput.SinglePhaseReject = ⊤
MayCome known phase PhaseInput.CommitComplete = MayBe known (Some true)
MayCome known phase PhaseInput.RollbackComplete = MayBe known (Some false)
MayCome known phase PhaseInput.Recover = IsKnownIn phase known
MayCome known phase PhaseInput.RecoverSuperior = ⊤
MayCome known phase _ = known ≡ None

-- what was true before stays so
abbrev pub KeepsTrue : Course → Course → Type 0
KeepsTrue c d = IsTrue c → StaysTrue (known c) d

-- what is told is so, and nothing takes back an outcome that is known
pub record OutcomeLaw : Type 0 where
  -- by steps that tell and decide nothing else
  pub steps : (steps : List Step) (c : Course) → AreTrue (known c) steps → KeepsTrue c (run steps c)
  -- by the row of what may come
  pub rows : (input : PhaseInput) (c : Course) → MayCome (known c) c.transaction.phase input → KeepsTrue c (led input c)
  -- what a row tells, of a transaction that has told nothing yet, is so in the end
  pub tells : (input : PhaseInput) (c : Course) → c.sent ≡ [] → IsKnownIn c.transaction.phase (known c) → IsTrue (led input c)
