-- What no step changes of a course: which transaction it is, what it has to commit, and who makes the call; when it was made is kept or forgotten.
use Rattle.std.proofs.Common.{◌≡◌, ℕ, ◌≤◌, List, [], ◌∷◌, Option, Some, None, refl, ◌∙◌, arith}
use Rattle.std.specs.List.{list_any}
use Rattle.ktm_world.specs.declared.input.PhaseInput.{PhaseInput}
use Rattle.ktm_world.specs.declared.object.Phase.{Phase}
use Rattle.ktm_world.specs.declared.object.Phase.TheVariants.{Ended}
use Rattle.ktm_world.specs.declared.object.TransactionOutcome.{TransactionOutcome}
use Rattle.ktm_world.specs.declared.step.Step.{Step}
use Rattle.ktm_world.specs.Enlistments.{Enlistment, is_unfinished}
use Rattle.ktm_world.specs.Phases.{Course, ended, until_ended}
use Rattle.ktm_world.specs.Rows.{row}
use Rattle.ktm_world.specs.Steps.{carried, changing, led, run, seen}
use Rattle.ktm_steps.proofs.offered.Ways.{if_cases}

-- what each step keeps is kept by steps, one after another, and by each row
pub run-keeps : (P : Course → Type 0) → ((step : Step) (c : Course) → P c → P (carried step c)) → (steps : List Step) (c : Course) → P c → P (run steps c)
run-keeps P keeps [] c so = so
run-keeps P keeps (step ∷ steps) c so = run-keeps P keeps steps (carried step c) (keeps step c so)

pub led-keeps : (P : Course → Type 0) → ((step : Step) (c : Course) → P c → P (carried step c)) → (input : PhaseInput) (c : Course) → P c → P (led input c)
unfolding led
led-keeps P keeps input c = run-keeps P keeps (row (seen c) input) c

-- so much of it is as before
pub record Stays (c d : Course) : Type 0 where
  pub id : d.transaction.id ≡ c.transaction.id
  pub created : d.transaction.created ≤ c.transaction.created
  pub managers : d.managers ≡ c.managers
  pub changes : d.changes ≡ c.changes
  pub settings : d.settings ≡ c.settings
  pub caller : d.caller ≡ c.caller

pub stays : (c : Course) → Stays c c
stays c = record { id = refl; created = omega arith; managers = refl; changes = refl; settings = refl; caller = refl }

pub stays-then : (b c d : Course) → Stays b c → Stays c d → Stays b d
stays-then b c d first second = record {
  id = second.id ∙ first.id;
  created = let later = second.created in let earlier = first.created in omega arith;
  managers = second.managers ∙ first.managers;
  changes = second.changes ∙ first.changes;
  settings = second.settings ∙ first.settings;
  caller = second.caller ∙ first.caller;
}

-- a time that may be forgotten is no later
until-less : (phase : Phase) (time : ℕ) → until_ended phase time ≤ time
until-less Ended time = omega arith
until-less _ time = omega arith

stays-ended : (c : Course) (outcome : TransactionOutcome) → Stays c (ended c outcome)
unfolding ended
stays-ended c outcome = record { id = refl; created = omega arith; managers = refl; changes = refl; settings = refl; caller = refl }

stays-changing : (c : Course) (e : Option Enlistment) (f : Enlistment → Enlistment) → Stays c (changing c e f)
stays-changing c None f = stays c
stays-changing c (Some e) f = record { id = refl; created = omega arith; managers = refl; changes = refl; settings = refl; caller = refl }

pub stays-step : (step : Step) (c : Course) → Stays c (carried step c)
stays-step (Step.Change answer) c = stays-changing c c.caller _
stays-step (Step.End outcome) c = stays-ended c outcome
stays-step (Step.EndWhereFinished outcome) c = if_cases (Stays c) (list_any (is_unfinished c.transaction.id) c.enlistments) c (ended c outcome) (λ some. stays c) (λ none. stays-ended c outcome)
stays-step (Step.Enter phase) c = record { id = refl; created = until-less phase c.transaction.created; managers = refl; changes = refl; settings = refl; caller = refl }
stays-step _ c = record { id = refl; created = omega arith; managers = refl; changes = refl; settings = refl; caller = refl }

pub stays-led : (input : PhaseInput) (c : Course) → Stays c (led input c)
stays-led input c = led-keeps (Stays c) (λ step d so. stays-then c d (carried step d) so (stays-step step d)) input c (stays c)
