-- What steps record is known before anything is carried out.
use Rattle.std.proofs.Common.{◌≡◌, List, [], ◌∷◌, ◌++◌, Option, Some, None, refl, sym, ◌∙◌, ap, append_assoc, append-nil}
use Rattle.std.specs.List.{list_any}
use Rattle.ktm_world.specs.declared.object.TransactionOutcome.{TransactionOutcome}
use Rattle.ktm_world.specs.declared.step.Answered.{Answered}
use Rattle.ktm_world.specs.declared.step.Step.{Step}
use Rattle.ktm_world.specs.Enlistments.{Enlistment, has_id, is_unfinished}
use Rattle.ktm_world.specs.Phases.{Course, ended, is_its_superior, owing, unchanged}
use Rattle.ktm_world.specs.Steps.{answered, carried, changing, basis, events_ahead, events_of, is_meant, run}
use Rattle.ktm_steps.proofs.offered.Lasting.{basis-with, lasting-answered}
use Rattle.ktm_steps.proofs.offered.Ways.{if_cases}

basis-ended : (c : Course) (outcome : TransactionOutcome) → basis (ended c outcome) ≡ basis c
unfolding ended
basis-ended c outcome = basis-with unchanged (λ e. refl) (is_its_superior c) c

events-ended : (c : Course) (outcome : TransactionOutcome) → (ended c outcome).events ≡ c.events
unfolding ended
events-ended c outcome = refl

-- a course after a step that records nothing
abbrev Still : Course → Course → Type 0
Still c d = (basis d ≡ basis c) × (d.events ≡ c.events)

Ahead : List Step → Course → Type 0
Ahead steps c = (run steps c).events ≡ c.events ++ events_ahead steps (basis c)

goes-on : (steps : List Step) (c d : Course) → Still c d → Ahead steps d → (run steps d).events ≡ c.events ++ events_ahead steps (basis c)
unfolding Ahead
goes-on steps c d still ahead = ahead ∙ ap (λ es. es ++ events_ahead steps (basis d)) still.1 ∙ ap (λ b. c.events ++ events_ahead steps b) still.0

still-change : (answer : Answered) (c : Course) (e : Option Enlistment) → Still c (changing c e (answered answer))
still-change answer c None = (refl, refl)
still-change answer c (Some e) = (basis-with (answered answer) (lasting-answered answer) (has_id e.id) c, refl)

-- carried out, they record what they were to
pub events-ahead : (steps : List Step) (c : Course) → (run steps c).events ≡ c.events ++ events_ahead steps (basis c)
unfolding Ahead
events-ahead [] c = sym (append-nil c.events)
events-ahead (Step.Record fact ∷ steps) c = events-ahead steps (carried (Step.Record fact) c) ∙ append_assoc c.events (events_of fact (basis c)) _
events-ahead (Step.Tell who kind ∷ steps) c = goes-on steps c (carried (Step.Tell who kind) c) (basis-with unchanged (λ e. refl) (is_meant who c) c, refl) (events-ahead steps (carried (Step.Tell who kind) c))
events-ahead (Step.Ask who kind owed ∷ steps) c = goes-on steps c (carried (Step.Ask who kind owed) c) (basis-with (owing owed) (λ e. refl) (is_meant who c) c, refl) (events-ahead steps (carried (Step.Ask who kind owed) c))
events-ahead (Step.Change answer ∷ steps) c = goes-on steps c (carried (Step.Change answer) c) (still-change answer c c.caller) (events-ahead steps (carried (Step.Change answer) c))
events-ahead (Step.End outcome ∷ steps) c = goes-on steps c (ended c outcome) (basis-ended c outcome, events-ended c outcome) (events-ahead steps (ended c outcome))
events-ahead (Step.EndWhereFinished outcome ∷ steps) c = goes-on steps c (carried (Step.EndWhereFinished outcome) c)
    (if_cases (Still c) (list_any (is_unfinished c.transaction.id) c.enlistments) c (ended c outcome) (λ some. (refl, refl)) (λ none. (basis-ended c outcome, events-ended c outcome)))
    (events-ahead steps (carried (Step.EndWhereFinished outcome) c))
events-ahead (Step.Commit ∷ steps) c = events-ahead steps (carried Step.Commit c)
events-ahead (Step.Enter phase ∷ steps) c = events-ahead steps (carried (Step.Enter phase) c)
events-ahead (Step.Decide outcome ∷ steps) c = events-ahead steps (carried (Step.Decide outcome) c)
