use Rattle.ktm_steps.proofs.offered.Outcomes.{outcome_law}
use Rattle.ktm_steps.proofs.laws.law_of_outcomes.Goals as goal

pub returns : goal.returns
returns c = outcome_law
