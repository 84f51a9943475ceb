use Rattle.ktm_laws.proofs.OneOutcome.{one_outcome_law}
use Rattle.ktm_laws.proofs.worlds.law_of_one_outcome.Goals as goal

pub returns : goal.returns
returns c = one_outcome_law c.law_of_refusals.ensures c.law_of_courses.ensures c.law_of_kept_outcomes.ensures c.law_of_lawful_worlds.ensures
