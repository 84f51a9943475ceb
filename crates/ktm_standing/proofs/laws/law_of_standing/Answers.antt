use Rattle.ktm_standing.proofs.Worlds.{standing_law}
use Rattle.ktm_standing.proofs.laws.law_of_standing.Goals as goal

pub returns : goal.returns
returns c = standing_law c.law_of_step.ensures c.law_of_lawful_worlds.ensures c.law_of_spelling.ensures
