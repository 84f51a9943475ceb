use Rattle.ktm_standing.proofs.Relied.{spelled_law}
use Rattle.ktm_standing.proofs.laws.law_of_spelled.Goals as goal

pub returns : goal.returns
returns c = spelled_law c.law_of_spelling.ensures
