use Rattle.ktm_standing.proofs.offered.Decided.{decided_law}
use Rattle.ktm_standing.proofs.laws.law_of_decided.Goals as goal

pub returns : goal.returns
returns c = decided_law
