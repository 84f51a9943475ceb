use Rattle.ktm_standing.proofs.offered.Guids.{guid_law}
use Rattle.ktm_standing.proofs.laws.law_of_guids.Goals as goal

pub returns : goal.returns
returns c = guid_law
