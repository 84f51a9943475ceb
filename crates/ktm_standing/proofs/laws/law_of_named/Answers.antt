use Rattle.ktm_standing.proofs.offered.Named.{named_law}
use Rattle.ktm_standing.proofs.laws.law_of_named.Goals as goal

pub returns : goal.returns
returns c = named_law
