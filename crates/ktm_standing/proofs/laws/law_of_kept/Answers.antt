use Rattle.ktm_standing.proofs.Relied.{kept_law}
use Rattle.ktm_standing.proofs.laws.law_of_kept.Goals as goal

pub returns : goal.returns
returns c = kept_law
