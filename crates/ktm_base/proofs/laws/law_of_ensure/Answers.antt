use Rattle.ktm_base.proofs.offered.Images.{growth_law}
use Rattle.ktm_base.proofs.laws.law_of_ensure.Goals as goal

pub returns : goal.returns
returns c = growth_law
