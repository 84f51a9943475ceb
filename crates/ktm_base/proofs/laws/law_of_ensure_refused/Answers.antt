use Rattle.ktm_base.proofs.offered.Images.{growth_refused_law}
use Rattle.ktm_base.proofs.laws.law_of_ensure_refused.Goals as goal

pub returns : goal.returns
returns c = growth_refused_law
