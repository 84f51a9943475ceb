use Rattle.ktm_base.proofs.offered.Images.{power_law}
use Rattle.ktm_base.proofs.laws.law_of_power.Goals as goal

pub returns : goal.returns
returns c = power_law
