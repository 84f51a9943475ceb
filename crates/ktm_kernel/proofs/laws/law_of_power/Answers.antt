use Rattle.ktm_kernel.proofs.StartAgain.{power_law}
use Rattle.ktm_kernel.proofs.laws.law_of_power.Goals as goal

pub returns : goal.returns
returns c = power_law c.law_of_standing.ensures
