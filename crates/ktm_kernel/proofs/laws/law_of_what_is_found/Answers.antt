use Rattle.ktm_kernel.proofs.StartAgain.{found_law}
use Rattle.ktm_kernel.proofs.laws.law_of_what_is_found.Goals as goal

pub returns : goal.returns
returns c = found_law
