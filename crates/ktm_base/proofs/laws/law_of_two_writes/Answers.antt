use Rattle.ktm_base.proofs.offered.Images.{two_writes_law}
use Rattle.ktm_base.proofs.laws.law_of_two_writes.Goals as goal

pub returns : goal.returns
returns c = two_writes_law
