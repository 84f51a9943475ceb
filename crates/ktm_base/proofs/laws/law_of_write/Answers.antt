use Rattle.ktm_base.proofs.offered.Images.{write_law}
use Rattle.ktm_base.proofs.laws.law_of_write.Goals as goal

pub returns : goal.returns
returns c = write_law
