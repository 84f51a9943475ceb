use Rattle.ktm_base.proofs.offered.Images.{write_refused_law}
use Rattle.ktm_base.proofs.laws.law_of_write_refused.Goals as goal

pub returns : goal.returns
returns c = write_refused_law
