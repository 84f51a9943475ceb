use Rattle.ktm_row.proofs.Left.{whole_law}
use Rattle.ktm_row.proofs.laws.law_of_the_whole.Goals as goal

pub returns : goal.returns
returns c = whole_law
