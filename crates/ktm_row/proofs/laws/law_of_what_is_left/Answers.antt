use Rattle.ktm_row.proofs.Left.{left_law}
use Rattle.ktm_row.proofs.laws.law_of_what_is_left.Goals as goal

pub returns : goal.returns
returns c = left_law
