use Rattle.ktm_alike.proofs.AlikeLaws.{alike_law}
use Rattle.ktm_alike.proofs.alike.law_of_alike_presents.Goals as goal

pub returns : goal.returns
returns c = alike_law
