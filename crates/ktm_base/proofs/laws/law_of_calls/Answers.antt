use Rattle.ktm_base.proofs.offered.Images.{calls_law}
use Rattle.ktm_base.proofs.laws.law_of_calls.Goals as goal

pub returns : goal.returns
returns c = calls_law
