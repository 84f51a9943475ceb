use Rattle.ktm_back.proofs.offered.GoodStates.{good-comes-back}
use Rattle.ktm_back.proofs.laws.law_of_coming_back.Goals as goal

pub returns : goal.returns
returns c = good-comes-back
