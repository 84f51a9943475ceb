use Rattle.ktm_back.proofs.InDoubt.{own-leaves}
use Rattle.ktm_back.proofs.laws.law_of_in_doubt.Goals as goal

pub returns : goal.returns
returns c = λ s good. own-leaves s good.transactions_rise
