use Rattle.txf_saved.proofs.Numbers.{least_behind}
use Rattle.txf_saved.proofs.laws.law_of_next.Goals as goal

pub returns : goal.returns
returns c = least_behind
