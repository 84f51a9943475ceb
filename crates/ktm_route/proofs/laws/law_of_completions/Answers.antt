use Rattle.ktm_route.proofs.NoneTakes.{none_takes}
use Rattle.ktm_route.proofs.laws.law_of_completions.Goals as goal

pub returns : goal.returns
returns c = none_takes
