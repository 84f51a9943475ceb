use Rattle.ktm_log.proofs.GoodOrBad.{some_kind}
use Rattle.ktm_log.proofs.laws.law_of_some_kind.Goals as goal

pub returns : goal.returns
returns c = some_kind
