use Rattle.ktm_log.proofs.GoodOrBad.{one_kind}
use Rattle.ktm_log.proofs.laws.law_of_one_kind.Goals as goal

pub returns : goal.returns
returns c = one_kind
