use Rattle.ktm_log.proofs.GoodOrBad.{one_bad_log}
use Rattle.ktm_log.proofs.laws.law_of_bad_logs.Goals as goal

pub returns : goal.returns
returns c = one_bad_log
