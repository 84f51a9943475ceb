use Rattle.ktm_records.proofs.Rollbacks.{rollbacks_law}
use Rattle.ktm_records.proofs.records.law_of_rollbacks.Goals as goal

pub returns : goal.returns
returns c = rollbacks_law
