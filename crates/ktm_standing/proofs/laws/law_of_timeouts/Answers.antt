use Rattle.ktm_standing.proofs.offered.Timeouts.{timeout_law}
use Rattle.ktm_standing.proofs.laws.law_of_timeouts.Goals as goal

pub returns : goal.returns
returns c = timeout_law
