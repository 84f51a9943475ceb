use Rattle.ktm_phase.proofs.Calls.{calls_law}
use Rattle.ktm_phase.proofs.laws.law_of_calls.Goals as goal

pub returns : goal.returns
returns c = calls_law
