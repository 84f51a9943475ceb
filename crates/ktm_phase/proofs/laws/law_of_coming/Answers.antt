use Rattle.ktm_phase.proofs.Coming.{coming_law}
use Rattle.ktm_phase.proofs.laws.law_of_coming.Goals as goal

pub returns : goal.returns
returns c = coming_law
