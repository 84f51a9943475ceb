use Rattle.ktm_steps.proofs.offered.Fading.{fades-run}
use Rattle.ktm_steps.proofs.laws.law_of_fading.Goals as goal

pub returns : goal.returns
returns c = fades-run
