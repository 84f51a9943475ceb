use Rattle.ktm_world.proofs.offered.Worlds.{step_law}
use Rattle.ktm_world.proofs.laws.law_of_step.Goals as goal

pub returns : goal.returns
returns c = step_law
