use Rattle.ktm_world.proofs.offered.Worlds.{refusal_law}
use Rattle.ktm_world.proofs.laws.law_of_refusals.Goals as goal

pub returns : goal.returns
returns c = refusal_law
