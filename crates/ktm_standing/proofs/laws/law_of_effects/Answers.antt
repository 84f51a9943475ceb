use Rattle.ktm_standing.proofs.offered.Effects.{effects_law}
use Rattle.ktm_standing.proofs.laws.law_of_effects.Goals as goal

pub returns : goal.returns
returns c = effects_law
