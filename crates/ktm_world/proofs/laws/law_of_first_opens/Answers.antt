use Rattle.ktm_world.proofs.offered.Worlds.{first_opens_law}
use Rattle.ktm_world.proofs.laws.law_of_first_opens.Goals as goal

pub returns : goal.returns
returns c = first_opens_law
