use Rattle.ktm_world.proofs.Texts.{path_law}
use Rattle.ktm_world.proofs.laws.law_of_paths.Goals as goal

pub returns : goal.returns
returns c = path_law
