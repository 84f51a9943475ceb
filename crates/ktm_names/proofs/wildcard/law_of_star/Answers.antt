use Rattle.ktm_names.proofs.WalkLemmas.{star_law}
use Rattle.ktm_names.proofs.wildcard.law_of_star.Goals as goal

pub returns : goal.returns
returns c = star_law
