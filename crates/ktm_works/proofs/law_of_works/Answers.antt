use Rattle.ktm_works.proofs.offered.Left.{works_law}
use Rattle.ktm_works.proofs.law_of_works.Goals as goal

pub returns : goal.returns
returns c = works_law c.law_of_lawful_worlds.ensures
