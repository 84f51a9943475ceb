use Rattle.ktm_base.proofs.offered.Images.{seen_law}
use Rattle.ktm_base.proofs.laws.law_of_what_is_seen.Goals as goal

pub returns : goal.returns
returns c = seen_law
