use Rattle.ktm_base.proofs.offered.Images.{safe_law}
use Rattle.ktm_base.proofs.laws.law_of_what_is_safe.Goals as goal

pub returns : goal.returns
returns c = safe_law
