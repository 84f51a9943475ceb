use Rattle.ktm_base.proofs.offered.Images.{sync_law}
use Rattle.ktm_base.proofs.laws.law_of_sync.Goals as goal

pub returns : goal.returns
returns c = sync_law
