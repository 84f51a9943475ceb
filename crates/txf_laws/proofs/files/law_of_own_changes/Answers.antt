use Rattle.txf_laws.proofs.offered.OwnChange.{own_change_law}
use Rattle.txf_laws.proofs.files.law_of_own_changes.Goals as goal

pub returns : goal.returns
returns c = own_change_law
