use Rattle.txf_laws.proofs.offered.OwnGroups.{own_group_law}
use Rattle.txf_laws.proofs.states.law_of_own_groups.Goals as goal

pub returns : goal.returns
returns c = own_group_law
