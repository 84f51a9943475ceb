use Rattle.txf_laws.proofs.offered.Lists.{lists_law}
use Rattle.txf_laws.proofs.changes.law_of_lists.Goals as goal

pub returns : goal.returns
returns c = lists_law c.law_of_diamonds.ensures c.law_of_forms.ensures.0
