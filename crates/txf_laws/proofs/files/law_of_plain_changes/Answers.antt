use Rattle.txf_laws.proofs.offered.PlainChange.{plain_change_law}
use Rattle.txf_laws.proofs.files.law_of_plain_changes.Goals as goal

pub returns : goal.returns
returns c = plain_change_law c.law_of_lists.ensures c.law_of_forms.ensures
