use Rattle.txf_laws.proofs.offered.NormalForms.{final_changes_law}
use Rattle.txf_laws.proofs.changes.law_of_final_changes.Goals as goal

pub returns : goal.returns
returns c = final_changes_law
