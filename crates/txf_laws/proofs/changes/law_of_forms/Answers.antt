use Rattle.txf_laws.proofs.offered.Formed.{formed_law}
use Rattle.txf_laws.proofs.changes.law_of_forms.Goals as goal

pub returns : goal.returns
returns c = formed_law (λ name is. (c.law_of_paths.ensures.0 name).0 is)
