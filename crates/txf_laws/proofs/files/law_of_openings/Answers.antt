use Rattle.txf_laws.proofs.offered.Openings.{opening_law}
use Rattle.txf_laws.proofs.files.law_of_openings.Goals as goal

pub returns : goal.returns
returns c = opening_law
