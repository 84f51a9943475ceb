use Rattle.txf_laws.proofs.offered.FirstOpening.{first_opening_law}
use Rattle.txf_laws.proofs.files.law_of_first_openings.Goals as goal

pub returns : goal.returns
returns c = first_opening_law
