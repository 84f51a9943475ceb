use Rattle.txf_laws.proofs.offered.Diamonds.{diamond_law}
use Rattle.txf_laws.proofs.changes.law_of_diamonds.Goals as goal

pub returns : goal.returns
returns c = diamond_law
