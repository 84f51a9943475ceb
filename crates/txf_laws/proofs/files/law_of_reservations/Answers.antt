use Rattle.txf_laws.proofs.offered.Reservations.{reservations_law}
use Rattle.txf_laws.proofs.files.law_of_reservations.Goals as goal

pub returns : goal.returns
returns c = reservations_law c.law_of_lists.ensures
