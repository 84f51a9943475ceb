use Rattle.ktm_snapshot.proofs.Placed.{part-one, size-part}
use Rattle.ktm_snapshot.proofs.laws.law_of_works.Goals as goal

pub returns : goal.returns
returns c = record { size = size-part; one = part-one }
