use Rattle.ktm_room.proofs.StateSizes.{snapshots_law}
use Rattle.ktm_room.proofs.room.law_of_snapshots.Goals as goal

pub returns : goal.returns
returns c = snapshots_law
