use Rattle.std.proofs.Common.{refl}
use Rattle.ktm_world.proofs.offered.Computing.{computed}
use Rattle.ktm_rows.proofs.rows.row_of_long_log.Goals as goal

pub returns : goal.returns
unfolding computed
returns c = refl
