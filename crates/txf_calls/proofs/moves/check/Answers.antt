use Rattle.std.proofs.Common.{arith}
use Rattle.std.proofs.lemmas.Grind.{common_steps}
use Rattle.txf_calls.proofs.moves.check.Goals as goal

pub check-requires : goal.check-requires
check-requires g c = grind (arith, common_steps)

pub check-requires-else-node : goal.check-requires-else-node
check-requires-else-node g c = grind (arith, common_steps)
