use Rattle.std.proofs.Common.{arith}
use Rattle.ktm_world.proofs.offered.KeyLemmas.{length-counts}
use Rattle.ktm_waiting.proofs.amounts.count_unset.Goals as goal

pub overflow_sub-result : goal.overflow_sub-result
overflow_sub-result c = omega (arith, c.count_set.ensures, length-counts c.args.settings.now)

pub returns : goal.returns
returns c = omega (arith, c.count_set.ensures, length-counts c.args.settings.now)
