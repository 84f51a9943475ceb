use Rattle.std.proofs.Common.{arith}
use Rattle.ktm_tm.proofs.Kept.{as_many}
use Rattle.ktm_tm.proofs.table.TransactionTable.made.Goals as goal

pub overflow_sub-result : goal.overflow_sub-result
overflow_sub-result c = omega (arith, c.self.invariant.0.listed.within, as_many c.self.inside.endings.items _ c.self.invariant.0.endings_are)
