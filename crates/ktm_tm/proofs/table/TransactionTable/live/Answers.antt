use Rattle.std.proofs.Common.{ap, arith, length, ◌∙◌}
use Rattle.std.proofs.lemmas.List.Sums.{count_by-le-length, length-filter}
use Rattle.ktm_world.specs.Transactions.{is_live}
use Rattle.ktm_tm.specs.Table.{all_of}
use Rattle.ktm_tm.proofs.Kept.{as_many}
use Rattle.ktm_tm.proofs.table.TransactionTable.live.Goals as goal

pub returns-clause-few : goal.returns-clause-few
returns-clause-few c =
    let ts = all_of c.self.inside.boot c.self.inside.back.items c.self.inside.endings.items c.self.inside.live.items in
    omega (arith, c.self.invariant.4, as_many c.self.inside.endings.items ts c.self.invariant.0.endings_are, ap length (c.deref.ensures.value ∙ c.self.invariant.0.live_are), length-filter is_live ts, count_by-le-length is_live ts)
