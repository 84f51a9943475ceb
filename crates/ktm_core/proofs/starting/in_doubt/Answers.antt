use Rattle.std.proofs.Common.{List, length, ap, arith}
use Rattle.ktm_world.specs.Durable.{Recorded, is_held}
use Rattle.ktm_records.proofs.offered.DurableLimits.{limits-kept}
use Rattle.txf_laws.proofs.offered.Elements.{length-filter-less}
use Rattle.ktm_core.proofs.starting.in_doubt.Goals as goal

pub overflow_cast-result : goal.overflow_cast-result
overflow_cast-result c =
    let less = length-filter-less (λ (t : Recorded). is_held t.stage) c.transactions.result.now in
    omega (arith, c.count_in_doubt.ensures, less, ap (λ (ts : List Recorded). length ts) c.transactions.ensures, (limits-kept c.args.state.now c.requires.limits).transactions)
