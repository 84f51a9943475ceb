use Rattle.std.proofs.Common.{arith, sym, ◌∙◌}
use Rattle.ktm_tm.proofs.LiveCounts.{live-of-two}
use Rattle.ktm_tm.proofs.live.live_in_either.Goals as goal

pub returns-clause-live : goal.returns-clause-live
returns-clause-live c =
    let two = live-of-two c.args.transactions.now.items c.args.one c.args.other c.args.enlistments.now.enlistments (sym c.eq.ensures ∙ c.if-eq.false) in
    omega (arith, c.live_in-live.ensures.live, c.live_in.ensures.live, two)
