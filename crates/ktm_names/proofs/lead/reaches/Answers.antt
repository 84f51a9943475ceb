use Rattle.std.proofs.Common.{arith}
use Rattle.ktm_names.proofs.LeadLemmas.{at_end}
use Rattle.ktm_names.proofs.lead.reaches.Goals as goal

pub returns : goal.returns
returns c =
    at_end c.args.pattern.now c.args.name.now c.loop-index.index c.loop-index.invariant.same (omega (arith, c.loop-index-test.false))
    c.loop-index.invariant.within
