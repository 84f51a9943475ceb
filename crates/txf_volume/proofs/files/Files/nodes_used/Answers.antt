use Rattle.std.proofs.Common.{arith}
use Rattle.txf_volume.proofs.Steady.{steady, nodes-now}
use Rattle.txf_volume.proofs.files.Files.nodes_used.Goals as goal

pub returns-clause-nodes : goal.returns-clause-nodes
returns-clause-nodes c =
    let now = nodes-now _ c.self.inside.units c.self.inside.counts c.self.invariant in
    rw (← c.self.view_is) (omega (arith, now, c.len.ensures))

pub returns-clause-steady : goal.returns-clause-steady
returns-clause-steady c = rw (← c.self.view_is) (steady _ c.self.inside.units c.self.inside.counts c.self.invariant)
