use Rattle.std.proofs.Common.{sym}
use Rattle.txf_overlay.proofs.NodesSeen.{made-none}
use Rattle.txf_overlay.proofs.overlay.Overlay.made_kind.Goals as goal

pub returns-in-Some-clause-kind : goal.returns-in-Some-clause-kind
returns-in-Some-clause-kind c =
    rw (← c.self.view_is) (c.self.invariant.nodes.there c.args.node c.in-Some.seen c.ranges.node.fits (sym c.in-Some.ensures)).made

pub returns-in-None-clause-kind : goal.returns-in-None-clause-kind
returns-in-None-clause-kind c =
    rw (← c.self.view_is)
    (sym (made-none c.self.inside.names.items c.args.node (c.self.invariant.nodes.absent c.args.node c.ranges.node.fits (sym c.in-None.ensures))))
