use Rattle.std.proofs.Common.{◌∙◌, sym, ap, is_some}
use Rattle.txf_overlay.proofs.NodesSeen.{has_made-kind, made-none}
use Rattle.txf_overlay.proofs.overlay.Overlay.has_made.Goals as goal

pub returns-in-Some : goal.returns-in-Some
returns-in-Some c =
    let seen = c.self.invariant.nodes.there c.args.node c.in-Some.seen c.ranges.node.fits (sym c.in-Some.ensures) in
    rw (← c.self.view_is) (c.is_some.ensures ∙ ap is_some seen.made ∙ sym (has_made-kind c.self.inside.names.items c.args.node))

pub returns-in-None : goal.returns-in-None
returns-in-None c =
    let none = c.self.invariant.nodes.absent c.args.node c.ranges.node.fits (sym c.in-None.ensures) in
    rw (← c.self.view_is) (sym (has_made-kind c.self.inside.names.items c.args.node ∙ ap is_some (made-none c.self.inside.names.items c.args.node none)))
