use Rattle.std.proofs.Common.{◌∙◌, ap, sym, option_and_then}
use Rattle.ktm_links.specs.Items.{value_at}
use Rattle.txf_nodes.proofs.Numbering.{now_at-under}
use Rattle.txf_nodes.proofs.nodes.Nodes.get.Goals as goal

pub returns-in-Some : goal.returns-in-Some
returns-in-Some g c =
    rw (← c.self.view_is)
    (c.get.ensures ∙ ap (option_and_then (value_at c.self.inside.nodes.items)) c.in-Some.ensures
    ∙ sym (now_at-under _ _ c.args.number c.self.invariant.all))

pub returns-in-None : goal.returns-in-None
returns-in-None g c =
    rw (← c.self.view_is)
    (ap (option_and_then (value_at c.self.inside.nodes.items)) c.in-None.ensures ∙ sym (now_at-under _ _ c.args.number c.self.invariant.all))
