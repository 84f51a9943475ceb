use Rattle.std.proofs.Common.{◌∙◌, ap, sym, option_and_then}
use Rattle.ktm_links.specs.Items.{value_at}
use Rattle.txf_nodes.specs.Indexes.{without_now}
use Rattle.txf_nodes.specs.NodesState.{NodesState}
use Rattle.txf_nodes.proofs.Numbering.{now_at-under, unnumbered, IsIndexed-without}
use Rattle.txf_nodes.proofs.nodes.Nodes.remove.Goals as goal

pub invariant_of-self : goal.invariant_of-self
invariant_of-self g c =
    (IsIndexed-without _ _ _ _ c.in-Some.key c.args.number c.self.invariant (sym c.in-Some.ensures) c.unlink.ensures.items c.unlink.ensures.others
    (rw c.number_bytes.ensures at c.remove.ensures.entries)).0

pub returns-in-Some-clause-node : goal.returns-in-Some-clause-node
returns-in-Some-clause-node g c =
    rw (← c.self.view_is)
    (c.unlink.ensures.value ∙ ap (option_and_then (value_at c.self.inside.nodes.items)) c.in-Some.ensures
    ∙ sym (now_at-under _ _ c.args.number c.self.invariant.all))

pub returns-in-Some-clause-nodes : goal.returns-in-Some-clause-nodes
returns-in-Some-clause-nodes g c =
    (IsIndexed-without _ _ _ _ c.in-Some.key c.args.number c.self.invariant (sym c.in-Some.ensures) c.unlink.ensures.items c.unlink.ensures.others
    (rw c.number_bytes.ensures at c.remove.ensures.entries)).1
    ∙ ap (λ (s : NodesState _). without_now s.nodes c.args.number) c.self.view_is

pub returns-in-None-clause-node : goal.returns-in-None-clause-node
returns-in-None-clause-node g c = rw (← c.self.view_is) (sym (unnumbered _ _ c.args.number c.self.invariant.all (sym c.in-None.ensures)).0)

pub returns-in-None-clause-nodes : goal.returns-in-None-clause-nodes
returns-in-None-clause-nodes g c = rw (← c.self.view_is) ((unnumbered _ _ c.args.number c.self.invariant.all (sym c.in-None.ensures)).1)
