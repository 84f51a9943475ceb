use Rattle.std.proofs.Common.{◌∙◌, ap}
use Rattle.txf_nodes.specs.Indexes.{with_now}
use Rattle.txf_nodes.specs.Places.{number_bytes}
use Rattle.txf_nodes.specs.NodesState.{NodesState}
use Rattle.txf_nodes.proofs.Numbering.{free_key, IsIndexed-put}
use Rattle.txf_nodes.proofs.nodes.Nodes.insert.Goals as goal

pub insert-requires-clause-free : goal.insert-requires-clause-free
insert-requires-clause-free g c =
    rw (c.number_bytes.ensures, c.number-number.ensures) (free_key _ _ c.args.node.number c.self.invariant.all (rw (← c.self.view_is) at c.requires.free))

pub invariant_of-self : goal.invariant_of-self
invariant_of-self g c =
    (IsIndexed-put _ _ _ _ c.push_spare-key.result c.insert.result c.args.node _ c.self.invariant (rw (← c.self.view_is) at c.requires.free)
    (c.number_bytes.ensures ∙ ap number_bytes c.number-number.ensures) c.push_spare-key.ensures.items c.push_spare-key.ensures.absent c.push_spare-key.ensures.named
    c.push_spare-key.ensures.others c.insert.ensures.entries).0

pub returns-clause-nodes : goal.returns-clause-nodes
returns-clause-nodes g c =
    (IsIndexed-put _ _ _ _ c.push_spare-key.result c.insert.result c.args.node _ c.self.invariant (rw (← c.self.view_is) at c.requires.free)
    (c.number_bytes.ensures ∙ ap number_bytes c.number-number.ensures) c.push_spare-key.ensures.items c.push_spare-key.ensures.absent c.push_spare-key.ensures.named
    c.push_spare-key.ensures.others c.insert.ensures.entries).1
    ∙ ap (λ (s : NodesState _). with_now s.nodes c.args.node) c.self.view_is
