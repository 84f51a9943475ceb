use Rattle.std.proofs.Common.{◌∙◌, sym}
use Rattle.txf_nodes.proofs.Numbering.{length-nodes_of}
use Rattle.txf_nodes.proofs.nodes.Nodes.len.Goals as goal

pub returns : goal.returns
returns g c = rw (← c.self.view_is) (c.len.ensures ∙ c.self.invariant.count ∙ sym (length-nodes_of _ _ c.self.invariant.all))
