use Rattle.std.proofs.Common.{◌∙◌, sym}
use Rattle.std.proofs.lemmas.List.{length-map}
use Rattle.txf_nodes.specs.NodesState.{node_by}
use Rattle.txf_nodes.proofs.table.NodeTable.len.Goals as goal

pub returns-clause-tree : goal.returns-clause-tree
returns-clause-tree g c = λ bytes. rw (← c.self.view_is) (c.len.ensures ∙ sym (length-map _ (node_by bytes)))
