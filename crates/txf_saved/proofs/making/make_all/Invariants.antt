use Rattle.std.proofs.Common.{◌≡◌, ℕ, ◌<◌, [], get_or, is_some, true}
use Rattle.ktm_snapshot.specs.declared.node.ReadNode.{ReadNode}
use Rattle.ktm_world.specs.Tree.{node_at}
use Rattle.txf_saved.proofs.making.make_all.Given as goal
use Rattle.txf_saved.specs.Making.{nodes_of, ArePart}
use Rattle.txf_tree.specs.TreeState.{tree_of}

abbrev pub invariant-nodes : goal.invariant-nodes
invariant-nodes l = record {
  part : ArePart (nodes_of l.nodes) l.files;
  empty : l.way.items ≡ [];
  made : (k : ℕ) (d : ReadNode) → k < l.node-index → is_some (node_at (tree_of l.files.tree) (get_or l.nodes k d).number) ≡ true;
}
