use Rattle.std.proofs.Common.{All, length}
use Rattle.ktm_paged.specs.Paged.{LiesBelow}
use Rattle.ktm_world.specs.declared.recorded.Node.{Node}
use Rattle.ktm_world.specs.Tree.{bytes_or_none}
use Rattle.txf_tree.specs.TreeState.{tree_of}
use Rattle.ktm_restart.proofs.lying.files_lie_below.Given as goal

abbrev pub invariant-nodes : goal.invariant-nodes
invariant-nodes l = record {
  rest : All (λ (node : Node). LiesBelow l.count (bytes_or_none node.content)) l.nodes → All (λ (node : Node). LiesBelow l.count (bytes_or_none node.content)) (tree_of l.tree);
  back : All (λ (node : Node). LiesBelow l.count (bytes_or_none node.content)) (tree_of l.tree) → All (λ (node : Node). LiesBelow l.count (bytes_or_none node.content)) l.nodes;
}

abbrev pub decreases-nodes : goal.decreases-nodes
decreases-nodes l = length l.nodes
