use Rattle.std.proofs.Common.{length}
use Rattle.ktm_base.specs.Grammar.{IsU32}
use Rattle.ktm_snapshot.specs.Sizes.{node_size}
use Rattle.ktm_snapshot.specs.StateGrammar.{IsNodeOf}
use Rattle.txf_tree.specs.TreeState.{tree_of}
use Rattle.ktm_saving.proofs.Lists.{ArePartly}
use Rattle.ktm_saving.proofs.nodes.write_nodes.Given as goal

abbrev pub invariant-nodes : goal.invariant-nodes
invariant-nodes l = ArePartly (IsU32 (length (tree_of l.tree))) IsNodeOf node_size 4 (tree_of l.tree) l.nodes l.fn.out l.out

abbrev pub decreases-nodes : goal.decreases-nodes
decreases-nodes l = length l.nodes
