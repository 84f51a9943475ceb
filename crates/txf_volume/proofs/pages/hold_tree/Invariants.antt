use Rattle.std.proofs.Common.{length, sum_by}
use Rattle.ktm_store.proofs.offered.HoldingContents.{HoldsUpTo}
use Rattle.ktm_world.specs.Tree.{units_of}
use Rattle.txf_tree.specs.TreeState.{tree_of}
use Rattle.txf_volume.specs.Pages.{tree_contents}
use Rattle.txf_volume.proofs.pages.hold_tree.Given as goal

-- the pages of the nodes that are not left are held
abbrev pub invariant-nodes : goal.invariant-nodes
invariant-nodes l = HoldsUpTo (tree_contents (tree_of l.tree)) (tree_contents l.left) (sum_by units_of (tree_contents (tree_of l.tree))) l.fn.store l.store

abbrev pub decreases-nodes : goal.decreases-nodes
decreases-nodes l = length l.left
