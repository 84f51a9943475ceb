use Rattle.txf_overlay.proofs.OtherTrees.{other_tree_law}
use Rattle.txf_overlay.proofs.laws.law_of_other_trees.Goals as goal

pub returns : goal.returns
returns c = other_tree_law
