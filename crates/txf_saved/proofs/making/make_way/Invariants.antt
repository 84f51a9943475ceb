use Rattle.std.proofs.Common.{ℕ, length}
use Rattle.ktm_world.specs.Tree.{Tree}
use Rattle.txf_saved.proofs.making.make_way.Given as goal
use Rattle.txf_saved.specs.Making.{Awaits, Keeps}
use Rattle.txf_tree.specs.TreeState.{tree_of}

abbrev pub invariant-down : goal.invariant-down
invariant-down l =
    (nodes : Tree) (number : ℕ) → Awaits nodes number l.initial.files l.initial.way.items
    → Awaits nodes number l.files l.way.items × Keeps (tree_of l.initial.files.tree) (tree_of l.files.tree)

abbrev pub decreases-down : goal.decreases-down
decreases-down l = length l.way.items
