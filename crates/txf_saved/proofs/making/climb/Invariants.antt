use Rattle.std.proofs.Common.{◌≡◌, ℕ, ◌+◌, length}
use Rattle.std.specs.Prelude.{reverse}
use Rattle.txf_saved.proofs.Ways.{Rest}
use Rattle.txf_saved.proofs.making.climb.Given as goal
use Rattle.txf_saved.specs.Making.{nodes_of, way_of, IsWay}
use Rattle.txf_tree.specs.TreeState.{tree_of}

abbrev pub invariant-up : goal.invariant-up
invariant-up l = record {
  way : IsWay (nodes_of l.nodes) (tree_of l.files.tree) l.number l.top (reverse (way_of l.way.items));
  left : ℕ;
  counted : left + l.counter ≡ length l.nodes + 1;
  rest : Rest (nodes_of l.nodes) l.top left;
}
