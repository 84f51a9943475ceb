use Rattle.std.proofs.Common.{◌≤◌, List}
use Rattle.txf_tree.specs.Children.{Shown}
use Rattle.txf_tree.specs.TreeState.{tree_of}
use Rattle.txf_overlay.specs.Listing.{seats_left, steps_left, IsReached}
use Rattle.txf_overlay.proofs.overlay.Overlay.step.Given as goal

abbrev pub invariant-loop-seat : goal.invariant-loop-seat
invariant-loop-seat l = record {
  some : (left : List Shown) × IsReached (tree_of l.tree) l.self l.directory l.children l.seat left;
  same :
      (left : List Shown) → IsReached (tree_of l.tree) l.self l.directory l.fn.children l.fn.seat left
      → IsReached (tree_of l.tree) l.self l.directory l.children l.seat left;
  fewer : steps_left l.self.held l.children l.seat ≤ steps_left l.self.held l.fn.children l.fn.seat;
}

abbrev pub decreases-loop-seat : goal.decreases-loop-seat
decreases-loop-seat l = seats_left l.self.held l.seat
