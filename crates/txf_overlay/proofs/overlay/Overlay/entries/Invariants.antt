use Rattle.std.proofs.Common.{◌≡◌, ◌+◌, ◌++◌, List, length, option_to_list}
use Rattle.txf_tree.specs.Children.{Shown, entries_in, matching}
use Rattle.txf_tree.specs.TreeState.{tree_of}
use Rattle.txf_tree.proofs.Reaching.{IsAhead}
use Rattle.txf_overlay.specs.Listing.{steps_left, IsStepped}
use Rattle.txf_overlay.specs.OverlayState.{seen}
use Rattle.txf_overlay.proofs.overlay.Overlay.entries.Given as goal

abbrev pub invariant-loop-step : goal.invariant-loop-step
invariant-loop-step l = record {
  left : List Shown;
  so_far : l.entries ++ matching l.pattern.last left ≡ matching l.pattern.last (entries_in (seen (tree_of l.tree) l.self) l.directory);
  ahead : IsAhead l.pattern.last left;
  stepped : IsStepped (tree_of l.tree) l.self l.directory l.children l.step left;
}

abbrev pub decreases-loop-step : goal.decreases-loop-step
decreases-loop-step l = steps_left l.self.held l.children l.step.seat + length (option_to_list l.step.entry)
