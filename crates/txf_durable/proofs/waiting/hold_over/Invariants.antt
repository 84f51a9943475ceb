use Rattle.std.proofs.Common.{◌≡◌, ◌+◌, ◌≤◌, true, length, take, drop}
use Rattle.ktm_world.specs.Changes.{changes_apply}
use Rattle.txf_durable.specs.Recorded.{are_names}
use Rattle.txf_durable.specs.Waiting.{HoldsChanges}
use Rattle.txf_overlay.specs.OverlayState.{seen}
use Rattle.txf_overlay.specs.Views.{StandsOver}
use Rattle.txf_tree.specs.TreeState.{tree_of}
use Rattle.txf_durable.proofs.waiting.hold_over.Given as goal

abbrev pub invariant-loop-change : goal.invariant-loop-change
invariant-loop-change l = record {
  stands : StandsOver (tree_of l.tree) l.overlay;
  names : l.overlay.names ≡ take l.change-index l.names;
  apply : changes_apply (seen (tree_of l.tree) l.overlay) (drop l.change-index l.names) ≡ true;
  are : are_names (drop l.change-index l.names) ≡ true;
  room : length l.names ≤ l.overlay.spare + l.change-index;
  spare : l.fn.reserve.spare ≤ l.reserve.spare + l.change-index;
  holds : HoldsChanges (tree_of l.tree) (take l.change-index l.names) l.transaction l.fn.reserve l.reserve;
}
