use Rattle.std.proofs.Common.{◌≡◌, ◌+◌, ◌≤◌, true, length, drop}
use Rattle.ktm_world.specs.Changes.{changes_apply}
use Rattle.txf_durable.specs.Recorded.{are_names}
use Rattle.txf_durable.specs.Waiting.{is_met}
use Rattle.txf_overlay.specs.OverlayState.{seen}
use Rattle.txf_overlay.specs.Views.{StandsOver}
use Rattle.txf_tree.specs.TreeState.{tree_of}
use Rattle.txf_durable.proofs.waiting.Waiting.meets_over.Given as goal

abbrev pub invariant-loop-change : goal.invariant-loop-change
invariant-loop-change l = record {
  stands : StandsOver (tree_of l.tree) l.overlay;
  apply : changes_apply (seen (tree_of l.tree) l.overlay) (drop l.change-index l.names) ≡ true;
  are : are_names (drop l.change-index l.names) ≡ true;
  room : length l.names ≤ l.overlay.spare + l.change-index;
  met : is_met l.self l.who (seen (tree_of l.tree) l.overlay) (drop l.change-index l.names) ≡ is_met l.self l.who (seen (tree_of l.tree) l.fn.overlay) l.names;
}
