use Rattle.std.proofs.Common.{◌≡◌, ◌+◌, ◌-◌}
use Rattle.ktm_world.specs.Tree.{is_at_or_below}
use Rattle.txf_tree.specs.TreeState.{tree_of}
use Rattle.txf_overlay.specs.OverlayState.{seen}
use Rattle.txf_overlay.proofs.Upward.{is_up}
use Rattle.txf_overlay.proofs.overlay.Overlay.is_at_or_below.Given as goal

abbrev pub invariant-loop : goal.invariant-loop
invariant-loop l = is_at_or_below (seen (tree_of l.tree) l.self) l.number l.other ≡ is_up (seen (tree_of l.tree) l.self) l.at l.other (l.most - l.counter + 1)
