use Rattle.std.proofs.Common.{◌≡◌, Some, sym, ◌∙◌, subst}
use Rattle.std.specs.Option.{option_map}
use Rattle.ktm_world.specs.Tree.{node_at}
use Rattle.txf_overlay.specs.OverlayState.{seen}
use Rattle.txf_overlay.specs.Sight.{sight_of}
use Rattle.txf_tree.specs.TreeState.{tree_of}
use Rattle.txf_volume.specs.Held.{FilesHeld}
use Rattle.txf_volume.proofs.Sights.{sight-at}
use Rattle.txf_volume.proofs.files.Files.seen_over.Goals as goal

pub returns-in-Some : goal.returns-in-Some
returns-in-Some c =
    let node = subst (λ (h : FilesHeld). c.node.result ≡ option_map sight_of (node_at (seen (tree_of h.tree) c.args.overlay.now) c.args.number)) c.self.view_is c.node.ensures in
    sym (sight-at (seen (tree_of c.args.self.now.tree) c.args.overlay.now) c.args.number (Some c.in-Some.node) (sym c.in-Some.is ∙ node))
