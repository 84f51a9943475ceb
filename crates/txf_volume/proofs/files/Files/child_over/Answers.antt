use Rattle.std.proofs.Common.{◌≡◌, Some, sym, ◌∙◌, subst}
use Rattle.std.specs.Option.{option_map}
use Rattle.ktm_world.specs.declared.recorded.Node.{Node}
use Rattle.ktm_world.specs.Tree.{child_of}
use Rattle.txf_overlay.specs.OverlayState.{seen}
use Rattle.txf_tree.specs.TreeState.{tree_of}
use Rattle.txf_volume.specs.Held.{FilesHeld}
use Rattle.txf_volume.proofs.Sights.{child-at}
use Rattle.txf_volume.proofs.files.Files.child_over.Goals as goal

pub returns-in-Some : goal.returns-in-Some
returns-in-Some c =
    let child = subst (λ (h : FilesHeld). c.child.result ≡ option_map (λ (node : Node). node.number) (child_of (seen (tree_of h.tree) c.args.overlay.now) c.args.directory c.args.name.now)) c.self.view_is c.child.ensures in
    c.seen_over.ensures ∙ sym (child-at (seen (tree_of c.args.self.now.tree) c.args.overlay.now) c.requires.after c.args.directory c.args.name.now (Some c.in-Some.number) (sym c.in-Some.is ∙ child))
