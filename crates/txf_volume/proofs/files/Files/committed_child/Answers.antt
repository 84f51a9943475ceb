use Rattle.std.proofs.Common.{◌≡◌, Some, sym, ◌∙◌, subst}
use Rattle.std.specs.Option.{option_map}
use Rattle.ktm_world.specs.declared.recorded.Node.{Node}
use Rattle.ktm_world.specs.Tree.{IsWellFormed, child_of}
use Rattle.txf_tree.specs.TreeState.{tree_of}
use Rattle.txf_volume.specs.Held.{FilesHeld}
use Rattle.txf_volume.proofs.Sights.{child-at}
use Rattle.txf_volume.proofs.files.Files.committed_child.Goals as goal

pub returns-in-Some : goal.returns-in-Some
returns-in-Some c =
    let formed = subst (λ (h : FilesHeld). IsWellFormed (tree_of h.tree)) c.self.view_is c.self.invariant.formed in
    let child = subst (λ (h : FilesHeld). c.child.result ≡ option_map (λ (node : Node). node.number) (child_of (tree_of h.tree) c.args.directory c.args.name.now)) c.self.view_is c.child.ensures in
    c.committed.ensures ∙ sym (child-at (tree_of c.args.self.now.tree) formed c.args.directory c.args.name.now (Some c.in-Some.number) (sym c.in-Some.is ∙ child))
