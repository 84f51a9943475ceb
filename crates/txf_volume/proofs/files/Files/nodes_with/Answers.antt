use Rattle.std.proofs.Common.{◌≡◌, ◌&&◌, Some, None, is_some, refl, ◌∙◌, ap, subst, arith}
use Rattle.ktm_world.specs.declared.reply.Reply.TheVariants.{Done}
use Rattle.ktm_world.specs.Changes.{is_drop, node_of}
use Rattle.ktm_world.specs.Tree.{node_at}
use Rattle.txf_tree.specs.TreeState.{tree_of}
use Rattle.txf_volume.specs.Held.{FilesHeld, files_of}
use Rattle.txf_volume.specs.Uses.{one_if}
use Rattle.txf_volume.proofs.OwnUses.{uses_law}
use Rattle.txf_volume.proofs.files.Files.nodes_with.Goals as goal

pub overflow_sub-result : goal.overflow_sub-result
overflow_sub-result c =
    let law = (uses_law.plain (files_of c.args.self.now) (record { reply = Done; change = Some c.args.change.now; first = None; opened = None }) c.args.change.now c.nodes_used.ensures.steady refl c.requires).nodes in
    let made = c.one_if.ensures.one ∙ ap one_if c.is_make.ensures in
    let dropped = c.one_if-2.ensures.one ∙ ap one_if (subst (λ (h : FilesHeld). c.drops_committed.result ≡ (is_drop c.args.change.now && is_some (node_at (tree_of h.tree) (node_of c.args.change.now)))) c.self.view_is c.drops_committed.ensures) in
    omega (arith, law, made, dropped, c.nodes_used.ensures.nodes)

pub returns : goal.returns
returns c = λ o is.
    let law = (uses_law.plain (files_of c.args.self.now) o c.args.change.now c.nodes_used.ensures.steady is c.requires).nodes in
    let made = c.one_if.ensures.one ∙ ap one_if c.is_make.ensures in
    let dropped = c.one_if-2.ensures.one ∙ ap one_if (subst (λ (h : FilesHeld). c.drops_committed.result ≡ (is_drop c.args.change.now && is_some (node_at (tree_of h.tree) (node_of c.args.change.now)))) c.self.view_is c.drops_committed.ensures) in
    omega (arith, law, made, dropped, c.nodes_used.ensures.nodes)
