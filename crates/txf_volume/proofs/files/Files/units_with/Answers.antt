use Rattle.std.proofs.Common.{◌≡◌, ◌+◌, ◌-◌, ◌≤◌, Some, None, length, refl, ◌∙◌, ap, subst}
use Rattle.ktm_world.specs.declared.reply.Reply.TheVariants.{Done}
use Rattle.ktm_world.specs.Changes.{node_of}
use Rattle.ktm_world.specs.FileOutcome.{FileOutcome, files_after}
use Rattle.ktm_world.specs.FileUses.{units_used}
use Rattle.ktm_world.specs.Tree.{bytes_of}
use Rattle.txf_tree.specs.TreeState.{tree_of}
use Rattle.txf_volume.specs.Held.{FilesHeld, files_of}
use Rattle.txf_volume.proofs.Counted.{plain-sum}
use Rattle.txf_volume.proofs.files.Files.units_with.Goals as goal

sums : (c : goal.After-loss) (o : FileOutcome) → o.change ≡ Some c.args.change.now
    → (c.loss.result ≤ c.units_used.result + c.gain.result + c.kept.result) × (c.units_used.result + c.gain.result + c.kept.result - c.loss.result ≡ units_used (files_after (files_of c.args.self.now) None o))
sums c o is =
    let was = bytes_of (tree_of c.args.self.now.tree) (node_of c.args.change.now) in
    let size : c.size-was.result ≡ length was =
    subst (λ (h : FilesHeld). c.size-was.result ≡ length (bytes_of (tree_of h.tree) c.node_of.result)) c.self.view_is c.size-was.ensures
    ∙ ap (λ node. length (bytes_of (tree_of c.args.self.now.tree) node)) c.node_of.ensures in
    plain-sum c.args.self.now o c.args.change.now was c.units_used.result c.gain.result c.kept.result c.loss.result
    c.units_used.ensures.steady is c.requires refl c.units_used.ensures.units (c.gain.ensures.gain was size) c.kept.ensures.kept (c.loss.ensures.loss was size)

pub overflow_sub-result : goal.overflow_sub-result
overflow_sub-result c = (sums c (record { reply = Done; change = Some c.args.change.now; first = None; opened = None }) refl).0

pub returns : goal.returns
returns c = λ o is. (sums c o is).1
