use Rattle.std.proofs.Common.{◌∙◌, ap, sym}
use Rattle.ktm_world.specs.declared.change.Change.TheVariants.{Make}
use Rattle.ktm_world.specs.Changes.{applies}
use Rattle.txf_tree.specs.TreeState.{tree_of}
use Rattle.txf_overlay.specs.OverlayState.{seen}
use Rattle.txf_overlay.proofs.overlay.Overlay.applies.Goals as goal

pub returns-in-Make : goal.returns-in-Make
returns-in-Make c =
    c.may_make.ensures c.in-Make.kind
    ∙ ap (λ name. applies (seen (tree_of c.args.tree.now) c.args.self.now) (Make c.in-Make.node c.in-Make.parent c.in-Make.kind name)) c.as_slice.ensures
    ∙ ap (applies (seen (tree_of c.args.tree.now) c.args.self.now)) (sym c.in-Make.is)
