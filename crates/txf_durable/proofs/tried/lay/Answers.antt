use Rattle.std.proofs.Common.{◌∙◌, sym, ap}
use Rattle.ktm_world.specs.declared.change.Change.TheVariants.{Move}
use Rattle.ktm_world.specs.Changes.{applies}
use Rattle.txf_overlay.specs.OverlayState.{seen}
use Rattle.txf_tree.specs.TreeState.{tree_of}
use Rattle.txf_durable.proofs.tried.lay.Goals as goal

pub returns-in_ok-copy-in-Move-clause-stands : goal.returns-in_ok-copy-in-Move-clause-stands
returns-in_ok-copy-in-Move-clause-stands c =
    let tree = seen (tree_of c.args.tree.now) c.args.overlay.now in
    c.move_to.ensures.stands (c.law_of_forms.ensures.0 tree (Move c.in-Move.node c.in-Move.parent c.in_ok-copy-in-Move.field-0) c.requires.stands.after
    (rw c.in_ok-copy-in-Move.ensures (ap (applies tree) (sym c.in-Move.is) ∙ c.requires.applies)))
