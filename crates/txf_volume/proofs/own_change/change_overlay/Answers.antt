use Rattle.ktm_world.specs.declared.change.Change.TheVariants.{Make, Move, Drop}
use Rattle.txf_overlay.specs.OverlayState.{seen}
use Rattle.txf_tree.specs.TreeState.{tree_of}
use Rattle.txf_volume.proofs.TransactedParts.{on_ok}
use Rattle.txf_volume.proofs.own_change.change_overlay.Goals as goal

pub returns-in-Make-clause-ok : goal.returns-in-Make-clause-ok
returns-in-Make-clause-ok c =
    let tree = seen (tree_of c.args.tree.now) c.args.overlay.now in
    let applies = rw c.in-Make.is at c.requires.applies in
    rw c.in-Make.is (c.make.ensures (tree_of c.args.tree.now) c.args.fixed c.requires.stands applies (c.law_of_forms.ensures.0 tree (Make c.in-Make.node c.in-Make.parent c.in-Make.kind c.in-Make.name) c.requires.stands.after applies))

pub returns-in-Cut-clause-ok : goal.returns-in-Cut-clause-ok
returns-in-Cut-clause-ok c = rw c.in-Cut.is (on_ok c.cut.result c.cut.ensures.ok (λ changed. changed (tree_of c.args.tree.now) c.in-Cut.pages c.requires.stands))

pub returns-in-Move-clause-ok : goal.returns-in-Move-clause-ok
returns-in-Move-clause-ok c =
    let tree = seen (tree_of c.args.tree.now) c.args.overlay.now in
    let applies = rw c.in-Move.is at c.requires.applies in
    rw c.in-Move.is (c.move_to.ensures c.args.fixed (c.law_of_forms.ensures.0 tree (Move c.in-Move.node c.in-Move.parent c.in-Move.name) c.requires.stands.after applies))

pub returns-clause-ok : goal.returns-clause-ok
returns-clause-ok c =
    let tree = seen (tree_of c.args.tree.now) c.args.overlay.now in
    let applies = rw c.in-Drop.is at c.requires.applies in
    rw c.in-Drop.is (c.remove.ensures c.args.fixed (c.law_of_forms.ensures.0 tree (Drop c.in-Drop.node) c.requires.stands.after applies))
