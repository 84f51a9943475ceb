use Rattle.ktm_world.specs.declared.change.Change.TheVariants.{Move}
use Rattle.txf_overlay.specs.OverlayState.{seen}
use Rattle.txf_overlay.proofs.Keeping.{short-from}
use Rattle.txf_tree.specs.TreeState.{tree_of}
use Rattle.txf_volume.proofs.own_change.move_to.Goals as goal

pub hold_moved-requires-clause-short_to : goal.hold_moved-requires-clause-short_to
hold_moved-requires-clause-short_to c =
    rw c.as_slice.ensures (short-from (seen (tree_of c.args.tree.now) c.args.overlay.now) (Move c.args.node c.args.parent c.args.name) c.requires.applies)
