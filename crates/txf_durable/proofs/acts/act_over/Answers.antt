use Rattle.ktm_world.specs.declared.change.Change.TheVariants.{Make, Move}
use Rattle.txf_overlay.specs.OverlayState.{seen}
use Rattle.txf_overlay.proofs.Keeping.{short-from}
use Rattle.txf_tree.specs.TreeState.{tree_of}
use Rattle.txf_durable.proofs.acts.act_over.Goals as goal

pub moving-requires-clause-short : goal.moving-requires-clause-short
moving-requires-clause-short c =
    rw c.as_slice-in-Move.ensures (short-from (seen (tree_of c.args.tree.now) c.args.overlay.now) (Move c.in-Move.node c.in-Move.parent c.in-Move.name) (rw c.in-Move.is at c.requires.applies))

pub making-requires : goal.making-requires
making-requires c =
    rw c.as_slice.ensures (short-from (seen (tree_of c.args.tree.now) c.args.overlay.now) (Make c.in-Make.node c.in-Make.parent c.in-Make.kind c.in-Make.name) (rw c.in-Make.is at c.requires.applies))
