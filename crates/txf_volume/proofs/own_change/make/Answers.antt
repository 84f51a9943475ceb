use Rattle.ktm_world.specs.declared.change.Change.TheVariants.{Make}
use Rattle.txf_overlay.specs.OverlayState.{seen}
use Rattle.txf_overlay.proofs.Keeping.{short-from}
use Rattle.txf_volume.proofs.own_change.make.Goals as goal

pub hold_made-requires-clause-short : goal.hold_made-requires-clause-short
hold_made-requires-clause-short c =
    rw c.as_slice.ensures (short-from (seen c.requires.applies.0 c.args.overlay.now) (Make c.args.node c.args.parent c.args.kind c.args.name) c.requires.applies.2)
