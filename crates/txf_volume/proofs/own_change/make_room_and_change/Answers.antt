use Rattle.txf_tree.specs.TreeState.{tree_of}
use Rattle.txf_volume.proofs.TransactedParts.{bare-same, changed-from, units-from}
use Rattle.txf_volume.proofs.own_change.make_room_and_change.Goals as goal

pub change_overlay-requires-clause-units : goal.change_overlay-requires-clause-units
change_overlay-requires-clause-units c =
    units-from c.reserve.new.self c.args.overlay.now c.args.fixed c.args.change c.reserve.ensures.names c.reserve.ensures.written c.requires.units

pub returns-in-Err-clause-err : goal.returns-in-Err-clause-err
returns-in-Err-clause-err c = bare-same c.args.overlay.now c.reserve.new.self c.reserve.ensures.names c.reserve.ensures.held c.reserve.ensures.written

pub returns-clause-ok : goal.returns-clause-ok
returns-clause-ok c =
    changed-from (tree_of c.args.tree.now) c.args.fixed c.args.transaction c.args.change c.reserve.new.self c.args.overlay.now c.change_overlay.new.overlay
    c.args.reserve.now c.change_overlay.new.reserve c.reserve.ensures.names c.reserve.ensures.written c.in_default-change_overlay.ensures.ok
