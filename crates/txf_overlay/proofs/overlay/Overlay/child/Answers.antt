use Rattle.std.proofs.Common.{◌∙◌, sym}
use Rattle.ktm_world.specs.Holds.{each_change, place}
use Rattle.txf_tree.specs.TreeState.{tree_of}
use Rattle.txf_overlay.specs.Names.{place_bytes}
use Rattle.txf_overlay.specs.OverlayState.{seen}
use Rattle.txf_overlay.specs.Views.{seats_of}
use Rattle.txf_overlay.proofs.Views.{child-held, child-is, child-long, seated, IsOneEach-from}
use Rattle.txf_overlay.proofs.overlay.Overlay.child.Goals as goal

pub returns-then-name-gt-MOST_NAME_BYTES : goal.returns-then-name-gt-MOST_NAME_BYTES
returns-then-name-gt-MOST_NAME_BYTES c =
    child-long (seen (tree_of c.args.tree.now) c.args.self.now) c.args.directory c.args.name.now c.requires.after c.if-name-gt-MOST_NAME_BYTES.true

pub returns-in-Some : goal.returns-in-Some
returns-in-Some c =
    let tree = tree_of c.args.tree.now in
    let seats = seated c.args.self.now.names tree c.seat.ensures.only c.requires.applies (IsOneEach-from tree c.requires.before) in
    let is = child-is tree (seen tree c.args.self.now) c.args.directory c.args.name.now (each_change seats_of tree c.args.self.now.names) c.requires.before c.requires.after seats in
    child-held tree (seen tree c.args.self.now) c.args.directory c.args.name.now (each_change seats_of tree c.args.self.now.names) c.in-Some.node is
    (sym (c.requires.held (place_bytes (place c.args.directory c.args.name.now))) ∙ sym c.in-Some.ensures.seat)

pub returns-in-None : goal.returns-in-None
returns-in-None c =
    let tree = tree_of c.args.tree.now in
    let seats = seated c.args.self.now.names tree c.seat.ensures.only c.requires.applies (IsOneEach-from tree c.requires.before) in
    let is = child-is tree (seen tree c.args.self.now) c.args.directory c.args.name.now (each_change seats_of tree c.args.self.now.names) c.requires.before c.requires.after seats in
    c.child.ensures ∙ is.kept (sym (c.requires.held (place_bytes (place c.args.directory c.args.name.now))) ∙ sym c.in-None.ensures.seat)
