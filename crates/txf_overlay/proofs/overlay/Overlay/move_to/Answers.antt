use Rattle.std.proofs.Common.{◌≡◌, ◌∙◌, ◌++◌, ◌∷◌, [], length, refl, sym, ap, Some, None}
use Rattle.ktm_world.specs.declared.change.Change.TheVariants.{Move}
use Rattle.ktm_world.specs.Holds.{place}
use Rattle.ktm_world.specs.Tree.{node_at}
use Rattle.txf_tree.specs.TreeState.{tree_of}
use Rattle.txf_overlay.specs.Names.{place_bytes}
use Rattle.txf_overlay.specs.Nodes.{WasSeen}
use Rattle.txf_overlay.specs.OverlayState.{OverlayState, seen}
use Rattle.txf_overlay.specs.Views.{left_by, last_seat, or_before, seat, seat_at}
use Rattle.std.proofs.Common.{Option}
use Rattle.ktm_world.specs.declared.recorded.Node.{Node}
use Rattle.txf_overlay.specs.Maps.{under}
use Rattle.txf_overlay.proofs.Keeping.{count-move, kept-next, left-is, seat_at-under, set-seats, short-from, stands-after}
use Rattle.txf_overlay.proofs.NodesSeen.{next-move, was-seen}
use Rattle.txf_overlay.proofs.Trees.{Applies-from, is_there-some}
use Rattle.txf_overlay.proofs.overlay.Overlay.move_to.Goals as goal

pub child_name-to-requires : goal.child_name-to-requires
child_name-to-requires c =
    rw c.as_slice.ensures (short-from (seen (tree_of c.args.tree.now) c.args.self.now) (Move c.args.node c.args.parent c.args.name) c.requires.applies)

pub place_of-from-requires-clause-there : goal.place_of-from-requires-clause-there
place_of-from-requires-clause-there c =
    let parts = Applies-from (seen (tree_of c.args.tree.now) c.args.self.now) (Move c.args.node c.args.parent c.args.name) c.requires.applies in
    is_there-some (seen (tree_of c.args.tree.now) c.args.self.now) c.args.node parts.0 parts.1

pub invariant_of-self : goal.invariant_of-self
invariant_of-self c =
    let was : WasSeen c.self.inside.names.items c.args.node c.seen.result =
    was-seen c.self.inside.names.items c.self.inside.nodes.entries c.args.node c.seen.result c.self.invariant.nodes c.ranges.node.fits c.seen.ensures in
    let last : c.moved-after.result.last ≡ length c.self.inside.names.items = c.moved-after.ensures.last ∙ c.count.ensures ∙ ap length c.deref.ensures.value in
    kept-next c.self.inside.names.items c.push.new.names.items c.self.inside.nodes.entries c.set-3.new.map.entries c.self.inside.made
    c.self.inside.made (Move c.args.node c.args.parent c.args.name) c.number_bytes.result c.moved-after.result c.self.invariant c.push.ensures.names refl c.number_bytes.ensures
    c.set-3.ensures.under c.set-3.ensures.others
    (next-move c.self.inside.names.items c.args.node c.args.parent c.args.name c.seen.result c.moved-after.result was last c.moved-after.ensures.made
    c.moved-after.ensures.counted)
    (count-move c.self.inside.names.items c.self.inside.made c.args.node c.args.parent c.args.name c.self.invariant.count)

pub returns-clause-stands : goal.returns-clause-stands
returns-clause-stands c = λ formed.
    let node : Option Node = node_at (seen (tree_of c.args.tree.now) c.args.self.now) c.args.node in
    let to : c.child_name-to.result ≡ place_bytes (place c.args.parent c.args.name) = rw c.as_slice.ensures at c.child_name-to.ensures in
    let left : left_by node ≡ record { place = c.place_of-from.result; node = None } ∷ [] = left-is node c.place_of-from.result c.place_of-from.ensures in
    stands-after (tree_of c.args.tree.now) c.args.self.now _ (Move c.args.node c.args.parent c.args.name) c.requires.stands c.requires.applies formed
    (c.push.ensures.names ∙ ap (λ (o : OverlayState). o.names ++ Move c.args.node c.args.parent c.args.name ∷ []) c.self.view_is)
    (λ p.
    seat_at-under c.set-2.new.map.entries p
    ∙ set-seats c.self.inside.seats.entries c.set.new.map.entries c.set-2.new.map.entries c.place_of-from.result c.child_name-to.result None (Some c.args.node)
    c.set.ensures.under c.set.ensures.others c.set-2.ensures.under c.set-2.ensures.others p
    ∙ ap
    (λ q. or_before (last_seat (record { place = c.place_of-from.result; node = None } ∷ record { place = q; node = Some c.args.node } ∷ []) p)
    (under c.self.inside.seats.entries p)) to
    ∙ ap (λ ss. or_before (last_seat (ss ++ seat (place c.args.parent c.args.name) (Some c.args.node) ∷ []) p) (under c.self.inside.seats.entries p)) (sym left)
    ∙ ap (or_before (last_seat (left_by node ++ seat (place c.args.parent c.args.name) (Some c.args.node) ∷ []) p))
    (sym (seat_at-under c.self.inside.seats.entries p) ∙ ap (λ (o : OverlayState). seat_at o.held p) c.self.view_is))
