use Rattle.std.proofs.Common.{◌≡◌, ◌∙◌, ◌++◌, ◌∷◌, [], length, refl, sym, ap, None}
use Rattle.ktm_world.specs.declared.change.Change.TheVariants.{Drop}
use Rattle.ktm_world.specs.Tree.{node_at}
use Rattle.txf_tree.specs.TreeState.{tree_of}
use Rattle.txf_overlay.specs.Nodes.{WasSeen}
use Rattle.txf_overlay.specs.OverlayState.{OverlayState, seen}
use Rattle.txf_overlay.specs.Views.{left_by, last_seat, or_before, seat_at}
use Rattle.std.proofs.Common.{Option}
use Rattle.ktm_world.specs.declared.recorded.Node.{Node}
use Rattle.txf_overlay.specs.Maps.{under}
use Rattle.txf_overlay.proofs.Keeping.{count-drop, counted-few, kept-next, left-is, seat_at-under, set-seat, stands-after}
use Rattle.txf_overlay.proofs.NodesSeen.{next-drop, was-seen}
use Rattle.txf_overlay.proofs.Trees.{Applies-from, is_there-some}
use Rattle.txf_overlay.proofs.overlay.Overlay.remove.Goals as goal

pub place_of-from-requires-clause-there : goal.place_of-from-requires-clause-there
place_of-from-requires-clause-there c =
    let parts = Applies-from (seen (tree_of c.args.tree.now) c.args.self.now) (Drop c.args.node) c.requires.applies in
    is_there-some (seen (tree_of c.args.tree.now) c.args.self.now) c.args.node parts.0 parts.1

pub less-self-inside-requires : goal.less-self-inside-requires
less-self-inside-requires c =
    counted-few c.self.inside.names.items c.self.inside.made c.args.node c.seen-before.result
    (was-seen c.self.inside.names.items c.self.inside.nodes.entries c.args.node c.seen-before.result c.self.invariant.nodes c.ranges.node.fits c.seen-before.ensures)
    c.self.invariant.count

pub invariant_of-self : goal.invariant_of-self
invariant_of-self c =
    let was : WasSeen c.self.inside.names.items c.args.node c.seen-before.result =
    was-seen c.self.inside.names.items c.self.inside.nodes.entries c.args.node c.seen-before.result c.self.invariant.nodes c.ranges.node.fits c.seen-before.ensures in
    let last : c.dropped-after.result.last ≡ length c.self.inside.names.items = c.dropped-after.ensures.last ∙ c.count.ensures ∙ ap length c.deref.ensures.value in
    kept-next c.self.inside.names.items c.push.new.names.items c.self.inside.nodes.entries c.set-2.new.map.entries c.self.inside.made
    c.less-self-inside.result (Drop c.args.node) c.number_bytes.result c.dropped-after.result c.self.invariant c.push.ensures.names refl c.number_bytes.ensures
    c.set-2.ensures.under c.set-2.ensures.others
    (next-drop c.self.inside.names.items c.args.node c.seen-before.result c.dropped-after.result was last c.dropped-after.ensures.made
    c.dropped-after.ensures.counted)
    (count-drop c.self.inside.names.items c.self.inside.made c.less-self-inside.result c.args.node c.seen-before.result was c.self.invariant.count
    c.less-self-inside.ensures)

pub returns-clause-stands : goal.returns-clause-stands
returns-clause-stands c = λ formed.
    let node : Option Node = node_at (seen (tree_of c.args.tree.now) c.args.self.now) c.args.node in
    let left : left_by node ≡ record { place = c.place_of-from.result; node = None } ∷ [] = left-is node c.place_of-from.result c.place_of-from.ensures in
    stands-after (tree_of c.args.tree.now) c.args.self.now _ (Drop c.args.node) c.requires.stands c.requires.applies formed
    (c.push.ensures.names ∙ ap (λ (o : OverlayState). o.names ++ Drop c.args.node ∷ []) c.self.view_is)
    (λ p.
    seat_at-under c.set.new.map.entries p
    ∙ set-seat c.self.inside.seats.entries c.set.new.map.entries c.place_of-from.result None c.set.ensures.under c.set.ensures.others p
    ∙ ap (λ ss. or_before (last_seat ss p) (under c.self.inside.seats.entries p)) (sym left)
    ∙ ap (or_before (last_seat (left_by node) p))
    (sym (seat_at-under c.self.inside.seats.entries p) ∙ ap (λ (o : OverlayState). seat_at o.held p) c.self.view_is))
