use Rattle.std.proofs.Common.{◌≡◌, ◌+◌, ◌∙◌, ◌++◌, ◌∷◌, [], length, refl, sym, ap, Some, arith}
use Rattle.ktm_world.specs.declared.change.Change.TheVariants.{Make}
use Rattle.ktm_world.specs.Holds.{place}
use Rattle.txf_overlay.specs.Names.{place_bytes}
use Rattle.txf_overlay.specs.Nodes.{times_made}
use Rattle.txf_overlay.specs.OverlayState.{OverlayState, seen}
use Rattle.txf_overlay.specs.Views.{if_at, or_before, seat, seat_at}
use Rattle.std.proofs.lemmas.List.{length_push}
use Rattle.txf_overlay.specs.Maps.{under}
use Rattle.txf_overlay.proofs.Keeping.{count-make, few-made, kept-next, seat_at-under, set-seat, short-from, stands-after, times-absent}
use Rattle.txf_overlay.proofs.NodesSeen.{next-make}
use Rattle.txf_overlay.proofs.Trees.{Applies-from, is_there-none}
use Rattle.txf_overlay.proofs.overlay.Overlay.make.Goals as goal

pub child_name-place-requires : goal.child_name-place-requires
child_name-place-requires c =
    rw c.as_slice.ensures (short-from (seen c.requires.applies.0 c.args.self.now) (Make c.args.node c.args.parent c.args.kind c.args.name) c.requires.applies.2)

pub one_more-self-inside-requires : goal.one_more-self-inside-requires
one_more-self-inside-requires c =
    let long : length c.push.new.names.items ≡ length c.self.inside.names.items + 1 =
    ap length c.push.ensures.names ∙ length_push c.self.inside.names.items (Make c.args.node c.args.parent c.args.kind c.args.name) in
    let most : c.count.result ≡ length c.push.new.names.items = c.count.ensures ∙ ap length c.deref-2.ensures.value in
    omega (arith, long, most, few-made c.self.inside.names.items, c.self.invariant.count)

pub invariant_of-self : goal.invariant_of-self
invariant_of-self c =
    let parts = Applies-from (seen c.requires.applies.0 c.args.self.now) (Make c.args.node c.args.parent c.args.kind c.args.name) c.requires.applies.2 in
    let new : times_made c.self.inside.names.items c.args.node ≡ 0 =
    ap (λ (o : OverlayState). times_made o.names c.args.node) c.self.view_is
    ∙ times-absent c.args.self.now.names c.requires.applies.0 c.args.node c.requires.applies.1.applies
    (is_there-none (seen c.requires.applies.0 c.args.self.now) c.args.node parts.0) in
    let last : c.count-last.result ≡ length c.self.inside.names.items = c.count-last.ensures ∙ ap length c.deref.ensures.value in
    kept-next c.self.inside.names.items c.push.new.names.items c.self.inside.nodes.entries c.set-2.new.map.entries c.self.inside.made
    c.one_more-self-inside.result (Make c.args.node c.args.parent c.args.kind c.args.name) c.number_bytes.result _ c.self.invariant c.push.ensures.names refl c.number_bytes.ensures
    c.set-2.ensures.under c.set-2.ensures.others
    (next-make c.self.inside.names.items c.args.node c.args.parent c.args.kind c.args.name _ last refl refl new)
    (count-make c.self.inside.names.items c.self.inside.made c.one_more-self-inside.result c.args.node c.args.parent c.args.kind c.args.name
    c.self.invariant.count c.one_more-self-inside.ensures)

pub returns-clause-stands : goal.returns-clause-stands
returns-clause-stands c = λ tree stands is formed.
    let at : c.child_name-place.result ≡ place_bytes (place c.args.parent c.args.name) = rw c.as_slice.ensures at c.child_name-place.ensures in
    stands-after tree c.args.self.now _ (Make c.args.node c.args.parent c.args.kind c.args.name) stands is formed
    (c.push.ensures.names ∙ ap (λ (o : OverlayState). o.names ++ Make c.args.node c.args.parent c.args.kind c.args.name ∷ []) c.self.view_is)
    (λ p.
    seat_at-under c.set.new.map.entries p
    ∙ set-seat c.self.inside.seats.entries c.set.new.map.entries c.child_name-place.result (Some c.args.node) c.set.ensures.under c.set.ensures.others p
    ∙ ap (λ q. or_before (if_at p (record { place = q; node = Some c.args.node })) (under c.self.inside.seats.entries p)) at
    ∙ ap (or_before (if_at p (seat (place c.args.parent c.args.name) (Some c.args.node))))
    (sym (seat_at-under c.self.inside.seats.entries p) ∙ ap (λ (o : OverlayState). seat_at o.held p) c.self.view_is))
