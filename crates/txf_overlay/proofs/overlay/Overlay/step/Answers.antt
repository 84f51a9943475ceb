use Rattle.std.proofs.Common.{◌≡◌, ◌<◌, ◌≤◌, ◌++◌, ◌∷◌, [], List, sym, ap, ◌∙◌, subst, arith}
use Rattle.std.specs.Ordering.{is_lt}
use Rattle.txf_tree.specs.Children.{Shown}
use Rattle.txf_tree.specs.TreeState.{tree_of}
use Rattle.txf_overlay.specs.Listing.{passed, seats_left, steps_left, IsReached}
use Rattle.txf_overlay.proofs.Entering.{gone-step, kept-step, last-step, own-step, passed-fewer, seats-less}
use Rattle.txf_overlay.proofs.Keeping.{short-place}
use Rattle.txf_overlay.proofs.overlay.Overlay.step.Goals as goal

pub returns-then-is_lt-clause-steps : goal.returns-then-is_lt-clause-steps
returns-then-is_lt-clause-steps c = λ left first.
    let r = rw c.in-Some.is at (c.loop-seat.invariant.same left first) in
    let less = ap is_lt (sym c.order_of-order.ensures) ∙ sym c.is_lt.ensures ∙ c.if-is_lt.true in
    rw c.in-Some.is
    (kept-step (tree_of c.args.tree.now) c.args.self.now c.args.directory r.only c.requires.stands _ _ left c.next.result c.in-Some.held r less
    c.next.ensures.first c.next.ensures.none)

pub after_place-requires : goal.after_place-requires
after_place-requires c =
    let some = rw c.in-Some.is at c.loop-seat.invariant.some in
    short-place (tree_of c.args.tree.now) c.args.self.now c.in-Some.held.place.now c.in-Some.held.node some.1.only c.requires.stands some.1.held.there

pub returns-in-Some-node-clause-steps : goal.returns-in-Some-node-clause-steps
returns-in-Some-node-clause-steps c = λ left first.
    let r = rw c.in-Some.is at (c.loop-seat.invariant.same left first) in
    let later = ap is_lt (sym c.order_of-order.ensures) ∙ sym c.is_lt.ensures ∙ c.if-is_lt.false in
    let from : c.as_slice.result.now ≡ c.in-Some.held.place.now ++ 0 ∷ [] = c.as_slice.ensures ∙ c.after_place.ensures in
    rw (c.pass.ensures, c.order_of-order.ensures)
    (own-step (tree_of c.args.tree.now) c.args.self.now c.args.directory r.only c.requires.stands _ left c.in-Some.held c.next_seat-seat.result r later
    (rw from at c.next_seat-seat.ensures.some) (rw from at c.next_seat-seat.ensures.none)
    c.in-Some-node.node c.own_entry.result c.in-Some-node.is c.own_entry.ensures)

pub returns-in-Some-node-clause-fewer : goal.returns-in-Some-node-clause-fewer
returns-in-Some-node-clause-fewer c =
    let held = c.args.self.now.held in
    let some = rw c.in-Some.is at c.loop-seat.invariant.some in
    let from : c.as_slice.result.now ≡ c.in-Some.held.place.now ++ 0 ∷ [] = c.as_slice.ensures ∙ c.after_place.ensures in
    let fewer = seats-less held c.args.directory c.in-Some.held c.next_seat-seat.result some.1.held.there (rw from at c.next_seat-seat.ensures.some) in
    let seats = ap (seats_left held) c.in-Some.is in
    let children = passed-fewer c.order_of-order.result c.loop-seat.children in
    rw c.pass.ensures (omega (arith, fewer, seats, children, c.loop-seat.invariant.fewer))

pub loop-seat-smaller : goal.loop-seat-smaller
loop-seat-smaller c =
    let held = c.args.self.now.held in
    let some = rw c.in-Some.is at c.loop-seat.invariant.some in
    let from : c.as_slice.result.now ≡ c.in-Some.held.place.now ++ 0 ∷ [] = c.as_slice.ensures ∙ c.after_place.ensures in
    let fewer = seats-less held c.args.directory c.in-Some.held c.next_seat-seat.result some.1.held.there (rw from at c.next_seat-seat.ensures.some) in
    subst (λ n. seats_left held c.next_seat-seat.result < seats_left held n) (sym c.in-Some.is) fewer

pub loop-seat-preserved : goal.loop-seat-preserved
loop-seat-preserved c =
    let t = tree_of c.args.tree.now in
    let o = c.args.self.now in
    let later = ap is_lt (sym c.order_of-order.ensures) ∙ sym c.is_lt.ensures ∙ c.if-is_lt.false in
    let from : c.as_slice.result.now ≡ c.in-Some.held.place.now ++ 0 ∷ [] = c.as_slice.ensures ∙ c.after_place.ensures in
    let then_held = rw from at c.next_seat-seat.ensures.some in
    let then_free = rw from at c.next_seat-seat.ensures.none in
    let some = rw c.in-Some.is at c.loop-seat.invariant.some in
    let fewer = seats-less o.held c.args.directory c.in-Some.held c.next_seat-seat.result some.1.held.there then_held in
    let seats = ap (seats_left o.held) c.in-Some.is in
    let children = passed-fewer c.order_of-order.result c.loop-seat.children in
    let fewer : steps_left o.held (passed c.order_of-order.result c.loop-seat.children) c.next_seat-seat.result ≤ steps_left o.held c.args.children.now c.args.seat =
    omega (arith, fewer, seats, children, c.loop-seat.invariant.fewer) in
    let beyond = λ (left : List Shown) (r : IsReached t o c.args.directory c.loop-seat.children c.loop-seat.seat left).
    gone-step t o c.args.directory some.1.only c.requires.stands c.loop-seat.children left c.in-Some.held c.next_seat-seat.result (rw c.in-Some.is at r) later then_held then_free
    c.in_default-node.is in
    rw (c.pass.ensures, c.order_of-order.ensures)
    (record {
      some = (c.loop-seat.invariant.some.0, beyond c.loop-seat.invariant.some.0 c.loop-seat.invariant.some.1);
      same = λ left first. beyond left (c.loop-seat.invariant.same left first);
      fewer = rw c.order_of-order.ensures at fewer;
    })

pub returns-clause-steps : goal.returns-clause-steps
returns-clause-steps c = λ left first.
    let r = rw c.in_default.is at (c.loop-seat.invariant.same left first) in
    last-step (tree_of c.args.tree.now) c.args.self.now c.args.directory r.only c.requires.stands _ _ left c.next-2.result r
    c.next-2.ensures.first c.next-2.ensures.none
