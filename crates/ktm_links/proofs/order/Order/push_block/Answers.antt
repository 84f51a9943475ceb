use Rattle.std.proofs.Common.{ap, arith, length, refl}
use Rattle.ktm_links.proofs.Blocks.{first_key, popped, stocked, with_block}
use Rattle.ktm_links.proofs.order.Order.push_block.Goals as goal

pub insert-requires-clause-room : goal.insert-requires-clause-room
insert-requires-clause-room c =
    let pop = popped _ _ _ c.self.invariant.free c.in-Some.ensures.items in
    omega (arith, ap (λ l. length l) pop.empty)

pub invariant_of-self : goal.invariant_of-self
invariant_of-self c =
    let pop = popped _ _ _ c.self.invariant.free c.in-Some.ensures.items in
    rw c.push_reserved.ensures.items
    (with_block _ _ _ _ _ _ _ _ _ _ _ c.args.key c.self.invariant pop (first_key _ _ c.args.key pop.empty c.insert.ensures)
    (rw (← c.self.view_is) at c.requires.room) (rw (← c.self.view_is) at c.requires.full) c.push_reserved.ensures.capacity c.pop.ensures.capacity)

pub unreachable-requires : goal.unreachable-requires
unreachable-requires c =
    stocked _ _ _ _ _ _ c.self.invariant (rw (← c.self.view_is) at c.requires.room) (rw (← c.self.view_is) at c.requires.full) (omega (arith, c.in-None.ensures.cases.0))

pub returns-clause-blocks : goal.returns-clause-blocks
returns-clause-blocks c =
    let pop = popped _ _ _ c.self.invariant.free c.in-Some.ensures.items in
    let keys = first_key _ _ c.args.key pop.empty c.insert.ensures in
    rw (c.push_reserved.ensures.items, keys, ← c.self.view_is) refl
