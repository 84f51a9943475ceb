use Rattle.std.proofs.Common.{arith}
use Rattle.ktm_links.proofs.Blocks.{popped, stocked_full, with_split}
use Rattle.ktm_links.proofs.order.Order.split.Goals as goal

pub split_in-requires-clause-free : goal.split_in-requires-clause-free
split_in-requires-clause-free c = (popped _ _ _ c.self.invariant.free c.in-Some.ensures.items).empty

pub invariant_of-self : goal.invariant_of-self
invariant_of-self c =
    let pop = popped _ _ _ c.self.invariant.free c.in-Some.ensures.items in
    rw c.split_in.ensures.items
    (with_split _ _ _ _ _ _ _ _ _ _ _ c.self.invariant pop (rw (← c.self.view_is) at c.requires.within) (rw (← c.self.view_is) at c.requires.full)
    c.split_in.ensures.capacity c.pop.ensures.capacity)

pub unreachable-requires : goal.unreachable-requires
unreachable-requires c =
    stocked_full _ _ _ _ _ _ c.args.at c.self.invariant (rw (← c.self.view_is) at c.requires.room) (rw (← c.self.view_is) at c.requires.within)
    (rw (← c.self.view_is) at c.requires.full) (omega (arith, c.in-None.ensures.cases.0))
