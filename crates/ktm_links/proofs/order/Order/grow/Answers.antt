use Rattle.std.proofs.Common.{arith, rules}
use Rattle.ktm_links.proofs.Blocks.{with_stock}
use Rattle.ktm_links.proofs.order.Order.grow.Goals as goal

pub invariant_of-self-in-Ok : goal.invariant_of-self-in-Ok
invariant_of-self-in-Ok c =
    rw (c.reserve.ensures.items, c.push_reserved.ensures.items, c.reserve-2.ensures.items)
    (with_stock _ _ _ _ _ _ _ _ _ _ c.self.invariant c.in-Ok.ensures
    (omega (arith, c.in_default-reserve.ensures.ok, c.reserve.ensures.len, c.len.ensures))
    (omega (arith, c.in_default-reserve-2.ensures.ok, c.reserve.ensures.len, c.reserve-2.ensures.len, c.len-2.ensures, c.push_reserved.ensures.capacity))
    (search rules))
