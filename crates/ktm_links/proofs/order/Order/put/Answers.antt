use Rattle.ktm_links.proofs.Blocks.{inserted, with_key}
use Rattle.ktm_links.proofs.order.Order.put.Goals as goal

pub invariant_of-self : goal.invariant_of-self
invariant_of-self c =
    rw c.insert_in.ensures.items
    (with_key _ _ _ _ _ _ _ c.args.spot c.args.key c.self.invariant (rw (← c.self.view_is) at c.requires.spot) (rw (← c.self.view_is) at c.requires.room) c.insert_in.ensures.capacity)

pub returns-clause-keys : goal.returns-clause-keys
returns-clause-keys c =
    rw (c.insert_in.ensures.items, ← c.self.view_is) (inserted _ c.args.spot c.args.key (rw (← c.self.view_is) at c.requires.spot))
