use Rattle.std.proofs.Common.{◌∙◌, sym}
use Rattle.ktm_links.proofs.Blocks.{left, removed, some_key, spare_more, stands, without_key}
use Rattle.ktm_links.proofs.order.Order.remove.Goals as goal

pub overflow_sub-self : goal.overflow_sub-self
overflow_sub-self c = some_key _ _ _ _ _ _ c.args.spot c.self.invariant (rw (← c.self.view_is) at c.requires)

pub invariant_of-self : goal.invariant_of-self
invariant_of-self c =
    let there = rw (← c.self.view_is) at c.requires in
    let settled = left _ _ c.args.spot c.settle-freed.result c.self.invariant.used c.self.invariant.paired there (rw c.remove_in-key.ensures.items at c.settle-freed.ensures.settles) in
    rw c.keep.ensures.items
    (without_key _ _ _ _ _ _ _ _ _ _ c.args.spot c.self.invariant there settled.0 settled.1 (c.settle-freed.ensures.capacity ∙ c.remove_in-key.ensures.capacity)
    c.keep.ensures.capacity)

pub returns-clause-key : goal.returns-clause-key
returns-clause-key c =
    rw (← c.self.view_is) (c.remove_in-key.ensures.key ∙ sym (stands _ c.args.spot c.remove_in-key.result (rw (← c.self.view_is) at c.requires)))

pub returns-clause-keys : goal.returns-clause-keys
returns-clause-keys c =
    let there = rw (← c.self.view_is) at c.requires in
    let settled = left _ _ c.args.spot c.settle-freed.result c.self.invariant.used c.self.invariant.paired there (rw c.remove_in-key.ensures.items at c.settle-freed.ensures.settles) in
    rw (← c.self.view_is) (settled.1 ∙ removed _ c.args.spot there)

pub returns-clause-spare : goal.returns-clause-spare
returns-clause-spare c =
    let there = rw (← c.self.view_is) at c.requires in
    let settled = left _ _ c.args.spot c.settle-freed.result c.self.invariant.used c.self.invariant.paired there (rw c.remove_in-key.ensures.items at c.settle-freed.ensures.settles) in
    rw (← c.self.view_is) (spare_more _ c.settle-freed.new.blocks.items _ _ _ _ _ c.args.spot c.self.invariant there settled.1)
