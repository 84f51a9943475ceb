use Rattle.std.proofs.Common.{◌∙◌}
use Rattle.ktm_links.proofs.Blocks.{got, got_none}
use Rattle.ktm_links.proofs.order.Order.get.Goals as goal

pub returns-in-Some : goal.returns-in-Some
returns-in-Some c =
    let found = rw c.deref.ensures.value at c.in-Some.ensures.lookup in
    c.get-in-Some.ensures ∙ rw (← c.self.view_is) (got _ c.args.spot _ (rw (← c.self.view_is) at c.requires) found.3.0 found.1)

pub returns-in-None : goal.returns-in-None
returns-in-None c =
    let none = rw c.deref.ensures.value at c.in-None.ensures.lookup in
    rw (← c.self.view_is) (got_none _ c.args.spot (rw (← c.self.view_is) at c.requires) none.3)
