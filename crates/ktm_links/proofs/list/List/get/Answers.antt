use Rattle.ktm_links.proofs.Linked.{named, stale, vacant}
use Rattle.ktm_links.proofs.list.List.get.Goals as goal

pub returns-then-entry-key : goal.returns-then-entry-key
returns-then-entry-key g c =
    rw (← c.self.view_is) (named _ _ _ _ _ _ _ c.self.invariant c.in-Some.ensures c.if-entry-key.true)

pub returns-else-entry-key : goal.returns-else-entry-key
returns-else-entry-key g c =
    rw (← c.self.view_is) (stale _ _ _ _ _ _ _ c.self.invariant c.in-Some.ensures c.if-entry-key.false)

pub returns-in-None : goal.returns-in-None
returns-in-None g c = rw (← c.self.view_is) (vacant _ _ _ _ _ _ c.self.invariant c.in-None.ensures)
