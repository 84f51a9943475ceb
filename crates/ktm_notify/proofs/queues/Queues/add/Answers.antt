use Rattle.ktm_notify.proofs.Marking.{more-are, queues-more}
use Rattle.ktm_notify.proofs.queues.Queues.add.Goals as goal

pub invariant_of-self : goal.invariant_of-self
invariant_of-self c = rw c.push_reserved.ensures.items (more-are _ _ c.self.invariant.0, c.self.invariant.1)

pub returns-clause-queues : goal.returns-clause-queues
returns-clause-queues c = rw (← c.self.view_is, c.push_reserved.ensures.items) (queues-more _ _ c.self.invariant.0)
