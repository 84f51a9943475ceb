use Rattle.std.proofs.Common.{sym, ◌∙◌}
use Rattle.ktm_manager.proofs.WithoutQueues.{durable_same}
use Rattle.ktm_manager.proofs.managers.Managers.durable.Goals as goal

pub returns : goal.returns
returns c = rw (← c.self.view_is) ((rw c.deref.ensures.value at c.new.ensures) ∙ sym (durable_same c.self.inside.listed.items c.self.inside.queues.queues))
