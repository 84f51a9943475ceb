use Rattle.wattorju.proofs.machine.Machine.free_label.Goals as goal

pub returns-clause-free : goal.returns-clause-free
returns-clause-free g c = rw (← c.self.view_is) c.free_label.ensures.free
