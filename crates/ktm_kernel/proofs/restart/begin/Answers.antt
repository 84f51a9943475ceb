use Rattle.ktm_kernel.proofs.Restarts.{roomy_then}
use Rattle.ktm_kernel.proofs.restart.begin.Goals as goal

pub machine-requires-clause-roomy : goal.machine-requires-clause-roomy
machine-requires-clause-roomy g c = roomy_then _ _ _ c.in-Ok.ensures.leaves.leaves.units c.requires.roomy

pub returns-in-Ok-clause-ok : goal.returns-in-Ok-clause-ok
returns-in-Ok-clause-ok g c = record { memory = c.start.new.memory; pool = c.start.new.store; is = c.machine.ensures; begun = c.in-Ok.ensures.leaves }

pub returns-in-Err-clause-err : goal.returns-in-Err-clause-err
returns-in-Err-clause-err g c = (c.start.new.memory, c.in-Err.ensures.leaves)
