use Rattle.ktm_kernel.proofs.kernel.Kernel.complete.Goals as goal

pub call-requires-clause-command : goal.call-requires-clause-command
call-requires-clause-command g c = rw c.command_of.ensures c.requires.command

pub returns : goal.returns
returns g c = rw (← c.command_of.ensures) c.in-Ok.ensures.leaves
