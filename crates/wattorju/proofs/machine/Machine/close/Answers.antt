use Rattle.std.proofs.Common.{ap}
use Rattle.ktm_kernel.specs.Stands.{KernelState}
use Rattle.ktm_log.specs.OnDisk.{OnDisk}
use Rattle.wattorju.proofs.machine.Machine.close.Goals as goal

pub returns-clause-told : goal.returns-clause-told
returns-clause-told g c = ap (λ (o : OnDisk KernelState). o.told) c.self.view_is

pub returns-clause-status : goal.returns-clause-status
returns-clause-status g c = ap (λ (o : OnDisk KernelState). o.status) c.self.view_is
