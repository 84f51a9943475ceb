use Rattle.std.proofs.Common.{ap}
use Rattle.ktm_base.specs.Disk.{DiskStatus}
use Rattle.ktm_run.proofs.Answering.{ready_on}
use Rattle.ktm_run.proofs.answer.cut.Goals as goal

pub returns-clause-ready : goal.returns-clause-ready
returns-clause-ready g c =
    ready_on c.args.kernel.now (g.D.Disk.told c.args.disk.now) (g.D.Disk.told c.arm.new.self) (g.D.Disk.status c.args.disk.now) (g.D.Disk.status c.arm.new.self)
    c.arm.ensures.same (ap (λ (s : DiskStatus). s.is_down) c.arm.ensures.status) (ap (λ (s : DiskStatus). s.pending) c.arm.ensures.status) c.requires.ready
