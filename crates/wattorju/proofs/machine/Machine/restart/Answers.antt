use Rattle.std.proofs.Common.{ap}
use Rattle.ktm_base.specs.Disk.{DiskStatus}
use Rattle.wattorju.proofs.Restarting.{failed_again, started}
use Rattle.wattorju.proofs.machine.Machine.restart.Goals as goal

pub returns-in-Err-power : goal.returns-in-Err-power
returns-in-Err-power g c = rw (← c.self.view_is)
    (failed_again c.law_of_power.ensures c.self.inside.kernel (g.D.Disk.told c.self.inside.disk) (g.D.Disk.told c.plan_room.new.self) (g.D.Disk.status c.self.inside.disk) (g.D.Disk.status c.plan_room.new.self) c.args.pick
    (rw (← c.self.view_is) at c.requires.off) c.plan_room.ensures.same (ap (λ (s : DiskStatus). s.downs) c.plan_room.ensures.others)
    (g.D.Disk.told c.power.new.self) (g.D.Disk.status c.power.new.self) c.in-Err-power.ensures.err c.in-Err-power.ensures.status.1)

pub returns : goal.returns
returns g c = rw (c.to_found.ensures, ← c.self.view_is)
    (started c.law_of_power.ensures c.self.inside.kernel (g.D.Disk.told c.self.inside.disk) (g.D.Disk.told c.plan_room.new.self) (g.D.Disk.status c.self.inside.disk) (g.D.Disk.status c.plan_room.new.self) c.args.pick
    (rw (← c.self.view_is) at c.requires.off) c.plan_room.ensures.same (ap (λ (s : DiskStatus). s.downs) c.plan_room.ensures.others)
    (g.D.Disk.told c.power.new.self) (g.D.Disk.told c.start_again.new.disk) (g.D.Disk.status c.power.new.self) (g.D.Disk.status c.start_again.new.disk) c.start_again.new.self
    c.in_default-power.ensures.ok (ap (λ (s : DiskStatus). s.downs) c.in_default-power.ensures.status) c.start_again.result c.start_again.ensures.leaves)
