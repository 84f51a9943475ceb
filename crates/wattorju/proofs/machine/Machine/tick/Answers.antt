use Rattle.ktm_log.specs.OnDisk.{on}
use Rattle.wattorju.proofs.Asking.{ticked_told}
use Rattle.wattorju.proofs.machine.Machine.tick.Goals as goal

pub to_ended-requires : goal.to_ended-requires
to_ended-requires g c = ticked_told c.law_of_replies.ensures.ticks c.args.ms (on c.self.inside.kernel _ _) (on c.tick.new.self _ _) c.tick.result c.tick.ensures

pub returns : goal.returns
returns g c = rw (c.to_ended.ensures, ← c.self.view_is) c.tick.ensures
