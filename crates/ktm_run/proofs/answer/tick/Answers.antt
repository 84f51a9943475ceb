use Rattle.ktm_log.specs.OnDisk.{on}
use Rattle.ktm_run.proofs.Answering.{decided, is_tick}
use Rattle.ktm_run.proofs.FewCalls.{few_later_calls}
use Rattle.ktm_run.proofs.Lasting.{lasts_few}
use Rattle.ktm_run.proofs.answer.tick.Goals as goal

pub returns-clause-does : goal.returns-clause-does
returns-clause-does g c =
    decided _ _ c.tick.result (is_tick c.args.ms c.tick.result) c.args.kernel.now c.tick.new.self (g.D.Disk.told c.args.disk.now) (g.D.Disk.told c.tick.new.disk) (g.D.Disk.status c.args.disk.now) (g.D.Disk.status c.tick.new.disk)
    c.tick.ensures.cause _ c.tick.ensures.calls (few_later_calls c.args.ms (on c.args.kernel.now _ _) (on c.tick.new.self _ _) c.tick.result c.requires.ready c.tick.ensures) c.tick.ensures.does

pub returns-clause-lasts : goal.returns-clause-lasts
returns-clause-lasts g c = lasts_few c.args.kernel.now c.tick.new.self c.tick.ensures.counts
