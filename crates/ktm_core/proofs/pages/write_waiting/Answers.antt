use Rattle.std.proofs.Common.{length, ap, arith}
use Rattle.ktm_store.specs.Marks.{MarksState}
use Rattle.ktm_core.proofs.Puts.{shows-alike, waiting-ends}
use Rattle.ktm_core.proofs.pages.write_waiting.Goals as goal

pub returns-clause-leaves : goal.returns-clause-leaves
returns-clause-leaves g c = λ row shows.
    let wants = c.want_all.ensures.wants in
    waiting-ends c.args.journal.now c.args.store.now c.want_all.new.self c.write_wanted.new.store row (g.D.Disk.told c.args.disk.now) (g.D.Disk.told c.write_wanted.new.disk) (g.D.Disk.status c.args.disk.now) (g.D.Disk.status c.write_wanted.new.disk) c.requires.none wants
    (omega (arith, c.write_wanted.ensures.few, ap (λ (m : MarksState). length m.held) wants.marks, c.requires.count)) c.write_wanted.result
    (c.write_wanted.ensures.leaves row (shows-alike c.args.store.now c.want_all.new.self row wants.seen wants.marks shows)) c.write_wanted.ensures.ok c.write_wanted.ensures.err
