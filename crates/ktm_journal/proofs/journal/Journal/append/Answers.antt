use Rattle.std.proofs.Common.{Err, subst, arith}
use Rattle.ktm_log.specs.OnDisk.{on}
use Rattle.ktm_journal.specs.Append.{RecordLeaves}
use Rattle.ktm_journal.specs.Image.{JournalState}
use Rattle.ktm_journal.proofs.Recorded.{recorded, unrecorded}
use Rattle.ktm_journal.proofs.journal.Journal.append.Goals as goal

pub returns-in-Err : goal.returns-in-Err
returns-in-Err g c =
    let j : JournalState = record { units = c.self.inside.units; image = c.self.inside.image; selector = c.self.inside.selector; log = c.self.inside.log; events = c.self.inside.events } in
    subst
    (λ (x : JournalState). RecordLeaves c.args.events.now (on x (g.D.Disk.told c.args.disk.now) (g.D.Disk.status c.args.disk.now))
    (on (record j { log = c.append.new.self }) (g.D.Disk.told c.append.new.disk) (g.D.Disk.status c.append.new.disk)) (Err c.in-Err.fault)) c.self.view_is
    (unrecorded j c.args.events.now c.body.result.now c.requires.some c.body.ensures.body c.body.ensures.size c.body.ensures.group c.in-Err.fault _ _ _ _ _ c.in-Err.ensures)

pub returns : goal.returns
returns g c = rw (← c.self.view_is) (
    let j : JournalState = record { units = c.self.inside.units; image = c.self.inside.image; selector = c.self.inside.selector; log = c.self.inside.log; events = c.self.inside.events } in
    recorded j c.args.events.now c.body.result.now c.requires.some c.body.ensures.body c.body.ensures.size c.body.ensures.group c.append.new.self _ _ _ _ _ (omega (arith, c.len.ensures.count, c.from.ensures)) c.self.invariant.1
    (rw (← c.self.view_is) at c.requires.headed) c.in_default.ensures)
