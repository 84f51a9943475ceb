use Rattle.std.proofs.Common.{sym}
use Rattle.ktm_waiting.proofs.offered.Reserving.{some-changes, unheld}
use Rattle.ktm_waiting.proofs.holds.hold_changes.Goals as goal

pub returns-in-Err-clause-err : goal.returns-in-Err-clause-err
returns-in-Err-clause-err c = unheld c.args.waiting.now c.hold.new.self c.release.new.self c.args.transaction (c.requires.none (some-changes c.args.changes.now (sym c.if-is_empty.ensures))) c.in-Err.ensures.err c.release.ensures
