use Rattle.std.proofs.Common.{refl}
use Rattle.ktm_journal.proofs.Opened.{opened}
use Rattle.ktm_journal.proofs.journal.Journal.open.Goals as goal

pub returns-in-Ok : goal.returns-in-Ok
returns-in-Ok g c = opened c.args.header _ _ c.in-Ok.log _ c.requires.headed refl (rw (c.log_area-area.ensures, c.half_of.ensures) at c.in-Ok.ensures)
