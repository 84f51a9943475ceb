use Rattle.std.proofs.Common.{length}
use Rattle.ktm_journal.proofs.offered.Rows.{page_told}
use Rattle.ktm_journal.proofs.journal.Journal.read_page.Goals as goal

pub returns-clause-value : goal.returns-clause-value
returns-clause-value g c = rw (← c.self.view_is) (
    page_told c.self.inside.units c.args.page c.page_at.result (length c.args.buf.now) c.read_at.new.buf (g.D.Disk.told c.args.disk.now)
    (rw (← c.self.view_is) at c.requires.within) c.page_at.ensures c.requires.whole c.in_default.ensures.value)
