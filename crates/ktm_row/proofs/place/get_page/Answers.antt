use Rattle.ktm_row.proofs.Steps.{page-read}
use Rattle.ktm_row.proofs.place.get_page.Goals as goal

pub returns-clause-value : goal.returns-clause-value
returns-clause-value g c = page-read c.args.begin c.args.pages (g.D.Disk.told c.args.disk.now) c.requires.stands c.args.page c.requires.within c.offset-at.result _ c.read_at.new.buf c.offset-at.ensures c.told-buf c.in_default.ensures.value
