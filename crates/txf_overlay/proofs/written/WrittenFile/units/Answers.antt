use Rattle.std.proofs.Common.{◌∙◌}
use Rattle.txf_overlay.proofs.Pages.{lie-pages}
use Rattle.txf_overlay.proofs.written.WrittenFile.units.Goals as goal

pub returns-clause-units : goal.returns-clause-units
returns-clause-units c = rw (← c.self.view_is) (c.count_of.ensures.count ∙ c.pages.ensures.units)

pub returns-clause-pages : goal.returns-clause-pages
returns-clause-pages c = rw (← c.self.view_is) (lie-pages c.pages.result.now c.self.inside.content.bytes c.pages.ensures c.count_of.ensures.fit)
