use Rattle.txf_overlay.proofs.Pages.{pages-lie}
use Rattle.txf_overlay.proofs.written.WrittenFile.pages.Goals as goal

pub returns : goal.returns
returns c = rw (← c.self.view_is) (pages-lie c.pages.result.now c.self.inside.content.bytes c.pages.ensures)
