use Rattle.ktm_journal.proofs.offered.Pages.{pages_law}
use Rattle.ktm_journal.proofs.laws.law_of_pages.Goals as goal

pub returns : goal.returns
returns c = pages_law
