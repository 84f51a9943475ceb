use Rattle.ktm_kernel.proofs.Left.{left_law}
use Rattle.ktm_kernel.proofs.Given.{rows-seen}
use Rattle.ktm_kernel.proofs.laws.law_of_what_is_left.Goals as goal

pub returns : goal.returns
returns c = left_law (rows-seen c.law_of_paged_records.ensures) c.law_of_pages.ensures
