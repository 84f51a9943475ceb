use Rattle.ktm_paged.proofs.PagedLaws.{paged_law}
use Rattle.ktm_paged.proofs.laws.law_of_paged_records.Goals as goal

pub returns : goal.returns
returns c = paged_law c.law_of_good_states.ensures
