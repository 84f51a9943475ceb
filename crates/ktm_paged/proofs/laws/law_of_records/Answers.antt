use Rattle.ktm_paged.proofs.offered.Recording.{records_law}
use Rattle.ktm_paged.proofs.laws.law_of_records.Goals as goal

pub returns : goal.returns
returns c = records_law
