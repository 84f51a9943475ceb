use Rattle.ktm_trace.proofs.Expanding.{kept_law}
use Rattle.ktm_trace.proofs.laws.law_of_kept.Goals as goal

pub returns : goal.returns
returns c = kept_law
