use Rattle.ktm_trace.proofs.Expanding.{contents_law}
use Rattle.ktm_trace.proofs.laws.law_of_contents.Goals as goal

pub returns : goal.returns
returns c = contents_law
