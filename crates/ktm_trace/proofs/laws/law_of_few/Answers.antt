use Rattle.ktm_trace.proofs.Few.{few_law}
use Rattle.ktm_trace.proofs.laws.law_of_few.Goals as goal

pub returns : goal.returns
returns c = few_law
