use Rattle.ktm_script.proofs.LineLemmas.{one_meaning}
use Rattle.ktm_script.proofs.line.law_of_one_meaning.Goals as goal

pub returns : goal.returns
returns c = one_meaning
