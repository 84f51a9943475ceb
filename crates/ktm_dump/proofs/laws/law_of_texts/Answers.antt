use Rattle.ktm_dump.proofs.Alike.{state-same}
use Rattle.ktm_dump.proofs.laws.law_of_texts.Goals as goal

pub returns : goal.returns
returns c = state-same
