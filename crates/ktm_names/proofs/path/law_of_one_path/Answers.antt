use Rattle.ktm_names.proofs.PathLemmas.{one_path}
use Rattle.ktm_names.proofs.path.law_of_one_path.Goals as goal

pub returns : goal.returns
returns c = one_path
