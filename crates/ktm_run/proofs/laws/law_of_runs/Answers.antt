use Rattle.ktm_run.proofs.Lawful.{run_law}
use Rattle.ktm_run.proofs.laws.law_of_runs.Goals as goal

pub returns : goal.returns
returns c = run_law c.law_of_lawful_worlds.ensures c.law_of_one_outcome.ensures
