use Rattle.ktm_steps.proofs.offered.Table.{rows_law}
use Rattle.ktm_steps.proofs.laws.law_of_rows.Goals as goal

pub returns : goal.returns
returns c = rows_law
