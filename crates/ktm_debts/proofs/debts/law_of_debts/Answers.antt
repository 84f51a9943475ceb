use Rattle.ktm_debts.proofs.DebtsLaws.{debts_law}
use Rattle.ktm_debts.proofs.debts.law_of_debts.Goals as goal

pub returns : goal.returns
returns c = debts_law c.law_of_file_calls.ensures
