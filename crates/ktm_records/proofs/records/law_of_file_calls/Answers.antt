use Rattle.ktm_records.proofs.FileCallsMade.{file_calls_law}
use Rattle.ktm_records.proofs.records.law_of_file_calls.Goals as goal

pub returns : goal.returns
returns c = file_calls_law c.law_of_lists.ensures c.law_of_forms.ensures
