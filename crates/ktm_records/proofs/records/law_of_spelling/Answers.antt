use Rattle.ktm_records.proofs.Spelling.{spelling_law}
use Rattle.ktm_records.proofs.records.law_of_spelling.Goals as goal

pub returns : goal.returns
returns c = spelling_law c.law_of_named_objects.ensures c.law_of_recorded_facts.ensures
