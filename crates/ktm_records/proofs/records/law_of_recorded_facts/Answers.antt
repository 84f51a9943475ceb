use Rattle.ktm_records.proofs.RecordedFacts.{recorded_facts_law}
use Rattle.ktm_records.proofs.records.law_of_recorded_facts.Goals as goal

pub returns : goal.returns
returns c = recorded_facts_law c.law_of_lists.ensures c.law_of_forms.ensures
