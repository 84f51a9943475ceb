use Rattle.ktm_records.proofs.MadeManagers.{made_managers_law}
use Rattle.ktm_records.proofs.records.law_of_made_managers.Goals as goal

pub returns : goal.returns
returns c = made_managers_law
