use Rattle.ktm_records.proofs.AgreementOfCommands.{agreeing_law}
use Rattle.ktm_records.proofs.agreement.law_of_agreement.Goals as goal

pub returns : goal.returns
returns c = agreeing_law c.law_of_step.ensures
