use Rattle.ktm_names.proofs.LeadLemmas.{only}
use Rattle.ktm_names.proofs.pattern.Pattern.lead.Goals as goal

pub returns-clause-only : goal.returns-clause-only
returns-clause-only c = only c.args.self.now.last
