use Rattle.ktm_limits.proofs.LimitsLaws.{limits_law}
use Rattle.ktm_limits.proofs.limits.law_of_limits.Goals as goal

pub returns : goal.returns
returns c = limits_law c.law_of_agreement.ensures c.law_of_files_kept.ensures c.law_of_lists.ensures c.law_of_forms.ensures
