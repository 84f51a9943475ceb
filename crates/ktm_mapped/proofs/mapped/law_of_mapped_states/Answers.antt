use Rattle.ktm_mapped.proofs.MappedLaws.{mapped_law}
use Rattle.ktm_mapped.proofs.mapped.law_of_mapped_states.Goals as goal

pub returns : goal.returns
returns c = mapped_law
