use Rattle.ktm_replaced.proofs.ReplacedLaws.{replaced_law}
use Rattle.ktm_replaced.proofs.replaced.law_of_replaced_files.Goals as goal

pub returns : goal.returns
returns c = replaced_law
