use Rattle.ktm_journal.proofs.offered.Images.{what_is_left}
use Rattle.ktm_journal.proofs.laws.law_of_what_is_left.Goals as goal

pub returns : goal.returns
returns c = what_is_left
