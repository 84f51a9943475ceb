use Rattle.std.proofs.Common.{refl}
use Rattle.ktm_journal.proofs.header.front.Goals as goal

pub returns-in_default-clause-none : goal.returns-in_default-clause-none
returns-in_default-clause-none c same units image front = c.in_default.ensures.none refl units image front.header_is
