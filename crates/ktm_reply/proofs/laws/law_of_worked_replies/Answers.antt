use Rattle.std.proofs.Common.{refl}
use Rattle.std.specs.Fmt.{digits}
use Rattle.uuid.specs.Text.{by_index}
use Rattle.ktm_reply.proofs.laws.law_of_worked_replies.Goals as goal

pub returns-clause-spelled : goal.returns-clause-spelled
unfolding digits by_index
returns-clause-spelled c = refl

pub returns-clause-first : goal.returns-clause-first
unfolding digits by_index
returns-clause-first c = record { alike = refl; earlier = refl }
