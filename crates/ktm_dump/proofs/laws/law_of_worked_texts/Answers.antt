use Rattle.std.proofs.Common.{refl}
use Rattle.std.specs.Fmt.{digits}
use Rattle.uuid.specs.Text.{by_index}
use Rattle.ktm_dump.proofs.laws.law_of_worked_texts.Goals as goal

pub returns : goal.returns
unfolding digits by_index
returns c = record { of_started = refl; of_full = refl }
