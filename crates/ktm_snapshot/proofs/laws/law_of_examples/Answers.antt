use Rattle.std.proofs.Common.{refl}
use Rattle.ktm_snapshot.proofs.Examples.{empty_is_spelled, small_is_spelled}
use Rattle.ktm_snapshot.proofs.laws.law_of_examples.Goals as goal

pub returns : goal.returns
returns c = record { empty = empty_is_spelled; empty_size = refl; small = small_is_spelled }
