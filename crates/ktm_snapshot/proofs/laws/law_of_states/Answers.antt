use Rattle.ktm_snapshot.proofs.OneState.{one_state, one_spelling}
use Rattle.ktm_snapshot.proofs.StateSizes.{state_sized}
use Rattle.ktm_snapshot.proofs.laws.law_of_states.Goals as goal

pub returns : goal.returns
returns c = record { state = one_state; spelling = one_spelling; size = state_sized }
