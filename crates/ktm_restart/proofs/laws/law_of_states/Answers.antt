use Rattle.ktm_restart.proofs.offered.OneState.{one_paged, one_state}
use Rattle.ktm_restart.proofs.laws.law_of_states.Goals as goal

pub returns : goal.returns
returns c = record { places = one_paged c.law_of_states.ensures.state; states = one_state c.law_of_states.ensures.state }
