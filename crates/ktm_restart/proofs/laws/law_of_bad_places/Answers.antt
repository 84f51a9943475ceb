use Rattle.ktm_restart.proofs.offered.OneState.{one_bad_place}
use Rattle.ktm_restart.proofs.laws.law_of_bad_places.Goals as goal

pub returns : goal.returns
returns c = one_bad_place c.law_of_states.ensures.state
