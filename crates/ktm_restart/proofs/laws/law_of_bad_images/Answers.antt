use Rattle.ktm_restart.proofs.offered.OneState.{not_bad}
use Rattle.ktm_restart.proofs.laws.law_of_bad_images.Goals as goal

pub returns : goal.returns
returns c = not_bad c.law_of_states.ensures.state
