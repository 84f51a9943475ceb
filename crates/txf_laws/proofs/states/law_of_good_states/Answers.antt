use Rattle.txf_laws.proofs.GoodStates.{good_states_law}
use Rattle.txf_laws.proofs.states.law_of_good_states.Goals as goal

pub returns : goal.returns
returns c = good_states_law c.law_of_lists.ensures c.law_of_forms.ensures
