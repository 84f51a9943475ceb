use Rattle.ktm_event.proofs.KeptLemmas.{one_kept}
use Rattle.ktm_event.proofs.laws.law_of_kept_events.Goals as goal

pub returns : goal.returns
returns c = one_kept
