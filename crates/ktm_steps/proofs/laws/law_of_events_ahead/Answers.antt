use Rattle.ktm_steps.proofs.offered.Ahead.{events-ahead}
use Rattle.ktm_steps.proofs.laws.law_of_events_ahead.Goals as goal

pub returns : goal.returns
returns c = events-ahead
