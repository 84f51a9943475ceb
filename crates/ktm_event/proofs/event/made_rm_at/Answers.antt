use Rattle.ktm_event.proofs.EventReadings.{no_made_rm}
use Rattle.ktm_event.proofs.Readings.{passes}
use Rattle.ktm_event.proofs.event.made_rm_at.Goals as goal

pub returns-in_err-manager : goal.returns-in_err-manager
returns-in_err-manager c = passes _ _ c.from_residual.ensures.1 c.in_err-manager.ensures no_made_rm
