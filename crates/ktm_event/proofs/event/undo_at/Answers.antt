use Rattle.ktm_event.proofs.EventReadings.{no_undo}
use Rattle.ktm_event.proofs.Readings.{passes}
use Rattle.ktm_event.proofs.event.undo_at.Goals as goal

pub returns-in_err-transaction : goal.returns-in_err-transaction
returns-in_err-transaction c = passes _ _ c.from_residual.ensures.1 c.in_err-transaction.ensures no_undo
