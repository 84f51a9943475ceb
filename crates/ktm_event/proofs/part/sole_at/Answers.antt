use Rattle.ktm_event.proofs.PartReadings.{no_sole, not_sole, sole_read}
use Rattle.ktm_event.proofs.Readings.{passes}
use Rattle.ktm_event.proofs.part.sole_at.Goals as goal

pub returns-in_err-part : goal.returns-in_err-part
returns-in_err-part c = passes _ _ c.from_residual.ensures.1 c.in_err-part.ensures no_sole

pub returns-in-Enlistment : goal.returns-in-Enlistment
returns-in-Enlistment c = not_sole (rw c.in-Enlistment.is at c.in_ok-part.ensures)

pub returns : goal.returns
returns c = sole_read _ c.in_default.not-Enlistment c.in_ok-part.ensures
