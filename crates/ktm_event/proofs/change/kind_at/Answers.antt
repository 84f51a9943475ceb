use Rattle.std.proofs.Common.{arith}
use Rattle.ktm_event.proofs.ChangeReadings.{no_kind, other_kind}
use Rattle.ktm_event.proofs.Readings.{passes}
use Rattle.ktm_event.proofs.change.kind_at.Goals as goal

pub returns-in_err-tag : goal.returns-in_err-tag
returns-in_err-tag c = passes _ _ c.from_residual.ensures.1 c.in_err-tag.ensures no_kind

pub returns-in_default : goal.returns-in_default
returns-in_default c = other_kind c.in_ok-tag.ensures (omega arith) (omega arith)
