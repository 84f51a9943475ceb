use Rattle.std.proofs.Common.{arith}
use Rattle.ktm_snapshot.proofs.Fields.{no_mark, other_mark}
use Rattle.ktm_snapshot.proofs.part.mark_at.Goals as goal

pub returns-in_err-mark : goal.returns-in_err-mark
returns-in_err-mark c = rw c.from_residual.ensures (no_mark c.in_err-mark.ensures)

pub returns-in_default : goal.returns-in_default
returns-in_default c = other_mark c.in_ok-mark.ensures (omega arith) (omega arith)
