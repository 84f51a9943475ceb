use Rattle.std.proofs.Common.{arith}
use Rattle.ktm_snapshot.proofs.Fields.{no_stage, other_stage}
use Rattle.ktm_snapshot.proofs.transaction.stage_at.Goals as goal

pub returns-in_err-tag : goal.returns-in_err-tag
returns-in_err-tag c = rw c.from_residual.ensures (no_stage c.in_err-tag.ensures)

pub returns-in_default : goal.returns-in_default
returns-in_default c = other_stage c.in_ok-tag.ensures (omega arith) (omega arith) (omega arith)
