use Rattle.ktm_run.proofs.Lines.{ended_none}
use Rattle.ktm_run.proofs.line.ended.Goals as goal

pub returns-then-is_empty : goal.returns-then-is_empty
returns-then-is_empty c = ended_none c.args.kept.now c.args.bytes.now c.min.result c.if-is_empty.ensures c.min.ensures
