use Rattle.std.proofs.Common.{sym, ◌∙◌, []}
use Rattle.ktm_run.proofs.Lines.{has_reply-of, last_none, last_some}
use Rattle.ktm_run.proofs.Runs.{Progress-none, Progress-as, Stops-line, Stops-as}
use Rattle.ktm_run.proofs.script.finish.Goals as goal

pub returns-then-is_empty-clause-done : goal.returns-then-is_empty-clause-done
returns-then-is_empty-clause-done g c = λ part is. Progress-as _ _ [] _ (sym (last_none part c.args.kept.now is c.if-is_empty.ensures)) (Progress-none _)

pub returns-clause-done : goal.returns-clause-done
returns-clause-done g c = λ part is. Progress-as _ _ _ _ (sym (last_some part c.args.kept.now is c.if-is_empty.ensures)) (c.in_default.ensures.leaves.done part is)

pub returns-in-Err-clause-stopped : goal.returns-in-Err-clause-stopped
returns-in-Err-clause-stopped g c = λ part is. Stops-as _ _ _ _ (sym (last_some part c.args.kept.now is c.if-is_empty.ensures)) (Stops-line _ _ part (has_reply-of part c.args.kept.now is ∙ c.in-Err.ensures.leaves.wants_reply) (g.met.D.Disk.lengths c.args.disk.now) (c.in-Err.ensures.leaves.broke part is))
