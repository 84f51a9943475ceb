use Rattle.ktm_memory.specs.Memory.{present_of}
use Rattle.ktm_route.proofs.Routes.{view_passed, view_refused}
use Rattle.ktm_route.proofs.labels.viewer.Goals as goal

pub returns-in-Ok-clause-ok : goal.returns-in-Ok-clause-ok
returns-in-Ok-clause-ok c = view_passed (present_of c.args.memory.now) c.args.process _ c.in-Transaction.label c.in-Ok.t c.in-Transaction.is (c.in-Ok.ensures.ok)

pub returns-in-Err-clause-err : goal.returns-in-Err-clause-err
returns-in-Err-clause-err c = view_refused (present_of c.args.memory.now) c.args.process _ c.in-Transaction.label c.in-Err.refusal c.in-Transaction.is (c.in-Err.ensures.err)
