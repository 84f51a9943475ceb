use Rattle.std.proofs.Common.{subst}
use Rattle.ktm_trace.specs.Placed.{Rises}
use Rattle.ktm_trace.specs.Traces.{id_of}
use Rattle.ktm_trace.proofs.Joining.{rises-joined}
use Rattle.ktm_trace.proofs.trace.Trace.law_of_order.Goals as goal

pub returns : goal.returns
returns c = subst (Rises id_of) c.self.view_is (rises-joined c.self.inside.heads.heads c.self.inside.marks.marks c.self.invariant.0)
