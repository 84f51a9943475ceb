use Rattle.std.proofs.Common.{◌∙◌, List, ap}
use Rattle.ktm_trace.specs.Joined.{joined_all}
use Rattle.ktm_trace.specs.Placed.{without_id}
use Rattle.ktm_trace.specs.Traces.{Traced, id_of}
use Rattle.ktm_trace.proofs.Joining.{Comes, gone-forgotten}
use Rattle.ktm_trace.proofs.trace.Trace.undo.Goals as goal

comes : (c : goal.After-forget) → Comes c.take.new.self.heads c.forget.new.self.marks (without_id id_of (joined_all c.self.inside.heads.heads c.self.inside.marks.marks) c.args.transaction)
comes c = rw (c.take.ensures.rest, c.forget.ensures.marks) (gone-forgotten c.self.inside.heads.heads c.self.inside.marks.marks c.args.transaction c.self.invariant.0)

pub invariant_of-self : goal.invariant_of-self
invariant_of-self c = ((comes c).are, rw (c.take.ensures.capacity, c.forget.ensures.capacity) c.self.invariant.1)

pub returns : goal.returns
returns c = record { transactions = (comes c).is ∙ ap (λ (us : List Traced). without_id id_of us c.args.transaction) c.self.view_is }
