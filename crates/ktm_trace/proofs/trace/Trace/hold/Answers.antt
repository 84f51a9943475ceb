use Rattle.std.proofs.Common.{◌∙◌, List, refl, ap}
use Rattle.ktm_trace.specs.Joined.{head_id, joined_all}
use Rattle.ktm_trace.specs.declared.heads.Head.{Head}
use Rattle.ktm_trace.specs.Placed.{at_id}
use Rattle.ktm_trace.specs.Traces.{Traced, once_held}
use Rattle.ktm_trace.proofs.Few.{head-fits}
use Rattle.ktm_trace.proofs.Joining.{Comes, free, held-comes, new-id}
use Rattle.ktm_trace.proofs.trace.Trace.hold.Goals as goal

pub put-requires-clause-room : goal.put-requires-clause-room
put-requires-clause-room c = rw c.take_or_new-head.ensures.capacity (head-fits c.self.inside.heads.heads c.self.inside.marks.marks c.args.transaction c.take_or_new-head.new.self.heads c.self.inside.heads.capacity (rw (← c.self.view_is) at c.requires) c.self.invariant.1.transactions c.take_or_new-head.ensures.rest)

pub put-requires-clause-new : goal.put-requires-clause-new
put-requires-clause-new c =
    let hs = c.self.inside.heads.heads in
    free hs c.take_or_new-head.new.self.heads c.args.transaction (c.take_or_new-head.result).id c.take_or_new-head.ensures.rest
    (ap (λ (h : Head). h.id) c.take_or_new-head.ensures.taken ∙ new-id c.args.transaction (at_id head_id hs c.args.transaction) hs refl)

comes : (c : goal.After-put) → Comes c.put.new.self.heads c.self.inside.marks.marks (once_held (joined_all c.self.inside.heads.heads c.self.inside.marks.marks) c.args.transaction c.args.superior)
comes c = held-comes c.self.inside.heads.heads c.self.inside.marks.marks c.args.transaction c.args.superior c.take_or_new-head.result c.take_or_new-head.new.self.heads c.put.new.self.heads
    c.self.invariant.0 c.take_or_new-head.ensures.taken c.take_or_new-head.ensures.rest c.put.ensures.heads

pub invariant_of-self : goal.invariant_of-self
invariant_of-self c = ((comes c).are, rw (c.put.ensures.capacity, c.take_or_new-head.ensures.capacity) c.self.invariant.1)

pub returns : goal.returns
returns c = (comes c).is ∙ ap (λ (us : List Traced). once_held us c.args.transaction c.args.superior) c.self.view_is
