use Rattle.std.proofs.Common.{◌∙◌, List, refl, ap}
use Rattle.ktm_trace.specs.Joined.{head_id, joined_all}
use Rattle.ktm_trace.specs.declared.heads.Head.{Head}
use Rattle.ktm_trace.specs.Placed.{at_id}
use Rattle.ktm_trace.specs.Traces.{Traced, once_ready}
use Rattle.ktm_trace.proofs.Few.{head-fits, mark-fits}
use Rattle.ktm_trace.proofs.Joining.{Comes, free, new-id, ready-comes}
use Rattle.ktm_trace.proofs.trace.Trace.ready.Goals as goal

pub put-requires-clause-room : goal.put-requires-clause-room
put-requires-clause-room c = rw c.take_or_new-head.ensures.capacity (head-fits c.self.inside.heads.heads c.self.inside.marks.marks c.args.transaction c.take_or_new-head.new.self.heads c.self.inside.heads.capacity (rw (← c.self.view_is) at c.requires) c.self.invariant.1.transactions c.take_or_new-head.ensures.rest)

pub push-requires : goal.push-requires
push-requires c = mark-fits c.self.inside.heads.heads c.self.inside.marks.marks c.self.inside.marks.capacity c.self.invariant.0 (rw (← c.self.view_is) at c.requires) c.self.invariant.1.parts

pub put-requires-clause-new : goal.put-requires-clause-new
put-requires-clause-new c =
    let hs = c.self.inside.heads.heads in
    free hs c.take_or_new-head.new.self.heads c.args.transaction (c.take_or_new-head.result).id c.take_or_new-head.ensures.rest
    (ap (λ (h : Head). h.id) c.take_or_new-head.ensures.taken ∙ new-id c.args.transaction (at_id head_id hs c.args.transaction) hs refl)

comes : (c : goal.After-push) → Comes c.put.new.self.heads c.push.new.self.marks (once_ready (joined_all c.self.inside.heads.heads c.self.inside.marks.marks) c.args.transaction c.args.who)
comes c = ready-comes c.self.inside.heads.heads c.self.inside.marks.marks c.args.transaction c.args.who c.take_or_new-head.result c.take_or_new-head.new.self.heads c.put.new.self.heads c.push.new.self.marks
    c.self.invariant.0 c.take_or_new-head.ensures.taken c.take_or_new-head.ensures.rest c.put.ensures.heads c.push.ensures.marks

pub invariant_of-self : goal.invariant_of-self
invariant_of-self c = ((comes c).are, rw (c.put.ensures.capacity, c.take_or_new-head.ensures.capacity, c.push.ensures.capacity) c.self.invariant.1)

pub returns : goal.returns
returns c = (comes c).is ∙ ap (λ (us : List Traced). once_ready us c.args.transaction c.args.who) c.self.view_is
