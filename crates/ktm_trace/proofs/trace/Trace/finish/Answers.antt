use Rattle.std.proofs.Common.{◌≡◌, ◌∙◌, List, None, Option, Some, sym, ap}
use Rattle.ktm_trace.specs.Joined.{joined_all}
use Rattle.ktm_trace.specs.Placed.{at_id}
use Rattle.ktm_trace.specs.Traces.{Traced, id_of, once_done}
use Rattle.ktm_trace.proofs.Joining.{Comes, absent, done-comes, free, new-id}
use Rattle.ktm_trace.proofs.trace.Trace.finish.Goals as goal

none : (c : goal.In_default) → Comes c.take.new.self.heads c.self.inside.marks.marks (joined_all c.self.inside.heads.heads c.self.inside.marks.marks) × (at_id id_of (joined_all c.self.inside.heads.heads c.self.inside.marks.marks) c.args.transaction ≡ None)
none c = absent c.self.inside.heads.heads c.self.inside.marks.marks c.args.transaction c.take.new.self.heads c.self.invariant.0 c.in_default.ensures.taken c.take.ensures.rest

pub invariant_of-self : goal.invariant_of-self
invariant_of-self c = ((none c).0.are, rw c.take.ensures.capacity c.self.invariant.1)

pub returns-in_default : goal.returns-in_default
returns-in_default c = record { transactions = (none c).0.is ∙ ap (λ (o : Option Traced). once_done (joined_all c.self.inside.heads.heads c.self.inside.marks.marks) c.args.done o) (sym (none c).1) ∙ ap (λ (us : List Traced). once_done us c.args.done (at_id id_of us c.args.transaction)) c.self.view_is }

pub put_while_not_done-requires-clause-new : goal.put_while_not_done-requires-clause-new
put_while_not_done-requires-clause-new c =
    let hs = c.self.inside.heads.heads in
    free hs c.take.new.self.heads c.args.transaction (c.in-Some.head).id c.take.ensures.rest (new-id c.args.transaction (Some c.in-Some.head) hs (sym c.in-Some.ensures.taken))

comes : (c : goal.After-put_while_not_done) → Comes c.put_while_not_done.new.heads.heads c.put_while_not_done.new.marks.marks (once_done (joined_all c.self.inside.heads.heads c.self.inside.marks.marks) c.args.done (at_id id_of (joined_all c.self.inside.heads.heads c.self.inside.marks.marks) c.args.transaction))
comes c = done-comes c.self.inside.heads.heads c.self.inside.marks.marks c.args.transaction c.args.done c.in-Some.head c.take.new.self.heads c.put_while_not_done.new.heads.heads c.finish.new.self.marks c.put_while_not_done.new.marks.marks
    c.self.invariant.0 c.in-Some.ensures.taken c.take.ensures.rest c.finish.ensures.marks c.put_while_not_done.ensures.heads c.put_while_not_done.ensures.marks

pub invariant_of-self-2 : goal.invariant_of-self-2
invariant_of-self-2 c = ((comes c).are, rw (c.put_while_not_done.ensures.head_capacity, c.put_while_not_done.ensures.mark_capacity, c.take.ensures.capacity, c.finish.ensures.capacity) c.self.invariant.1)

pub returns : goal.returns
returns c = record { transactions = (comes c).is ∙ ap (λ (us : List Traced). once_done us c.args.done (at_id id_of us c.args.transaction)) c.self.view_is }
