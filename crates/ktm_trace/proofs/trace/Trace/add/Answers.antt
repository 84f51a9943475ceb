use Rattle.std.proofs.Common.{◌∙◌, ◌++◌, List, arith, ap, map}
use Rattle.ktm_world.specs.Durable.{Recorded}
use Rattle.ktm_trace.specs.Joined.{head_id, joined_all, mark_of}
use Rattle.ktm_trace.specs.Placed.{placed}
use Rattle.ktm_trace.specs.Traces.{Traced, id_of, traced}
use Rattle.ktm_trace.proofs.Joining.{Comes, added-comes, not-among}
use Rattle.ktm_trace.proofs.trace.Trace.add.Goals as goal

pub put-requires-clause-new : goal.put-requires-clause-new
put-requires-clause-new c =
    rw c.in_ok-reserve_one.ensures.same (not-among c.self.inside.heads.heads c.self.inside.marks.marks c.transaction.inside.id (rw (← c.self.view_is, ← c.transaction.view_is) at c.requires))

-- the transaction that is added
abbrev added : goal.After-add → Recorded
added c = record { id = c.transaction.inside.id; stage = c.transaction.inside.stage; superior = c.transaction.inside.superior; parts = c.transaction.inside.parts.items }

comes : (c : goal.After-add) → Comes c.put.new.self.heads c.add.new.self.marks (placed id_of (joined_all c.self.inside.heads.heads c.self.inside.marks.marks) (traced (added c)))
comes c =
    let hs = c.self.inside.heads.heads in
    let ms = c.self.inside.marks.marks in
    let t = c.transaction.inside in
    added-comes hs ms (added c) c.put.new.self.heads c.add.new.self.marks c.self.invariant.0 (not-among hs ms t.id (rw (← c.self.view_is, ← c.transaction.view_is) at c.requires))
    (c.put.ensures.heads ∙ (λ i. placed head_id (c.in_ok-reserve_one.ensures.same i) (record { id = t.id; stage = t.stage; superior = c.superior_id.ensures i })))
    (c.add.ensures.marks ∙ (λ i. c.in_ok-reserve.ensures.same i ++ map (mark_of t.id) (c.deref.ensures.value i)))

pub invariant_of-self-2 : goal.invariant_of-self-2
invariant_of-self-2 c = (
  (comes c).are,
  record {
    transactions = omega (arith, c.self.invariant.1.transactions, c.in_ok-reserve_one.ensures.capacity, c.put.ensures.capacity);
    parts = omega (arith, c.self.invariant.1.parts, c.in_ok-reserve.ensures.capacity, c.add.ensures.capacity);
  },
)

pub returns-clause-transactions : goal.returns-clause-transactions
returns-clause-transactions c =
    (comes c).is ∙ ap (λ (t : Recorded). placed id_of (joined_all c.self.inside.heads.heads c.self.inside.marks.marks) (traced t)) c.transaction.view_is
    ∙ ap (λ (us : List Traced). placed id_of us (traced c.args.transaction.now)) c.self.view_is
