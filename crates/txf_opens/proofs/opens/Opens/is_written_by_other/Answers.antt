use Rattle.std.proofs.Common.{sym, ◌∙◌, arith}
use Rattle.txf_opens.proofs.Writing.{first_is_other, next_tells, none_at_all, none_behind}
use Rattle.txf_opens.proofs.opens.Opens.is_written_by_other.Goals as goal

pub returns-in_default : goal.returns-in_default
returns-in_default c =
    rw (← c.self.view_is) (none_at_all _ c.args.who c.args.node c.self.invariant.distinct (rw c.transacted_bytes.ensures at c.in_default.ensures.none))

pub returns-then-not-is_same_group : goal.returns-then-not-is_same_group
returns-then-not-is_same_group c =
    rw (← c.self.view_is)
    (first_is_other _ c.args.who c.args.node c.self.invariant.distinct c.in-Some.first (rw c.transacted_bytes.ensures at c.in-Some.ensures.first)
    (sym c.is_same_group.ensures ∙ c.if-not-is_same_group.true))

pub returns-in-Some-first_writer_from : goal.returns-in-Some-first_writer_from
returns-in-Some-first_writer_from c =
    let is = rw c.past.ensures at c.in-Some-first_writer_from.ensures.first in
    let low = c.self.invariant.below is.key c.in-Some-first_writer_from.next is.there in
    let small = c.self.invariant.small in
    rw (← c.self.view_is)
    (next_tells _ c.args.who c.args.node c.self.invariant.distinct c.in-Some.first (rw c.transacted_bytes.ensures at c.in-Some.ensures.first)
    (sym c.is_same_group.ensures ∙ c.if-not-is_same_group.false) c.in-Some-first_writer_from.next (omega (arith, low, small)) is)

pub returns-in-None : goal.returns-in-None
returns-in-None c =
    rw (← c.self.view_is)
    (none_behind _ c.args.who c.args.node c.self.invariant.distinct c.in-Some.first (rw c.transacted_bytes.ensures at c.in-Some.ensures.first)
    (sym c.is_same_group.ensures ∙ c.if-not-is_same_group.false) (rw c.past.ensures at c.in-None.ensures.none))
