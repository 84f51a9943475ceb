use Rattle.std.proofs.Common.{count_by, filter, sym, ap, ◌∙◌, arith}
use Rattle.ktm_world.specs.Transactions.{is_of}
use Rattle.txf_opens.specs.OpensState.{is_not_of, is_own}
use Rattle.txf_opens.proofs.Ends.{count-closed, fewer_open, filter-closed}
use Rattle.txf_opens.proofs.Listed.{count-none, filter-none}
use Rattle.txf_opens.proofs.opens.Opens.end_group.Goals as goal

pub loop-number-smaller : goal.loop-number-smaller
loop-number-smaller g c = rw c.close.ensures.opens (fewer_open c.in-Some.number c.loop-number.self.opens c.in-Some.ensures.some.there)

pub loop-number-preserved : goal.loop-number-preserved
loop-number-preserved g c = record {
  same =
      ap (filter (is_not_of c.args.transaction)) c.close.ensures.opens
      ∙ filter-closed c.args.transaction c.in-Some.number c.loop-number.self.opens c.in-Some.ensures.some.own
      ∙ c.loop-number.invariant.same;
  last = c.close.ensures.last ∙ c.loop-number.invariant.last;
  spare = let more = c.close.ensures.spare in let before = c.loop-number.invariant.spare in omega (arith, more, before);
  counted =
      omega (
        arith,
        c.loop-number.invariant.counted,
        c.tick.ensures,
        ap (count_by (is_own c.args.transaction)) c.close.ensures.opens,
        count-closed c.args.transaction c.in-Some.number c.loop-number.self.opens c.in-Some.ensures.some.own,
        c.in-Some.ensures.some.once,
      );
}

pub returns-clause-opens : goal.returns-clause-opens
returns-clause-opens g c =
    sym (filter-none (λ o. is_of c.args.transaction o.transaction) c.loop-number.self.opens c.in_default.ensures.none) ∙ c.loop-number.invariant.same

pub returns-clause-counted : goal.returns-clause-counted
returns-clause-counted g c =
    omega (arith, c.loop-number.invariant.counted, count-none (is_own c.args.transaction) c.loop-number.self.opens c.in_default.ensures.none)
