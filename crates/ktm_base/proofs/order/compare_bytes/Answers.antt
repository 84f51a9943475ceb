use Rattle.std.proofs.Common.{◌∙◌, refl, sym, arith}
use Rattle.ktm_base.proofs.Compared.{behind_same, by_differing, by_lengths}
use Rattle.ktm_base.proofs.order.compare_bytes.Goals as goal

pub loop-at-init : goal.loop-at-init
loop-at-init c = refl

pub returns-then-a-at : goal.returns-then-a-at
returns-then-a-at c =
    sym
    (c.loop-at.invariant
    ∙ by_differing _ _ c.loop-at.at _ (omega (arith, c.loop-at-test.true, c.min-at-end.ensures)) (omega (arith, c.loop-at-test.true, c.min-at-end.ensures)) c.if-a-at.true c.cmp.ensures)

pub loop-at-preserved : goal.loop-at-preserved
loop-at-preserved c =
    c.loop-at.invariant
    ∙ behind_same _ _ c.loop-at.at (omega (arith, c.loop-at-test.true, c.min-at-end.ensures)) (omega (arith, c.loop-at-test.true, c.min-at-end.ensures)) c.if-a-at.false

pub returns : goal.returns
returns c =
    c.cmp-2.ensures
    ∙ sym (c.loop-at.invariant ∙ by_lengths _ _ c.loop-at.at (omega (arith, c.loop-at-test.false, c.loop-at.auto.at-end, c.min-at-end.ensures)))
