use Rattle.std.proofs.Common.{◌*◌, ◌+◌, ◌∙◌, ap, ap₂, arith, drop, sym}
use Rattle.std.specs.Cmp.Lexicographic.{slice_cmp}
use Rattle.std.specs.Ordering.{nat_cmp}
use Rattle.ktm_base.specs.Order.{digits}
use Rattle.ktm_base.proofs.Compared.{behind_front, by_numbers, eight_more, front_before}
use Rattle.ktm_base.proofs.order.compare.Goals as goal

pub returns-then-first-second : goal.returns-then-first-second
returns-then-first-second c =
    let at = 8 * c.loop-eight.eight in
    by_numbers c.number_at-first.result c.number_at-second.result (drop (at + 8) c.args.a.now) (drop (at + 8) c.args.b.now) c.cmp.result c.if-first-second.true c.cmp.ensures
    ∙ sym (behind_front c.args.a.now c.args.b.now at c.loop-eight.invariant ∙ ap₂ (slice_cmp nat_cmp) c.number_at-first.ensures c.number_at-second.ensures)

pub loop-eight-preserved : goal.loop-eight-preserved
loop-eight-preserved c =
    let at = 8 * c.loop-eight.eight in
    let alike = ap (λ n. digits 7 n (drop (at + 8) c.args.b.now)) (sym c.if-first-second.false) in
    eight_more c.args.a.now c.args.b.now at _ c.number_at-first.result _ _ (omega arith) c.loop-eight.invariant c.number_at-first.ensures
    (c.number_at-second.ensures ∙ alike)

pub returns : goal.returns
returns c =
    let at = 8 * c.loop-eight.eight in
    c.compare_last.ensures
    ∙ sym
    (behind_front c.args.a.now c.args.b.now _
    (front_before c.args.a.now c.args.b.now _ at (omega (arith, c.loop-eight-test.false, c.loop-eight.auto.eight-end)) c.loop-eight.invariant))
