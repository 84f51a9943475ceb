use Rattle.std.proofs.Common.{◌+◌, ◌∙◌, ap, ap₂, drop, sym}
use Rattle.std.specs.Cmp.Lexicographic.{slice_cmp}
use Rattle.std.specs.Ordering.{nat_cmp}
use Rattle.ktm_base.specs.Order.{digits}
use Rattle.ktm_base.proofs.Compared.{by_lengths}
use Rattle.ktm_base.proofs.offered.Digits.{digits-alike}
use Rattle.ktm_base.proofs.order.compare_last.Goals as goal

pub returns : goal.returns
returns c =
    let behind = c.args.at + 8 in
    let alike = ap (λ n. digits 7 n (drop behind c.args.b.now)) (sym c.if-first-second.false) in
    c.cmp-2.ensures
    ∙ sym
    (ap₂ (slice_cmp nat_cmp) c.number_at-first.ensures (c.number_at-second.ensures ∙ alike)
    ∙ digits-alike 7 c.number_at-first.result (drop behind c.args.a.now) (drop behind c.args.b.now)
    ∙ by_lengths c.args.a.now c.args.b.now behind c.requires)
