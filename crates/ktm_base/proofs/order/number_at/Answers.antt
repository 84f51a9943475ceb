use Rattle.std.proofs.Common.{◌∙◌, drop, take, ap, arith}
use Rattle.std.specs.Int.{w64, from_be_bytes}
use Rattle.std.proofs.lemmas.List.{drop-drop, length-drop, take_all}
use Rattle.ktm_base.specs.Order.{digits}
use Rattle.ktm_base.proofs.Compared.{bytes_behind, eight_bytes}
use Rattle.ktm_base.proofs.order.number_at.Goals as goal

pub returns : goal.returns
returns c =
    let rest = drop c.args.at c.args.bytes.now in
    let long = length-drop c.args.at c.args.bytes.now in
    eight_bytes rest c.from_be_bytes.result (omega (arith, c.from_be_bytes.type_inv)) (omega (arith, c.requires, long))
    (bytes_behind c.args.bytes.now c.args.at (λ i. omega (arith, c.type_inv.bytes i)))
    (c.from_be_bytes.ensures ∙ ap (from_be_bytes w64) (c.in-Some.ensures.cases.same ∙ ap (take 8) (take_all _ rest (omega (arith, long)))))
    ∙ ap (digits 7 c.from_be_bytes.result) (drop-drop 8 c.args.at c.args.bytes.now)
