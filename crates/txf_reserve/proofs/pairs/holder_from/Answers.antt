use Rattle.std.proofs.Common.{sym, ◌∙◌}
use Rattle.std.proofs.lemmas.Option.{same_Some}
use Rattle.txf_reserve.proofs.Others.{holder, no_holder}
use Rattle.txf_reserve.proofs.pairs.holder_from.Goals as goal

pub returns-then-not-starts_with-clause-none : goal.returns-then-not-starts_with-clause-none
returns-then-not-starts_with-clause-none g c =
    let first = c.in-Some.ensures.first in
    let name = same_Some c.in-Some-name.name.now first.name (c.in-Some-name.ensures.name first.name first.value first.there) in
    no_holder c.args.prefix.now c.args.from.now c.args.map.now.entries c.in-Some.own first c.requires c.in-Some-name.name.now name (sym c.if-not-starts_with.ensures.value)

pub returns-clause-some : goal.returns-clause-some
returns-clause-some g c =
    let first = c.in-Some.ensures.first in
    let name = same_Some c.in-Some-name.name.now first.name (c.in-Some-name.ensures.name first.name first.value first.there) in
    holder c.args.prefix.now c.args.from.now c.args.map.now.entries c.in-Some.own first c.requires c.in-Some-name.name.now name (sym c.if-not-starts_with.ensures.value) c.copied.result
    (c.copied.ensures ∙ c.get.ensures.under first.name first.value first.there)
