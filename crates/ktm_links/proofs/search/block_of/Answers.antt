use Rattle.std.proofs.Common.{◌∙◌, ◌-◌, ◌<◌, [], ap, length, rules, sym}
use Rattle.std.proofs.lemmas.Fn.{always_returns_same}
use Rattle.std.proofs.lemmas.Option.{get_or_from_slice_get}
use Rattle.ktm_links.specs.Order.{last_order}
use Rattle.ktm_links.proofs.Found.{all_below, before_last}
use Rattle.ktm_links.proofs.search.block_of.Goals as goal

pub returns-in-Less-clause-position : goal.returns-in-Less-clause-position
returns-in-Less-clause-position g c =
    let order = last_order c.args.values.now.items c.args.name.now in
    all_below order c.args.blocks.now []
    (λ some. ap (λ l. order l) (get_or_from_slice_get c.args.blocks.now (length c.args.blocks.now - 1) c.in-Some.last.now [] (sym c.in-Some.ensures.value)) ∙ sym c.in-Less.ensures)

pub returns-in-Greater-clause-position : goal.returns-in-Greater-clause-position
returns-in-Greater-clause-position g c =
    let order = last_order c.args.values.now.items c.args.name.now in
    let some : 0 < length c.args.blocks.now = search rules in
    before_last order c.args.blocks.now [] c.binary_search_by.result some
    (ap (λ l. order l) (get_or_from_slice_get c.args.blocks.now (length c.args.blocks.now - 1) c.in-Some.last.now [] (sym c.in-Some.ensures.value))
    ∙ sym c.last_order_of.ensures ∙ c.in-Greater.is)
    c.binary_search_by.ensures.bound
    (c.binary_search_by.ensures.position order (always_returns_same _ _ _ (λ a r f' called. search rules)))
