use Rattle.std.proofs.Common.{◌+◌, ◌∙◌, sym}
use Rattle.ktm_links.proofs.Blocks.{all_from, block_is, flat_from, none_from, used_behind}
use Rattle.ktm_links.proofs.order.Order.keys_from.Goals as goal

pub new-requires : goal.new-requires
new-requires c =
    rw (all_from (c.args.spot.block + 1) c.deref-in-Some.result.now, c.deref-in-Some.ensures.value)
    (used_behind _ (c.args.spot.block + 1) c.self.invariant.used)

pub returns-in-Some : goal.returns-in-Some
returns-in-Some c =
    let found = rw c.deref.ensures.value at c.in-Some.ensures.lookup in
    let gap = rw (← c.self.view_is) at c.requires in
    let block = block_is _ c.args.spot.block c.in-Some.block.now found.3.0 found.1 in
    c.new.ensures
    ∙ rw (
      all_from c.args.spot.place c.as_slice.result.now,
      c.as_slice.ensures.keys,
      all_from (c.args.spot.block + 1) c.deref-in-Some.result.now,
      c.deref-in-Some.ensures.value,
      sym block,
      ← c.self.view_is,
    )
    (flat_from _ c.args.spot found.3.0 gap.place)

pub returns-in-None : goal.returns-in-None
returns-in-None c =
    let none = rw c.deref.ensures.value at c.in-None.ensures.lookup in
    c.new-in-None.ensures ∙ rw (← c.self.view_is) (none_from _ c.args.spot (rw (← c.self.view_is) at c.requires) none.3)
