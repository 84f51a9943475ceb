use borrow.Follows.Closed.{read_of}
use Rattle.std.proofs.Common.{◌∙◌, ◌-◌, length, min}
use Rattle.std.specs.Option.{ghost_name_of}
use Rattle.ktm_links.specs.Blocks.{flat}
use Rattle.ktm_links.specs.Order.{entries_of}
use Rattle.ktm_links.proofs.InOrder.{keyed, order_revalued}
use Rattle.ktm_links.proofs.chains.Chains.find_mut.Goals as goal

pub invariant_of-self-lent : goal.invariant_of-self-lent
invariant_of-self-lent g c =
    λ _. (
      λ w. (order_revalued _ _ c.args.name.now c.in-Some.key w c.self.invariant c.in-Some.ensures.key).0,
      c.self.invariant,
    )

pub returns-in-Some : goal.returns-in-Some
returns-in-Some g c =
    let values = c.self.inside.values in
    let order = c.self.inside.order in
    let spare = min values.spare (order.capacity - length (flat order.blocks)) in
    rw (← c.self.view_is) (
      λ t. read_of (ghost_name_of c.value_mut.result)
          (λ (w : g.row.T.Denot). record {
            entries = (order_revalued _ _ c.args.name.now c.in-Some.key w c.self.invariant c.in-Some.ensures.key).1 t;
            next = values.next;
            spare = spare;
          })
          (record { entries = entries_of values.items (flat order.blocks); next = values.next; spare = spare }),
      record {
        writes_back = tt;
        value = c.value_mut.ensures.value ∙ keyed _ _ c.in-Some.key c.self.invariant ∙ c.in-Some.ensures.value;
      },
    )
