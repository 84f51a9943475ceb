use Rattle.ktm_links.specs.Blocks.{index_of}
use Rattle.ktm_links.proofs.InOrder.{entries_from-at, present_from}
use Rattle.ktm_links.proofs.chains.Chains.walk_from.Goals as goal

pub new-requires : goal.new-requires
new-requires g c = rw c.keys_from.ensures (present_from _ _ (index_of c.self.inside.order.blocks c.not_below-spot.result) c.self.invariant.present)

pub returns-clause-entries : goal.returns-clause-entries
returns-clause-entries g c =
    rw (c.new.ensures, c.keys_from.ensures, ← c.self.view_is)
    (entries_from-at _ c.args.name.now _ (index_of c.self.inside.order.blocks c.not_below-spot.result) c.self.invariant.present
    (rw c.as_blocks.ensures.blocks at c.not_below-spot.ensures.first))
