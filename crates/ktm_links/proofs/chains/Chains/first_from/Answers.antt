use Rattle.ktm_links.specs.Blocks.{index_of}
use Rattle.ktm_links.proofs.InOrder.{first_key}
use Rattle.ktm_links.proofs.chains.Chains.first_from.Goals as goal

pub returns-clause-key : goal.returns-clause-key
returns-clause-key g c =
    rw (← c.self.view_is)
    (first_key _ c.args.name.now _ (index_of c.self.inside.order.blocks c.not_below.result) _ c.self.invariant (rw c.as_blocks.ensures.blocks at c.not_below.ensures.first) c.get.ensures).key

pub returns-clause-value : goal.returns-clause-value
returns-clause-value g c =
    rw (← c.self.view_is)
    (first_key _ c.args.name.now _ (index_of c.self.inside.order.blocks c.not_below.result) _ c.self.invariant (rw c.as_blocks.ensures.blocks at c.not_below.ensures.first) c.get.ensures).value

pub returns-clause-first : goal.returns-clause-first
returns-clause-first g c =
    rw (← c.self.view_is)
    (first_key _ c.args.name.now _ (index_of c.self.inside.order.blocks c.not_below.result) _ c.self.invariant (rw c.as_blocks.ensures.blocks at c.not_below.ensures.first) c.get.ensures).first

pub returns-clause-none : goal.returns-clause-none
returns-clause-none g c =
    rw (← c.self.view_is)
    (first_key _ c.args.name.now _ (index_of c.self.inside.order.blocks c.not_below.result) _ c.self.invariant (rw c.as_blocks.ensures.blocks at c.not_below.ensures.first) c.get.ensures).none
