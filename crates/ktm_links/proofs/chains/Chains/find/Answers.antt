use Rattle.std.proofs.Common.{sym}
use Rattle.ktm_links.specs.Blocks.{index_of}
use Rattle.ktm_links.proofs.Blocks.{spot_gap, within}
use Rattle.ktm_links.proofs.offered.Entries.{none_at}
use Rattle.ktm_links.proofs.InOrder.{absent, found_key}
use Rattle.ktm_links.proofs.chains.Chains.find.Goals as goal

pub get-requires : goal.get-requires
get-requires g c = spot_gap _ c.in-Ok.spot (rw c.as_blocks.ensures.blocks at c.in-Ok.ensures.spot)

pub returns-in-Ok-clause-key : goal.returns-in-Ok-clause-key
returns-in-Ok-clause-key g c =
    rw (← c.self.view_is)
    (found_key _ _ _ (index_of c.self.inside.order.blocks c.in-Ok.spot) _ c.self.invariant (within _ c.in-Ok.spot (rw c.as_blocks.ensures.blocks at c.in-Ok.ensures.spot))
    (rw c.as_blocks.ensures.blocks at c.in-Ok.ensures.position) c.get.ensures).key

pub returns-in-Ok-clause-value : goal.returns-in-Ok-clause-value
returns-in-Ok-clause-value g c =
    rw (← c.self.view_is)
    (found_key _ _ _ (index_of c.self.inside.order.blocks c.in-Ok.spot) _ c.self.invariant (within _ c.in-Ok.spot (rw c.as_blocks.ensures.blocks at c.in-Ok.ensures.spot))
    (rw c.as_blocks.ensures.blocks at c.in-Ok.ensures.position) c.get.ensures).value

pub returns-in-Ok-clause-absent : goal.returns-in-Ok-clause-absent
returns-in-Ok-clause-absent g c =
    rw (← c.self.view_is)
    (found_key _ _ _ (index_of c.self.inside.order.blocks c.in-Ok.spot) _ c.self.invariant (within _ c.in-Ok.spot (rw c.as_blocks.ensures.blocks at c.in-Ok.ensures.spot))
    (rw c.as_blocks.ensures.blocks at c.in-Ok.ensures.position) c.get.ensures).absent

pub returns-in-Err : goal.returns-in-Err
returns-in-Err g c =
    let free = absent _ _ _ _ c.self.invariant (rw c.as_blocks.ensures.blocks at c.in-Err.ensures.position) in
    rw (← c.self.view_is)
    (record {
      key = free;
      value = tt;
      absent = sym (none_at _ c.args.name.now free).0;
    })
