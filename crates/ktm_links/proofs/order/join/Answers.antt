use Rattle.ktm_links.proofs.Blocks.{joined-is}
use Rattle.ktm_links.proofs.order.join.Goals as goal

pub returns-clause-items : goal.returns-clause-items
returns-clause-items c =
    joined-is c.args.blocks.now.items _ c.args.at c.remove-next.result c.index_mut.result.now c.take_all.new.self c.requires.within
    c.remove-next.ensures.items c.remove-next.ensures.value c.index_mut.ensures.value c.take_all.ensures.all
