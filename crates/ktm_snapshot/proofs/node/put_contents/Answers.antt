use Rattle.ktm_snapshot.proofs.Writing.{contents_written}
use Rattle.ktm_snapshot.proofs.node.put_contents.Goals as goal

pub returns-clause-adds : goal.returns-clause-adds
returns-clause-adds c = contents_written c.len.ensures c.pages.ensures c.put_u64.ensures.adds c.put_pages.ensures.adds
