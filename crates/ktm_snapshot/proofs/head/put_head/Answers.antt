use Rattle.ktm_event.proofs.Writings.{then}
use Rattle.ktm_snapshot.proofs.head.put_head.Goals as goal

pub returns-clause-adds : goal.returns-clause-adds
returns-clause-adds c = then c.put_u64.ensures.adds (then c.put_u32.ensures.adds c.put_u64-2.ensures.adds)
