use Rattle.ktm_event.proofs.Writings.{then}
use Rattle.ktm_snapshot.proofs.transaction.put_transaction.Goals as goal

pub returns-clause-adds : goal.returns-clause-adds
returns-clause-adds c = then c.put_id.ensures.adds (then c.put_stage.ensures.adds (then c.put_superior.ensures.adds c.put_u32.ensures.adds))
