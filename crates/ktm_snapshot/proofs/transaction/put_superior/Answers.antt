use Rattle.ktm_event.proofs.Writings.{tagged}
use Rattle.ktm_snapshot.proofs.transaction.put_superior.Goals as goal

pub returns-in-Some-clause-adds : goal.returns-in-Some-clause-adds
returns-in-Some-clause-adds c = rw c.in-Some.is (tagged c.put_u8.ensures.adds (rw c.unwrap.ensures at c.put_record.ensures.adds))
