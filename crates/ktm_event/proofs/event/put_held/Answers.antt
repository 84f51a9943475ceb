use Rattle.ktm_event.proofs.Writings.{headed, on_ok_so}
use Rattle.ktm_event.proofs.event.put_held.Goals as goal

pub returns-clause-adds : goal.returns-clause-adds
returns-clause-adds c = on_ok_so c.put_record.result c.put_record.ensures.adds (headed c.in_ok-put_tagged_id.ensures.adds)
