use Rattle.ktm_event.proofs.Writings.{headed, on_ok_so}
use Rattle.ktm_event.proofs.event.put_finished.Goals as goal

pub returns-clause-adds : goal.returns-clause-adds
returns-clause-adds c = on_ok_so c.put_done.result c.put_done.ensures.adds (headed c.in_ok-put_tagged_id.ensures.adds)
