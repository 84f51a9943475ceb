use Rattle.ktm_event.proofs.Writings.{pushed, on_ok_so}
use Rattle.ktm_event.proofs.part.put_enlistment.Goals as goal

pub returns-clause-adds : goal.returns-clause-adds
returns-clause-adds c = on_ok_so c.put_record.result c.put_record.ensures.adds (pushed c.in_ok-push.ensures.items)
