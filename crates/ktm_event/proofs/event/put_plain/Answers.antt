use Rattle.ktm_event.proofs.Writings.{pushed, on_ok_so}
use Rattle.ktm_event.proofs.event.put_plain.Goals as goal

pub returns-clause-adds : goal.returns-clause-adds
returns-clause-adds c = on_ok_so c.put_change.result c.put_change.ensures.adds (pushed c.in_ok-push.ensures.items)
