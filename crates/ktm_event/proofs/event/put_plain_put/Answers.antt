use Rattle.ktm_event.proofs.Writings.{pushed, on_ok_so}
use Rattle.ktm_event.proofs.event.put_plain_put.Goals as goal

pub returns-clause-adds : goal.returns-clause-adds
returns-clause-adds c = on_ok_so c.put_paged.result c.put_paged.ensures.adds (pushed c.in_ok-push.ensures.items)
