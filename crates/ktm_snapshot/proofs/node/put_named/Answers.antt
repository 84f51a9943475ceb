use Rattle.ktm_event.proofs.Writings.{then, tagged}
use Rattle.ktm_snapshot.proofs.node.put_named.Goals as goal

pub returns-in-Some-clause-adds : goal.returns-in-Some-clause-adds
returns-in-Some-clause-adds c = rw c.in-Some.is (tagged c.put_u8.ensures.adds (then c.put_text.ensures.adds c.put_contents.ensures.adds))

pub returns-in-None-clause-adds : goal.returns-in-None-clause-adds
returns-in-None-clause-adds c = rw c.in-None.is (tagged c.put_u8-in-None.ensures.adds c.put_text-in-None.ensures.adds)
