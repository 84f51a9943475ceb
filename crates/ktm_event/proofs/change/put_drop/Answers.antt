use Rattle.ktm_event.proofs.Writings.{tagged}
use Rattle.ktm_event.proofs.change.put_drop.Goals as goal

pub returns-clause-adds : goal.returns-clause-adds
returns-clause-adds c = rw (← c.in_ok-reserve.ensures.items) (tagged c.put_u8.ensures.adds c.put_u64.ensures.adds)
