use Rattle.ktm_event.proofs.Writings.{then, tagged}
use Rattle.ktm_event.proofs.change.put_cut.Goals as goal

pub returns-clause-adds : goal.returns-clause-adds
returns-clause-adds c = rw (← c.in_ok-reserve.ensures.items) (tagged c.put_u8.ensures.adds (then c.put_u64.ensures.adds (then c.put_u64-2.ensures.adds c.put_pages.ensures.adds)))
