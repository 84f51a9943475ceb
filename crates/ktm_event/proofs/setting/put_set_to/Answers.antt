use Rattle.ktm_event.proofs.Writings.{tagged}
use Rattle.ktm_event.proofs.setting.put_set_to.Goals as goal

pub returns-clause-adds : goal.returns-clause-adds
returns-clause-adds c =
    rw (← c.in_ok-reserve.ensures.items, c.in-Some.is) (tagged c.put_u8.ensures.adds (rw c.as_slice.ensures at c.put_value.ensures.adds))
