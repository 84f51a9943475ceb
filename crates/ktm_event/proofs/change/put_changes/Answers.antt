use Rattle.ktm_event.proofs.Writings.{then, on_ok_so}
use Rattle.ktm_event.proofs.change.put_changes.Goals as goal

pub returns-clause-adds : goal.returns-clause-adds
returns-clause-adds c = rw (← c.in_ok-reserve.ensures.items) (on_ok_so c.put_row.result c.put_row.ensures.adds (then c.put_u32.ensures.adds))
