use Rattle.ktm_event.proofs.Writings.{then}
use Rattle.ktm_event.proofs.part.put_record.Goals as goal

pub returns-clause-adds : goal.returns-clause-adds
returns-clause-adds c = rw (← c.in_ok-reserve.ensures.items) (then c.put_id.ensures.adds (then c.put_id-2.ensures.adds c.put_text.ensures.adds))
