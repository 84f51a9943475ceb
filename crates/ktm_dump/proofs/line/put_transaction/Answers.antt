use Rattle.ktm_dump.proofs.Puts.{puts_as}
use Rattle.ktm_dump.proofs.Stages.{decided_line, held_line}
use Rattle.ktm_dump.proofs.line.put_transaction.Goals as goal

pub returns-in-Held : goal.returns-in-Held
returns-in-Held g c = puts_as _ _ _ _ _ (held_line c.args.image _ _ _ c.transaction.view_is c.guid-guid.ensures c.in-Held.is) c.put_guid_line.ensures

pub returns-in-Decided : goal.returns-in-Decided
returns-in-Decided g c = puts_as _ _ _ _ _ (decided_line c.args.image _ _ _ c.transaction.view_is c.guid-guid.ensures c.in-Decided.is) c.put_guid_line-in-Decided.ensures
