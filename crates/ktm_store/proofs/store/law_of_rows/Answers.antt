use Rattle.ktm_store.proofs.Rows.{shows-row}
use Rattle.ktm_store.proofs.store.law_of_rows.Goals as goal

pub returns-clause-rows : goal.returns-clause-rows
returns-clause-rows c = rw (← c.store.view_is) (shows-row _ c.store.invariant.0 c.count.ensures.whole)
