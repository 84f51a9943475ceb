use Rattle.std.proofs.Common.{◌-◌, ap}
use Rattle.ktm_waiting.proofs.amounts.added_by_superior.Goals as goal

pub returns : goal.returns
returns c = rw (← c.transaction.view_is) (ap (λ n. 1 - n) c.count_superiors.ensures.count)
