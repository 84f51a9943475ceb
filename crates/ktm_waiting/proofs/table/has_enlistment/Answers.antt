use Rattle.std.proofs.Common.{◌∙◌, sym}
use Rattle.ktm_waiting.proofs.offered.TableSteps.{enlisted}
use Rattle.ktm_waiting.proofs.table.has_enlistment.Goals as goal

pub returns-else-is_superior : goal.returns-else-is_superior
returns-else-is_superior c =
    rw (← c.transaction.view_is)
    (rw c.deref.ensures.value at c.has_part_of.ensures ∙ enlisted c.transaction.inside.superior c.transaction.inside.parts.items c.args.enlistment (sym c.if-is_superior.ensures))
