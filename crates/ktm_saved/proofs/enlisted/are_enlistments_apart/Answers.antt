use Rattle.std.proofs.Common.{◌∙◌, ◌&&◌, ap}
use Rattle.ktm_saved.proofs.EachOther.{of_parts, pairs-superior}
use Rattle.ktm_saved.proofs.enlisted.are_enlistments_apart.Goals as goal
use Rattle.txf_laws.proofs.offered.GoodTransactions.{differ}
use Rattle.txf_laws.specs.Elements.{each_pair}

pub returns-then-is_no_superior_of : goal.returns-then-is_no_superior_of
returns-then-is_no_superior_of c =
    let ps = c.transaction.inside.parts.items in
    let rest = rw c.deref-then-is_no_superior_of.ensures.value at c.are_parts_apart.ensures in
    let first = rw c.deref.ensures.value at c.if-is_no_superior_of.ensures in
    rw (← c.transaction.view_is) (rest ∙ ap (λ b. b && each_pair differ (of_parts ps)) first ∙ pairs-superior (of_parts ps) c.transaction.inside.superior)

pub returns-else-is_no_superior_of : goal.returns-else-is_no_superior_of
returns-else-is_no_superior_of c =
    let ps = c.transaction.inside.parts.items in
    let first = rw c.deref.ensures.value at c.if-is_no_superior_of.ensures in
    rw (← c.transaction.view_is) (c.if-is_no_superior_of.false ∙ ap (λ b. b && each_pair differ (of_parts ps)) first ∙ pairs-superior (of_parts ps) c.transaction.inside.superior)
