use Rattle.std.proofs.Common.{◌∙◌, ◌||◌, ap}
use Rattle.std.specs.List.{list_any}
use Rattle.ktm_world.specs.declared.recorded.RecordedPart.{RecordedPart}
use Rattle.ktm_saved.specs.Tests.{is_known}
use Rattle.ktm_saved.proofs.EachOther.{any-enlisted}
use Rattle.ktm_saved.proofs.beside.has_known_enlistment.Goals as goal
use Rattle.ktm_world.specs.Durable.{enlistments_in}

pub returns-else-is_superior_known : goal.returns-else-is_superior_known
returns-else-is_superior_known c =
    let test = is_known c.args.transactions.now.transactions in
    let ps = c.transaction.inside.parts.items in
    let rest = rw c.deref.ensures.value at c.are_parts_known.ensures in
    rw (← c.transaction.view_is)
    (rest ∙ ap (λ b. b || list_any (λ (p : RecordedPart). list_any test (enlistments_in p.part)) ps) c.if-is_superior_known.ensures ∙ any-enlisted test c.transaction.inside.superior ps)
