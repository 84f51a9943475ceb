use Rattle.std.proofs.Common.{◌∙◌, ◌&&◌, ap}
use Rattle.std.specs.List.{list_all}
use Rattle.ktm_world.specs.declared.recorded.RecordedPart.{RecordedPart}
use Rattle.ktm_saved.specs.Tests.{against_of, is_enlisted_well}
use Rattle.ktm_saved.proofs.EachOther.{all-enlisted}
use Rattle.ktm_saved.proofs.enlisted.are_enlisted_well.Goals as goal
use Rattle.txf_laws.specs.GoodState.{enlisted_in}

pub returns-then-is_superior_well : goal.returns-then-is_superior_well
returns-then-is_superior_well c =
    let test = is_enlisted_well (against_of c.args.head.now) in
    let ps = c.transaction.inside.parts.items in
    let rest = rw c.deref.ensures.value at c.are_parts_well.ensures in
    rw (← c.transaction.view_is)
    (rest ∙ ap (λ b. b && list_all (λ (p : RecordedPart). list_all test (enlisted_in p.part)) ps) c.if-is_superior_well.ensures ∙ all-enlisted test c.transaction.inside.superior ps)
