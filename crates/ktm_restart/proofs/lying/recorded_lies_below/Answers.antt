use Rattle.std.proofs.Common.{◌∙◌, All, List, ap, subst, sym}
use Rattle.ktm_paged.specs.Paged.{PutLiesBelow}
use Rattle.ktm_world.specs.declared.recorded.RecordedPart.{RecordedPart}
use Rattle.ktm_world.specs.Durable.{Recorded, changes_in}
use Rattle.ktm_restart.proofs.lying.recorded_lies_below.Goals as goal

pub returns : goal.returns
returns c =
    let P : List RecordedPart → Type 0 = λ parts. All (λ (part : RecordedPart). All (PutLiesBelow c.args.count) (changes_in part.part)) parts in
    let same = c.deref.ensures.value ∙ ap (λ (t : Recorded). t.parts) c.transaction.view_is in
    (λ is. subst P same (c.parts_lie_below.ensures.0 is), λ lies. c.parts_lie_below.ensures.1 (subst P (sym same) lies))
