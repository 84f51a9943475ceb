use Rattle.std.proofs.Common.{List, ◌∙◌, ap}
use Rattle.std.specs.List.{list_any}
use Rattle.ktm_owners.specs.Owners.{puts_unit}
use Rattle.ktm_world.specs.declared.recorded.RecordedPart.{RecordedPart}
use Rattle.ktm_world.specs.Durable.{Recorded, changes_in}
use Rattle.ktm_replayed.proofs.replayed.parts_put.Goals as goal

pub returns : goal.returns
returns c =
    c.some_part_puts.ensures
    ∙ ap (λ (parts : List RecordedPart). list_any (λ (part : RecordedPart). list_any (puts_unit c.args.owner c.args.page) (changes_in part.part)) parts) (c.deref.ensures.value ∙ ap (λ (t : Recorded). t.parts) c.transaction.view_is)
