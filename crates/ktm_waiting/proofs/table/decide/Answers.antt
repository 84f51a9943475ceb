use Rattle.std.proofs.Common.{◌∙◌, List, map, ap}
use Rattle.ktm_world.specs.declared.recorded.RecordedPart.{RecordedPart}
use Rattle.ktm_world.specs.declared.recorded.Stage.{Stage}
use Rattle.ktm_world.specs.Durable.{settings_in}
use Rattle.txf_laws.proofs.offered.Parts.{gathered}
use Rattle.ktm_waiting.specs.Work.{without_settings}
use Rattle.ktm_waiting.proofs.offered.TableSteps.{emptied-both, settings-left}
use Rattle.ktm_waiting.proofs.table.decide.Goals as goal

pub returns-clause-transaction : goal.returns-clause-transaction
returns-clause-transaction c =
    let parts = c.take_settings-settings.ensures.left ∙ ap (map without_settings) c.take_changes-changes.ensures.left ∙ emptied-both c.transaction.inside.parts.items in
    rw (← c.transaction.view_is) (ap (λ (ps : List RecordedPart). record { id = c.transaction.inside.id; stage = Stage.Decided; superior = c.transaction.inside.superior; parts = ps }) parts)

pub returns-clause-settings : goal.returns-clause-settings
returns-clause-settings c =
    rw (← c.transaction.view_is) (c.take_settings-settings.ensures.taken ∙ ap (gathered settings_in) c.take_changes-changes.ensures.left ∙ settings-left c.transaction.inside.parts.items)
