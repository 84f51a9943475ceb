use Rattle.std.proofs.Common.{◌∙◌, ◌-◌, length, sym, ap}
use Rattle.ktm_world.specs.Durable.{Recorded, superior_ids}
use Rattle.ktm_waiting.proofs.offered.TableSteps.{or-new, or_new}
use Rattle.ktm_waiting.proofs.transactions.added_at.Goals as goal

pub returns-in-Some-clause-added : goal.returns-in-Some-clause-added
returns-in-Some-clause-added c =
    c.added_by_superior.ensures ∙ ap (λ o. 1 - length (superior_ids (or_new c.args.id o).superior)) c.in-Some.ensures.found ∙ ap (λ (t : Recorded). 1 - length (superior_ids t.superior)) (sym (or-new c.args.table.now.transactions c.args.id))

pub returns-in-None-clause-added : goal.returns-in-None-clause-added
returns-in-None-clause-added c =
    ap (λ o. 1 - length (superior_ids (or_new c.args.id o).superior)) c.in-None.ensures.found ∙ ap (λ (t : Recorded). 1 - length (superior_ids t.superior)) (sym (or-new c.args.table.now.transactions c.args.id))
