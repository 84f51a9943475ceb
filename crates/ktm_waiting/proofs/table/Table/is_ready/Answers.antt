use Rattle.std.proofs.Common.{◌∙◌, sym, ap}
use Rattle.ktm_world.specs.Durable.{Recorded, is_ready}
use Rattle.ktm_waiting.proofs.offered.TableSteps.{or-new, or_new}
use Rattle.ktm_waiting.proofs.table.Table.is_ready.Goals as goal

pub returns-in-Some : goal.returns-in-Some
returns-in-Some c =
    c.is_ready_now.ensures ∙ ap (λ o. (λ (t : Recorded). is_ready t.stage) (or_new c.args.id o)) c.in-Some.ensures.found ∙ ap (λ (t : Recorded). is_ready t.stage) (sym (or-new c.args.self.now.transactions c.args.id))

pub returns-in-None : goal.returns-in-None
returns-in-None c =
    ap (λ o. (λ (t : Recorded). is_ready t.stage) (or_new c.args.id o)) c.in-None.ensures.found ∙ ap (λ (t : Recorded). is_ready t.stage) (sym (or-new c.args.self.now.transactions c.args.id))
