use Rattle.std.proofs.Common.{◌∙◌, not, sym, ap}
use Rattle.ktm_world.specs.Durable.{Recorded, is_decided}
use Rattle.ktm_waiting.proofs.offered.TableSteps.{passes, passes-at}
use Rattle.ktm_waiting.proofs.table.Table.may_undo.Goals as goal

pub returns-in-Some : goal.returns-in-Some
returns-in-Some c =
    c.may_undo.ensures ∙ ap (passes (λ (t : Recorded). not (is_decided t.stage))) c.in-Some.ensures.found ∙ sym (passes-at c.args.self.now.transactions c.args.id (λ (t : Recorded). not (is_decided t.stage)) c.get.ensures.rise)

pub returns-in-None : goal.returns-in-None
returns-in-None c =
    ap (passes (λ (t : Recorded). not (is_decided t.stage))) c.in-None.ensures.found ∙ sym (passes-at c.args.self.now.transactions c.args.id (λ (t : Recorded). not (is_decided t.stage)) c.get.ensures.rise)
