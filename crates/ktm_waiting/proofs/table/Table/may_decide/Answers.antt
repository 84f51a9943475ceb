use Rattle.std.proofs.Common.{◌∙◌, ◌&&◌, ◌||◌, sym, ap}
use Rattle.ktm_world.specs.Durable.{Recorded, has_part, is_held, is_ready}
use Rattle.ktm_waiting.proofs.offered.TableSteps.{passes, passes-at}
use Rattle.ktm_waiting.proofs.table.Table.may_decide.Goals as goal

pub returns-in-Some : goal.returns-in-Some
returns-in-Some c =
    c.may_decide.ensures ∙ ap (passes (λ (t : Recorded). is_held t.stage || (is_ready t.stage && has_part t))) c.in-Some.ensures.found ∙ sym (passes-at c.args.self.now.transactions c.args.id (λ (t : Recorded). is_held t.stage || (is_ready t.stage && has_part t)) c.get.ensures.rise)

pub returns-in-None : goal.returns-in-None
returns-in-None c =
    ap (passes (λ (t : Recorded). is_held t.stage || (is_ready t.stage && has_part t))) c.in-None.ensures.found ∙ sym (passes-at c.args.self.now.transactions c.args.id (λ (t : Recorded). is_held t.stage || (is_ready t.stage && has_part t)) c.get.ensures.rise)
