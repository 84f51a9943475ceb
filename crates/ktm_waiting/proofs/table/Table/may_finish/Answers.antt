use Rattle.std.proofs.Common.{◌∙◌, sym, ap}
use Rattle.ktm_world.specs.Durable.{has_undone}
use Rattle.ktm_waiting.proofs.offered.TableSteps.{passes, passes-at}
use Rattle.ktm_waiting.proofs.table.Table.may_finish.Goals as goal

pub returns-in-Some : goal.returns-in-Some
returns-in-Some c =
    c.has_undone.ensures ∙ ap (passes (has_undone c.args.done)) c.in-Some.ensures.found ∙ sym (passes-at c.args.self.now.transactions c.args.id (has_undone c.args.done) c.get.ensures.rise)

pub returns-in-None : goal.returns-in-None
returns-in-None c =
    ap (passes (has_undone c.args.done)) c.in-None.ensures.found ∙ sym (passes-at c.args.self.now.transactions c.args.id (has_undone c.args.done) c.get.ensures.rise)
