use Rattle.std.proofs.Common.{◌∙◌, sym, ap}
use Rattle.ktm_waiting.proofs.offered.TableSteps.{or-new, or_new}
use Rattle.ktm_waiting.proofs.table.Table.take_or_new.Goals as goal

pub returns-in-Some-clause-taken : goal.returns-in-Some-clause-taken
returns-in-Some-clause-taken c = ap (or_new c.args.id) c.in-Some.ensures.taken ∙ sym (or-new c.args.self.now.transactions c.args.id)

pub returns-in_ok-reserve-in-None-clause-taken : goal.returns-in_ok-reserve-in-None-clause-taken
returns-in_ok-reserve-in-None-clause-taken c = c.fresh.ensures ∙ ap (or_new c.args.id) c.in-None.ensures.taken ∙ sym (or-new c.args.self.now.transactions c.args.id)
