use Rattle.std.proofs.Common.{◌∙◌, map, sym, ap}
use Rattle.txf_laws.proofs.offered.Tables.{recorded_at-found}
use Rattle.ktm_world.specs.declared.recorded.Stage.{Stage}
use Rattle.ktm_world.specs.Durable.{Recorded, emptied_part}
use Rattle.ktm_waiting.specs.Table.{decided_in}
use Rattle.ktm_waiting.proofs.offered.TableSteps.{absent-without, gone, put-back}
use Rattle.ktm_waiting.proofs.table.Table.decide.Goals as goal

pub returns-in_default-clause-rest : goal.returns-in_default-clause-rest
returns-in_default-clause-rest c =
    let ts = c.args.self.now.transactions in
    c.take.ensures.rest ∙ absent-without ts c.args.id c.in_default.ensures.taken ∙ ap (decided_in ts) c.in_default.ensures.taken

pub put_while_not_done-requires-clause-new : goal.put_while_not_done-requires-clause-new
put_while_not_done-requires-clause-new c =
    let ts = c.args.self.now.transactions in
    gone ts c.take.new.self.transactions c.args.id c.decide-transaction.result.transaction.id c.take.ensures.rest
    (ap (λ (t : Recorded). t.id) c.decide-transaction.ensures.transaction ∙ (recorded_at-found ts c.args.id c.in-Some.t (sym c.in-Some.ensures.taken)).1)

pub returns-clause-rest : goal.returns-clause-rest
returns-clause-rest c =
    let ts = c.args.self.now.transactions in
    let t : Recorded = record c.in-Some.t { stage = Stage.Decided; parts = map emptied_part c.in-Some.t.parts } in
    put-back ts c.take.new.self.transactions c.put_while_not_done.new.self.transactions t c.decide-transaction.result.transaction c.args.id c.take.ensures.rise c.take.ensures.rest
    (recorded_at-found ts c.args.id c.in-Some.t (sym c.in-Some.ensures.taken)).1 c.put_while_not_done.ensures c.decide-transaction.ensures.transaction
    ∙ ap (decided_in ts) c.in-Some.ensures.taken
