use Rattle.std.proofs.Common.{◌∙◌, sym, ap}
use Rattle.txf_laws.proofs.offered.Tables.{recorded_at-found}
use Rattle.ktm_world.specs.Durable.{Recorded, parts_done}
use Rattle.ktm_waiting.specs.Table.{finished_in}
use Rattle.ktm_waiting.proofs.offered.TableSteps.{absent-without, gone, put-back}
use Rattle.ktm_waiting.proofs.table.Table.finish.Goals as goal

pub returns-in_default : goal.returns-in_default
returns-in_default c =
    let ts = c.args.self.now.transactions in
    c.take.ensures.rest ∙ absent-without ts c.args.id c.in_default.ensures.taken ∙ ap (finished_in ts c.args.done) c.in_default.ensures.taken

pub put_while_not_done-requires-clause-new : goal.put_while_not_done-requires-clause-new
put_while_not_done-requires-clause-new c =
    let ts = c.args.self.now.transactions in
    gone ts c.take.new.self.transactions c.args.id c.finish_part.result.id c.take.ensures.rest
    (ap (λ (t : Recorded). t.id) c.finish_part.ensures ∙ (recorded_at-found ts c.args.id c.in-Some.t (sym c.in-Some.ensures.taken)).1)

pub returns : goal.returns
returns c =
    let ts = c.args.self.now.transactions in
    let t : Recorded = record c.in-Some.t { parts = parts_done c.args.done c.in-Some.t.parts } in
    put-back ts c.take.new.self.transactions c.put_while_not_done.new.self.transactions t c.finish_part.result c.args.id c.take.ensures.rise c.take.ensures.rest
    (recorded_at-found ts c.args.id c.in-Some.t (sym c.in-Some.ensures.taken)).1 c.put_while_not_done.ensures c.finish_part.ensures
    ∙ ap (finished_in ts c.args.done) c.in-Some.ensures.taken
