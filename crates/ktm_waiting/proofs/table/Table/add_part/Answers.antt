use Rattle.std.proofs.Common.{◌∙◌, ap}
use Rattle.ktm_world.specs.Durable.{Recorded, recorded_or_new}
use Rattle.ktm_waiting.specs.Table.{with_one_part}
use Rattle.ktm_waiting.proofs.offered.TableSteps.{gone, or-new-id, put-with}
use Rattle.ktm_waiting.proofs.table.Table.add_part.Goals as goal

pub put-requires-clause-new : goal.put-requires-clause-new
put-requires-clause-new c =
    gone c.args.self.now.transactions c.take_or_new.new.self.transactions c.args.id c.in_ok-t-2.t.id c.in_ok-t.ensures.rest
    (ap (λ (t : Recorded). t.id) (c.in_ok-t-2.ensures ∙ ap (λ (t : Recorded). with_one_part t c.args.part) c.in_ok-t.ensures.taken) ∙ or-new-id c.args.self.now.transactions c.args.id)

pub returns-clause-ok : goal.returns-clause-ok
returns-clause-ok c =
    let ts = c.args.self.now.transactions in
    put-with ts c.take_or_new.new.self.transactions c.put.new.self.transactions (with_one_part (recorded_or_new ts c.args.id) c.args.part) c.in_ok-t-2.t c.args.id c.in_ok-t.ensures.rise c.in_ok-t.ensures.rest
    (or-new-id ts c.args.id) c.put.ensures (c.in_ok-t-2.ensures ∙ ap (λ (t : Recorded). with_one_part t c.args.part) c.in_ok-t.ensures.taken)
