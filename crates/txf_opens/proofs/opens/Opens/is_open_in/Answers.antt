use Rattle.std.specs.List.{list_any}
use Rattle.ktm_world.specs.Conflicts.{opened_in, reads, writes}
use Rattle.txf_opens.proofs.Sharing.{first_part, opened, second_part}
use Rattle.txf_opens.proofs.opens.Opens.is_open_in.Goals as goal

pub returns-then-has_reader : goal.returns-then-has_reader
returns-then-has_reader c =
    let os = opened_in c.args.self.now.opens c.args.group c.args.node in
    first_part c.has_reader.result (list_any (λ o. reads o.access) os) (list_any (λ o. writes o.access) os) _ c.has_reader.ensures c.if-has_reader.true
    (opened c.args.self.now.opens c.args.group c.args.node)

pub returns-else-has_reader : goal.returns-else-has_reader
returns-else-has_reader c =
    let os = opened_in c.args.self.now.opens c.args.group c.args.node in
    second_part c.has_reader.result (list_any (λ o. reads o.access) os) (list_any (λ o. writes o.access) os) c.has_writer_in.result _ c.has_reader.ensures c.if-has_reader.false
    c.has_writer_in.ensures (opened c.args.self.now.opens c.args.group c.args.node)
