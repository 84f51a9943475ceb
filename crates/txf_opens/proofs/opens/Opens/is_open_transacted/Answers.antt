use Rattle.std.proofs.Common.{◌==◌, ◌&&◌, is_some}
use Rattle.std.specs.List.{list_any}
use Rattle.ktm_world.specs.Conflicts.{reads, writes}
use Rattle.txf_opens.proofs.Sharing.{first_part, opened_transacted, second_part}
use Rattle.txf_opens.proofs.opens.Opens.is_open_transacted.Goals as goal

pub returns-then-is_read_transacted : goal.returns-then-is_read_transacted
returns-then-is_read_transacted c =
    let os = c.args.self.now.opens in
    first_part c.is_read_transacted.result (list_any (λ o. (is_some o.transaction && o.node == c.args.node) && reads o.access) os)
    (list_any (λ o. (is_some o.transaction && o.node == c.args.node) && writes o.access) os) _ c.is_read_transacted.ensures c.if-is_read_transacted.true
    (opened_transacted os c.args.node)

pub returns-else-is_read_transacted : goal.returns-else-is_read_transacted
returns-else-is_read_transacted c =
    let os = c.args.self.now.opens in
    second_part c.is_read_transacted.result (list_any (λ o. (is_some o.transaction && o.node == c.args.node) && reads o.access) os)
    (list_any (λ o. (is_some o.transaction && o.node == c.args.node) && writes o.access) os) c.is_written_transacted.result _ c.is_read_transacted.ensures
    c.if-is_read_transacted.false c.is_written_transacted.ensures (opened_transacted os c.args.node)
