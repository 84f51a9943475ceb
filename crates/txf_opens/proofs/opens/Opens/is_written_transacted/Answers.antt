use Rattle.txf_opens.specs.Indexed.{is_writer}
use Rattle.txf_opens.proofs.Sharing.{in_transaction}
use Rattle.txf_opens.proofs.opens.Opens.is_written_transacted.Goals as goal

pub returns : goal.returns
returns c =
    rw (← c.self.view_is)
    (in_transaction is_writer _ _ c.self.invariant.by_use.writers c.self.invariant.distinct c.args.node c.has_under.result (rw c.transacted_bytes.ensures at c.has_under.ensures))
