use Rattle.txf_opens.specs.Indexed.{is_denying_write}
use Rattle.txf_opens.proofs.Sharing.{in_group}
use Rattle.txf_opens.proofs.opens.Opens.denies_write.Goals as goal

pub returns : goal.returns
returns c =
    rw (← c.self.view_is)
    (in_group is_denying_write _ _ c.self.invariant.by_use.deny_write c.self.invariant.distinct c.args.group c.args.node c.has_under.result (rw c.use_bytes.ensures at c.has_under.ensures))
