use Rattle.std.proofs.Common.{◌∙◌, ap, sym}
use Rattle.txf_nodes.proofs.Counting.{version_in, version_of-now}
use Rattle.txf_nodes.proofs.table.NodeTable.version.Goals as goal

pub returns-in-Some : goal.returns-in-Some
returns-in-Some g c =
    rw (← c.self.view_is) (c.version.ensures ∙ ap version_in c.in-Some.ensures ∙ sym (version_of-now _ c.args.file c.self.invariant.rising))

pub returns-in-None : goal.returns-in-None
returns-in-None g c = rw (← c.self.view_is) (ap version_in c.in-None.ensures ∙ sym (version_of-now _ c.args.file c.self.invariant.rising))
