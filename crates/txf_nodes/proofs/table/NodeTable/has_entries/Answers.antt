use Rattle.std.proofs.Common.{◌∙◌}
use Rattle.txf_nodes.proofs.Naming.{has_entries-told}
use Rattle.txf_nodes.proofs.table.NodeTable.has_entries.Goals as goal

pub returns : goal.returns
returns g c = λ bytes.
    rw (← c.self.view_is)
    (c.is_some.ensures
    ∙ has_entries-told bytes _ _ c.args.directory c.first_with.result c.self.invariant (rw c.number_bytes.ensures at c.first_with.ensures.first)
    (rw c.number_bytes.ensures at c.first_with.ensures.none))
