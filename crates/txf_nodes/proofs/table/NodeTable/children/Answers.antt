use Rattle.txf_nodes.proofs.Listing.{children-listed}
use Rattle.txf_nodes.proofs.table.NodeTable.children.Goals as goal

pub returns : goal.returns
returns g c = λ bytes.
    rw (← c.self.view_is, c.new.ensures, c.walk_from.ensures.entries)
    (children-listed bytes _ _ c.args.directory c.args.from.now c.self.invariant c.walk_from.ensures.rising c.requires)
