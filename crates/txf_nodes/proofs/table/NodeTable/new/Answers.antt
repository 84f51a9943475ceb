use Rattle.txf_nodes.proofs.Renaming.{IsTree-none}
use Rattle.txf_nodes.proofs.table.NodeTable.new.Goals as goal

pub invariant_of-result : goal.invariant_of-result
invariant_of-result g c = rw (c.new.ensures, c.new-2.ensures.entries) IsTree-none
