use Rattle.txf_nodes.proofs.Rising.{rise_now}
use Rattle.txf_nodes.proofs.table.NodeTable.law_of_numbers.Goals as goal

pub returns : goal.returns
returns g c = λ bytes. rw (← c.self.view_is) (rise_now bytes _ c.self.invariant.rising)
