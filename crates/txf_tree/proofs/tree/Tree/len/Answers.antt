use Rattle.txf_tree.specs.TreeState.{bytes_now}
use Rattle.txf_tree.proofs.tree.Tree.len.Goals as goal

pub returns : goal.returns
returns c = rw (← c.self.view_is) (c.len.ensures.tree bytes_now)
