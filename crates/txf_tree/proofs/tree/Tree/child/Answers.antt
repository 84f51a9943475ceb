use Rattle.txf_tree.specs.TreeState.{bytes_now}
use Rattle.txf_tree.proofs.tree.Tree.child.Goals as goal

pub returns : goal.returns
returns c = rw (← c.self.view_is) (c.child.ensures bytes_now)
