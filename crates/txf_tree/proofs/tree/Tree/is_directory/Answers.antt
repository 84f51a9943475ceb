use Rattle.txf_tree.specs.TreeState.{bytes_now}
use Rattle.txf_tree.proofs.tree.Tree.is_directory.Goals as goal

pub returns : goal.returns
returns c = rw (← c.self.view_is) (c.is_directory.ensures bytes_now)
