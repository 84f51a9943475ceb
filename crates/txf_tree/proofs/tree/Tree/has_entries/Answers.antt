use Rattle.txf_tree.specs.TreeState.{bytes_now}
use Rattle.txf_tree.proofs.tree.Tree.has_entries.Goals as goal

pub returns : goal.returns
returns c = rw (← c.self.view_is) (c.has_entries.ensures bytes_now)
