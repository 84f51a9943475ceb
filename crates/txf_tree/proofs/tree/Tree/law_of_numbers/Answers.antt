use Rattle.txf_tree.specs.TreeState.{bytes_now}
use Rattle.txf_tree.proofs.tree.Tree.law_of_numbers.Goals as goal

pub returns : goal.returns
returns c = rw (← c.self.view_is) (c.law_of_numbers.ensures bytes_now)
