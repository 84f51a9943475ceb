use Rattle.std.proofs.Common.{◌∙◌, ap, Some}
use Rattle.txf_tree.specs.TreeState.{bytes_now}
use Rattle.txf_tree.proofs.tree.Tree.node.Goals as goal

pub returns-in-Some : goal.returns-in-Some
returns-in-Some c = rw (← c.self.view_is) (ap Some c.node_ref.ensures ∙ c.in-Some.ensures.node bytes_now)

pub returns-in-None : goal.returns-in-None
returns-in-None c = rw (← c.self.view_is) (c.in-None.ensures.node bytes_now)
