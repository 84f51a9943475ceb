use Rattle.std.proofs.Common.{◌∙◌, ap}
use Rattle.ktm_world.specs.Tree.{bytes_or_none}
use Rattle.txf_tree.specs.TreeState.{bytes_now}
use Rattle.txf_tree.proofs.tree.Tree.content.Goals as goal

pub returns-in-Some : goal.returns-in-Some
returns-in-Some c = rw (← c.self.view_is) (c.lend.ensures ∙ ap bytes_or_none (c.in-Some.ensures.bytes bytes_now))

pub returns-in-None : goal.returns-in-None
returns-in-None c = rw (← c.self.view_is) (c.none.ensures ∙ ap bytes_or_none (c.in-None.ensures.bytes bytes_now))
