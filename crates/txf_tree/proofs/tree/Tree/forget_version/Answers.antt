use Rattle.txf_tree.specs.TreeState.{bytes_now}
use Rattle.txf_tree.proofs.Refilling.{rooms-kept}
use Rattle.txf_tree.proofs.tree.Tree.forget_version.Goals as goal

pub returns-clause-tree : goal.returns-clause-tree
returns-clause-tree c = rw (← c.self.view_is) (c.forget_version.ensures.tree bytes_now)

pub returns-clause-versions : goal.returns-clause-versions
returns-clause-versions c = rw (← c.self.view_is) c.forget_version.ensures.versions

pub returns-clause-rooms : goal.returns-clause-rooms
returns-clause-rooms c = rw (← c.self.view_is) (rooms-kept c.self.inside.nodes c.forget_version.new.self c.forget_version.ensures.contents)
