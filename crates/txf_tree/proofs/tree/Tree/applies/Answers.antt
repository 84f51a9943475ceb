use Rattle.std.proofs.Common.{◌∙◌, ap, sym}
use Rattle.ktm_world.specs.declared.change.Change.TheVariants.{Make}
use Rattle.ktm_world.specs.Changes.{applies}
use Rattle.txf_tree.specs.TreeState.{bytes_now, tree_of}
use Rattle.txf_tree.proofs.tree.Tree.applies.Goals as goal

pub returns-in-Make : goal.returns-in-Make
returns-in-Make c =
    rw (← c.self.view_is)
    (c.may_make.ensures bytes_now c.in-Make.kind
    ∙ ap (λ name. applies (tree_of c.self.inside.nodes) (Make c.in-Make.node c.in-Make.parent c.in-Make.kind name)) c.as_slice.ensures
    ∙ ap (applies (tree_of c.self.inside.nodes)) (sym c.in-Make.is))
