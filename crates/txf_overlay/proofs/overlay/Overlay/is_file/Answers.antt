use Rattle.std.proofs.Common.{◌∙◌, sym, ap}
use Rattle.ktm_world.specs.Tree.{is_file}
use Rattle.txf_tree.specs.TreeState.{tree_of}
use Rattle.txf_overlay.proofs.Views.{file_or, kind-is}
use Rattle.txf_overlay.proofs.overlay.Overlay.is_file.Goals as goal

pub returns-in-Some : goal.returns-in-Some
returns-in-Some c = λ n found.
    c.is_kind_of_file.ensures
    ∙ ap (λ o. file_or o (is_file (tree_of c.args.tree.now) c.args.node)) c.in-Some.ensures.kind
    ∙ sym (kind-is c.args.self.now.names (tree_of c.args.tree.now) c.args.node n c.made_kind.ensures.only c.requires.applies found)

pub returns-in-None : goal.returns-in-None
returns-in-None c = λ n found.
    c.is_file.ensures
    ∙ ap (λ o. file_or o (is_file (tree_of c.args.tree.now) c.args.node)) c.in-None.ensures.kind
    ∙ sym (kind-is c.args.self.now.names (tree_of c.args.tree.now) c.args.node n c.made_kind.ensures.only c.requires.applies found)
