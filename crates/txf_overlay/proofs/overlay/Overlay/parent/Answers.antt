use Rattle.std.proofs.Common.{◌∙◌, sym, ap, Option}
use Rattle.std.specs.Option.{option_map}
use Rattle.ktm_world.specs.declared.recorded.Node.{Node}
use Rattle.txf_tree.specs.TreeState.{tree_of}
use Rattle.txf_overlay.proofs.Views.{given-parent, last-is, untouched}
use Rattle.txf_overlay.proofs.overlay.Overlay.parent.Goals as goal

pub returns-in-Some : goal.returns-in-Some
returns-in-Some c =
    let last = last-is c.args.self.now.names (tree_of c.args.tree.now) c.args.node c.in-Some.change.now c.last_change.ensures.only c.requires.applies (sym c.in-Some.ensures.last) in
    c.given_parent.ensures ∙ given-parent _ c.args.node c.in-Some.change.now last

pub returns-in-Some-node : goal.returns-in-Some-node
returns-in-Some-node c =
    let same = untouched c.args.self.now.names (tree_of c.args.tree.now) c.args.node c.requires.applies (sym c.in-None.ensures.last) in
    ap (λ (o : Option Node). option_map (λ n. n.parent) o) (c.in-Some-node.ensures ∙ sym same)

pub returns-in-None-node : goal.returns-in-None-node
returns-in-None-node c =
    let same = untouched c.args.self.now.names (tree_of c.args.tree.now) c.args.node c.requires.applies (sym c.in-None.ensures.last) in
    ap (λ (o : Option Node). option_map (λ n. n.parent) o) (c.in-None-node.ensures ∙ sym same)
