use Rattle.std.proofs.Common.{◌∙◌, sym, ap}
use Rattle.std.specs.Option.{option_map}
use Rattle.std.proofs.lemmas.Option.{none-some}
use Rattle.ktm_base.specs.Names.{IsName}
use Rattle.txf_tree.specs.Children.{node_seen}
use Rattle.txf_tree.specs.TreeState.{tree_of}
use Rattle.txf_overlay.specs.Names.{place_in}
use Rattle.txf_overlay.proofs.Keeping.{short-from}
use Rattle.txf_overlay.proofs.Trees.{at-All}
use Rattle.txf_overlay.proofs.Views.{given-place, last-is, untouched}
use Rattle.txf_overlay.proofs.overlay.Overlay.place_of.Goals as goal

pub given-requires : goal.given-requires
given-requires c =
    let last = last-is c.args.self.now.names (tree_of c.args.tree.now) c.args.node c.in-Some.change.now c.last_change.ensures.only c.requires.stands.applies (sym c.in-Some.ensures.last) in
    short-from last.tree c.in-Some.change.now last.applies

pub unreachable-requires : goal.unreachable-requires
unreachable-requires c =
    let last = last-is c.args.self.now.names (tree_of c.args.tree.now) c.args.node c.in-Some.change.now c.last_change.ensures.only c.requires.stands.applies (sym c.in-Some.ensures.last) in
    let place = given-place _ c.args.node c.in-Some.change.now last in
    none-some (place_in c.requires.there.0) (c.in-None-given.ensures ∙ sym place ∙ ap (option_map place_in) c.requires.there.1)

pub returns-in-Some-given : goal.returns-in-Some-given
returns-in-Some-given c =
    let last = last-is c.args.self.now.names (tree_of c.args.tree.now) c.args.node c.in-Some.change.now c.last_change.ensures.only c.requires.stands.applies (sym c.in-Some.ensures.last) in
    c.in-Some-given.ensures ∙ sym (given-place _ c.args.node c.in-Some.change.now last)

pub child_name-requires : goal.child_name-requires
child_name-requires c =
    (at-All (λ n. IsName n.name) (tree_of c.args.tree.now) c.requires.stands.before.names c.args.node (node_seen c.in-Some-node.at) (sym c.in-Some-node.ensures)).few

pub unreachable-requires-in-None-node : goal.unreachable-requires-in-None-node
unreachable-requires-in-None-node c =
    let same = untouched c.args.self.now.names (tree_of c.args.tree.now) c.args.node c.requires.stands.applies (sym c.in-None.ensures.last) in
    none-some c.requires.there.0 (c.in-None-node.ensures ∙ sym same ∙ c.requires.there.1)

pub returns-in-Some-node : goal.returns-in-Some-node
returns-in-Some-node c =
    let same = untouched c.args.self.now.names (tree_of c.args.tree.now) c.args.node c.requires.stands.applies (sym c.in-None.ensures.last) in
    rw c.child_name.ensures (ap (option_map place_in) (c.in-Some-node.ensures ∙ sym same))
