use Rattle.std.proofs.Common.{sym, ◌∙◌, ap}
use Rattle.std.proofs.lemmas.Option.{none-some}
use Rattle.std.specs.Option.{option_map}
use Rattle.ktm_base.specs.Names.{IsName}
use Rattle.ktm_world.specs.declared.recorded.Node.{Node}
use Rattle.ktm_world.specs.Holds.{place}
use Rattle.txf_overlay.specs.OverlayState.{seen}
use Rattle.txf_overlay.proofs.Trees.{at-All}
use Rattle.txf_tree.specs.Children.{node_seen}
use Rattle.txf_tree.specs.TreeState.{tree_of}
use Rattle.txf_durable.proofs.offered.Places.{place-by-last, seen-untouched, short-place}
use Rattle.txf_durable.proofs.acts.place_seen.Goals as goal

pub unreachable-requires : goal.unreachable-requires
unreachable-requires c =
    let at = place-by-last (tree_of c.args.tree.now) c.args.overlay.now c.args.node c.in-Some.change.now c.requires.stands c.in-Some.ensures.only c.in-Some.ensures.last in
    none-some (place c.requires.there.0.parent c.requires.there.0.name) (c.in-None-brought.ensures ∙ sym at ∙ ap (option_map (λ (n : Node). place n.parent n.name)) c.requires.there.1)

pub unreachable-requires-in-None-node : goal.unreachable-requires-in-None-node
unreachable-requires-in-None-node c =
    let same = seen-untouched (tree_of c.args.tree.now) c.args.overlay.now c.args.node c.requires.stands c.in-None.ensures.last in
    none-some c.requires.there.0 (c.in-None-node.ensures ∙ sym same ∙ c.requires.there.1)

pub returns-in-Some-brought-clause-place : goal.returns-in-Some-brought-clause-place
returns-in-Some-brought-clause-place c =
    let at = place-by-last (tree_of c.args.tree.now) c.args.overlay.now c.args.node c.in-Some.change.now c.requires.stands c.in-Some.ensures.only c.in-Some.ensures.last in
    c.in-Some-brought.ensures ∙ sym at

pub returns-in-Some-brought-clause-short : goal.returns-in-Some-brought-clause-short
returns-in-Some-brought-clause-short c =
    let at = place-by-last (tree_of c.args.tree.now) c.args.overlay.now c.args.node c.in-Some.change.now c.requires.stands c.in-Some.ensures.only c.in-Some.ensures.last in
    short-place (seen (tree_of c.args.tree.now) c.args.overlay.now) c.args.node c.in-Some-brought.place.directory c.in-Some-brought.place.name.now c.requires.stands.after (c.in-Some-brought.ensures ∙ sym at)

pub returns-in-Some-node-clause-place : goal.returns-in-Some-node-clause-place
returns-in-Some-node-clause-place c =
    let same = seen-untouched (tree_of c.args.tree.now) c.args.overlay.now c.args.node c.requires.stands c.in-None.ensures.last in
    ap (option_map (λ (n : Node). place n.parent n.name)) (c.in-Some-node.ensures ∙ sym same)

pub returns-in-Some-node-clause-short : goal.returns-in-Some-node-clause-short
returns-in-Some-node-clause-short c =
    (at-All (λ n. IsName n.name) (tree_of c.args.tree.now) c.requires.stands.before.names c.args.node (node_seen c.in-Some-node.at) (sym c.in-Some-node.ensures)).few
