use Rattle.std.proofs.Common.{sym, ap, ◌∙◌}
use Rattle.std.proofs.lemmas.Option.{none-some, same_Some}
use Rattle.ktm_world.specs.Tree.{node_at}
use Rattle.txf_tree.specs.TreeState.{tree_of}
use Rattle.txf_overlay.specs.Nodes.{given_name}
use Rattle.txf_overlay.specs.OverlayState.{seen}
use Rattle.txf_overlay.proofs.Entering.{own-entry}
use Rattle.txf_overlay.proofs.Views.{IsOneEach-from, own-node}
use Rattle.txf_overlay.proofs.overlay.Overlay.own_entry.Goals as goal

pub unreachable-requires : goal.unreachable-requires
unreachable-requires c =
    let tree = tree_of c.args.tree.now in
    let own = own-node c.args.self.now.names tree c.requires.here.0 c.args.node c.last_change.ensures.only c.requires.stands.applies
    (IsOneEach-from tree c.requires.stands.before) (sym (c.requires.stands.held c.requires.here.0) ∙ c.requires.here.1) in
    none-some own.change (c.in_default.ensures.last ∙ own.last)

pub unreachable-requires-in_default-given_name : goal.unreachable-requires-in_default-given_name
unreachable-requires-in_default-given_name c =
    let tree = tree_of c.args.tree.now in
    let own = own-node c.args.self.now.names tree c.requires.here.0 c.args.node c.last_change.ensures.only c.requires.stands.applies
    (IsOneEach-from tree c.requires.stands.before) (sym (c.requires.stands.held c.requires.here.0) ∙ c.requires.here.1) in
    let change = same_Some c.in-Some.change.now own.change (c.in-Some.ensures.last ∙ own.last) in
    none-some own.node.name (c.in_default-given_name.ensures ∙ ap given_name change ∙ own.name)

pub returns : goal.returns
returns c =
    let tree = tree_of c.args.tree.now in
    let own = own-node c.args.self.now.names tree c.requires.here.0 c.args.node c.last_change.ensures.only c.requires.stands.applies
    (IsOneEach-from tree c.requires.stands.before) (sym (c.requires.stands.held c.requires.here.0) ∙ c.requires.here.1) in
    let change = same_Some c.in-Some.change.now own.change (c.in-Some.ensures.last ∙ own.last) in
    own-entry (node_at (seen tree c.args.self.now) c.args.node) own.node c.in-Some-given_name.name.now c.is_file.result own.found
    (same_Some c.in-Some-given_name.name.now own.node.name (c.in-Some-given_name.ensures ∙ ap given_name change ∙ own.name))
    (c.is_file.ensures own.node own.found)
