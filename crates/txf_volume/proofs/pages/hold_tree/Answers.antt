use Rattle.std.proofs.Common.{subst}
use Rattle.ktm_store.proofs.offered.HoldingContents.{below-one, upto-begin, upto-end, upto-one}
use Rattle.ktm_store.specs.Holding.{HoldsContents}
use Rattle.txf_tree.specs.TreeState.{tree_of}
use Rattle.txf_volume.specs.Pages.{tree_contents}
use Rattle.txf_volume.proofs.Walked.{tree-units}
use Rattle.txf_volume.proofs.pages.hold_tree.Goals as goal

pub nodes-init : goal.nodes-init
nodes-init c = rw c.nodes-left.ensures (upto-begin (tree_contents (tree_of c.args.tree.now)) c.args.store.now)

pub hold_node-requires : goal.hold_node-requires
hold_node-requires c = below-one _ _ _ _ _ _ (rw c.in-Some.ensures.first at c.nodes.invariant) c.requires

pub nodes-preserved : goal.nodes-preserved
nodes-preserved c = upto-one _ _ _ _ _ _ (rw c.in-Some.ensures.first at c.nodes.invariant) _ c.hold_node.ensures

pub returns : goal.returns
returns c =
    subst (λ n. HoldsContents (tree_contents (tree_of c.args.tree.now)) n c.args.store.now c.nodes.store) (tree-units (tree_of c.args.tree.now))
    (upto-end (tree_contents (tree_of c.args.tree.now)) _ _ _ (rw c.in_default.ensures.none at c.nodes.invariant))
