use Rattle.std.proofs.Common.{[], ap, flat_map}
use Rattle.ktm_dump.proofs.Puts.{left_broken, left_next, left_none, put_none}
use Rattle.ktm_dump.specs.Text.{node_line}
use Rattle.txf_tree.specs.Children.{node_seen}
use Rattle.txf_tree.specs.TreeState.{tree_of}
use Rattle.ktm_dump.proofs.state.put_nodes.Goals as goal

pub lines-init : goal.lines-init
lines-init g c = ([], ap (flat_map (node_line (tree_of c.args.tree.now))) c.nodes-nodes.ensures, put_none _)

pub returns-in-Err : goal.returns-in-Err
returns-in-Err g c =
    left_broken (node_line (tree_of c.args.tree.now)) _ _ _ _ _ (node_seen c.in-Some.node) c.next.new.self (rw c.in-Some.ensures.first at c.lines.invariant.1) c.lines.invariant.2 c.in-Err.ensures

pub lines-preserved : goal.lines-preserved
lines-preserved g c =
    left_next (node_line (tree_of c.args.tree.now)) _ _ _ _ _ (node_seen c.in-Some.node) c.next.new.self (rw c.in-Some.ensures.first at c.lines.invariant.1) c.lines.invariant.2 c.in_default-put_node.ensures

pub returns : goal.returns
returns g c = left_none (node_line (tree_of c.args.tree.now)) _ _ _ _ (rw c.in_default.ensures.none at c.lines.invariant.1) c.lines.invariant.2
