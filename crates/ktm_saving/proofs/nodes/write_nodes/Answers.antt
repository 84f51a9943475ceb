use Rattle.std.proofs.Common.{length, sym, subst}
use Rattle.ktm_base.specs.Grammar.{IsU32}
use Rattle.ktm_snapshot.specs.Sizes.{node_size}
use Rattle.ktm_snapshot.specs.StateGrammar.{IsNodeOf}
use Rattle.txf_tree.specs.Children.{node_seen}
use Rattle.txf_tree.specs.TreeState.{tree_of}
use Rattle.ktm_saving.specs.Spellable.{IsSpellableNode}
use Rattle.ktm_saving.proofs.Lists.{ArePartly, each_next, partly_all, partly_begun, partly_next, room_next}
use Rattle.ktm_saving.proofs.nodes.write_nodes.Goals as goal

pub nodes-init : goal.nodes-init
nodes-init c =
    let tree = tree_of c.args.tree.now in
    subst (λ rest. ArePartly (IsU32 (length tree)) IsNodeOf node_size 4 tree rest c.args.out.now c.put_u32.new.out) (sym c.nodes-nodes.ensures)
    (partly_begun (IsU32 (length tree)) IsNodeOf node_size 4 tree c.args.out.now (c.law_of_writing.ensures.nodes.0 (length tree)) c.put_u32.new.out
    (record { adds = rw (← c.len.ensures) c.put_u32.ensures.adds; len = c.put_u32.ensures.len; room = c.put_u32.ensures.room }))

pub write_node-requires-clause-spelled : goal.write_node-requires-clause-spelled
write_node-requires-clause-spelled c =
    let tree = tree_of c.args.tree.now in
    each_next (IsU32 (length tree)) IsNodeOf node_size 4 tree c.args.out.now IsSpellableNode c.next.new.self (node_seen c.in-Some.node) c.nodes.out
    (rw c.in-Some.ensures.first at c.nodes.invariant) c.requires.spelled.each

pub write_node-requires-clause-room : goal.write_node-requires-clause-room
write_node-requires-clause-room c =
    let tree = tree_of c.args.tree.now in
    room_next (IsU32 (length tree)) IsNodeOf node_size 4 tree c.args.out.now c.next.new.self (node_seen c.in-Some.node) c.nodes.out
    (rw c.in-Some.ensures.first at c.nodes.invariant) c.requires.room

pub nodes-preserved : goal.nodes-preserved
nodes-preserved c =
    let tree = tree_of c.args.tree.now in
    partly_next (IsU32 (length tree)) IsNodeOf node_size 4 tree c.args.out.now (c.law_of_writing.ensures.nodes.0 (length tree)) c.next.new.self (node_seen c.in-Some.node) c.nodes.out c.write_node.new.out
    (rw c.in-Some.ensures.first at c.nodes.invariant) c.write_node.ensures

pub returns : goal.returns
returns c =
    let tree = tree_of c.args.tree.now in
    let all = partly_all (IsU32 (length tree)) IsNodeOf node_size 4 tree c.args.out.now c.nodes.out (rw c.in_default.ensures.none at c.nodes.invariant) in
    record { adds = c.law_of_writing.ensures.nodes.1 tree c.args.out.now.items c.nodes.out.items all.adds c.requires.rise; len = all.len; room = all.room }
