-- What a contract sees of a node that is lent, and of the entries of a directory.
use Rattle.ktm_world.specs.declared.recorded.Node.{Node}
use Rattle.txf_tree.specs.declared.node_ref.NodeRef.{NodeRef}
pub use Rattle.txf_nodes.specs.Children.{Shown, children, entries_in, entry_seen, matching, shown}

-- the node that is lent
abbrev pub node_seen : NodeRef → Node
node_seen node = record { number = node.number; parent = node.parent; name = node.name.now; content = node.content }
