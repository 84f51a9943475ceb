-- What a contract sees of the entries of a directory.
use Rattle.std.specs.Prelude.{ℕ, ◌==◌, not, Bool, List, map, filter, is_some}
use Rattle.ktm_base.specs.Names.{matches}
use Rattle.ktm_world.specs.declared.recorded.Node.{Node}
use Rattle.ktm_world.specs.FileCalls.{in_order}
use Rattle.ktm_world.specs.Tree.{Tree}
use Rattle.txf_nodes.specs.declared.entry.Entry.{Entry}
use Rattle.txf_nodes.specs.NodesState.{NodeOf}

-- an entry of a directory: its name, and whether it is a directory
pub record Shown : Type 0 where
  pub name : List ℕ
  pub is_directory : Bool

-- the node, as an entry of its directory
abbrev pub shown : Node → Shown
shown node = record { name = node.name; is_directory = not (is_some node.content) }

-- the node, with any content, as an entry of its directory
abbrev pub shown_of : {V : Type 0} → NodeOf V → Shown
shown_of n = record { name = n.name; is_directory = not (is_some n.content) }

-- the entry that is lent
abbrev pub entry_seen : Entry → Shown
entry_seen entry = record { name = entry.name.now; is_directory = entry.is_directory }

-- the entries that the pattern matches
abbrev pub matching : List ℕ → List Shown → List Shown
matching pattern entries = filter (λ entry. matches pattern entry.name) entries

-- the nodes in a directory
abbrev pub children : Tree → ℕ → Tree
children tree directory = filter (λ node. node.parent == directory) tree

-- the entries of a directory, by rising folded name
abbrev pub entries_in : Tree → ℕ → List Shown
entries_in tree directory = map shown (in_order (children tree directory))
