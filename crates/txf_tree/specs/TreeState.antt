-- What a contract sees of the committed files and directories.
use Rattle.std.specs.Prelude.{◌≡◌, ℕ, ◌+◌, ◌≤◌, ◌==◌, ◌&&◌, ◌||◌, not, Bool, true, false, List, length, nat_lt, nat_le, Option, Some, None, if◌then◌else◌}
use Rattle.ktm_content.specs.Places.{ContentState}
use Rattle.ktm_world.specs.declared.change.Change.{Change}
use Rattle.ktm_world.specs.declared.change.Change.TheVariants.{Make, Put, Cut, Move, Drop}
use Rattle.ktm_world.specs.declared.recorded.Node.{Node}
use Rattle.ktm_world.specs.Changes.{bytes_in, changed, is_drop, is_make, is_move, node_of}
use Rattle.ktm_world.specs.Committed.{Version, versions_after}
use Rattle.ktm_world.specs.Tree.{Tree, content_of, is_file, node_at}
use Rattle.txf_nodes.specs.NodesState.{NodeOf, NodesState, content_at, node_by, tree_by, versions_in as versions_in_nodes}

-- the bytes of a content
abbrev pub bytes_now : ContentState → List ℕ
bytes_now content = content.bytes

-- a node: a file has bytes and room for them; and how often they were changed since the restart
abbrev pub NodeNow : Type 0
NodeNow = NodeOf ContentState

-- the nodes by rising number, and how many can come without memory
abbrev pub TreeState : Type 0
TreeState = NodesState ContentState

-- the node alone
abbrev pub plain : NodeNow → Node
plain n = node_by bytes_now n

-- the tree
abbrev pub tree_of : TreeState → Tree
tree_of s = tree_by bytes_now s

-- the versions of the files whose bytes were changed since the restart, by rising number
abbrev pub versions_in : List NodeNow → List Version
versions_in nodes = versions_in_nodes nodes

-- the versions of the tree's files
abbrev pub versions_of : TreeState → List Version
versions_of s = versions_in s.nodes

-- for how many bytes a content has room; for none where there is no file
abbrev pub room_in : Option ContentState → ℕ
room_in None = 0
room_in (Some content) = content.room

-- for how many bytes the content of the file with this number has room
abbrev pub room_of : TreeState → ℕ → ℕ
room_of s number = room_in (content_at s number)

-- has the file, if it is one, room for so many bytes
abbrev pub has_room : TreeState → ℕ → ℕ → Bool
has_room s file size = not (is_file (tree_of s) file) || nat_le size (room_of s file)

-- is the memory there that a change takes: for a node that comes or moves, or for the bytes of a file
abbrev pub fits : TreeState → Change → Bool
fits s (Make node parent kind name) = nat_lt 0 s.spare
fits s (Put node offset contents) = has_room s node (offset + length (bytes_in contents))
fits s (Cut node size pages) = has_room s node size
fits s (Move node parent name) = nat_lt 0 s.spare
fits s (Drop node) = true

-- how many of the nodes that can come without memory a change takes at most
abbrev pub takes : Change → ℕ
takes change = if is_make change || is_move change then 1 else 0

-- the bytes of the file that a change drops
abbrev pub dropped : Tree → Change → Option (List ℕ)
dropped tree change = if is_drop change then content_of (node_at tree (node_of change)) else None

-- no file but one that the change drops has room for fewer bytes than before
abbrev pub KeepsRoom : TreeState → TreeState → Change → Type 0
KeepsRoom old new change = (file : ℕ) → (is_drop change && node_of change == file) ≡ false → room_of old file ≤ room_of new file

-- no file has room for fewer bytes than before
abbrev pub KeepsRooms : TreeState → TreeState → Type 0
KeepsRooms old new = (file : ℕ) → room_of old file ≤ room_of new file

-- the change is made, and takes no more than its room
pub record IsApplied (old new : TreeState) (change : Change) : Type 0 where
  pub tree : tree_of new ≡ changed (tree_of old) change
  pub versions : versions_of new ≡ versions_after (versions_of old) change
  pub rooms : KeepsRoom old new change
  pub spare : old.spare ≤ new.spare + takes change
