-- Changes of the tree: what each makes of it, and when it applies.
use Rattle.std.specs.Prelude.{ℕ, ◌+◌, ◌^◌, ◌==◌, ◌&&◌, not, Bool, true, false, List, [], ◌∷◌, nat_lt, nat_le, Option, Some, None, is_none, max, fold, if◌then◌else◌}
use Rattle.std.specs.List.{list_any}
use Rattle.ktm_world.specs.declared.change.Change.{Change}
use Rattle.ktm_world.specs.declared.change.Change.TheVariants.{Make, Put, Cut, Move, Drop}
use Rattle.ktm_world.specs.declared.change.Contents.{Contents}
use Rattle.ktm_world.specs.declared.change.Contents.TheVariants.{Whole, Paged}
use Rattle.ktm_world.specs.declared.change.NodeKind.{NodeKind}
use Rattle.ktm_world.specs.declared.change.NodeKind.TheVariants.{File, Directory}
use Rattle.ktm_world.specs.Paths.{is_name}
use Rattle.ktm_world.specs.Tree.{Tree, root, is_there, is_file, is_directory, child_of, has_entries, is_at_or_below, with_node, with_changed, without_node, bytes_or_none, cut_to, put_over}

-- a new file has no bytes
abbrev pub new_content : NodeKind → Option (List ℕ)
new_content File = Some []
new_content Directory = None

-- the bytes of contents that stand as they are
abbrev pub bytes_in : Contents → List ℕ
bytes_in (Whole bytes) = bytes
bytes_in (Paged len pages) = []

-- do the contents stand as bytes, and not as pages
abbrev pub is_whole : Contents → Bool
is_whole (Whole bytes) = true
is_whole (Paged len pages) = false

-- is the list empty
abbrev pub is_empty_list : List ℕ → Bool
is_empty_list [] = true
is_empty_list (x ∷ xs) = false

-- what a change makes of the tree
abbrev pub changed : Tree → Change → Tree
changed tree (Make node parent kind name) = with_node tree (record { number = node; parent = parent; name = name; content = new_content kind })
changed tree (Put node offset contents) = with_changed tree node (λ n. record n { content = Some (put_over (bytes_or_none n.content) offset (bytes_in contents)) })
changed tree (Cut node size pages) = with_changed tree node (λ n. record n { content = Some (cut_to (bytes_or_none n.content) size) })
changed tree (Move node parent name) = with_changed tree node (λ n. record n { parent = parent; name = name })
changed tree (Drop node) = without_node tree node

-- changes in order
abbrev pub changed_all : Tree → List Change → Tree
changed_all tree changes = fold changed tree changes

-- has no node of the directory the name
abbrev pub is_free : Tree → ℕ → List ℕ → Bool
is_free tree directory name = is_none (child_of tree directory name)

-- may a new node have this number: 1 is the root's, and numbers are below 2^63
abbrev pub is_node_number : ℕ → Bool
is_node_number number = nat_le 2 number && nat_lt number (2 ^ 63)

-- does a change apply to the tree
abbrev pub applies : Tree → Change → Bool
applies tree (Make node parent kind name) = is_node_number node && not (is_there tree node) && is_directory tree parent && is_name name && is_free tree parent name
applies tree (Put node offset contents) = is_file tree node && is_whole contents
applies tree (Cut node size pages) = is_file tree node && is_empty_list pages
applies tree (Move node parent name) =
    not (node == root) && is_there tree node && is_directory tree parent && not (is_at_or_below tree parent node) && is_name name && is_free tree parent name
applies tree (Drop node) = not (node == root) && is_there tree node && not (has_entries tree node)

-- do changes apply in order
abbrev pub changes_apply : Tree → List Change → Bool
changes_apply tree [] = true
changes_apply tree (change ∷ changes) = applies tree change && changes_apply (changed tree change) changes

-- the node that a change makes or changes
abbrev pub node_of : Change → ℕ
node_of (Make node parent kind name) = node
node_of (Put node offset contents) = node
node_of (Cut node size pages) = node
node_of (Move node parent name) = node
node_of (Drop node) = node

-- does a change put or cut bytes of a file
abbrev pub changes_bytes : Change → Bool
changes_bytes (Make node parent kind name) = false
changes_bytes (Put node offset contents) = true
changes_bytes (Cut node size pages) = true
changes_bytes (Move node parent name) = false
changes_bytes (Drop node) = false

-- does the change make a node
abbrev pub is_make : Change → Bool
is_make (Make node parent kind name) = true
is_make _ = false

-- do the changes make the node
abbrev pub has_made : List Change → ℕ → Bool
has_made changes node = list_any (λ change. is_make change && node_of change == node) changes

-- are there any changes
abbrev pub has_changes : List Change → Bool
has_changes [] = false
has_changes (change ∷ changes) = true

-- does the change make a file
abbrev pub is_make_of_file : Change → Bool
is_make_of_file (Make node parent File name) = true
is_make_of_file _ = false

-- does the change drop a node
abbrev pub is_drop : Change → Bool
is_drop (Drop node) = true
is_drop _ = false

-- does the change move a node
abbrev pub is_move : Change → Bool
is_move (Move node parent name) = true
is_move _ = false

-- the next node number, once a change has made a node
abbrev pub next_after : ℕ → Change → ℕ
next_after next (Make node parent kind name) = max next (node + 1)
next_after next _ = next

-- the nodes that changes make and leave: each time that one is made, and not dropped behind that
abbrev pub nodes_made : List Change → ℕ
nodes_made [] = 0
nodes_made (change ∷ changes) = (if is_make change && not (list_any (λ later. is_drop later && node_of later == node_of change) changes) then 1 else 0) + nodes_made changes
