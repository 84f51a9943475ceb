-- The tree of files and directories.
use Rattle.std.specs.Prelude.{◌≡◌, ℕ, zero, suc, ◌+◌, ◌==◌, ◌≤◌, ◌&&◌, ◌||◌, not, Bool, true, List, [], ◌∷◌, length, map, nat_lt, Option, Some, None, is_some, find, filter, All, if◌then◌else◌, bytes_eq}
use Rattle.std.specs.List.{list_any}
use Rattle.ktm_base.specs.Names.{IsName, folded}
use Rattle.ktm_world.specs.declared.recorded.Node.{Node}
pub use Rattle.ktm_content.specs.Contents.{cut_to, put_over, units_of}

-- the nodes but the root, by rising number
abbrev pub Tree : Type 0
Tree = List Node

-- the number of the root, which is a directory
abbrev pub root : ℕ
root = 1

-- has the node this number
abbrev pub has_number : ℕ → Node → Bool
has_number number node = node.number == number

-- the node with this number
abbrev pub node_at : Tree → ℕ → Option Node
node_at tree number = find (has_number number) tree

-- is there a node with this number; the root always is
abbrev pub is_there : Tree → ℕ → Bool
is_there tree number = number == root || is_some (node_at tree number)

-- the content of the node with this number, if it is a file
abbrev pub content_of : Option Node → Option (List ℕ)
content_of None = None
content_of (Some node) = node.content

-- is there a file with this number
abbrev pub is_file : Tree → ℕ → Bool
is_file tree number = is_some (content_of (node_at tree number))

-- is there a directory with this number
abbrev pub is_directory : Tree → ℕ → Bool
is_directory tree number = is_there tree number && not (is_file tree number)

-- the bytes of a file's content; a directory has none
abbrev pub bytes_or_none : Option (List ℕ) → List ℕ
bytes_or_none None = []
bytes_or_none (Some bytes) = bytes

-- the bytes of a file
abbrev pub bytes_of : Tree → ℕ → List ℕ
bytes_of tree number = bytes_or_none (content_of (node_at tree number))

-- are two names the same, compared without case
abbrev pub same_name : List ℕ → List ℕ → Bool
same_name a b = bytes_eq (folded a) (folded b)

-- the node with this name in a directory
abbrev pub child_of : Tree → ℕ → List ℕ → Option Node
child_of tree directory name = find (λ node. node.parent == directory && same_name node.name name) tree

-- is anything in the directory
abbrev pub has_entries : Tree → ℕ → Bool
has_entries tree directory = list_any (λ node. node.parent == directory) tree

-- the number of the directory that a node is in, and the root's where there is no node
abbrev pub parent_of : Option Node → ℕ
parent_of None = root
parent_of (Some node) = node.parent

-- the nodes on the way up to the root, the node itself first, at most so many
abbrev pub way_up : Tree → ℕ → ℕ → List ℕ
way_up tree number zero = []
way_up tree number (suc most) = number ∷ way_up tree (parent_of (node_at tree number)) most

-- is a node the other one, or below it
abbrev pub is_at_or_below : Tree → ℕ → ℕ → Bool
is_at_or_below tree number other = list_any (λ n. n == other) (way_up tree number (length tree + 1))

-- the tree with one node more, at the place of its number
abbrev pub with_node : Tree → Node → Tree
with_node [] node = node ∷ []
with_node (n ∷ ns) node = if nat_lt node.number n.number then node ∷ n ∷ ns else n ∷ with_node ns node

-- the tree with a node changed
abbrev pub with_changed : Tree → ℕ → (Node → Node) → Tree
with_changed tree number f = map (λ node. if has_number number node then f node else node) tree

-- the tree without a node
abbrev pub without_node : Tree → ℕ → Tree
without_node tree number = filter (λ node. not (has_number number node)) tree

-- do the numbers rise
abbrev pub numbers_rise : Tree → Bool
numbers_rise [] = true
numbers_rise (node ∷ []) = true
numbers_rise (node ∷ next ∷ nodes) = nat_lt node.number next.number && numbers_rise (next ∷ nodes)

-- every parent is a directory of the tree, every node reaches the root, numbers rise, and the folded names in one directory differ
pub record IsWellFormed (tree : Tree) : Type 0 where
  pub parents : All (λ node. is_directory tree node.parent ≡ true) tree
  pub reach : All (λ node. is_at_or_below tree node.number root ≡ true) tree
  pub names : All (λ node. IsName node.name) tree
  pub one_each : All (λ node. child_of tree node.parent node.name ≡ Some node) tree
  pub numbers : All (λ node. 2 ≤ node.number) tree
  pub rise : numbers_rise tree ≡ true
