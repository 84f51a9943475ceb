-- How far the nodes of a snapshot are made. No public clause cites this module.
use Rattle.std.specs.Prelude.{◌≡◌, ℕ, ◌≤◌, ◌^◌, true, false, List, [], ◌∷◌, map, reverse, Option, Some, None, is_some}
use Rattle.ktm_world.specs.declared.change.Change.{Change}
use Rattle.ktm_world.specs.declared.change.Change.TheVariants.{Make}
use Rattle.ktm_world.specs.declared.change.NodeKind.{NodeKind}
use Rattle.ktm_world.specs.declared.change.NodeKind.TheVariants.{File, Directory}
use Rattle.ktm_world.specs.declared.recorded.Node.{Node}
use Rattle.ktm_snapshot.specs.declared.node.ReadNode.{ReadNode}
use Rattle.ktm_snapshot.specs.declared.node.ShownNode.{ShownNode}
use Rattle.ktm_snapshot.specs.Shown.{node_of, node_read}
use Rattle.ktm_world.specs.Tree.{Tree, is_there, node_at}
use Rattle.txf_durable.specs.State.{DurableFilesState}
use Rattle.txf_saved.specs.Saved.{AreFiles, number_behind}
use Rattle.txf_tree.specs.TreeState.{tree_of}

-- the nodes that were read
abbrev pub nodes_of : List ReadNode → Tree
nodes_of read = map node_read read

-- the nodes of a way, which are shown
abbrev pub way_of : List ShownNode → Tree
way_of shown = map node_of shown

-- what a node with this content is
abbrev pub kind_of : Option (List ℕ) → NodeKind
kind_of None = Directory
kind_of (Some contents) = File

-- the change that makes a node, without its contents
abbrev pub make_of : Node → Change
make_of node = Make node.number node.parent (kind_of node.content) node.name

-- each node of the tree is one of these
abbrev pub IsPartOf : Tree → Tree → Type 0
IsPartOf nodes tree = (n : ℕ) (x : Node) → node_at tree n ≡ Some x → node_at nodes n ≡ Some x

-- the files are a part of these nodes
pub record ArePart (nodes : Tree) (files : DurableFilesState) : Type 0 where
  pub part : IsPartOf nodes (tree_of files.tree)
  pub next : files.next_node ≡ number_behind (tree_of files.tree)
  pub numbers : files.next_node ≤ 2 ^ 63

-- nodes that the tree does not have, each in the one before it, from one that is in the top on down to the one with this number
abbrev pub IsWay : Tree → Tree → ℕ → ℕ → List Node → Type 0
IsWay nodes tree number top [] = top ≡ number
IsWay nodes tree number top (x ∷ xs) = (node_at nodes x.number ≡ Some x) × (is_there tree x.number ≡ false) × (x.parent ≡ top) × IsWay nodes tree number x.number xs

-- the way, the last one first, leads from a node that is there to the one with this number
pub record LeadsTo (nodes tree : Tree) (number : ℕ) (way : List ShownNode) : Type 0 where
  pub top : ℕ
  pub there : is_there tree top ≡ true
  pub up : IsWay nodes tree number top (reverse (way_of way))

-- the files are a part of the nodes, and the way leads to the node with this number
pub record Awaits (nodes : Tree) (number : ℕ) (files : DurableFilesState) (way : List ShownNode) : Type 0 where
  pub part : ArePart nodes files
  pub leads : LeadsTo nodes (tree_of files.tree) number way

-- a node that was there is there
abbrev pub Keeps : Tree → Tree → Type 0
Keeps old new = (n : ℕ) → is_some (node_at old n) ≡ true → is_some (node_at new n) ≡ true

-- a way of these nodes is made
pub record IsWayMade (nodes : Tree) (number : ℕ) (old new : DurableFilesState) : Type 0 where
  pub part : ArePart nodes new
  pub there : is_there (tree_of new.tree) number ≡ true
  pub keeps : Keeps (tree_of old.tree) (tree_of new.tree)

-- the files are exactly these nodes
pub record AreAll (nodes : Tree) (files : DurableFilesState) : Type 0 where
  pub tree : tree_of files.tree ≡ nodes
  pub are_files : AreFiles nodes
  pub next : files.next_node ≡ number_behind nodes
