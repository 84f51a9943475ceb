-- What an undecided transaction holds, which follows from its changes and its open files, and when a call meets it.
use Rattle.std.specs.Prelude.{ℕ, ◌==◌, ◌&&◌, ◌||◌, Bool, true, false, List, [], ◌∷◌, ◌++◌, map, Option, Some, None, bytes_eq, if◌then◌else◌}
use Rattle.std.specs.List.{list_any}
use Rattle.ktm_base.specs.Names.{folded}
use Rattle.ktm_world.specs.declared.change.Change.{Change}
use Rattle.ktm_world.specs.declared.change.Change.TheVariants.{Make, Put, Cut, Move, Drop}
use Rattle.ktm_world.specs.declared.recorded.Node.{Node}
use Rattle.ktm_world.specs.Changes.{changed, node_of, is_move, is_drop}
use Rattle.ktm_world.specs.Tree.{Tree, node_at, is_directory}

-- a name in a directory, folded
pub record Place : Type 0 where
  pub directory : ℕ
  pub name : List ℕ

-- the place of a name in a directory
abbrev pub place : ℕ → List ℕ → Place
place directory name = record { directory = directory; name = folded name }

-- are they the same name in the same directory
abbrev pub same_place : Place → Place → Bool
same_place a b = a.directory == b.directory && bytes_eq a.name b.name

-- the place of a node
abbrev pub place_of : Option Node → List Place
place_of None = []
place_of (Some node) = place node.parent node.name ∷ []

-- the names that a change of this tree makes, drops, moves away or moves to
abbrev pub places_of : Tree → Change → List Place
places_of tree (Make node parent kind name) = place parent name ∷ []
places_of tree (Put node offset contents) = []
places_of tree (Cut node size pages) = []
places_of tree (Move node parent name) = place_of (node_at tree node) ++ place parent name ∷ []
places_of tree (Drop node) = place_of (node_at tree node)

-- what an undecided transaction holds
pub record Holds : Type 0 where
  -- the files and directories: each that it made, changed, moved or dropped, and each file that it has open for writing
  pub nodes : List ℕ
  -- each name that it made, dropped, moved away or moved to
  pub places : List Place
  -- the use of each directory in which it holds a name
  pub uses : List ℕ
  -- the directories that it dropped
  pub dropped : List ℕ
  -- the right to move directories, once it has moved one
  pub moves : Bool

-- what is so of some change, on the tree that it finds
abbrev pub each_change : {X : Type 0} → (Tree → Change → List X) → Tree → List Change → List X
each_change f tree [] = []
each_change f tree (change ∷ changes) = f tree change ++ each_change f (changed tree change) changes

-- the directory that a change of this tree drops, if it drops one
abbrev pub dropped_directory : Tree → Change → List ℕ
dropped_directory tree change = if is_drop change && is_directory tree (node_of change) then node_of change ∷ [] else []

-- the directory that a change of this tree moves, if it moves one
abbrev pub moved_directory : Tree → Change → List ℕ
moved_directory tree change = if is_move change && is_directory tree (node_of change) then node_of change ∷ [] else []

-- the directories in which places are
abbrev pub directories_of : List Place → List ℕ
directories_of places = map (λ p. p.directory) places

-- what is held by changes of this tree, with these files open for writing
abbrev pub holds_by : Tree → List Change → List ℕ → Holds
holds_by tree changes writes = record {
  nodes = map node_of changes ++ writes;
  places = each_change places_of tree changes;
  uses = directories_of (each_change places_of tree changes);
  dropped = each_change dropped_directory tree changes;
  moves = list_any (λ node. true) (each_change moved_directory tree changes);
}

-- is the number in the list
abbrev pub is_in : List ℕ → ℕ → Bool
is_in ns n = list_any (λ m. m == n) ns

-- have the lists a number in common
abbrev pub meet_in : List ℕ → List ℕ → Bool
meet_in ms ns = list_any (is_in ns) ms

-- is the name in the list
abbrev pub is_place_in : List Place → Place → Bool
is_place_in places p = list_any (same_place p) places

-- ---- what a call does

-- opening a file, reading or changing it; and deleting, moving, making or removing what has a name
pub data Act : Type 0 where
  opens : (file : ℕ) → (changes : Bool) → Act
  deletes : (file : ℕ) → Place → Act
  moves_file : (file : ℕ) → Place → Place → Act
  makes : Place → Act
  drops_directory : (directory : ℕ) → Place → Act
  moves_directory : (directory : ℕ) → Place → Place → Act

-- the files and directories that it changes
abbrev pub nodes_changed : Act → List ℕ
nodes_changed (opens file true) = file ∷ []
nodes_changed (opens file false) = []
nodes_changed (deletes file at) = file ∷ []
nodes_changed (moves_file file from to) = file ∷ []
nodes_changed (makes at) = []
nodes_changed (drops_directory directory at) = directory ∷ []
nodes_changed (moves_directory directory from to) = directory ∷ []

-- the names that it changes
abbrev pub places_changed : Act → List Place
places_changed (opens file changes) = []
places_changed (deletes file at) = at ∷ []
places_changed (moves_file file from to) = from ∷ to ∷ []
places_changed (makes at) = at ∷ []
places_changed (drops_directory directory at) = at ∷ []
places_changed (moves_directory directory from to) = from ∷ to ∷ []

-- the file that it changes or opens
abbrev pub file_touched : Act → List ℕ
file_touched (opens file changes) = file ∷ []
file_touched (deletes file at) = file ∷ []
file_touched (moves_file file from to) = file ∷ []
file_touched (makes at) = []
file_touched (drops_directory directory at) = []
file_touched (moves_directory directory from to) = []

-- the file that it changes
abbrev pub file_changed : Act → List ℕ
file_changed (opens file true) = file ∷ []
file_changed (opens file false) = []
file_changed (deletes file at) = file ∷ []
file_changed (moves_file file from to) = file ∷ []
file_changed (makes at) = []
file_changed (drops_directory directory at) = []
file_changed (moves_directory directory from to) = []

-- the file whose bytes it writes, empties or deletes
abbrev pub file_overwritten : Act → List ℕ
file_overwritten (opens file true) = file ∷ []
file_overwritten (opens file false) = []
file_overwritten (deletes file at) = file ∷ []
file_overwritten (moves_file file from to) = []
file_overwritten (makes at) = []
file_overwritten (drops_directory directory at) = []
file_overwritten (moves_directory directory from to) = []

-- the directory that it drops
abbrev pub directory_dropped : Act → List ℕ
directory_dropped (drops_directory directory at) = directory ∷ []
directory_dropped _ = []

-- does it move a directory
abbrev pub is_move_of_directory : Act → Bool
is_move_of_directory (moves_directory directory from to) = true
is_move_of_directory _ = false

-- ---- meeting what another holds

-- it changes a file, a directory or a name that the other holds
abbrev pub changes_held : Holds → Act → Bool
changes_held h act = meet_in (nodes_changed act) h.nodes || list_any (is_place_in h.places) (places_changed act)

-- it changes a name in a directory that the other has dropped
abbrev pub enters_dropped : Holds → Act → Bool
enters_dropped h act = meet_in (directories_of (places_changed act)) h.dropped

-- it drops a directory of which the other holds the use
abbrev pub drops_used : Holds → Act → Bool
drops_used h act = meet_in (directory_dropped act) h.uses

-- it moves a directory while the other has the right to
abbrev pub moves_too : Holds → Act → Bool
moves_too h act = is_move_of_directory act && h.moves

-- does a call meet what another undecided transaction holds
unfoldable pub meets : Holds → Act → Bool
meets h act = changes_held h act || enters_dropped h act || drops_used h act || moves_too h act
