-- What a contract sees of what a transaction changed of the files.
use Rattle.std.specs.Prelude.{ℕ, not, Bool, List, ◌++◌, Option}
use Rattle.std.specs.List.{flat_map}
use Rattle.ktm_world.specs.declared.change.Change.{Change}
use Rattle.ktm_world.specs.Changes.{changed_all, changes_bytes}
use Rattle.ktm_world.specs.Committed.{final_bytes}
use Rattle.ktm_world.specs.Tree.{Tree}

-- a file that the transaction made or whose bytes it changed, and all of its bytes
pub record Written : Type 0 where
  pub file : ℕ
  pub bytes : List ℕ

-- a place by its name, and the node that stands there now, if one does
pub record Seat : Type 0 where
  pub place : List ℕ
  pub node : Option ℕ

-- what a transaction changed
pub record OverlayState : Type 0 where
  -- the Makes, Moves and Drops in order
  pub names : List Change
  -- each place that these made, dropped, moved away or moved to, by its name
  pub held : List Seat
  -- by rising file, those that it made or whose bytes it changed and that it did not drop
  pub written : List Written
  -- for so many changes more of names there is room
  pub spare : ℕ

-- does the change make, move or drop a node
abbrev pub is_of_names : Change → Bool
is_of_names change = not (changes_bytes change)

-- the changes of one file's bytes
abbrev pub final_of : Written → List Change
final_of w = final_bytes w.file w.bytes

-- the changes in the form in which they are committed
abbrev pub own_of : OverlayState → List Change
own_of o = o.names ++ flat_map final_of o.written

-- the tree of names that the transaction sees
abbrev pub seen : Tree → OverlayState → Tree
seen tree o = changed_all tree o.names
