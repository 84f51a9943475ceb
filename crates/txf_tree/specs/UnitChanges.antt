-- Changes of contents unit by unit.
use Rattle.std.specs.Prelude.{ℕ, ◌≤◌, List, [], ◌∷◌, length}
use Rattle.ktm_world.specs.declared.change.Change.{Change}
use Rattle.ktm_world.specs.declared.change.Change.TheVariants.{Put, Cut}
use Rattle.ktm_content.specs.Places.{CanBePut}
use Rattle.ktm_world.specs.Changes.{bytes_in, changed}
use Rattle.ktm_world.specs.Tree.{Tree, bytes_of}

-- contents that are put over these of their file can be put unit by unit, and a file that is cut becomes no longer
abbrev pub CanBeMadeOver : (ℕ → List ℕ) → Change → Type 0
CanBeMadeOver bytes (Put node offset contents) = CanBePut (bytes node) offset (bytes_in contents)
CanBeMadeOver bytes (Cut node size pages) = size ≤ length (bytes node)
CanBeMadeOver bytes _ = Unit {0}

-- the change can be made of the tree
abbrev pub CanBeMade : Tree → Change → Type 0
CanBeMade tree change = CanBeMadeOver (bytes_of tree) change

-- so can all of these, each behind those before it
abbrev pub CanAllBeMade : Tree → List Change → Type 0
CanAllBeMade tree [] = Unit {0}
CanAllBeMade tree (change ∷ changes) = CanBeMade tree change × CanAllBeMade (changed tree change) changes
