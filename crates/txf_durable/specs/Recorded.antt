-- The names and the bytes of recorded changes. No public clause cites this module.
use Rattle.std.specs.Prelude.{◌≡◌, ℕ, ◌≤◌, ◌==◌, not, Bool, true, false, List, [], ◌∷◌, nat_le, if◌then◌else◌}
use Rattle.std.specs.List.{list_all}
use Rattle.ktm_world.specs.declared.change.Change.{Change}
use Rattle.ktm_world.specs.declared.change.Change.TheVariants.{Put}
use Rattle.ktm_world.specs.Changes.{bytes_in, changes_bytes, node_of}
use Rattle.ktm_world.specs.Tree.{units_of}

-- does no change put or cut bytes
abbrev pub are_names : List Change → Bool
are_names changes = list_all (λ change. not (changes_bytes change)) changes

-- does the first change, if there is one, put or cut bytes
abbrev pub begins_with_bytes : List Change → Bool
begins_with_bytes [] = true
begins_with_bytes (change ∷ changes) = changes_bytes change

-- the units of the bytes that a change puts
abbrev pub units_put : Change → ℕ
units_put (Put node offset contents) = units_of (bytes_in contents)
units_put _ = 0

-- the changes are bytes of files from this one on, whose numbers never fall
abbrev pub AreBytesFrom : ℕ → List Change → Type 0
AreBytesFrom file [] = Unit {0}
AreBytesFrom file (change ∷ changes) = (changes_bytes change ≡ true) × (file ≤ node_of change) × AreBytesFrom (node_of change) changes

-- the changes from the first one of a file whose number is not below this one
abbrev pub from_file : List Change → ℕ → List Change
from_file [] file = []
from_file (change ∷ changes) file = if nat_le file (node_of change) then change ∷ changes else from_file changes file

-- is the first change of this file
abbrev pub begins_with : List Change → ℕ → Bool
begins_with [] file = false
begins_with (change ∷ changes) file = node_of change == file
