-- What the first of some recorded changes come to in the form in which changes are committed.
use Rattle.std.specs.Prelude.{ℕ, ◌==◌, List, [], fold, if◌then◌else◌}
use Rattle.ktm_world.specs.declared.change.Change.{Change}
use Rattle.ktm_world.specs.declared.change.Change.TheVariants.{Make, Put, Cut, Move, Drop}
use Rattle.ktm_world.specs.Changes.{bytes_in}
use Rattle.ktm_world.specs.Committed.{changes_to_commit}

-- the bytes that a file is given at the end, once there is one recorded change more
abbrev pub put_into : ℕ → List ℕ → Change → List ℕ
put_into file bytes (Make node parent kind name) = bytes
put_into file bytes (Put node offset contents) = if node == file then bytes_in contents else bytes
put_into file bytes (Cut node size pages) = if node == file then [] else bytes
put_into file bytes (Move node parent name) = bytes
put_into file bytes (Drop node) = bytes

-- the bytes that recorded changes give a file at the end
abbrev pub put_bytes : List Change → ℕ → List ℕ
put_bytes changes file = fold (put_into file) [] changes

-- the first of some recorded changes, in the form in which changes are committed
abbrev pub final_form : List Change → List Change
final_form changes = changes_to_commit changes (put_bytes changes)
