-- The names under which places are sorted.
use Rattle.std.specs.Prelude.{ℕ, List, ◌++◌}
use Rattle.ktm_world.specs.declared.recorded.Node.{Node}
use Rattle.ktm_world.specs.Holds.{Place, place}
use Rattle.txf_tree.specs.Places.{number_bytes}

-- the number of the directory, and behind it the folded name
abbrev pub place_bytes : Place → List ℕ
place_bytes p = number_bytes p.directory ++ p.name

-- the name of the place where a node is
abbrev pub place_in : Node → List ℕ
place_in n = place_bytes (place n.parent n.name)
