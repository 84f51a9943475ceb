-- What keeps a tree well formed.
use Rattle.std.specs.Prelude.{◌≡◌, true, List}
use Rattle.ktm_world.specs.declared.change.Change.{Change}
use Rattle.ktm_world.specs.Changes.{changed, changed_all, applies, changes_apply}
use Rattle.ktm_world.specs.Tree.{Tree, IsWellFormed}

-- a change that applies leaves a well-formed tree well formed, and so does a list of changes that applies
abbrev pub FormedLaw : Type 0
FormedLaw = ((tree : Tree) (c : Change) → IsWellFormed tree → applies tree c ≡ true → IsWellFormed (changed tree c))
    × ((tree : Tree) (cs : List Change) → IsWellFormed tree → changes_apply tree cs ≡ true → IsWellFormed (changed_all tree cs))
