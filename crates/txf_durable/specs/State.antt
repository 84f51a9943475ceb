-- What a contract sees of the files that a log comes to.
use Rattle.std.specs.Prelude.{◌≡◌, ℕ, ◌+◌, ◌<◌, ◌≤◌, ◌^◌, true, List, [], ◌∷◌, sum_by}
use Rattle.ktm_world.specs.declared.change.Change.{Change}
use Rattle.ktm_world.specs.Changes.{changed}
use Rattle.ktm_world.specs.Tree.{Tree, IsWellFormed, bytes_or_none, units_of}
use Rattle.txf_tree.specs.TreeState.{TreeState, fits, takes, tree_of, versions_of, KeepsRoom}

-- the committed files and directories as they stand in memory, and the number of the next node
pub record DurableFilesState : Type 0 where
  pub tree : TreeState
  pub next_node : ℕ

-- the units of all files
abbrev pub tree_units : Tree → ℕ
tree_units tree = sum_by (λ node. units_of (bytes_or_none node.content)) tree

-- the bytes of no file were changed since, and the files have so many units
pub record IsCounted (t : TreeState) (many : ℕ) : Type 0 where
  pub versions : versions_of t ≡ []
  pub units : many ≡ tree_units (tree_of t)

-- the files are well formed, and counted
pub record AreSound (t : TreeState) (many : ℕ) : Type 0 where
  pub counted : IsCounted t many
  pub formed : IsWellFormed (tree_of t)

-- the memory is there that a change takes, and the files have few enough units
pub record CanMake (t : TreeState) (change : Change) : Type 0 where
  pub fits : fits t change ≡ true
  pub few : tree_units (tree_of t) + 2 ^ 52 < 2 ^ 64

-- a change was made, which took no memory but its own
pub record IsMade (t t' : TreeState) (change : Change) : Type 0 where
  pub tree : tree_of t' ≡ changed (tree_of t) change
  pub rooms : KeepsRoom t t' change
  pub spare : t.spare ≤ t'.spare + takes change

-- the memory is there that each of the changes takes behind those before it
abbrev pub CanMakeAll : TreeState → List Change → Type 0
CanMakeAll t [] = Unit {0}
CanMakeAll t (c ∷ cs) = CanMake t c × ((t' : TreeState) → IsMade t t' c → CanMakeAll t' cs)
