-- The contents that the files in memory name.
use Rattle.std.specs.Prelude.{ℕ, List, [], ◌∷◌, ◌++◌, map}
use Rattle.std.specs.List.{flat_map}
use Rattle.ktm_world.specs.declared.change.Change.{Change}
use Rattle.ktm_world.specs.declared.change.Change.TheVariants.{Put}
use Rattle.ktm_world.specs.Changes.{bytes_in}
use Rattle.ktm_world.specs.Files.{FilesNow, FirstOpen, OwnChanges}
use Rattle.ktm_world.specs.Tree.{Tree, bytes_or_none}
use Rattle.txf_overlay.specs.OverlayState.{Written}
use Rattle.txf_volume.specs.Held.{OwnHeld}

-- the contents of the tree's nodes; a directory has none
abbrev pub tree_contents : Tree → List (List ℕ)
tree_contents tree = map (λ node. bytes_or_none node.content) tree

-- the contents that first opens show
abbrev pub first_contents : List FirstOpen → List (List ℕ)
first_contents firsts = map (λ o. o.bytes) firsts

-- the contents that a change puts
abbrev pub put_contents : Change → List (List ℕ)
put_contents (Put node offset contents) = bytes_in contents ∷ []
put_contents _ = []

-- the contents that a transaction's changes put
abbrev pub own_contents : OwnChanges → List (List ℕ)
own_contents o = flat_map put_contents o.changes

-- the contents of the committed files, of the versions that were first opened, and of what undecided transactions wrote
unfoldable pub named_contents : FilesNow → List (List ℕ)
named_contents files = tree_contents files.tree ++ (first_contents files.first_opens ++ flat_map own_contents files.table.own)

-- ---- no public clause cites what follows

-- the contents of files that a transaction wrote
abbrev pub written_contents : List Written → List (List ℕ)
written_contents ws = map (λ w. w.bytes) ws

-- the contents of all files that transactions wrote
abbrev pub all_written : List OwnHeld → List (List ℕ)
all_written overlays = flat_map (λ o. written_contents o.overlay.written) overlays
