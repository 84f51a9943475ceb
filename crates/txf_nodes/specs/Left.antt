-- The entries of a directory that are left of a walk over all names. No public clause cites this module.
use Rattle.std.specs.Prelude.{ℕ, ◌==◌, List, [], ◌∷◌, Option, Some, None, if◌then◌else◌}
use Rattle.ktm_links.specs.Mapped.{NamedItem}
use Rattle.txf_nodes.specs.Children.{Shown, entry_seen, shown_of}
use Rattle.txf_nodes.specs.declared.entry.Entry.{Entry}
use Rattle.txf_nodes.specs.NodesState.{NodeOf, now_at}

module _ {V : Type 0} where
  -- the entry of the node and then the rest, if it is one of the directory
  abbrev pub child_from : ℕ → Option (NodeOf V) → List Shown → List Shown
  child_from directory None rest = []
  child_from directory (Some n) rest = if n.parent == directory then shown_of n ∷ rest else []

  -- the entries under these names, up to one that is not of the directory
  abbrev pub children_of : List (NodeOf V) → ℕ → List (NamedItem ℕ) → List Shown
  children_of nodes directory [] = []
  children_of nodes directory (e ∷ es) = child_from directory (now_at nodes e.value) (children_of nodes directory es)

-- the entry that is lent and then the rest, if one is
abbrev pub entries_then : Option Entry → List Shown → List Shown
entries_then None rest = []
entries_then (Some entry) rest = entry_seen entry ∷ rest
