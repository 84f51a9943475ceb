-- How the parts of the files in memory go together. No public clause cites this module.
use Rattle.std.specs.Prelude.{◌≡◌, ℕ, ◌<◌, ◌≤◌, ◌^◌, ◌==◌, ◌&&◌, not, Bool, true, List, find, is_some, sum_by, Option, Some, None, All}
use Rattle.ktm_world.specs.Changes.{nodes_made}
use Rattle.ktm_world.specs.Committed.{version_of}
use Rattle.ktm_world.specs.Transactions.{same_id}
use Rattle.ktm_world.specs.Tree.{Tree, IsWellFormed, is_file}
use Rattle.txf_overlay.specs.Laws.{IsOwn}
use Rattle.txf_overlay.specs.OverlayState.{OverlayState, seen}
use Rattle.txf_overlay.specs.Views.{StandsOver}
use Rattle.txf_overlay.specs.Written.{total_units}
use Rattle.txf_reserve.specs.ReserveState.{Keeps}
use Rattle.txf_tree.specs.TreeState.{TreeState, tree_of, versions_of}
use Rattle.txf_versions.specs.VersionsState.{is_version}
use Rattle.txf_versions.specs.declared.kept.Older.{Older}
use Rattle.txf_versions.specs.declared.opened.Opened.{Opened}
use Rattle.txf_volume.specs.Held.{FilesHeld, OwnHeld, files_of, names_held, tree_units}
use Rattle.txf_volume.specs.declared.counts.Counts.{Counts}
use Rattle.txf_laws.specs.Elements.{each_pair}

-- are they of two transactions
abbrev pub held_by_two : OwnHeld → OwnHeld → Bool
held_by_two a b = not (same_id a.transaction b.transaction)

-- what a transaction changed stands over the tree, and is in the form in which it is committed
pub record IsOver (tree : Tree) (o : OverlayState) : Type 0 where
  pub stands : StandsOver tree o
  pub own : IsOwn o

-- is the version that was first opened the last one of its file
abbrev pub is_last : TreeState → Opened → Bool
is_last tree o = is_file (tree_of tree) o.file && o.version == version_of (versions_of tree) o.file

-- a first open is of a version that there was, and its bytes are kept exactly where that is not the last one
pub record IsKeptOpen (tree : TreeState) (older : List Older) (o : Opened) : Type 0 where
  pub was : is_file (tree_of tree) o.file ≡ true → o.version ≤ version_of (versions_of tree) o.file
  pub kept : is_some (find (is_version o.file o.version) older) ≡ not (is_last tree o)

-- the units of what a transaction wrote
abbrev pub units_held : OwnHeld → ℕ
units_held o = total_units o.overlay.written

-- the nodes that a transaction made and left
abbrev pub nodes_held : OwnHeld → ℕ
nodes_held o = nodes_made o.overlay.names

-- all that transactions changed can be counted
pub record AreFew (overlays : List OwnHeld) : Type 0 where
  pub units : sum_by units_held overlays < 2 ^ 63
  pub nodes : sum_by nodes_held overlays < 2 ^ 63
  pub names : sum_by names_held overlays < 2 ^ 63

-- these are the sums of what transactions changed
pub record AreCounts (overlays : List OwnHeld) (counts : Counts) : Type 0 where
  pub units : counts.units ≡ sum_by units_held overlays
  pub nodes : counts.nodes ≡ sum_by nodes_held overlays
  pub names : counts.names ≡ sum_by names_held overlays

-- the parts go together; the committed files have so many units, and what transactions changed is counted
pub record AreTied (h : FilesHeld) (units : ℕ) (counts : Counts) : Type 0 where
  -- the tree is well formed
  pub formed : IsWellFormed (tree_of h.tree)
  -- a transaction has one entry among the changes
  pub once : each_pair held_by_two h.overlays ≡ true
  -- each entry's changes stand over the tree
  pub over : All (λ o. IsOver (tree_of h.tree) o.overlay) h.overlays
  -- the bytes of first opens are kept where they have to be
  pub opened : All (IsKeptOpen h.tree h.versions.older) h.versions.opens
  -- what is held is what the changes hold
  pub keeps : Keeps h.reserve (files_of h)
  -- the committed files have so many units
  pub sum : units ≡ tree_units (tree_of h.tree)
  -- what transactions changed is counted
  pub counted : AreCounts h.overlays counts
  -- counts do not come to their end
  pub few : AreFew h.overlays
  -- the tree has room for as many names as undecided transactions made, moved and dropped
  pub room : sum_by names_held h.overlays ≤ h.tree.spare

-- the names that a caller sees, who changed this, if anything
abbrev pub seen_by : Tree → Option OverlayState → Tree
seen_by tree None = tree
seen_by tree (Some o) = seen tree o
