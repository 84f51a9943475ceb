-- What a contract sees of the files as the machine has them in memory, and what the model has of them.
use Rattle.std.specs.Prelude.{ℕ, not, List, [], ◌∷◌, Option, Some, None, filter, map, find, length, sum_by, if◌then◌else◌}
use Rattle.std.specs.Option.{option_map}
use Rattle.ktm_base.specs.declared.id.Id.{Id}
use Rattle.ktm_world.specs.Files.{FilesNow, FirstOpen, OwnChanges}
use Rattle.ktm_world.specs.Transactions.{same_id}
use Rattle.ktm_world.specs.Tree.{Tree, bytes_of, bytes_or_none, units_of}
use Rattle.ktm_world.specs.declared.recorded.Node.{Node}
use Rattle.txf_opens.specs.OpensState.{OpensState}
use Rattle.txf_overlay.specs.OverlayState.{OverlayState, own_of}
use Rattle.txf_overlay.specs.Written.{bytes_or}
use Rattle.txf_reserve.specs.ReserveState.{ReserveState}
use Rattle.txf_tree.specs.TreeState.{TreeState, tree_of, versions_of}
use Rattle.txf_versions.specs.VersionsState.{VersionsState, is_version}
use Rattle.txf_versions.specs.declared.kept.Older.{Older}
use Rattle.txf_versions.specs.declared.opened.Opened.{Opened}

-- what a transaction changed
pub record OwnHeld : Type 0 where
  pub transaction : Id
  pub overlay : OverlayState

-- the parts of the files in memory
pub record FilesHeld : Type 0 where
  -- what is committed
  pub tree : TreeState
  -- what transactions first opened, and the bytes of older versions
  pub versions : VersionsState
  -- what transactions changed, in the order of their first changes
  pub overlays : List OwnHeld
  -- what is open
  pub opens : OpensState
  -- what is held by changes
  pub reserve : ReserveState
  -- the number of the next node
  pub next_node : ℕ

-- the changes of a transaction, in the form in which they are committed
abbrev pub changes_held : OwnHeld → OwnChanges
changes_held o = record { transaction = o.transaction; changes = own_of o.overlay }

-- the changes of all transactions
abbrev pub own_held : List OwnHeld → List OwnChanges
own_held overlays = map changes_held overlays

-- the bytes of a version: those that were kept, or else the committed ones
abbrev pub version_bytes : Tree → List Older → ℕ → ℕ → List ℕ
version_bytes tree older file version = bytes_or (bytes_of tree file) (option_map (λ v. v.bytes) (find (is_version file version) older))

-- a first open, with the bytes that it shows
abbrev pub first_held : Tree → List Older → Opened → FirstOpen
first_held tree older o = record { transaction = o.transaction; file = o.file; version = o.version; bytes = version_bytes tree older o.file o.version }

-- the units of a node
abbrev pub node_units : Node → ℕ
node_units node = units_of (bytes_or_none node.content)

-- the units of all committed files
abbrev pub tree_units : Tree → ℕ
tree_units tree = sum_by node_units tree

-- the files as the model has them
abbrev pub files_of : FilesHeld → FilesNow
files_of h = record {
  tree = tree_of h.tree;
  versions = versions_of h.tree;
  first_opens = map (first_held (tree_of h.tree) h.versions.older) h.versions.opens;
  table = record { own = own_held h.overlays; opens = h.opens.opens; last_open = h.opens.last; next_node = h.next_node };
}

-- the files of a machine that starts: this is committed, and nothing is changed or open
abbrev pub files_begun : Tree → ℕ → FilesNow
files_begun tree next_node = record { tree = tree; versions = []; first_opens = []; table = record { own = []; opens = []; last_open = 0; next_node = next_node } }

-- what a transaction changed, if it changed anything
abbrev pub overlay_in : List OwnHeld → Id → Option OverlayState
overlay_in [] id = None
overlay_in (o ∷ os) id = if same_id o.transaction id then Some o.overlay else overlay_in os id

-- how many changes of names a transaction made
abbrev pub names_held : OwnHeld → ℕ
names_held o = length o.overlay.names

-- what the other transactions changed
abbrev pub without_own : List OwnHeld → Id → List OwnHeld
without_own overlays id = filter (λ o. not (same_id o.transaction id)) overlays
