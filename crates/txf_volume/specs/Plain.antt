-- What a plain call needs, and what it makes of the parts of the files in memory.
use Rattle.std.specs.Prelude.{◌≡◌, ℕ, ◌+◌, ◌<◌, ◌≤◌, ◌^◌, ◌==◌, ◌&&◌, Bool, true, List, [], find, Option, Some, None, is_some, sum_by, All, IfSome, if◌then◌else◌}
use Rattle.ktm_world.specs.declared.change.Change.{Change}
use Rattle.ktm_world.specs.Changes.{changes_apply, changed, changes_bytes, node_of}
use Rattle.ktm_world.specs.Committed.{version_of}
use Rattle.ktm_world.specs.FileOutcome.{FileOutcome}
use Rattle.ktm_world.specs.Holds.{holds_by}
use Rattle.ktm_world.specs.Tree.{Tree, bytes_of, units_of}
use Rattle.txf_overlay.specs.OverlayState.{OverlayState, own_of}
use Rattle.txf_tree.specs.TreeState.{TreeState, fits, takes, tree_of, versions_of}
use Rattle.txf_versions.specs.VersionsState.{VersionsState, is_pinned, is_version, older_units}
use Rattle.txf_versions.specs.declared.kept.Older.{Older}
use Rattle.txf_versions.specs.declared.opened.Opened.{Opened}
use Rattle.txf_volume.specs.Held.{FilesHeld, names_held}
use Rattle.txf_volume.specs.Ties.{is_last}
use Rattle.txf_volume.specs.Uses.{ends}

-- ---- what it needs

-- did somebody first open the last version of the file
abbrev pub is_last_pinned : TreeState → List Opened → ℕ → Bool
is_last_pinned tree opens file = is_pinned opens file (version_of (versions_of tree) file)

-- the bytes of which a change needs a copy: those of a file that it changes, where somebody first opened them
abbrev pub copied_for : TreeState → List Opened → Change → Option (List ℕ)
copied_for tree opens change =
    if changes_bytes change && is_last_pinned tree opens (node_of change) then Some (bytes_of (tree_of tree) (node_of change)) else None

-- the bytes of which a call needs a copy
abbrev pub copied : FilesHeld → Option Change → Option (List ℕ)
copied h None = None
copied h (Some change) = copied_for h.tree h.versions.opens change

-- the memory is there that a call takes: for its change, beside the changes that wait, for an open file, and a copy of what it changes, where that is needed
pub record IsReady (h : FilesHeld) (o : FileOutcome) (copy : Option (List ℕ)) : Type 0 where
  pub change : IfSome o.change (λ change. fits h.tree change ≡ true)
  pub room : IfSome o.change (λ change. sum_by names_held h.overlays + takes change ≤ h.tree.spare)
  pub opened : is_some o.opened ≡ true → 0 < h.opens.spare
  pub copy_is : copy ≡ copied h o.change

-- ---- what it makes of the parts; no public clause cites what follows

-- does the change end the version that was first opened
abbrev pub is_ended : TreeState → Change → Opened → Bool
is_ended tree change o = ends change && o.file == node_of change && is_last tree o

-- the bytes of a version that was first opened
abbrev pub opened_bytes : TreeState → Opened → Older
opened_bytes tree o = record { file = o.file; version = o.version; bytes = bytes_of (tree_of tree) o.file }

-- of versions that were first opened, that which the change ends is kept then, and the others are as they were
abbrev pub KeepsEnded : TreeState → Change → List Opened → List Older → List Older → Type 0
KeepsEnded tree change opens older older' =
    All (λ o. find (is_version o.file o.version) older' ≡ (if is_ended tree change o then Some (opened_bytes tree o) else find (is_version o.file o.version) older)) opens

-- what is kept can be counted with the bytes that the change ends
abbrev pub CanBeKept : TreeState → Change → VersionsState → Type 0
CanBeKept tree change versions =
    ends change ≡ true → is_last_pinned tree versions.opens (node_of change) ≡ true → older_units versions.older + units_of (bytes_of (tree_of tree) (node_of change)) < 2 ^ 64

-- what a transaction changed applies behind the change too, and holds what it held
pub record IsLeftOver (tree : Tree) (change : Change) (o : OverlayState) : Type 0 where
  pub apply : changes_apply (changed tree change) (own_of o) ≡ true
  pub holds : holds_by (changed tree change) (own_of o) [] ≡ holds_by tree (own_of o) []
