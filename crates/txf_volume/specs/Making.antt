-- How what a transaction changed comes to be committed. No public clause cites this module.
use Rattle.std.specs.Prelude.{◌≡◌, ℕ, ◌+◌, ◌-◌, ◌<◌, ◌≤◌, ◌^◌, ◌==◌, ◌&&◌, not, Bool, true, List, [], find, fold, length, map, sum_by, Some, All, if◌then◌else◌}
use Rattle.std.specs.List.{flat_map, list_all, list_any}
use Rattle.ktm_world.specs.declared.change.Change.{Change}
use Rattle.ktm_world.specs.Changes.{changes_apply, changed_all, is_make, node_of}
use Rattle.ktm_world.specs.Committed.{Version, version_of, versions_after}
use Rattle.ktm_world.specs.Files.{FilesNow, FirstOpen}
use Rattle.ktm_world.specs.FileUses.{older_versions}
use Rattle.ktm_world.specs.Tree.{Tree, numbers_rise, units_of}
use Rattle.txf_overlay.specs.OverlayState.{OverlayState, Written, final_of, is_of_names, own_of}
use Rattle.txf_overlay.specs.Written.{AreFilesRising, total_units}
use Rattle.txf_tree.specs.TreeState.{TreeState, takes, tree_of, versions_of}
use Rattle.txf_versions.specs.VersionsState.{VersionsState, is_pinned, is_version, older_units}
use Rattle.txf_versions.specs.declared.opened.Opened.{Opened}
use Rattle.txf_volume.specs.Held.{first_held, tree_units}
use Rattle.txf_laws.specs.FileEffects.{AreVersionsFew}
use Rattle.txf_volume.specs.Ties.{IsKeptOpen}

-- ---- the parts that a commit changes

-- the tree, the versions, and how many units the committed files have
pub record Parts : Type 0 where
  pub tree : TreeState
  pub versions : VersionsState
  pub units : ℕ

-- the parts, put together
abbrev pub parts : TreeState → VersionsState → ℕ → Parts
parts tree versions units = record { tree = tree; versions = versions; units = units }

-- the first opens, with the bytes that they show
abbrev pub firsts_of : Parts → List FirstOpen
firsts_of p = map (first_held (tree_of p.tree) p.versions.older) p.versions.opens

-- the files, where only this is committed and first opened
abbrev pub files_only : Tree → List Version → List FirstOpen → FilesNow
files_only tree versions firsts = record { tree = tree; versions = versions; first_opens = firsts; table = record { own = []; opens = []; last_open = 0; next_node = 0 } }

-- the units of the older versions that were first opened
abbrev pub units_older : Tree → List Version → List FirstOpen → ℕ
units_older tree versions firsts = sum_by (λ o. units_of o.bytes) (older_versions (files_only tree versions firsts) firsts)

-- the bytes of first opens are kept where they have to be, and units are counted
pub record AreRight (p : Parts) : Type 0 where
  pub rise : numbers_rise (tree_of p.tree) ≡ true
  pub opened : All (IsKeptOpen p.tree p.versions.older) p.versions.opens
  pub older : older_units p.versions.older ≡ units_older (tree_of p.tree) (versions_of p.tree) (firsts_of p)
  pub units : p.units ≡ tree_units (tree_of p.tree)

-- did nobody first open the file that the change makes
abbrev pub is_fresh : List Opened → Change → Bool
is_fresh opens c = not (is_make c && list_any (λ o. o.file == node_of c) opens)

-- the changes apply, make no file that was first opened, and leave older versions whose units can be counted
pub record CanMake (p : Parts) (changes : List Change) : Type 0 where
  pub right : AreRight p
  pub applies : changes_apply (tree_of p.tree) changes ≡ true
  pub fresh : list_all (is_fresh p.versions.opens) changes ≡ true
  pub few : units_older (changed_all (tree_of p.tree) changes) (fold versions_after (versions_of p.tree) changes) (firsts_of p) < 2 ^ 64

-- the changes of names can be made
pub record CanName (p : Parts) (names : List Change) : Type 0 where
  pub can : CanMake p names
  pub only : list_all is_of_names names ≡ true
  pub spare : length names ≤ p.tree.spare
  pub few : AreVersionsFew (versions_of p.tree)

-- the files can have these bytes
pub record CanReplace (p : Parts) (files : List Written) : Type 0 where
  pub can : CanMake p (flat_map final_of files)
  pub rise : AreFilesRising files
  pub few : All (λ w. version_of (versions_of p.tree) w.file < 2 ^ 64 - 2) files
  pub units : p.units + total_units files < 2 ^ 66

-- what a transaction changed can be committed
pub record CanTake (p : Parts) (o : OverlayState) : Type 0 where
  pub can : CanMake p (own_of o)
  pub only : list_all is_of_names o.names ≡ true
  pub rise : AreFilesRising o.written
  pub spare : length o.names ≤ p.tree.spare
  pub few : AreVersionsFew (versions_of p.tree)
  pub units : p.units + total_units o.written < 2 ^ 66
  pub sum : tree_units (changed_all (tree_of p.tree) (own_of o)) < 2 ^ 64

-- the changes are committed, and first opens show what they did
pub record AreMade (old new : Parts) (changes : List Change) : Type 0 where
  pub right : AreRight new
  pub tree : tree_of new.tree ≡ changed_all (tree_of old.tree) changes
  pub versions : versions_of new.tree ≡ fold versions_after (versions_of old.tree) changes
  pub opens : new.versions.opens ≡ old.versions.opens
  pub firsts : firsts_of new ≡ firsts_of old
  pub spare : old.tree.spare ≤ new.tree.spare + sum_by takes changes

-- ---- what is kept

-- the bytes of the version are kept, once, where it was first opened
pub record IsEnded (old new : VersionsState) (file version : ℕ) (bytes : List ℕ) : Type 0 where
  pub opens : new.opens ≡ old.opens
  pub found : (f v : ℕ) → find (is_version f v) new.older ≡ (if is_pinned old.opens file version && (file == f && version == v) then Some (record { file = file; version = version; bytes = bytes }) else find (is_version f v) old.older)
  pub units : older_units new.older ≡ older_units old.older + (if is_pinned old.opens file version then units_of bytes else 0)
