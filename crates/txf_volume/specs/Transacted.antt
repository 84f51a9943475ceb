-- What a call of a transaction makes of the files in memory, and what its end does.
use Rattle.std.specs.Prelude.{◌≡◌, ℕ, ◌+◌, ◌≤◌, false, List, [], ◌∷◌, ◌++◌, length, sum_by, Option, Some, None}
use Rattle.ktm_base.specs.declared.id.Id.{Id}
use Rattle.txf_laws.specs.OwnChange.{owned}
use Rattle.ktm_world.specs.declared.change.Change.{Change}
use Rattle.ktm_world.specs.declared.change.Change.TheVariants.{Put, Cut}
use Rattle.ktm_world.specs.Changes.{bytes_in, changes_bytes}
use Rattle.ktm_world.specs.FileOutcome.{with_open}
use Rattle.ktm_world.specs.Files.{FilesNow, OpenFile, committed_files, first_open}
use Rattle.txf_overlay.specs.OverlayState.{OverlayState}
use Rattle.txf_overlay.specs.Written.{HasBytes}
use Rattle.txf_volume.specs.Held.{FilesHeld, OwnHeld, names_held, overlay_in}

-- the files once the transaction has made a change, if it makes one
abbrev pub changed_by : FilesNow → Id → Option Change → FilesNow
changed_by files id None = files
changed_by files id (Some c) = owned files id c

-- the files once the transaction has first opened one, if it opens one
abbrev pub first_opened : FilesNow → Id → Option ℕ → FilesNow
first_opened files id None = files
first_opened files id (Some file) = record files { first_opens = files.first_opens ++ first_open (committed_files files []) (record { transaction = id; file = file }) ∷ [] }

-- the files once one is open, if one is opened
abbrev pub opened_by : FilesNow → Option OpenFile → FilesNow
opened_by files o = record files { table = with_open files.table o }

-- there is room for one more open file, first open and change held
pub record HasRoom (h : FilesHeld) : Type 0 where
  pub opens : 1 ≤ h.opens.spare
  pub versions : 1 ≤ h.versions.spare
  pub reserve : 1 ≤ h.reserve.spare

-- for how many more changes of names there is room beside what the transaction changed
abbrev pub spare_in : Option OverlayState → ℕ
spare_in None = 0
spare_in (Some o) = o.spare

-- the tree has room for a change of names, beside all that wait; bytes take none
abbrev pub HasTreeRoom : FilesHeld → Option Change → Type 0
HasTreeRoom h None = Unit {0}
HasTreeRoom h (Some c) = changes_bytes c ≡ false → sum_by names_held h.overlays + 1 ≤ h.tree.spare

-- the bytes that a change puts or leaves are among those that the transaction wrote of the file
abbrev pub IsWithin : Option OverlayState → Change → Type 0
IsWithin (Some o) (Put node offset contents) = HasBytes o.written node (offset + length (bytes_in contents))
IsWithin (Some o) (Cut node size pages) = HasBytes o.written node size
IsWithin _ _ = Unit {0}

-- what the transaction changed has room for the change: for one more change of names, and bytes take none
abbrev pub CanAdd : List OwnHeld → Id → Change → Type 0
CanAdd overlays id c = (1 ≤ spare_in (overlay_in overlays id)) × IsWithin (overlay_in overlays id) c

-- the memory is there with which the change, if there is one, is the transaction's own
abbrev pub CanOwn : FilesHeld → Id → Option Change → Type 0
CanOwn h id None = Unit {0}
CanOwn h id (Some c) = CanAdd h.overlays id c × HasTreeRoom h (Some c)
