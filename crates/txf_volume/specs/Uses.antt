-- How much of the files is in use once a call has settled, by what was in use before. Public clauses cite nothing of this module but `IsSteady`.
use Rattle.std.specs.Prelude.{◌≡◌, ℕ, ◌+◌, ◌≤◌, ◌==◌, ◌&&◌, ◌||◌, not, Bool, true, false, List, [], Option, Some, None, is_some, All, if◌then◌else◌}
use Rattle.std.specs.List.{list_any}
use Rattle.ktm_base.specs.declared.id.Id.{Id}
use Rattle.ktm_world.specs.declared.change.Change.{Change}
use Rattle.ktm_world.specs.declared.change.Change.TheVariants.{Put, Cut}
use Rattle.txf_laws.specs.Elements.{each_pair}
use Rattle.txf_laws.specs.SoundFiles.{changed_by_two, files_rise}
use Rattle.ktm_world.specs.Changes.{bytes_in, changes_bytes, is_drop, is_make, node_of}
use Rattle.ktm_world.specs.Committed.{version_of, written_files, changes_to_commit}
use Rattle.ktm_world.specs.FileOutcome.{FileOutcome, files_after}
use Rattle.ktm_world.specs.Files.{FilesNow, own_changes, is_last_version, bytes_seen}
use Rattle.ktm_world.specs.FileUses.{units_used, nodes_used, file_changes_waiting}
use Rattle.ktm_world.specs.Holds.{is_in}
use Rattle.ktm_world.specs.Tree.{bytes_of, cut_to, is_file, node_at, numbers_rise, put_over, units_of}
use Rattle.txf_calls.specs.Fits.{Suits, opens_file}

-- ---- what is so at every moment

-- own changes are in the form in which they are committed, numbers rise, and first opens are of versions that there were
pub record IsSteady (files : FilesNow) : Type 0 where
  -- a transaction has one entry among the own changes
  pub once : each_pair changed_by_two files.table.own ≡ true
  -- its changes are in the form in which they are committed
  pub final : All (λ o. changes_to_commit o.changes (bytes_seen files (Some o.transaction)) ≡ o.changes) files.table.own
  -- the numbers of committed nodes rise
  pub rise : numbers_rise files.tree ≡ true
  -- the numbers of the files that have versions rise
  pub versions : each_pair files_rise files.versions ≡ true
  -- a first open is of a version that there was
  pub first_versions : All (λ o. is_file files.tree o.file ≡ true → o.version ≤ version_of files.versions o.file) files.first_opens
  -- the bytes of the last version are the committed ones
  pub first_bytes : All (λ o. is_last_version files o ≡ true → o.bytes ≡ bytes_of files.tree o.file) files.first_opens

-- ---- units

-- the units that a change gives its file, which had these bytes
abbrev pub gain : List ℕ → Change → ℕ
gain bytes (Put node offset contents) = units_of (put_over bytes offset (bytes_in contents))
gain bytes (Cut node size pages) = units_of (cut_to bytes size)
gain bytes _ = 0

-- does the change end what its file was
abbrev pub ends : Change → Bool
ends change = changes_bytes change || is_drop change

-- the units that these bytes had, where the change ends them
abbrev pub loss : List ℕ → Change → ℕ
loss bytes change = if ends change then units_of bytes else 0

-- did somebody first open the last version of the file
abbrev pub is_last_opened : FilesNow → ℕ → Bool
is_last_opened files file = list_any (λ o. o.file == file && o.version == version_of files.versions file) files.first_opens

-- the units of what a plain change ends, where somebody first opened it, and it is kept
abbrev pub kept : FilesNow → Change → ℕ
kept files change = if is_last_opened files (node_of change) then loss (bytes_of files.tree (node_of change)) change else 0

-- the bytes that a transaction has of its own of a file, which are none where it has not written it
abbrev pub own_bytes : FilesNow → Id → ℕ → List ℕ
own_bytes files id file = if is_in (written_files (own_changes files.table.own id)) file then bytes_seen files (Some id) file else []

-- ---- nodes and changes that wait

-- one where it is so
abbrev pub one_if : Bool → ℕ
one_if b = if b then 1 else 0

-- how many changes more wait: one of names that a transaction makes
abbrev pub names_added : Option Id → Option Change → ℕ
names_added None change = 0
names_added (Some id) None = 0
names_added (Some id) (Some change) = one_if (not (changes_bytes change))

-- ---- all of it

-- what is in use once a plain change is committed
pub record PlainUses (files : FilesNow) (o : FileOutcome) (change : Change) : Type 0 where
  pub units : units_used (files_after files None o) + loss (bytes_of files.tree (node_of change)) change ≡ units_used files + gain (bytes_of files.tree (node_of change)) change + kept files change
  pub nodes : nodes_used (files_after files None o) + one_if (is_drop change && is_some (node_at files.tree (node_of change))) ≡ nodes_used files + one_if (is_make change)

-- what is in use once a transaction has made a change, and has first opened the last version of a file
pub record OwnUses (files : FilesNow) (id : Id) (o : FileOutcome) (change : Change) : Type 0 where
  pub units : units_used (files_after files (Some id) o) + loss (own_bytes files id (node_of change)) change ≡ units_used files + gain (bytes_seen files (Some id) (node_of change)) change
  pub nodes : is_drop change ≡ false → nodes_used (files_after files (Some id) o) ≡ nodes_used files + one_if (is_make change)

-- what is in use is the same
pub record SameUses (files files' : FilesNow) : Type 0 where
  pub units : units_used files' ≡ units_used files
  pub nodes : nodes_used files' ≡ nodes_used files

-- what a call adds to what is in use, and takes from it
pub record UsesLaw : Type 0 where
  pub plain : (files : FilesNow) (o : FileOutcome) (change : Change) → IsSteady files → o.change ≡ Some change → Suits files.tree files.first_opens change → PlainUses files o change
  pub own : (files : FilesNow) (id : Id) (o : FileOutcome) (change : Change) → IsSteady files → o.change ≡ Some change → opens_file files.tree o.first ≡ true → OwnUses files id o change
  pub none : (files : FilesNow) (who : Option Id) (o : FileOutcome) → IsSteady files → o.change ≡ None → opens_file files.tree o.first ≡ true → SameUses files (files_after files who o)
  pub waiting : (files : FilesNow) (who : Option Id) (o : FileOutcome) → IsSteady files → file_changes_waiting (files_after files who o) ≡ file_changes_waiting files + names_added who o.change
