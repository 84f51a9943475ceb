-- What is in use of the files.
use Rattle.std.specs.Prelude.{ℕ, ◌+◌, ◌==◌, ◌&&◌, not, Bool, List, [], ◌∷◌, ◌++◌, length, filter, sum_by, count_by, Some}
use Rattle.std.specs.List.{list_any}
use Rattle.ktm_world.specs.Changes.{changes_bytes, nodes_made}
use Rattle.ktm_world.specs.Committed.{written_files}
use Rattle.ktm_world.specs.Files.{FilesNow, OwnChanges, FirstOpen, bytes_seen, is_last_version}
use Rattle.ktm_world.specs.Tree.{bytes_or_none, units_of}

-- of the files that a transaction made or whose bytes it changed, as it sees them
abbrev pub own_units : FilesNow → OwnChanges → ℕ
own_units files o = sum_by (λ file. units_of (bytes_seen files (Some o.transaction) file)) (written_files o.changes)

-- are they the same version of the same file
abbrev pub same_version : FirstOpen → FirstOpen → Bool
same_version a b = a.file == b.file && a.version == b.version

-- the older versions that were first opened, each once
abbrev pub older_versions : FilesNow → List FirstOpen → List FirstOpen
older_versions files [] = []
older_versions files (o ∷ os) =
    let rest = older_versions files os in
    filter (λ a. not (is_last_version files a) && not (list_any (same_version a) rest)) (o ∷ []) ++ rest

-- the units in use: of committed files, of what undecided transactions wrote, and of the older versions that they first opened
unfoldable pub units_used : FilesNow → ℕ
units_used files =
    sum_by (λ node. units_of (bytes_or_none node.content)) files.tree + sum_by (own_units files) files.table.own
    + sum_by (λ o. units_of o.bytes) (older_versions files files.first_opens)

-- the nodes in use: the root, the committed ones, and those that undecided transactions made
unfoldable pub nodes_used : FilesNow → ℕ
nodes_used files = 1 + length files.tree + sum_by (λ o. nodes_made o.changes) files.table.own

-- the changes of files that wait: what undecided transactions made, moved and dropped
unfoldable pub file_changes_waiting : FilesNow → ℕ
file_changes_waiting files = sum_by (λ o. count_by (λ change. not (changes_bytes change)) o.changes) files.table.own
