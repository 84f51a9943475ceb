-- The files as they are now, and what a transaction sees of them.
use Rattle.std.specs.Prelude.{ℕ, ◌==◌, ◌&&◌, not, Bool, List, [], ◌∷◌, ◌++◌, filter, find, Option, Some, None, if◌then◌else◌}
use Rattle.ktm_base.specs.declared.id.Id.{Id}
use Rattle.ktm_world.specs.declared.change.Change.{Change}
use Rattle.ktm_world.specs.declared.options.Access.{Access}
use Rattle.ktm_world.specs.declared.options.ShareMode.{ShareMode}
use Rattle.ktm_world.specs.Transactions.{same_id, is_of}
use Rattle.ktm_world.specs.Changes.{changed_all, node_of, changes_bytes, has_made}
use Rattle.ktm_world.specs.Keys.{Store}
use Rattle.ktm_world.specs.Committed.{Committed, Version, version_of, changes_to_commit}
use Rattle.ktm_world.specs.Tree.{Tree, is_file, bytes_of}

-- the changes of an undecided transaction, in the form in which they are committed
pub record OwnChanges : Type 0 where
  pub transaction : Id
  pub changes : List Change

-- a transaction's first open of a file, with the version that it fixed
pub record FirstOpen : Type 0 where
  pub transaction : Id
  pub file : ℕ
  pub version : ℕ
  pub bytes : List ℕ

-- an open file; a plain one has no transaction
pub record OpenFile : Type 0 where
  pub number : ℕ
  pub node : ℕ
  pub transaction : Option Id
  pub access : Access
  pub share : ShareMode

-- what the undecided transactions changed, and the files that are open in them and by plain handles
pub record FileTable : Type 0 where
  pub own : List OwnChanges
  pub opens : List OpenFile
  -- the number of the file that was opened last, or 0
  pub last_open : ℕ
  -- the number of the next node
  pub next_node : ℕ

-- the files now: what is committed, what undecided transactions opened and changed, and the open files
pub record FilesNow : Type 0 where
  -- what is committed
  pub tree : Tree
  pub versions : List Version
  -- of undecided transactions
  pub first_opens : List FirstOpen
  pub table : FileTable

-- ---- what is committed, and first opens

-- what is committed of the files, with a store of keys
abbrev pub committed_files : FilesNow → Store → Committed
committed_files files store = record { tree = files.tree; versions = files.versions; store = store }

-- the files now, put together
abbrev pub files_with : Committed → List FirstOpen → FileTable → FilesNow
files_with c first_opens table = record { tree = c.tree; versions = c.versions; first_opens = first_opens; table = table }

-- a first open that a command makes
pub record Opening : Type 0 where
  pub transaction : Id
  pub file : ℕ

-- the version of the file now
abbrev pub first_open : Committed → Opening → FirstOpen
first_open c o = record { transaction = o.transaction; file = o.file; version = version_of c.versions o.file; bytes = bytes_of c.tree o.file }

-- ---- what undecided transactions changed and see

-- the changes of a transaction
abbrev pub own_changes : List OwnChanges → Id → List Change
own_changes [] id = []
own_changes (o ∷ os) id = if same_id o.transaction id then o.changes else own_changes os id

-- these are a transaction's changes from now on
abbrev pub with_own_changes : List OwnChanges → Id → List Change → List OwnChanges
with_own_changes [] id changes = record { transaction = id; changes = changes } ∷ []
with_own_changes (o ∷ os) id changes = if same_id o.transaction id then record o { changes = changes } ∷ os else o ∷ with_own_changes os id changes

-- once its outcome is known a transaction has no changes and no open files
abbrev pub without_transaction : FileTable → Id → FileTable
without_transaction table id = record table {
  own = filter (λ o. not (same_id o.transaction id)) table.own;
  opens = filter (λ o. not (is_of id o.transaction)) table.opens;
}

-- a transaction's first open of a file
abbrev pub first_open_of : List FirstOpen → Id → ℕ → Option FirstOpen
first_open_of opens id file = find (λ o. same_id o.transaction id && o.file == file) opens

-- is the version of a first open the last one of its file
abbrev pub is_last_version : FilesNow → FirstOpen → Bool
is_last_version files o = is_file files.tree o.file && o.version == version_of files.versions o.file

-- the names that a transaction sees: what is committed, with what it made, moved and dropped
abbrev pub tree_of : FilesNow → Id → Tree
tree_of files id = changed_all files.tree (filter (λ change. not (changes_bytes change)) (own_changes files.table.own id))

-- the tree that a transaction sees, or a plain call
abbrev pub tree_seen : FilesNow → Option Id → Tree
tree_seen files None = files.tree
tree_seen files (Some id) = tree_of files id

-- the bytes of a first open, or else the last committed ones
abbrev pub fixed_bytes : FilesNow → ℕ → Option FirstOpen → List ℕ
fixed_bytes files file None = bytes_of files.tree file
fixed_bytes files file (Some o) = o.bytes

-- the bytes from which changes of a file start: none where they make it, those of its first open, or else the last committed ones
abbrev pub first_bytes : FilesNow → Id → List Change → ℕ → List ℕ
first_bytes files id changes file = if has_made changes file then [] else fixed_bytes files file (first_open_of files.first_opens id file)

-- the bytes of a file with what these changes put and cut of it
abbrev pub bytes_after : List ℕ → ℕ → List Change → List ℕ
bytes_after bytes file changes =
    bytes_of (changed_all (record { number = file; parent = 1; name = []; content = Some bytes } ∷ []) (filter (λ change. changes_bytes change && node_of change == file) changes)) file

-- the bytes of a file that a transaction would see with these changes
abbrev pub bytes_with : FilesNow → Id → List Change → ℕ → List ℕ
bytes_with files id changes file = bytes_after (first_bytes files id changes file) file changes

-- the bytes of a file that a transaction sees, or a plain handle
abbrev pub bytes_seen : FilesNow → Option Id → ℕ → List ℕ
bytes_seen files None file = bytes_of files.tree file
bytes_seen files (Some id) file = bytes_with files id (own_changes files.table.own id) file

-- a transaction's changes with one more, in the form in which they are committed
abbrev pub changes_with : FilesNow → Id → Change → List Change
changes_with files id change = let changes = own_changes files.table.own id ++ change ∷ [] in changes_to_commit changes (bytes_with files id changes)
