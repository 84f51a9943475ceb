-- When a call is refused for another transaction, or for an open file's share mode.
use Rattle.std.specs.Prelude.{ℕ, ◌==◌, ◌&&◌, ◌||◌, not, Bool, true, false, List, [], ◌∷◌, ◌++◌, map, filter, Option, Some, None, is_some, is_none}
use Rattle.std.specs.List.{list_any, flat_map}
use Rattle.ktm_base.specs.declared.id.Id.{Id}
use Rattle.ktm_world.specs.declared.options.Access.{Access}
use Rattle.ktm_world.specs.declared.options.Access.TheVariants.{Read, Write, ReadWrite}
use Rattle.ktm_world.specs.declared.options.ShareMode.{ShareMode}
use Rattle.ktm_world.specs.Transactions.{same_id, is_of}
use Rattle.ktm_world.specs.Files.{FilesNow, FileTable, OpenFile, FirstOpen, own_changes, first_open_of, is_last_version}
use Rattle.ktm_world.specs.Holds.{Holds, Act, holds_by, meets, is_in, file_touched, file_changed, file_overwritten}

-- does the access include reading
abbrev pub reads : Access → Bool
reads Read = true
reads Write = false
reads ReadWrite = true

-- does the access include writing
abbrev pub writes : Access → Bool
writes Read = false
writes Write = true
writes ReadWrite = true

-- does the share mode let others read
abbrev pub lets_read : ShareMode → Bool
lets_read ShareMode.Nothing = false
lets_read ShareMode.Read = true
lets_read ShareMode.Write = false
lets_read ShareMode.ReadWrite = true

-- does the share mode let others write
abbrev pub lets_write : ShareMode → Bool
lets_write ShareMode.Nothing = false
lets_write ShareMode.Read = false
lets_write ShareMode.Write = true
lets_write ShareMode.ReadWrite = true

-- ---- undecided transactions

-- the nodes of a transaction's open files that may be written
abbrev pub written_by : List OpenFile → Id → List ℕ
written_by opens id = map (λ o. o.node) (filter (λ o. is_of id o.transaction && writes o.access) opens)

-- what a transaction holds of the files
abbrev pub holds_now : FilesNow → Id → Holds
holds_now files id = holds_by files.tree (own_changes files.table.own id) (written_by files.table.opens id)

-- the transaction in which a file is open, if it is in one
abbrev pub opener : OpenFile → List Id
opener o = elim o.transaction as (λ _. List Id) [ None ↦ [] | Some id ↦ id ∷ [] ]

-- the undecided transactions that changed or opened anything
abbrev pub users : FileTable → List Id
users table = map (λ o. o.transaction) table.own ++ flat_map opener table.opens

-- ---- conflicts

-- does the call meet what another transaction holds
abbrev pub meets_other : FilesNow → Option Id → Act → Bool
meets_other files who act = list_any (λ id. not (is_of id who) && meets (holds_now files id) act) (users files.table)

-- does a first open have a version that is not the last one of its file
abbrev pub is_outdated : FilesNow → Option FirstOpen → Bool
is_outdated files None = false
is_outdated files (Some o) = not (is_last_version files o)

-- does a transaction change a file whose fixed version in it is not the last one
abbrev pub changes_outdated : FilesNow → Option Id → Act → Bool
changes_outdated files None act = false
changes_outdated files (Some id) act = list_any (λ file. is_outdated files (first_open_of files.first_opens id file)) (file_changed act)

-- does a transaction open or change a file that a plain handle may write
abbrev pub touches_plain_writer : FilesNow → Option Id → Act → Bool
touches_plain_writer files None act = false
touches_plain_writer files (Some id) act = list_any (λ o. is_none o.transaction && writes o.access && is_in (file_touched act) o.node) files.table.opens

-- does a plain call write, empty or delete a file that a transaction has open
abbrev pub overwrites_opened : FilesNow → Option Id → Act → Bool
overwrites_opened files None act = list_any (λ o. is_some o.transaction && is_in (file_overwritten act) o.node) files.table.opens
overwrites_opened files (Some id) act = false

-- is a call refused for another transaction, or for plain handles
unfoldable pub conflicts : FilesNow → Option Id → Act → Bool
conflicts files who act = meets_other files who act || changes_outdated files who act || touches_plain_writer files who act || overwrites_opened files who act

-- ---- sharing

-- are both plain, or both of one transaction
abbrev pub same_group : Option Id → Option Id → Bool
same_group None None = true
same_group None (Some b) = false
same_group (Some a) None = false
same_group (Some a) (Some b) = same_id a b

-- the open files of a group, the plain ones or those of one transaction, on a node
abbrev pub opened_in : List OpenFile → Option Id → ℕ → List OpenFile
opened_in opens group node = filter (λ o. same_group o.transaction group && o.node == node) opens

-- is what is asked for shared
abbrev pub is_shared : Bool → Bool → ShareMode → Bool
is_shared asks_read asks_write mode = (not asks_read || lets_read mode) && (not asks_write || lets_write mode)

-- is an open refused for an open file of its group: one of the two asks for what the other does not share; emptying a file asks for write access
unfoldable pub violates_sharing : List OpenFile → Option Id → ℕ → Access → Bool → ShareMode → Bool
violates_sharing opens group node access truncates mode =
    list_any (λ o. not (is_shared (reads access) (writes access || truncates) o.share) || not (is_shared (reads o.access) (writes o.access) mode)) (opened_in opens group node)

-- is a file open in the group
abbrev pub is_open_in : List OpenFile → Option Id → ℕ → Bool
is_open_in opens group node = list_any (λ o. true) (opened_in opens group node)
