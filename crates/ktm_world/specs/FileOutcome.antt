-- What a call on files comes to, as data, what it makes of the files, and the room that it wants.
use Rattle.std.specs.Prelude.{ℕ, ◌==◌, ◌&&◌, ◌||◌, Bool, List, [], ◌∷◌, ◌++◌, map, nat_lt, Option, Some, None, is_some}
use Rattle.ktm_base.specs.declared.limits.TheConstants.{MOST_NUMBER, END_OF_NODES}
use Rattle.ktm_base.specs.declared.id.Id.{Id}
use Rattle.ktm_world.specs.declared.change.Change.{Change}
use Rattle.ktm_world.specs.declared.reply.Reply.{Reply}
use Rattle.ktm_world.specs.declared.reply.Reply.TheVariants.{Done}
use Rattle.ktm_world.specs.Changes.{next_after}
use Rattle.ktm_world.specs.Committed.{Work, committed_with}
use Rattle.ktm_world.specs.Files.{FilesNow, FileTable, OwnChanges, OpenFile, Opening, committed_files, first_open, files_with, with_own_changes, changes_with}
use Rattle.ktm_world.specs.FileUses.{units_used, nodes_used, file_changes_waiting}

-- what a call on files comes to: its reply, and what of the files it changes
pub record FileOutcome : Type 0 where
  pub reply : Reply
  -- a change, which a plain call commits, and a transaction keeps
  pub change : Option Change
  -- a file that the transaction opens first
  pub first : Option ℕ
  -- a file that is open from now on
  pub opened : Option OpenFile

-- nothing but a reply
abbrev pub answering : Reply → FileOutcome
answering reply = record { reply = reply; change = None; first = None; opened = None }

-- one change
abbrev pub changing : Change → FileOutcome
changing change = record { reply = Done; change = Some change; first = None; opened = None }

-- ---- what it makes of the files

-- what a plain call commits
abbrev pub works_of : Option Id → Option Change → List Work
works_of None (Some change) = record { transaction = None; changes = change ∷ []; settings = [] } ∷ []
works_of _ _ = []

-- the first open that a transaction makes
abbrev pub openings_of : Option Id → Option ℕ → List Opening
openings_of (Some id) (Some file) = record { transaction = id; file = file } ∷ []
openings_of _ _ = []

-- what the undecided transactions changed then
abbrev pub own_after : FilesNow → Option Id → Option Change → List OwnChanges
own_after files (Some id) (Some change) = with_own_changes files.table.own id (changes_with files id change)
own_after files _ _ = files.table.own

-- the number of the next node then
abbrev pub next_node_after : ℕ → Option Change → ℕ
next_node_after next None = next
next_node_after next (Some change) = next_after next change

-- a file is open too, the last one
abbrev pub with_open : FileTable → Option OpenFile → FileTable
with_open table None = table
with_open table (Some o) = record table { opens = table.opens ++ o ∷ []; last_open = o.number }

-- own changes and open files after a call
abbrev pub table_after : FilesNow → Option Id → FileOutcome → FileTable
table_after files who o = with_open (record files.table { own = own_after files who o.change; next_node = next_node_after files.table.next_node o.change }) o.opened

-- the files after a call
abbrev pub files_after : FilesNow → Option Id → FileOutcome → FilesNow
files_after files who o =
    let c = committed_files files [] in
    files_with (committed_with c (works_of who o.change)) (files.first_opens ++ map (first_open c) (openings_of who o.first)) (table_after files who o)

-- ---- the room that it wants

-- how many handles are free, how many changes of files may wait, and how many units, and as many nodes, may be in use
pub record FileRoom : Type 0 where
  pub handles : ℕ
  pub changes : ℕ
  pub units : ℕ

-- is a quota passed then: changes that wait, handles, the numbers of open files and nodes
unfoldable pub lacks_quota : FilesNow → FileRoom → Option Id → FileOutcome → Bool
lacks_quota files room who o =
    let after = files_after files who o in
    nat_lt room.changes (file_changes_waiting after) || (is_some o.opened && room.handles == 0) || nat_lt MOST_NUMBER after.table.last_open
    || nat_lt END_OF_NODES after.table.next_node

-- is the disk too full then: more units or nodes than the image has units
unfoldable pub lacks_disk : FilesNow → FileRoom → Option Id → FileOutcome → Bool
lacks_disk files room who o = let after = files_after files who o in nat_lt room.units (units_used after) || nat_lt room.units (nodes_used after)
