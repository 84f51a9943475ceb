-- The calls on files and directories: for each the tests in their order, and what it does, by the files alone, the transaction that calls, if one
-- does, and the room that there is.
use Rattle.std.specs.Prelude.{ℕ, ◌+◌, ◌==◌, ◌&&◌, ◌||◌, not, Bool, true, false, List, [], ◌∷◌, ◌++◌, length, map, filter, take, drop, nat_lt, Option, Some, None, is_some, is_none, if◌then◌else◌}
use Rattle.ktm_base.specs.declared.limits.TheConstants.{MOST_AT_ONCE}
use Rattle.ktm_base.specs.Names.{folded, matches, backslash}
use Rattle.ktm_base.specs.declared.id.Id.{Id}
use Rattle.ktm_base.specs.declared.refusal.Refusal.{Refusal}
use Rattle.ktm_base.specs.declared.refusal.Refusal.TheVariants.{InvalidParameter, InvalidName, PathNotFound, FileNotFound, FileExists, AlreadyExists, AccessDenied, DirNotEmpty, TransactionalConflict, SharingViolation, NotEnoughQuota, DiskFull}
use Rattle.ktm_world.specs.declared.change.Change.{Change}
use Rattle.ktm_world.specs.declared.change.Change.TheVariants.{Make, Put, Cut, Move, Drop}
use Rattle.ktm_world.specs.declared.change.Contents.TheVariants.{Whole}
use Rattle.ktm_world.specs.declared.change.NodeKind.TheVariants.{File, Directory}
use Rattle.ktm_world.specs.declared.recorded.Node.{Node}
use Rattle.ktm_world.specs.declared.options.Access.{Access}
use Rattle.ktm_world.specs.declared.options.Disposition.{Disposition}
use Rattle.ktm_world.specs.declared.options.Disposition.TheVariants.{CreateNew, CreateAlways, OpenExisting, OpenAlways, TruncateExisting}
use Rattle.ktm_world.specs.declared.options.ShareMode.{ShareMode}
use Rattle.ktm_world.specs.declared.reply.Reply.TheVariants.{Done, Contents as Bytes, Size, Names}
use Rattle.ktm_keyed.specs.Keyed.{comes_before}
use Rattle.ktm_world.specs.Conflicts.{conflicts, violates_sharing, is_open_in, reads, writes}
use Rattle.ktm_world.specs.Files.{FilesNow, OpenFile, own_changes, first_open_of, tree_seen, bytes_seen}
use Rattle.ktm_world.specs.FileOutcome.{FileOutcome, FileRoom, answering, changing, lacks_quota, lacks_disk}
use Rattle.ktm_world.specs.Holds.{Act, place, opens, deletes, moves_file, makes, drops_directory, moves_directory}
use Rattle.ktm_world.specs.Paths.{Search, path_of, pattern_of}
use Rattle.ktm_world.specs.Tree.{Tree, root, child_of, has_entries, is_at_or_below}
use Rattle.ktm_world.specs.Changes.{has_made}

-- ---- where a text leads

-- where a text leads in a tree
pub data Whereabouts : Type 0 where
  -- the text is no path
  no_path : Whereabouts
  -- a directory on the way is missing, or is a file
  no_way : Whereabouts
  -- the name is free in this directory
  free : (directory : ℕ) → (name : List ℕ) → Whereabouts
  -- the root
  at_root : Whereabouts
  -- a node
  at_node : Node → Whereabouts

-- where the last name leads: to a node, or to a free name
abbrev pub reached : Option Node → ℕ → List ℕ → Whereabouts
reached None directory name = free directory name
reached (Some node) directory name = at_node node

-- the directory that a name leads to, on the way
abbrev pub entered : Option Node → Option ℕ
entered None = None
entered (Some node) = if is_some node.content then None else Some node.number

-- from a directory along names; the way may be lost before
abbrev pub walk : Tree → Option ℕ → List (List ℕ) → Whereabouts
walk tree None names = no_way
walk tree (Some directory) [] = at_root
walk tree (Some directory) (name ∷ []) = reached (child_of tree directory name) directory name
walk tree (Some directory) (name ∷ next ∷ names) = walk tree (entered (child_of tree directory name)) (next ∷ names)

-- where the names of a path lead; a text that is no path has none
abbrev pub whereabouts_of : Tree → Option (List (List ℕ)) → Whereabouts
whereabouts_of tree None = no_path
whereabouts_of tree (Some names) = walk tree (Some root) names

-- where a text leads in a tree
unfoldable pub find_path : Tree → List ℕ → Whereabouts
find_path tree text = whereabouts_of tree (path_of text)

-- is the text no path
abbrev pub is_no_path : Whereabouts → Bool
is_no_path no_path = true
is_no_path _ = false

-- is a directory on the way missing, or a file
abbrev pub is_no_way : Whereabouts → Bool
is_no_way no_way = true
is_no_way _ = false

-- is the name free, in a directory that is there
abbrev pub is_free_name : Whereabouts → Bool
is_free_name (free directory name) = true
is_free_name _ = false

-- is it the root
abbrev pub is_root : Whereabouts → Bool
is_root at_root = true
is_root _ = false

-- a file or a directory is there, or it is the root
abbrev pub is_taken : Whereabouts → Bool
is_taken at_root = true
is_taken (at_node node) = true
is_taken _ = false

-- is a file there
abbrev pub is_at_file : Whereabouts → Bool
is_at_file (at_node node) = is_some node.content
is_at_file _ = false

-- is a directory there, or is it the root
abbrev pub is_at_directory : Whereabouts → Bool
is_at_directory at_root = true
is_at_directory (at_node node) = is_none node.content
is_at_directory _ = false

-- ---- what many of these calls test

-- the tests of what would be so then
abbrev pub limit_tests : FilesNow → FileRoom → Option Id → FileOutcome → List (Bool × Refusal)
limit_tests files room who o = (lacks_quota files room who o, NotEnoughQuota) ∷ (lacks_disk files room who o, DiskFull) ∷ []

-- the test that the call conflicts with another transaction, or with a plain handle
abbrev pub conflict_test : FilesNow → Option Id → Option Act → Bool × Refusal
conflict_test files who None = (false, TransactionalConflict)
conflict_test files who (Some act) = (conflicts files who act, TransactionalConflict)

-- ---- CreateFile

-- does the call empty a file that is there
abbrev pub empties : Disposition → Bool
empties CreateNew = false
empties CreateAlways = true
empties OpenExisting = false
empties OpenAlways = false
empties TruncateExisting = true

-- is the name to be there
abbrev pub wants_existing : Disposition → Bool
wants_existing OpenExisting = true
wants_existing TruncateExisting = true
wants_existing _ = false

-- is the name to be free
abbrev pub wants_new : Disposition → Bool
wants_new CreateNew = true
wants_new _ = false

-- is it TruncateExisting, which wants access to write
abbrev pub is_truncate_existing : Disposition → Bool
is_truncate_existing TruncateExisting = true
is_truncate_existing _ = false

-- what CreateFile does: it makes a free name, or opens the file that is there, changing it where it may write or empties it
abbrev pub create_act : Whereabouts → Access → Disposition → Option Act
create_act no_path access disposition = None
create_act no_way access disposition = None
create_act (free directory name) access disposition = Some (makes (place directory name))
create_act at_root access disposition = None
create_act (at_node node) access disposition = Some (opens node.number (writes access || empties disposition))

-- would the open violate the share mode of an open file, or the other way round
abbrev pub create_violates : FilesNow → Option Id → Whereabouts → Access → ShareMode → Disposition → Bool
create_violates files who (at_node node) access mode disposition = violates_sharing files.table.opens who node.number access (empties disposition) mode
create_violates files who _ access mode disposition = false

-- the next open file
abbrev pub new_open : FilesNow → Option Id → ℕ → Access → ShareMode → OpenFile
new_open files who node access mode = record { number = files.table.last_open + 1; node = node; transaction = who; access = access; share = mode }

-- the file, where a transaction neither made it nor opened it before
abbrev pub first_opening : FilesNow → Option Id → ℕ → Option ℕ
first_opening files None file = None
first_opening files (Some id) file = if has_made (own_changes files.table.own id) file || is_some (first_open_of files.first_opens id file) then None else Some file

-- the change that empties the file, where the disposition says so
abbrev pub emptying : Disposition → ℕ → Option Change
emptying disposition file = if empties disposition then Some (Cut file 0 []) else None

-- a file is made under a free name, or the one that is there is emptied or left as it is, and it is open then
abbrev pub create_at : FilesNow → Option Id → Whereabouts → Access → ShareMode → Disposition → FileOutcome
create_at files who (free directory name) access mode disposition = record {
  reply = Done;
  change = Some (Make files.table.next_node directory File name);
  first = None;
  opened = Some (new_open files who files.table.next_node access mode);
}
create_at files who (at_node node) access mode disposition = record {
  reply = Done;
  change = emptying disposition node.number;
  first = first_opening files who node.number;
  opened = Some (new_open files who node.number access mode);
}
create_at files who _ access mode disposition = answering Done

-- CreateFile, plain or in a transaction, which goes by the tree that it sees
unfoldable pub create_file : FilesNow → Option Id → List ℕ → Access → ShareMode → Disposition → FileOutcome
create_file files who path access mode disposition = create_at files who (find_path (tree_seen files who) path) access mode disposition

-- the tests of CreateFile
unfoldable pub create_file_tests : FilesNow → FileRoom → Option Id → List ℕ → Access → ShareMode → Disposition → List (Bool × Refusal)
create_file_tests files room who path access mode disposition =
    let there = find_path (tree_seen files who) path in
    (is_truncate_existing disposition && not (writes access), InvalidParameter)
    ∷ (is_no_path there, InvalidName)
    ∷ (is_no_way there, PathNotFound)
    ∷ (is_free_name there && wants_existing disposition, FileNotFound)
    ∷ (is_taken there && wants_new disposition, FileExists)
    ∷ (is_at_directory there, AccessDenied)
    ∷ conflict_test files who (create_act there access disposition)
    ∷ (create_violates files who there access mode disposition, SharingViolation)
    ∷ limit_tests files room who (create_file files who path access mode disposition)

-- ---- calls on an open file

-- the tests of ReadFile
unfoldable pub read_file_tests : OpenFile → ℕ → List (Bool × Refusal)
read_file_tests o many = (nat_lt MOST_AT_ONCE many, InvalidParameter) ∷ (not (reads o.access), AccessDenied) ∷ []

-- the bytes from the offset on, at most so many
unfoldable pub read_file : FilesNow → OpenFile → ℕ → ℕ → FileOutcome
read_file files o offset many = answering (Bytes (take many (drop offset (bytes_seen files o.transaction o.node))))

-- bytes are put; none change nothing
unfoldable pub write_file : OpenFile → ℕ → List ℕ → FileOutcome
write_file o offset [] = answering Done
write_file o offset (b ∷ bs) = changing (Put o.node offset (Whole (b ∷ bs)))

-- the test that the file was not opened for writing, which is all that FlushFileBuffers tests
abbrev pub write_access_test : OpenFile → Bool × Refusal
write_access_test o = (not (writes o.access), AccessDenied)

-- the tests of a put of whole units, which no line spells, and which may be of any length
unfoldable pub write_units_tests : FilesNow → FileRoom → OpenFile → ℕ → List ℕ → List (Bool × Refusal)
write_units_tests files room o start contents = write_access_test o ∷ (lacks_disk files room o.transaction (write_file o start contents), DiskFull) ∷ []

-- the tests of WriteFile
unfoldable pub write_file_tests : FilesNow → FileRoom → OpenFile → ℕ → List ℕ → List (Bool × Refusal)
write_file_tests files room o offset bytes = (nat_lt MOST_AT_ONCE (length bytes), InvalidParameter) ∷ write_units_tests files room o offset bytes

-- SetEndOfFile makes the file so long: it is cut, or filled with zeros
unfoldable pub set_end : OpenFile → ℕ → FileOutcome
set_end o size = changing (Cut o.node size [])

-- the tests of SetEndOfFile
unfoldable pub set_end_tests : FilesNow → FileRoom → OpenFile → ℕ → List (Bool × Refusal)
set_end_tests files room o size = write_access_test o ∷ (lacks_disk files room o.transaction (set_end o size), DiskFull) ∷ []

-- GetFileSizeEx tells how many bytes are seen
unfoldable pub get_size : FilesNow → OpenFile → FileOutcome
get_size files o = answering (Size (length (bytes_seen files o.transaction o.node)))

-- each plain change is safe before it is answered, so there is nothing to do
abbrev pub flush_file : FileOutcome
flush_file = answering Done

-- ---- DeleteFile

-- what DeleteFile does: it deletes what is there, with its name
abbrev pub delete_act : Whereabouts → Option Act
delete_act (at_node node) = Some (deletes node.number (place node.parent node.name))
delete_act _ = None

-- is it a file that is open in the group
abbrev pub is_open_at : FilesNow → Option Id → Whereabouts → Bool
is_open_at files who (at_node node) = is_some node.content && is_open_in files.table.opens who node.number
is_open_at files who _ = false

-- the node that is there is dropped
abbrev pub drop_at : Whereabouts → FileOutcome
drop_at (at_node node) = changing (Drop node.number)
drop_at _ = answering Done

-- DeleteFile drops the file at the path
unfoldable pub delete_file : FilesNow → Option Id → List ℕ → FileOutcome
delete_file files who path = drop_at (find_path (tree_seen files who) path)

-- the tests of DeleteFile
unfoldable pub delete_file_tests : FilesNow → FileRoom → Option Id → List ℕ → List (Bool × Refusal)
delete_file_tests files room who path =
    let there = find_path (tree_seen files who) path in
    (is_no_path there, InvalidName)
    ∷ (is_no_way there, PathNotFound)
    ∷ (is_free_name there, FileNotFound)
    ∷ (is_at_directory there, AccessDenied)
    ∷ conflict_test files who (delete_act there)
    ∷ (is_open_at files who there, SharingViolation)
    ∷ (lacks_quota files room who (delete_file files who path), NotEnoughQuota)
    ∷ []

-- ---- CreateDirectory

-- what CreateDirectory does: it makes a free name
abbrev pub make_act : Whereabouts → Option Act
make_act (free directory name) = Some (makes (place directory name))
make_act _ = None

-- a directory is made under a free name
abbrev pub make_at : FilesNow → Whereabouts → FileOutcome
make_at files (free directory name) = changing (Make files.table.next_node directory Directory name)
make_at files _ = answering Done

-- CreateDirectory makes a directory at the path
unfoldable pub create_directory : FilesNow → Option Id → List ℕ → FileOutcome
create_directory files who path = make_at files (find_path (tree_seen files who) path)

-- the tests of CreateDirectory
unfoldable pub create_directory_tests : FilesNow → FileRoom → Option Id → List ℕ → List (Bool × Refusal)
create_directory_tests files room who path =
    let there = find_path (tree_seen files who) path in
    (is_no_path there, InvalidName)
    ∷ (is_no_way there, PathNotFound)
    ∷ (is_taken there, AlreadyExists)
    ∷ conflict_test files who (make_act there)
    ∷ limit_tests files room who (create_directory files who path)

-- ---- RemoveDirectory

-- what RemoveDirectory does: it drops the directory that is there, with its name
abbrev pub remove_act : Whereabouts → Option Act
remove_act (at_node node) = Some (drops_directory node.number (place node.parent node.name))
remove_act _ = None

-- has the directory that is there entries
abbrev pub is_not_empty : Tree → Whereabouts → Bool
is_not_empty tree (at_node node) = has_entries tree node.number
is_not_empty tree _ = false

-- RemoveDirectory drops the directory at the path
unfoldable pub remove_directory : FilesNow → Option Id → List ℕ → FileOutcome
remove_directory files who path = drop_at (find_path (tree_seen files who) path)

-- the tests of RemoveDirectory
unfoldable pub remove_directory_tests : FilesNow → FileRoom → Option Id → List ℕ → List (Bool × Refusal)
remove_directory_tests files room who path =
    let there = find_path (tree_seen files who) path in
    (is_no_path there, InvalidName)
    ∷ (is_no_way there, PathNotFound)
    ∷ (is_free_name there, FileNotFound)
    ∷ (is_root there, AccessDenied)
    ∷ (is_at_file there, Refusal.Directory)
    ∷ (is_not_empty (tree_seen files who) there, DirNotEmpty)
    ∷ conflict_test files who (remove_act there)
    ∷ (lacks_quota files room who (remove_directory files who path), NotEnoughQuota)
    ∷ []

-- ---- MoveFile

-- what MoveFile does: it moves the file or directory that is there, from its name to the free one
abbrev pub move_act : Whereabouts → Whereabouts → Option Act
move_act (at_node node) (free directory name) =
    Some (if is_some node.content then moves_file node.number (place node.parent node.name) (place directory name) else moves_directory node.number (place node.parent node.name) (place directory name))
move_act _ _ = None

-- a directory cannot be moved into itself, or below itself
abbrev pub is_into_itself : Tree → Whereabouts → Whereabouts → Bool
is_into_itself tree (at_node node) (free directory name) = is_at_or_below tree directory node.number
is_into_itself tree _ _ = false

-- the node that is there moves to the free name
abbrev pub move_at : Whereabouts → Whereabouts → FileOutcome
move_at (at_node node) (free directory name) = changing (Move node.number directory name)
move_at _ _ = answering Done

-- MoveFile moves what is at the first path to the second one
unfoldable pub move_file : FilesNow → Option Id → List ℕ → List ℕ → FileOutcome
move_file files who source target = move_at (find_path (tree_seen files who) source) (find_path (tree_seen files who) target)

-- the tests of MoveFile
unfoldable pub move_file_tests : FilesNow → FileRoom → Option Id → List ℕ → List ℕ → List (Bool × Refusal)
move_file_tests files room who source target =
    let from = find_path (tree_seen files who) source in
    let to = find_path (tree_seen files who) target in
    (is_no_path from || is_no_path to, InvalidName)
    ∷ (is_no_way from || is_no_way to, PathNotFound)
    ∷ (is_free_name from, FileNotFound)
    ∷ (is_taken to, AlreadyExists)
    ∷ (is_root from || is_into_itself (tree_seen files who) from to, AccessDenied)
    ∷ conflict_test files who (move_act from to)
    ∷ (is_open_at files who from, SharingViolation)
    ∷ (lacks_quota files room who (move_file files who source target), NotEnoughQuota)
    ∷ []

-- ---- FindFiles

-- the directory that a pattern looks at: the root, or the one that its names lead to
abbrev pub directory_of : Whereabouts → Option ℕ
directory_of at_root = Some root
directory_of (at_node node) = if is_some node.content then None else Some node.number
directory_of _ = None

-- an entry at its place by rising folded names
abbrev pub with_entry : List Node → Node → List Node
with_entry [] node = node ∷ []
with_entry (n ∷ ns) node = if comes_before (folded node.name) (folded n.name) then node ∷ n ∷ ns else n ∷ with_entry ns node

-- entries by rising folded names
abbrev pub in_order : List Node → List Node
in_order [] = []
in_order (n ∷ ns) = with_entry (in_order ns) n

-- the entries of a directory that match
abbrev pub entries : Tree → Option ℕ → List ℕ → List Node
entries tree None last = []
entries tree (Some directory) last = in_order (filter (λ node. node.parent == directory && matches last node.name) tree)

-- a name as it is listed, a directory's with a backslash behind it
abbrev pub listed : Node → List ℕ
listed node = if is_some node.content then node.name else node.name ++ backslash ∷ []

-- the directory that a pattern looks at, if it is there
abbrev pub searched_directory : Tree → Option Search → Option ℕ
searched_directory tree None = None
searched_directory tree (Some s) = directory_of (walk tree (Some root) s.directory)

-- the entries that a pattern asks for
abbrev pub found_entries : Tree → Option Search → List Node
found_entries tree None = []
found_entries tree (Some s) = entries tree (searched_directory tree (Some s)) s.last

-- are there no entries
abbrev pub is_no_entry : List Node → Bool
is_no_entry [] = true
is_no_entry (n ∷ ns) = false

-- the tests of FindFiles
unfoldable pub find_files_tests : FilesNow → Option Id → List ℕ → List (Bool × Refusal)
find_files_tests files who pattern_text =
    let tree = tree_seen files who in
    (is_none (pattern_of pattern_text), InvalidName)
    ∷ (is_none (searched_directory tree (pattern_of pattern_text)), PathNotFound)
    ∷ (is_no_entry (found_entries tree (pattern_of pattern_text)), FileNotFound)
    ∷ []

-- FindFiles tells the names that the pattern matches, by rising folded names
unfoldable pub find_files : FilesNow → Option Id → List ℕ → FileOutcome
find_files files who pattern_text = answering (Names (map listed (found_entries (tree_seen files who) (pattern_of pattern_text))))
