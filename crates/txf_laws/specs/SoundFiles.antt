-- What transactions own and hold of the keys and the files, in each present.
use Rattle.std.specs.Prelude.{◌≡◌, ℕ, ◌≤◌, ◌^◌, ◌==◌, ◌&&◌, ◌||◌, not, Bool, true, List, [], ◌∷◌, filter, nat_lt, nat_le, Option, Some, None, is_some, is_none, All}
use Rattle.std.specs.List.{list_any, list_all, flat_map}
use Rattle.ktm_base.specs.declared.id.Id.{Id}
use Rattle.ktm_world.specs.declared.change.Change.{Change}
use Rattle.ktm_world.specs.declared.recorded.Node.{Node}
use Rattle.ktm_world.specs.declared.object.Object.{Object}
use Rattle.ktm_world.specs.declared.object.Transaction.{Transaction}
use Rattle.ktm_world.specs.Changes.{changes_apply, changes_bytes, is_drop, is_make, node_of, has_changes, has_made}
use Rattle.ktm_world.specs.Committed.{Version, version_of, changes_to_commit}
use Rattle.ktm_world.specs.Conflicts.{holds_now, writes}
use Rattle.ktm_world.specs.Files.{FilesNow, FirstOpen, OpenFile, OwnChanges, own_changes, first_open_of, is_last_version, tree_of, tree_seen, bytes_seen}
use Rattle.ktm_world.specs.HandleCalls.{has_handle}
use Rattle.ktm_world.specs.Holds.{is_in}
use Rattle.ktm_world.specs.Keys.{Own, are_good_settings, own_settings}
use Rattle.ktm_keyed.specs.Keyed.{is_rising}
use Rattle.ktm_world.specs.Labels.{holds_of}
use Rattle.ktm_world.specs.Lawful.{are_apart, set_both, is_alone, others_undecided, undecided}
use Rattle.ktm_world.specs.Present.{Present}
use Rattle.ktm_world.specs.Transactions.{same_id, is_undecided, transaction_at}
use Rattle.ktm_world.specs.Tree.{Tree, IsWellFormed, bytes_of, is_directory, is_file, is_there, node_at}
use Rattle.txf_laws.specs.Elements.{each_pair}
use Rattle.txf_laws.specs.Contents.{puts_some, is_good_entry}

-- is the transaction there, and undecided
abbrev pub is_undecided_in : List Transaction → Id → Bool
is_undecided_in ts id = holds_of is_undecided (transaction_at ts id)

-- ---- keys

-- are they entries of two transactions
abbrev pub set_by_two : Own → Own → Bool
set_by_two a b = not (same_id a.transaction b.transaction)

-- does no key stand in both entries
abbrev pub set_no_key : Own → Own → Bool
set_no_key a b = not (set_both a.settings b.settings)

-- do two transactions set no key both
abbrev pub set_apart : Present → Transaction → Transaction → Bool
set_apart x t u = not (set_both (own_settings x.keys.own t.id) (own_settings x.keys.own u.id))

-- do no two undecided transactions set the same key
abbrev pub all_set_apart : Present → Bool
all_set_apart x = list_all (λ t. list_all (set_apart x t) (others_undecided x.transactions.items (Some t.id))) (undecided x)

-- the committed keys are good, and what waits is set by undecided transactions, by each in one entry, and no key by two
pub record IsSoundKeys (x : Present) : Type 0 where
  -- each transaction that has set a key is there, and undecided
  pub undecided : list_all (λ o. is_undecided_in x.transactions.items o.transaction) x.keys.own ≡ true
  -- it has one entry
  pub once : each_pair set_by_two x.keys.own ≡ true
  -- its settings are some, rise, and are within the limits
  pub settings : list_all (λ o. are_good_settings o.settings) x.keys.own ≡ true
  -- no two transactions have set the same key
  pub apart : each_pair set_no_key x.keys.own ≡ true
  -- the committed keys rise
  pub rises : is_rising x.keys.store ≡ true
  -- the committed keys are within the limits, with their values
  pub good : list_all is_good_entry x.keys.store ≡ true

-- ---- own changes

-- are they entries of two transactions
abbrev pub changed_by_two : OwnChanges → OwnChanges → Bool
changed_by_two a b = not (same_id a.transaction b.transaction)

-- the numbers of the nodes that changes make
abbrev pub numbers_made : List Change → List ℕ
numbers_made changes = flat_map (λ change. filter (λ n. is_make change) (node_of change ∷ [])) changes

-- do two transactions make no node of the same number
abbrev pub make_apart : OwnChanges → OwnChanges → Bool
make_apart a b = not (list_any (is_in (numbers_made a.changes)) (numbers_made b.changes))

-- is the number one that was drawn for a node
abbrev pub is_drawn_node : FilesNow → ℕ → Bool
is_drawn_node files n = nat_le 2 n && nat_lt n files.table.next_node

-- has the transaction made the file, or first opened it
abbrev pub made_or_opened : FilesNow → Id → ℕ → Bool
made_or_opened files id file = has_made (own_changes files.table.own id) file || is_some (first_open_of files.first_opens id file)

-- bytes are put and cut of files that the transaction made or first opened, unless a restart brought it back
abbrev pub is_change_of_opened : Present → Id → Change → Bool
is_change_of_opened x id change = not (changes_bytes change) || not (id.boot == x.recorded.boots) || made_or_opened x.files id (node_of change)

-- has the transaction dropped the node
abbrev pub has_dropped : List Change → ℕ → Bool
has_dropped changes node = list_any (λ change. is_drop change && node_of change == node) changes

-- does the change drop no node that is there
abbrev pub is_gone : Tree → Change → Bool
is_gone tree change = not (is_drop change) || not (is_there tree (node_of change))

-- ---- first opens

-- are they of two transactions, or of two files
abbrev pub opened_apart : FirstOpen → FirstOpen → Bool
opened_apart a b = not (same_id a.transaction b.transaction && a.file == b.file)

-- a transaction that changed the file, or may write it, has its last version
abbrev pub is_open_last : FilesNow → FirstOpen → Bool
is_open_last files o = not (is_in (holds_now files o.transaction).nodes o.file) || is_last_version files o

-- ---- versions and open files

-- do the files of versions rise
abbrev pub files_rise : Version → Version → Bool
files_rise a b = nat_lt a.file b.file

-- do the numbers of open files rise
abbrev pub opens_rise : OpenFile → OpenFile → Bool
opens_rise a b = nat_lt a.number b.number

-- is the plain open file on a node that was drawn, and on one that is there where it may be written
abbrev pub is_plain_well : FilesNow → OpenFile → Bool
is_plain_well files o = not (is_none o.transaction) || (is_drawn_node files o.node && (not (writes o.access) || is_file files.tree o.node))

-- is the node no directory in what the transaction sees
abbrev pub is_no_directory : FilesNow → ℕ → Id → Bool
is_no_directory files node id = not (is_directory (tree_of files id) node)

-- is the node of an open file no directory in what its transaction sees, if it has one
abbrev pub opens_no_directory : FilesNow → ℕ → Option Id → Bool
opens_no_directory files node None = true
opens_no_directory files node (Some id) = is_no_directory files node id

-- may the open file be used in its transaction, if it has one: that one is undecided and of this boot, made it or first opened it, did not drop
-- it, and sees it where it may write it
abbrev pub may_use : Present → OpenFile → Option Id → Bool
may_use x o None = true
may_use x o (Some id) =
    is_undecided_in x.transactions.items id && id.boot == x.recorded.boots && made_or_opened x.files id o.node && not (has_dropped (own_changes x.files.table.own id) o.node)
    && (not (writes o.access) || is_file (tree_seen x.files (Some id)) o.node)

-- may the open file be used where it is open
abbrev pub is_own_well : Present → OpenFile → Bool
is_own_well x o = may_use x o o.transaction

-- do two transactions hold nothing both of the files
abbrev pub files_apart : Present → Transaction → Transaction → Bool
files_apart x t u = are_apart (holds_now x.files t.id) (holds_now x.files u.id)

-- do no two undecided transactions hold the same of the files
abbrev pub all_files_apart : Present → Bool
all_files_apart x = list_all (λ t. list_all (files_apart x t) (others_undecided x.transactions.items (Some t.id))) (undecided x)

-- what undecided transactions changed of the files applies and is in its last form, what they opened they may write, and nobody holds
-- what another holds
pub record IsSoundFiles (x : Present) : Type 0 where
  -- each transaction that has changed anything is there, and undecided
  pub own_undecided : list_all (λ o. is_undecided_in x.transactions.items o.transaction) x.files.table.own ≡ true
  -- it has one entry
  pub own_once : each_pair changed_by_two x.files.table.own ≡ true
  -- its changes are some
  pub own_some : list_all (λ o. has_changes o.changes) x.files.table.own ≡ true
  -- they are in the form in which they are committed
  pub own_final : All (λ o. changes_to_commit o.changes (bytes_seen x.files (Some o.transaction)) ≡ o.changes) x.files.table.own
  -- they apply to the committed files
  pub own_apply : list_all (λ o. changes_apply x.files.tree o.changes) x.files.table.own ≡ true
  -- they put and cut bytes of files that the transaction made or first opened
  pub own_opened : list_all (λ o. list_all (is_change_of_opened x o.transaction) o.changes) x.files.table.own ≡ true
  -- the contents that they put are not empty
  pub own_puts : list_all (λ o. list_all puts_some o.changes) x.files.table.own ≡ true
  -- the nodes that they make have numbers that were drawn
  pub own_drawn : list_all (λ o. list_all (is_drawn_node x.files) (numbers_made o.changes)) x.files.table.own ≡ true
  -- the nodes that they make have numbers that no committed node has
  pub own_new : list_all (λ o. list_all (λ n. is_none (node_at x.files.tree n)) (numbers_made o.changes)) x.files.table.own ≡ true
  -- no two transactions make a node of the same number
  pub own_differ : each_pair make_apart x.files.table.own ≡ true
  -- a transaction of this boot sees no node that it dropped
  pub own_gone : list_all (λ o. not (o.transaction.boot == x.recorded.boots) || list_all (is_gone (tree_of x.files o.transaction)) o.changes) x.files.table.own ≡ true
  -- a transaction first opens a file once
  pub first_once : each_pair opened_apart x.files.first_opens ≡ true
  -- a transaction that first opened a file is there, undecided, and of this boot
  pub first_undecided : list_all (λ o. is_undecided_in x.transactions.items o.transaction && o.transaction.boot == x.recorded.boots) x.files.first_opens ≡ true
  -- no undecided transaction has made that file
  pub first_not_made : list_all (λ o. list_all (λ p. not (is_in (numbers_made p.changes) o.file)) x.files.table.own) x.files.first_opens ≡ true
  -- the file's number was drawn
  pub first_drawn : list_all (λ o. is_drawn_node x.files o.file) x.files.first_opens ≡ true
  -- a first open is of a version that there was
  pub first_versions : list_all (λ o. not (is_file x.files.tree o.file) || nat_le o.version (version_of x.files.versions o.file)) x.files.first_opens ≡ true
  -- the bytes of the last version are the committed ones
  pub first_bytes : All (λ o. is_last_version x.files o ≡ true → o.bytes ≡ bytes_of x.files.tree o.file) x.files.first_opens
  -- a transaction that changed a file, or may write it, has first opened its last version
  pub first_last : list_all (is_open_last x.files) x.files.first_opens ≡ true
  -- the file of a first open is no directory in what the transaction sees
  pub first_files : list_all (λ o. is_no_directory x.files o.file o.transaction) x.files.first_opens ≡ true
  -- the committed files are well formed
  pub formed : IsWellFormed x.files.tree
  -- the numbers of the committed files were drawn
  pub tree_drawn : list_all (λ (node : Node). is_drawn_node x.files node.number) x.files.tree ≡ true
  -- node numbers begin behind the root's
  pub next_from : 2 ≤ x.files.table.next_node
  -- node numbers have not come to their end
  pub next_to : x.files.table.next_node ≤ 2 ^ 63
  -- versions stand by rising numbers of their files
  pub versions_rise : each_pair files_rise x.files.versions ≡ true
  -- they are of files that are there, and count from 1
  pub versions_there : list_all (λ v. is_file x.files.tree v.file && nat_le 1 v.count) x.files.versions ≡ true
  -- the numbers of open files rise
  pub opens_rise : each_pair opens_rise x.files.table.opens ≡ true
  -- the numbers of open files were drawn
  pub opens_drawn : list_all (λ o. nat_le 1 o.number && nat_le o.number x.files.table.last_open) x.files.table.opens ≡ true
  -- an open file has a handle
  pub opens_named : list_all (λ o. has_handle x.handles (Object.File o.number)) x.files.table.opens ≡ true
  -- a plain open file is on a node that was drawn, and on a committed file where it may be written
  pub opens_plain : list_all (is_plain_well x.files) x.files.table.opens ≡ true
  -- the open file of a transaction is one that it may use
  pub opens_own : list_all (is_own_well x) x.files.table.opens ≡ true
  -- the open file of a transaction is on no directory in what the transaction sees
  pub opens_files : list_all (λ o. opens_no_directory x.files o.node o.transaction) x.files.table.opens ≡ true
  -- no two undecided transactions hold the same of the files
  pub apart : all_files_apart x ≡ true
  -- no file has both a plain handle that may write and an undecided transaction on it
  pub writers : list_all (is_alone x) x.files.table.opens ≡ true
