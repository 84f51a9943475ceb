-- What a plain call, a call of a transaction, its commit and its end may make of the files, and what must be so for it.
use Rattle.std.specs.Prelude.{◌≡◌, ◌==◌, true, false, None, ◌<◌, ◌^◌, ◌+◌, ◌-◌, All, IfSome, ℕ, not, filter, Some, List}
use Rattle.std.specs.List.{list_any, list_all}
use Rattle.ktm_world.specs.Files.{FilesNow, OpenFile, OwnChanges, FileTable, first_open_of, tree_seen, without_transaction, own_changes}
use Rattle.ktm_world.specs.Tree.{node_at, numbers_rise, is_file}
use Rattle.ktm_world.specs.FileUses.{file_changes_waiting, nodes_used, units_used}
use Rattle.txf_laws.specs.Reservations.{IsLeft, files_committed}
use Rattle.ktm_world.specs.declared.change.Change.{Change}
use Rattle.ktm_world.specs.Changes.{applies, is_make, node_of, has_made}
use Rattle.ktm_world.specs.Committed.{version_of, Version}
use Rattle.ktm_world.specs.FileOutcome.{FileOutcome, files_after}
use Rattle.ktm_base.specs.declared.id.Id.{Id}
use Rattle.ktm_world.specs.Transactions.{same_id}

-- the numbers of committed nodes rise, and that of the next node is a new one: no committed node has it, and nobody first opened it
pub record IsOrderly (files : FilesNow) : Type 0 where
  pub rise : numbers_rise files.tree ≡ true
  pub free : node_at files.tree files.table.next_node ≡ None
  pub fresh : list_any (λ o. o.file == files.table.next_node) files.first_opens ≡ false

-- what is in use of the files can be counted
pub record CanBeCounted (files : FilesNow) : Type 0 where
  pub units : units_used files < 2 ^ 63
  pub nodes : nodes_used files < 2 ^ 63
  pub names : file_changes_waiting files < 2 ^ 63

-- its change applies to what is committed; the number of a node that it makes is in no first open; and versions do not come to their end
pub record IsPlainChange (files : FilesNow) (change : Change) : Type 0 where
  pub does_apply : applies files.tree change ≡ true
  pub fresh : is_make change ≡ true → list_any (λ o. o.file == node_of change) files.first_opens ≡ false
  pub few : version_of files.versions (node_of change) < 2 ^ 64 - 2

-- a file that it opens is a plain one, and has the next number
pub record IsPlainOpen (files : FilesNow) (o : OpenFile) : Type 0 where
  pub plain : o.transaction ≡ None
  pub next : o.number ≡ files.table.last_open + 1
  pub few : o.number < 2 ^ 32

-- a change and an open file of a plain call
pub record IsPlain (files : FilesNow) (o : FileOutcome) : Type 0 where
  pub change : IfSome o.change (IsPlainChange files)
  pub opened : IfSome o.opened (IsPlainOpen files)

-- each transaction that changed anything has what it had
abbrev pub LeavesOwn : FilesNow → FilesNow → Type 0
LeavesOwn files after = All (λ (o : OwnChanges). IsLeft files after o.transaction) files.table.own

-- the files without what the transaction changed, first opened and has open
abbrev pub forgotten : FilesNow → Id → FilesNow
forgotten files id = record files { first_opens = filter (λ o. not (same_id o.transaction id)) files.first_opens; table = without_transaction files.table id }

-- a committed file that the transaction has not opened yet
pub record IsNotOpened (files : FilesNow) (id : Id) (file : ℕ) : Type 0 where
  pub new : first_open_of files.first_opens id file ≡ None
  pub committed : is_file files.tree file ≡ true

-- an open file with the next number
pub record IsNextOpen (table : FileTable) (o : OpenFile) : Type 0 where
  pub number : o.number ≡ table.last_open + 1
  pub few : o.number < 2 ^ 32

-- a call of the transaction comes to this: its change applies to what it sees, what it opens was not opened, and what is in use then can be counted
pub record IsPlanOf (files : FilesNow) (id : Id) (o : FileOutcome) : Type 0 where
  pub change : (c : Change) → o.change ≡ Some c → applies (tree_seen files (Some id)) c ≡ true
  pub first : (file : ℕ) → o.first ≡ Some file → IsNotOpened files id file
  pub opened : (x : OpenFile) → o.opened ≡ Some x → IsNextOpen files.table x
  pub counted : CanBeCounted (files_after files (Some id) o)

-- the commit leaves of each other transaction with changes what it changed and holds
abbrev pub LeavesOthers : FilesNow → Id → Type 0
LeavesOthers files id = All (λ o. same_id o.transaction id ≡ false → IsLeft files (files_committed files id) o.transaction) files.table.own

-- nobody first opened a file that the transaction made
abbrev pub AreUnopened : FilesNow → Id → Type 0
AreUnopened files id = list_all (λ o. not (has_made (own_changes files.table.own id) o.file)) files.first_opens ≡ true

-- the versions of files can be counted on
abbrev pub AreVersionsFew : List Version → Type 0
AreVersionsFew versions = (file : ℕ) → version_of versions file < 2 ^ 64 - 2
