-- What a commit or a plain call leaves of what another transaction changed and holds, whatever bytes that one sees.
use Rattle.std.specs.Prelude.{◌≡◌, true, false, All, List, [], ◌∷◌, ◌++◌}
use Rattle.ktm_base.specs.declared.id.Id.{Id}
use Rattle.ktm_world.specs.declared.change.Change.{Change}
use Rattle.ktm_world.specs.Changes.{changes_apply}
use Rattle.ktm_world.specs.Conflicts.{holds_now}
use Rattle.ktm_world.specs.Files.{FilesNow, OwnChanges, own_changes}
use Rattle.ktm_world.specs.Transactions.{same_id}
use Rattle.txf_laws.specs.Reservations.{files_committed}

-- a transaction has the changes that it had, they still apply, and it holds what it held
pub record IsInPlace (files after : FilesNow) (id : Id) : Type 0 where
  pub own : own_changes after.table.own id ≡ own_changes files.table.own id
  pub applies : changes_apply after.tree (own_changes after.table.own id) ≡ true
  pub holds : holds_now after id ≡ holds_now files id

-- this is left of each transaction that changed anything
abbrev pub LeavesOwnInPlace : FilesNow → FilesNow → Type 0
LeavesOwnInPlace files after = All (λ (o : OwnChanges). IsInPlace files after o.transaction) files.table.own

-- the commit leaves this of each other transaction that changed anything
abbrev pub LeavesOthersInPlace : FilesNow → Id → Type 0
LeavesOthersInPlace files id = All (λ (o : OwnChanges). same_id o.transaction id ≡ false → IsInPlace files (files_committed files id) o.transaction) files.table.own

-- the files once these changes are the transaction's own, behind those of the others
abbrev pub with_own_behind : FilesNow → Id → List Change → FilesNow
with_own_behind files id changes = record files { table = record files.table { own = files.table.own ++ record { transaction = id; changes = changes } ∷ [] } }
