-- What a transaction changed that a restart brings back.
use Rattle.std.specs.Prelude.{◌≡◌, ◌+◌, ◌<◌, ◌^◌, true, List, [], ◌∷◌, ◌++◌}
use Rattle.std.specs.List.{list_all}
use Rattle.ktm_base.specs.declared.id.Id.{Id}
use Rattle.ktm_world.specs.declared.change.Change.{Change}
use Rattle.ktm_world.specs.Changes.{changes_apply}
use Rattle.ktm_world.specs.Durable.{are_recorded_changes}
use Rattle.ktm_world.specs.Files.{FilesNow, OwnChanges}
use Rattle.ktm_world.specs.FileUses.{file_changes_waiting, nodes_used}
use Rattle.txf_durable.specs.Putting.{final_form}
use Rattle.txf_laws.specs.Contents.{is_made_below, puts_some}
use Rattle.txf_laws.specs.FileEffects.{CanBeCounted, forgotten}

-- the files once these changes are the transaction's own, behind those of the others
abbrev pub files_restored : FilesNow → Id → List Change → FilesNow
files_restored files id changes = record files { table = record files.table { own = files.table.own ++ record { transaction = id; changes = changes } ∷ [] } }

-- the changes can be those of a transaction that has changed and opened nothing
pub record CanBeRestored (files : FilesNow) (id : Id) (changes : List Change) : Type 0 where
  -- it has changed, first opened and opened nothing
  pub fresh : forgotten files id ≡ files
  -- the changes have the form in which they are recorded, and put no empty contents
  pub recorded : are_recorded_changes changes ≡ true
  pub puts : list_all puts_some changes ≡ true
  -- they apply to what is committed
  pub apply : changes_apply files.tree changes ≡ true
  -- the nodes that they make are below the next one
  pub made : list_all (is_made_below files.table.next_node) changes ≡ true
  -- what is in use then can be counted, with the nodes too that they make and drop again
  pub counted : CanBeCounted (files_restored files id changes)
  pub all_nodes : nodes_used (files_restored files id changes) + file_changes_waiting (files_restored files id changes) < 2 ^ 63

-- ---- no public clause cites what follows

-- what transactions changed, once the first of the changes are the transaction's own
abbrev pub begun_own : List OwnChanges → Id → List Change → List OwnChanges
begun_own own id [] = own
begun_own own id (change ∷ changes) = own ++ record { transaction = id; changes = final_form (change ∷ changes) } ∷ []

-- the files then
abbrev pub begun : FilesNow → Id → List Change → FilesNow
begun files id changes = record files { table = record files.table { own = begun_own files.table.own id changes } }
