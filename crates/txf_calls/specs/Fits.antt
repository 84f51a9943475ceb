-- When it can be told what is in use once a call has settled, and what callers have to show for it.
use Rattle.std.specs.Prelude.{◌≡◌, ⊤, ℕ, ◌==◌, Bool, true, false, List, Option, Some, None}
use Rattle.std.specs.List.{list_any}
use Rattle.ktm_base.specs.declared.id.Id.{Id}
use Rattle.ktm_world.specs.declared.change.Change.{Change}
use Rattle.ktm_world.specs.Changes.{changes_bytes, is_drop, is_make, node_of}
use Rattle.ktm_world.specs.Conflicts.{writes}
use Rattle.ktm_world.specs.FileOutcome.{FileOutcome}
use Rattle.ktm_world.specs.Files.{FilesNow, FirstOpen, OpenFile}
use Rattle.ktm_world.specs.Tree.{Tree, is_file, node_at}
use Rattle.txf_opens.specs.Acts.{open_of}
use Rattle.txf_calls.specs.declared.call.FileCall.{FileCall}
use Rattle.txf_calls.specs.declared.call.FileCall.TheVariants.{Write, WriteUnits, SetEnd}

-- ---- what a call comes to

-- a change makes a node that is not there, and that nobody opened, or puts or cuts bytes of a file that is there
pub record Suits (tree : Tree) (opens : List FirstOpen) (change : Change) : Type 0 where
  pub fits : is_make change ≡ true → node_at tree (node_of change) ≡ None
  pub fresh : is_make change ≡ true → list_any (λ o. o.file == node_of change) opens ≡ false
  pub file : changes_bytes change ≡ true → is_file tree (node_of change) ≡ true

-- the change suits what is committed, or is one of a transaction that drops nothing
abbrev pub FitsChange : FilesNow → Option Id → Option Change → Type 0
FitsChange files who None = ⊤
FitsChange files None (Some change) = Suits files.tree files.first_opens change
FitsChange files (Some id) (Some change) = is_drop change ≡ false

-- is the file that is first opened a committed one, if there is one
abbrev pub opens_file : Tree → Option ℕ → Bool
opens_file tree None = true
opens_file tree (Some file) = is_file tree file

-- what the call comes to can be told by what is counted
pub record IsFit (files : FilesNow) (who : Option Id) (o : FileOutcome) : Type 0 where
  pub change : FitsChange files who o.change
  -- a file that is first opened is a committed one
  pub first : opens_file files.tree o.first ≡ true

-- ---- what callers show

-- a plain open file that may be written is on a committed file
abbrev pub IsOnFile : FilesNow → OpenFile → Type 0
IsOnFile files o = o.transaction ≡ None → writes o.access ≡ true → is_file files.tree o.node ≡ true

-- the open file that the call writes or cuts, if it does, may be used so
abbrev pub MayBeUsed : FilesNow → FileCall → Type 0
MayBeUsed files (Write file offset bytes) = IsOnFile files (open_of file)
MayBeUsed files (WriteUnits file start contents) = IsOnFile files (open_of file)
MayBeUsed files (SetEnd file size) = IsOnFile files (open_of file)
MayBeUsed files _ = ⊤
