-- One open file more.
use Rattle.std.specs.Prelude.{◌≡◌, ◌+◌, true, false, List, [], ◌∷◌, ◌++◌, is_none, is_some}
use Rattle.ktm_base.specs.declared.id.Id.{Id}
use Rattle.ktm_world.specs.declared.object.Handle.{Handle}
use Rattle.ktm_world.specs.declared.object.Object.{Object}
use Rattle.ktm_world.specs.declared.object.Transaction.{Transaction}
use Rattle.ktm_world.specs.Conflicts.{holds_now, writes}
use Rattle.ktm_world.specs.Files.{FirstOpen, OpenFile, is_last_version}
use Rattle.ktm_world.specs.HandleCalls.{has_handle}
use Rattle.ktm_world.specs.Lawful.{is_touched_by, undecided}
use Rattle.ktm_world.specs.Present.{Present}
use Rattle.ktm_world.specs.Transactions.{is_of, same_id}
use Rattle.txf_laws.specs.Elements.{IsIn}
use Rattle.txf_laws.specs.SoundFiles.{IsSoundFiles, is_plain_well, may_use, opens_no_directory}

-- with another file open, and these handles
abbrev pub with_file : Present → OpenFile → List Handle → Present
with_file x o handles = record x { files = record x.files { table = record x.files.table { opens = x.files.table.opens ++ o ∷ []; last_open = o.number } }; handles = handles }

-- what an open file has to be that is opened, with a handle of its own
pub record MayOpen (x : Present) (o : OpenFile) (handles : List Handle) : Type 0 where
  -- it has the next number
  pub number : o.number ≡ x.files.table.last_open + 1
  -- it has a handle
  pub named : has_handle handles (Object.File o.number) ≡ true
  -- no other object has lost a handle
  pub still : (object : Object) → has_handle x.handles object ≡ true → has_handle handles object ≡ true
  -- a plain one is on a node that was drawn, and on a committed file where it may be written
  pub plain : is_plain_well x.files o ≡ true
  -- one of a transaction is one that it may use
  pub own : may_use x o o.transaction ≡ true
  -- one of a transaction is on no directory in what the transaction sees
  pub file : opens_no_directory x.files o.node o.transaction ≡ true
  -- where a transaction may write it, no other undecided one holds it
  pub held : writes o.access ≡ true → (id : Id) → is_of id o.transaction ≡ true → (v : Transaction) → IsIn v (undecided x) → same_id id v.id ≡ false → IsIn o.node (holds_now x.files v.id).nodes → ⊥
  -- where a transaction may write it, the transaction has first opened its last version
  pub last : writes o.access ≡ true → (f : FirstOpen) → IsIn f x.files.first_opens → is_of f.transaction o.transaction ≡ true → o.node ≡ f.file → is_last_version x.files f ≡ true
  -- where a plain one may be written, no undecided transaction is on the file
  pub alone : is_none o.transaction ≡ true → writes o.access ≡ true → (v : Transaction) → IsIn v (undecided x) → is_touched_by x o.node v ≡ false
  -- no plain handle may write the file of one in a transaction
  pub writers : is_some o.transaction ≡ true → (p : OpenFile) → IsIn p x.files.table.opens → is_none p.transaction ≡ true → writes p.access ≡ true → o.node ≡ p.node → ⊥

-- such an open file keeps sound what undecided transactions own and hold of the files
abbrev pub OpeningLaw : Type 0
OpeningLaw = (x : Present) (o : OpenFile) (handles : List Handle) → IsSoundFiles x → MayOpen x o handles → IsSoundFiles (with_file x o handles)
