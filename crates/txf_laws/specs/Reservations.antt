-- What a commit or a plain call leaves of what another transaction holds.
use Rattle.std.specs.Prelude.{◌≡◌, ℕ, ◌||◌, not, true, false, [], ◌∷◌, filter, map, Some, None, is_none}
use Rattle.ktm_base.specs.declared.id.Id.{Id}
use Rattle.ktm_world.specs.declared.change.Change.{Change}
use Rattle.ktm_world.specs.declared.object.Transaction.{Transaction}
use Rattle.ktm_world.specs.Changes.{applies, changes_apply, changes_bytes, is_make, node_of}
use Rattle.ktm_world.specs.Committed.{committed_with}
use Rattle.ktm_world.specs.Conflicts.{conflicts, holds_now, writes}
use Rattle.ktm_world.specs.Durable.{acts_of}
use Rattle.ktm_world.specs.FileOutcome.{changing, files_after}
use Rattle.ktm_world.specs.Files.{FilesNow, OpenFile, bytes_seen, committed_files, files_with, own_changes, without_transaction}
use Rattle.ktm_world.specs.Holds.{Act, is_in}
use Rattle.ktm_world.specs.Lawful.{undecided}
use Rattle.ktm_world.specs.Present.{Present}
use Rattle.ktm_world.specs.Transactions.{same_id}
use Rattle.txf_laws.specs.Elements.{IsIn}
use Rattle.txf_laws.specs.SoundFiles.{made_or_opened, IsSoundFiles}

-- the files once a transaction has committed what it changed
abbrev pub files_committed : FilesNow → Id → FilesNow
files_committed files id =
    files_with (committed_with (committed_files files []) (record { transaction = Some id; changes = own_changes files.table.own id; settings = [] } ∷ []))
    (filter (λ f. not (same_id f.transaction id)) files.first_opens) (without_transaction files.table id)

-- a transaction's changes still apply, it holds what it held, and it sees the bytes that it saw of the files that it made, changed or first opened
pub record IsLeft (files after : FilesNow) (id : Id) : Type 0 where
  pub own : own_changes after.table.own id ≡ own_changes files.table.own id
  pub applies : changes_apply after.tree (own_changes after.table.own id) ≡ true
  pub holds : holds_now after id ≡ holds_now files id
  pub bytes : (file : ℕ) → (made_or_opened files id file || is_in (map node_of (own_changes files.table.own id)) file) ≡ true → bytes_seen after (Some id) file ≡ bytes_seen files (Some id) file

-- all this is left of an undecided transaction where another one commits, where a plain call that meets nothing changes a name or a file,
-- and where a plain handle writes a file
abbrev pub ReservationsLaw : Type 0
ReservationsLaw = ((x : Present) (t u : Transaction) → IsSoundFiles x → IsIn t (undecided x) → IsIn u (undecided x) → same_id t.id u.id ≡ false → IsLeft x.files (files_committed x.files t.id) u.id)
    × ((x : Present) (change : Change) (act : Act) (u : Transaction) → IsSoundFiles x → IsIn u (undecided x) → applies x.files.tree change ≡ true
    → (is_make change ≡ true → node_of change ≡ x.files.table.next_node) → acts_of x.files.tree change ≡ act ∷ [] → conflicts x.files None act ≡ false
    → IsLeft x.files (files_after x.files None (changing change)) u.id)
    × ((x : Present) (change : Change) (o : OpenFile) (u : Transaction) → IsSoundFiles x → IsIn u (undecided x) → applies x.files.tree change ≡ true
    → changes_bytes change ≡ true → IsIn o x.files.table.opens → is_none o.transaction ≡ true → writes o.access ≡ true → node_of change ≡ o.node
    → IsLeft x.files (files_after x.files None (changing change)) u.id)
