-- One change more of a transaction.
use Rattle.std.specs.Prelude.{◌≡◌, ℕ, ◌≤◌, ◌^◌, true, false, Some, is_none}
use Rattle.ktm_base.specs.declared.id.Id.{Id}
use Rattle.ktm_world.specs.declared.change.Change.{Change}
use Rattle.ktm_world.specs.declared.object.Transaction.{Transaction}
use Rattle.ktm_world.specs.Changes.{applies, changes_bytes, is_drop, is_make, next_after, node_of}
use Rattle.ktm_world.specs.Conflicts.{holds_now, writes}
use Rattle.ktm_world.specs.Files.{FilesNow, FirstOpen, OpenFile, with_own_changes, changes_with, is_last_version, tree_seen}
use Rattle.ktm_world.specs.Holds.{Holds, Place, places_of, dropped_directory, moved_directory, same_place}
use Rattle.ktm_world.specs.Lawful.{undecided}
use Rattle.ktm_world.specs.Present.{Present}
use Rattle.ktm_world.specs.Transactions.{is_of, same_id}
use Rattle.ktm_world.specs.Tree.{Tree}
use Rattle.txf_laws.specs.Elements.{IsIn}
use Rattle.txf_laws.specs.Contents.{puts_some}
use Rattle.txf_laws.specs.SoundFiles.{IsSoundFiles, is_undecided_in, made_or_opened}

-- a change of what a transaction sees holds nothing that another one holds
pub record HoldsNothing (h : Holds) (seen : Tree) (c : Change) : Type 0 where
  pub nodes : IsIn (node_of c) h.nodes → ⊥
  pub places : (p q : Place) → IsIn p (places_of seen c) → IsIn q h.places → same_place p q ≡ false
  pub enters : (p : Place) → IsIn p (places_of seen c) → IsIn p.directory h.dropped → ⊥
  pub drops : (n : ℕ) → IsIn n (dropped_directory seen c) → IsIn n h.uses → ⊥
  pub moves : (n : ℕ) → IsIn n (moved_directory seen c) → h.moves ≡ false

-- what a change has to be that a transaction makes
pub record Owns (x : Present) (id : Id) (c : Change) : Type 0 where
  -- the transaction is there, and undecided
  pub who : is_undecided_in x.transactions.items id ≡ true
  -- the change applies to what it sees
  pub applies : applies (tree_seen x.files (Some id)) c ≡ true
  -- it puts or cuts bytes of a file that the transaction made or first opened
  pub opened : changes_bytes c ≡ true → made_or_opened x.files id (node_of c) ≡ true
  -- contents that it puts are not empty
  pub puts : puts_some c ≡ true
  -- a node that it makes has the next number
  pub fresh : is_make c ≡ true → node_of c ≡ x.files.table.next_node
  -- no other undecided transaction holds what it holds
  pub alone : (v : Transaction) → IsIn v (undecided x) → same_id id v.id ≡ false → HoldsNothing (holds_now x.files v.id) (tree_seen x.files (Some id)) c
  -- no plain handle may write its file
  pub plain : (o : OpenFile) → IsIn o x.files.table.opens → is_none o.transaction ≡ true → writes o.access ≡ true → node_of c ≡ o.node → ⊥
  -- its file has its last version in the transaction
  pub last : (o : FirstOpen) → IsIn o x.files.first_opens → o.transaction ≡ id → node_of c ≡ o.file → is_last_version x.files o ≡ true
  -- a file that it drops is not open in the transaction
  pub kept : is_drop c ≡ true → (o : OpenFile) → IsIn o x.files.table.opens → is_of id o.transaction ≡ true → node_of c ≡ o.node → ⊥
  -- the numbers of nodes have not come to their end
  pub limit : next_after x.files.table.next_node c ≤ 2 ^ 63

-- the files with one change more of a transaction
abbrev pub owned : FilesNow → Id → Change → FilesNow
owned files id c = record files { table = record files.table { own = with_own_changes files.table.own id (changes_with files id c); next_node = next_after files.table.next_node c } }

-- such a change keeps sound what undecided transactions own and hold of the files
abbrev pub OwnChangeLaw : Type 0
OwnChangeLaw = (x : Present) (id : Id) (c : Change) → IsSoundFiles x → Owns x id c → IsSoundFiles (record x { files = owned x.files id c })
