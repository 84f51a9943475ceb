-- A change that a plain call commits.
use Rattle.std.specs.Prelude.{◌≡◌, ◌≤◌, ◌^◌, true, false, None, is_none, [], ◌∷◌}
use Rattle.ktm_world.specs.declared.change.Change.{Change}
use Rattle.ktm_world.specs.declared.object.Transaction.{Transaction}
use Rattle.ktm_world.specs.Changes.{applies, changes_bytes, is_drop, is_make, next_after, node_of}
use Rattle.ktm_world.specs.Conflicts.{holds_now, writes}
use Rattle.ktm_world.specs.Decide.{of_files}
use Rattle.ktm_world.specs.FileOutcome.{changing}
use Rattle.ktm_world.specs.Files.{OpenFile, own_changes}
use Rattle.ktm_world.specs.Holds.{is_in}
use Rattle.ktm_world.specs.Lawful.{undecided}
use Rattle.ktm_world.specs.Outcome.{apply}
use Rattle.ktm_world.specs.Present.{Present}
use Rattle.txf_laws.specs.Elements.{IsIn}
use Rattle.txf_laws.specs.Footprint.{footprint, AreFootprintsApart}
use Rattle.txf_laws.specs.SoundFiles.{IsSoundFiles}

-- what a change has to be that a plain call commits
pub record Lands (x : Present) (change : Change) : Type 0 where
  -- it applies to the committed files
  pub applies : applies x.files.tree change ≡ true
  -- it holds nothing that an undecided transaction has changed
  pub apart : (v : Transaction) → IsIn v (undecided x) → AreFootprintsApart (footprint x.files.tree (change ∷ [])) (footprint x.files.tree (own_changes x.files.table.own v.id))
  -- it changes no file that an undecided transaction may write
  pub clear : (v : Transaction) → IsIn v (undecided x) → is_make change ≡ false → is_in (holds_now x.files v.id).nodes (node_of change) ≡ false
  -- a node that it makes has the next number
  pub fresh : is_make change ≡ true → node_of change ≡ x.files.table.next_node
  -- no plain handle may write a file that it drops
  pub plain : is_drop change ≡ true → (o : OpenFile) → IsIn o x.files.table.opens → is_none o.transaction ≡ true → writes o.access ≡ true → node_of change ≡ o.node → ⊥
  -- the numbers of nodes have not come to their end
  pub limit : next_after x.files.table.next_node change ≤ 2 ^ 63

-- such a change keeps sound what undecided transactions own and hold of the files, and what a plain handle writes is such a change
abbrev pub PlainChangeLaw : Type 0
PlainChangeLaw = ((x : Present) (change : Change) → IsSoundFiles x → Lands x change → IsSoundFiles (apply x (of_files x None (changing change))))
    × ((x : Present) (change : Change) (o : OpenFile) → IsSoundFiles x → IsIn o x.files.table.opens → is_none o.transaction ≡ true → writes o.access ≡ true → applies x.files.tree change ≡ true → changes_bytes change ≡ true
    → node_of change ≡ o.node → Lands x change)
