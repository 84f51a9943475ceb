-- What one change of a transaction makes of the parts of the files in memory. No public clause cites this module.
use Rattle.std.specs.Prelude.{◌≡◌, ℕ, ◌<◌, ◌^◌, true, All, List, [], ◌∷◌, ◌++◌, filter, length, map, Option, Some, None, if◌then◌else◌, slice_index_or, slice_set}
use Rattle.std.specs.List.{list_any}
use Rattle.ktm_base.specs.declared.id.Id.{Id}
use Rattle.ktm_world.specs.declared.change.Change.{Change}
use Rattle.ktm_world.specs.Changes.{applies, has_made, node_of, nodes_made}
use Rattle.ktm_world.specs.Holds.{dropped_directory, moved_directory, places_of}
use Rattle.ktm_world.specs.Transactions.{same_id}
use Rattle.ktm_world.specs.Tree.{Tree}
use Rattle.txf_overlay.specs.Laws.{written_with}
use Rattle.txf_overlay.specs.OverlayState.{OverlayState, Written, is_of_names, seen}
use Rattle.txf_overlay.specs.Views.{StandsOver}
use Rattle.txf_overlay.specs.Written.{bytes_at, bytes_or, total_units}
use Rattle.txf_tree.specs.UnitChanges.{CanBeMadeOver}
use Rattle.txf_reserve.specs.ReserveState.{ReserveState, HoldsToo}
use Rattle.txf_volume.specs.declared.counts.Counted.{Counted}
use Rattle.txf_volume.specs.declared.counts.Counts.{Counts}
use Rattle.txf_volume.specs.Held.{OwnHeld, overlay_in}
use Rattle.txf_volume.specs.Ties.{IsOver}

-- ---- the list of what transactions changed

-- whose entries they are
abbrev pub owners : List OwnHeld → List Id
owners overlays = map (λ o. o.transaction) overlays

-- a transaction has changed this from now on
abbrev pub with_overlay : List OwnHeld → Id → OverlayState → List OwnHeld
with_overlay [] id o = record { transaction = id; overlay = o } ∷ []
with_overlay (p ∷ ps) id o = if same_id p.transaction id then record p { overlay = o } ∷ ps else p ∷ with_overlay ps id o

-- what a transaction changed is found at this place, and is changed there
pub record IsPlace (overlays : List OwnHeld) (id : Id) (i : ℕ) : Type 0 where
  pub within : i < length overlays
  pub owner : (d : OwnHeld) → (slice_index_or overlays i d).transaction ≡ id
  pub found : (d : OwnHeld) → overlay_in overlays id ≡ Some (slice_index_or overlays i d).overlay
  pub put : (o : OverlayState) (d : OwnHeld) → with_overlay overlays id o ≡ slice_set overlays i (record (slice_index_or overlays i d) { overlay = o })

-- a transaction that changed nothing
abbrev pub unchanged : OverlayState
unchanged = record { names = []; held = []; written = []; spare = 0 }

-- what a transaction changed, or that it changed nothing
abbrev pub or_unchanged : Option OverlayState → OverlayState
or_unchanged None = unchanged
or_unchanged (Some o) = o

-- without how much memory there is
abbrev pub bare : OverlayState → OverlayState
bare o = record o { spare = 0 }

-- a transaction's entry without how much memory there is
abbrev pub bare_own : OwnHeld → OwnHeld
bare_own o = record o { overlay = bare o.overlay }

-- how much a transaction changed
abbrev pub counts_of : OverlayState → Counts
counts_of o = record { units = total_units o.written; nodes = nodes_made o.names; names = length o.names }

-- it is counted before and after
pub record IsCounted (overlays overlays' : List OwnHeld) (id : Id) (counted : Counted) : Type 0 where
  pub before : counted.before ≡ counts_of (or_unchanged (overlay_in overlays id))
  pub after : counted.after ≡ counts_of (or_unchanged (overlay_in overlays' id))

-- ---- one change

-- the bytes from which changes of a file start: none where the transaction made it, and else those that are fixed
abbrev pub starts : OverlayState → List ℕ → ℕ → List ℕ
starts o fixed file = if has_made o.names file then [] else fixed

-- the bytes of a file that the transaction sees
abbrev pub bytes_over : OverlayState → List ℕ → ℕ → List ℕ
bytes_over o fixed file = bytes_or (starts o fixed file) (bytes_at o.written file)

-- the files that are written once a change is made
abbrev pub written_next : OverlayState → List ℕ → Change → List Written
written_next o fixed c = written_with (starts o fixed) o.written c

-- the transaction holds what a change of this tree holds, too
abbrev pub HoldsChange : Tree → Change → Id → ReserveState → ReserveState → Type 0
HoldsChange tree c id r r' = HoldsToo (node_of c ∷ []) (places_of tree c) (dropped_directory tree c) (list_any (λ node. true) (moved_directory tree c)) id r r'

-- a change of a transaction applies to what that sees, can be made unit by unit, and leaves files whose units can be counted; all that was changed stands over the tree
pub record CanChange (tree : Tree) (fixed : List ℕ) (id : Id) (c : Change) (os : List OwnHeld) : Type 0 where
  pub over : All (λ o. IsOver tree o.overlay) os
  pub applies : applies (seen tree (or_unchanged (overlay_in os id))) c ≡ true
  pub units : CanBeMadeOver (bytes_over (or_unchanged (overlay_in os id)) fixed) c
  pub few : total_units (written_next (or_unchanged (overlay_in os id)) fixed c) < 2 ^ 64

-- a transaction has made a change, and holds it
pub record IsChanged (tree : Tree) (fixed : List ℕ) (id : Id) (c : Change) (o o' : OverlayState) (r r' : ReserveState) : Type 0 where
  pub names : o'.names ≡ o.names ++ filter is_of_names (c ∷ [])
  pub written : o'.written ≡ written_next o fixed c
  pub stands : StandsOver tree o'
  pub holds : HoldsChange (seen tree o) c id r r'

-- a change is made in the list of what transactions changed
pub record IsChangedIn (tree : Tree) (fixed : List ℕ) (id : Id) (c : Change) (os os' : List OwnHeld) (r r' : ReserveState) : Type 0 where
  pub overlay : OverlayState
  pub list : os' ≡ with_overlay os id overlay
  pub is : IsChanged tree fixed id c (or_unchanged (overlay_in os id)) overlay r r'
