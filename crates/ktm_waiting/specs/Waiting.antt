-- What waits, and how much it takes beside what is committed.
use Rattle.std.specs.Prelude.{◌≡◌, ℕ, ◌+◌, ◌-◌, ◌&&◌, not, Bool, true, List, [], length, sum_by, count_by, nat_le, is_some, is_none, Option, if◌then◌else◌}
use Rattle.std.specs.List.{list_all, list_any}
use Rattle.ktm_base.specs.declared.id.Id.{Id}
use Rattle.ktm_base.specs.declared.limits.TheConstants.{MOST_LIVE}
use Rattle.ktm_world.specs.declared.change.Change.{Change}
use Rattle.txf_laws.specs.GoodState.{are_kept_changes, are_kept_settings, has_one_part_each}
use Rattle.ktm_world.specs.Changes.{changed_all, changes_apply, changes_bytes, nodes_made}
use Rattle.ktm_world.specs.Committed.{written_files}
use Rattle.ktm_world.specs.Durable.{Recorded, changes_of, enlistments_of, has_changes_part, is_decided, is_new_in, recorded_at, settings_of}
use Rattle.ktm_world.specs.Holds.{holds_by}
use Rattle.ktm_world.specs.Keys.{OwnSettings, Store}
use Rattle.ktm_world.specs.Lawful.{set_both}
use Rattle.ktm_world.specs.Transactions.{is_of}
use Rattle.ktm_world.specs.Tree.{Tree, bytes_of, bytes_or_none, units_of}
use Rattle.ktm_waiting.specs.declared.amounts.Amounts.{Amounts}
use Rattle.ktm_waiting.specs.Table.{IsByRisingId, changes_at}
use Rattle.txf_laws.specs.Elements.{IsIn}
use Rattle.txf_laws.specs.Footprint.{footprint, AreFootprintsApart}
use Rattle.txf_reserve.specs.ReserveState.{IsSameHold, ReserveState, holds_in}

-- ---- what waits

-- does the transaction wait, and is it another than this one
abbrev pub waits_beside : Option Id → Recorded → Bool
waits_beside who t = not (is_decided t.stage) && not (is_of t.id who)

-- does another transaction wait with changes
abbrev pub others_change : Option Id → List Recorded → Bool
others_change who ts = list_any (λ t. waits_beside who t && has_changes_part t) ts

-- does another transaction wait that sets one of the keys of these settings
abbrev pub others_set : Option Id → OwnSettings → List Recorded → Bool
others_set who settings ts = list_any (λ t. waits_beside who t && set_both settings (settings_of t)) ts

-- a transaction has one part of each kind at most, and no changes and no settings once it is decided; before that they have the form in
-- which they are recorded, the changes apply to the files, and they make no node that is there
pub record IsWaitingKept (tree : Tree) (t : Recorded) : Type 0 where
  pub parts : has_one_part_each t ≡ true
  pub changes : are_kept_changes t ≡ true
  pub settings : are_kept_settings t ≡ true
  pub apply : changes_apply tree (changes_of t) ≡ true
  pub new : list_all (is_new_in tree) (changes_of t) ≡ true

-- what two transactions change is apart
abbrev pub AreBeside : Tree → Recorded → Recorded → Type 0
AreBeside tree t u = AreFootprintsApart (footprint tree (changes_of t)) (footprint tree (changes_of u))

-- each transaction is kept, they are by rising Id, and what each two of them change is apart
pub record AreKept (tree : Tree) (ts : List Recorded) : Type 0 where
  pub rise : IsByRisingId ts
  pub each : (t : Recorded) → IsIn t ts → IsWaitingKept tree t
  pub beside : (t u : Recorded) → IsIn t ts → IsIn u ts → (t.id ≡ u.id → ⊥) → AreBeside tree t u

-- changes are apart from those of each transaction
abbrev pub AreSpared : Tree → List Recorded → List Change → Type 0
AreSpared tree ts changes = (u : Recorded) → IsIn u ts → AreFootprintsApart (footprint tree changes) (footprint tree (changes_of u))

-- each transaction holds of the files what its changes hold
abbrev pub Reserves : ReserveState → Tree → List Recorded → Type 0
Reserves r tree ts = (id : Id) → IsSameHold (holds_in r id) (holds_by tree (changes_at (recorded_at ts id)) [])

-- each transaction is kept, and holds what its changes hold
pub record AreHeld (r : ReserveState) (tree : Tree) (ts : List Recorded) : Type 0 where
  pub kept : AreKept tree ts
  pub reserves : Reserves r tree ts

-- ---- how much

-- both together
abbrev pub plus : Amounts → Amounts → Amounts
plus a b = record { units = a.units + b.units; nodes = a.nodes + b.nodes; keys = a.keys + b.keys; changes = a.changes + b.changes; enlistments = a.enlistments + b.enlistments }

-- the first without the second
abbrev pub minus : Amounts → Amounts → Amounts
minus a b = record { units = a.units - b.units; nodes = a.nodes - b.nodes; keys = a.keys - b.keys; changes = a.changes - b.changes; enlistments = a.enlistments - b.enlistments }

-- is the first within the second
abbrev pub fits_in : Amounts → Amounts → Bool
fits_in a b = nat_le a.units b.units && nat_le a.nodes b.nodes && nat_le a.keys b.keys && nat_le a.changes b.changes && nat_le a.enlistments b.enlistments

-- what an image of so many units has room for
abbrev pub limits : ℕ → Amounts
limits units = record { units = units; nodes = units; keys = units; changes = units; enlistments = MOST_LIVE }

-- what the committed files and keys take; the root is a node too
abbrev pub committed : Tree → Store → Amounts
committed tree keys = record { units = sum_by (λ node. units_of (bytes_or_none node.content)) tree; nodes = 1 + length tree; keys = length keys; changes = 0; enlistments = 0 }

-- the units that the files that changes write have once they are made
abbrev pub units_waiting_in : Tree → List Change → ℕ
units_waiting_in tree cs = sum_by (λ file. units_of (bytes_of (changed_all tree cs) file)) (written_files cs)

-- this number while the transaction is not decided, and else 0
abbrev pub while_waiting : Recorded → ℕ → ℕ
while_waiting t n = if is_decided t.stage then 0 else n

-- what a transaction takes
abbrev pub amounts_of : Tree → Recorded → Amounts
amounts_of tree t = record {
  units = while_waiting t (units_waiting_in tree (changes_of t));
  nodes = while_waiting t (nodes_made (changes_of t));
  keys = while_waiting t (count_by (λ setting. is_some setting.value) (settings_of t));
  changes = while_waiting t (count_by (λ change. not (changes_bytes change)) (changes_of t) + count_by (λ setting. is_none setting.value) (settings_of t));
  enlistments = length (enlistments_of t);
}

-- what transactions take together
abbrev pub total : Tree → List Recorded → Amounts
total tree ts = record {
  units = sum_by (λ t. while_waiting t (units_waiting_in tree (changes_of t))) ts;
  nodes = sum_by (λ t. while_waiting t (nodes_made (changes_of t))) ts;
  keys = sum_by (λ t. while_waiting t (count_by (λ setting. is_some setting.value) (settings_of t))) ts;
  changes = sum_by (λ t. while_waiting t (count_by (λ change. not (changes_bytes change)) (changes_of t) + count_by (λ setting. is_none setting.value) (settings_of t))) ts;
  enlistments = sum_by (λ t. length (enlistments_of t)) ts;
}
