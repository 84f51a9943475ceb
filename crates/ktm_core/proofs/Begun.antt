-- What a machine holds that starts, before that is recorded.
use Rattle.std.proofs.Common.{◌≡◌, ℕ, ◌+◌, ◌≤◌, ◌<◌, ◌^◌, true, List, [], filter, length, map, sym, ◌∙◌, ap, arith}
use Rattle.ktm_base.specs.declared.limits.TheConstants.{MOST_UNITS}
use Rattle.ktm_world.specs.Durable.{Durable, Recorded, after_events, changes_of, settings_of}
use Rattle.ktm_world.specs.Files.{OwnChanges}
use Rattle.ktm_world.specs.Keys.{Own, Store}
use Rattle.ktm_world.specs.Present.{Transactions}
use Rattle.ktm_world.specs.Tree.{Tree}
use Rattle.ktm_world.specs.World.{has_own_changes, has_own_settings, in_doubt, own_group}
use Rattle.ktm_world.proofs.offered.Durables.{after_events-units}
use Rattle.ktm_courses.proofs.offered.SoundRestarts.{booted}
use Rattle.ktm_laws.proofs.offered.LogCounts.{own-grammatical}
use Rattle.ktm_slots.specs.Owed.{owed_slots}
use Rattle.ktm_slots.specs.Slots.{SlotsLaw}
use Rattle.txf_laws.specs.GoodState.{IsGoodState}
use Rattle.txf_laws.specs.GoodStates.{GoodStatesLaw}
use Rattle.txf_laws.specs.OwnGroup.{OwnGroupLaw}
use Rattle.ktm_trace.specs.Traces.{traced, traces_of}
use Rattle.ktm_memory.specs.Held.{files_begun, files_of}
use Rattle.ktm_tm.specs.TmState.{TmState}
use Rattle.ktm_back.specs.Bringing.{HasComeBack}
use Rattle.ktm_back.specs.Restoring.{AreOfGoodState, InDoubtLaw, files_back, keys_back, own_changes_of, own_settings_of}
use Rattle.ktm_standing.specs.Standing.{fresh, own_changes_back, own_settings_back}
use Rattle.ktm_memory.specs.Memory.{MemoryState, Shows}
use Rattle.ktm_core.proofs.OwnGroups.{own_leaves_committed}

-- the state is what the group of a restart makes of a good one, and these are its files, keys and transactions
module _ (s after : Durable) (tree : Tree) (next : ℕ) (store : Store) (ts : List Recorded) (is : after ≡ after_events s (own_group s))
    (tree_is : tree ≡ after.tree) (next_is : next ≡ after.next_node) (store_is : store ≡ after.keys) (ts_are : ts ≡ after.transactions) where
  whole_tree : tree ≡ s.tree
  whole_tree = tree_is ∙ ap (λ (d : Durable). d.tree) is ∙ (own_leaves_committed s).tree

  next_then : next ≡ (after_events s (own_group s)).next_node
  next_then = next_is ∙ ap (λ (d : Durable). d.next_node) is

  whole_next : next ≡ s.next_node
  whole_next = next_then ∙ (own_leaves_committed s).next_node

  whole_store : store ≡ s.keys
  whole_store = store_is ∙ ap (λ (d : Durable). d.keys) is ∙ (own_leaves_committed s).keys

  -- it is a good state, too
  pub good_then : GoodStatesLaw → OwnGroupLaw → IsGoodState s → s.units ≤ MOST_UNITS → s.boots + 2 < 2 ^ 32 → s.events + length (own_group s) < 2 ^ 63 → AreOfGoodState tree next store ts
  good_then law owns good most boots events = record {
    state = after_events s (own_group s);
    good = law.2 s (own_group s) good (own-grammatical s good) (owns s good boots events).0;
    small = omega (arith, after_events-units s (own_group s), most);
    tree_is = sym (tree_is ∙ ap (λ (d : Durable). d.tree) is);
    next_node_is = sym next_then;
    keys_are = sym (store_is ∙ ap (λ (d : Durable). d.keys) is);
    transactions_are = sym (ts_are ∙ ap (λ (d : Durable). d.transactions) is);
  }

  -- with what is brought back this is what such a machine shows
  module _ (doubts : InDoubtLaw) (good : IsGoodState s) where
    -- the same are in doubt
    same_doubts : in_doubt after ≡ in_doubt s
    same_doubts = ap in_doubt is ∙ doubts s good

    changed : own_changes_of ts ≡ own_changes_back s
    changed = ap own_changes_of ts_are ∙ ap (λ (us : List Recorded). filter has_own_changes (map (λ t. record { transaction = t.id; changes = changes_of t }) us)) same_doubts

    set : own_settings_of ts ≡ own_settings_back s
    set = ap own_settings_of ts_are ∙ ap (λ (us : List Recorded). filter has_own_settings (map (λ t. record { transaction = t.id; settings = settings_of t }) us)) same_doubts

    pub shows_fresh : (m : MemoryState) → m.is_up ≡ true → HasComeBack (s.boots + 1) s.managers s.transactions m.tm → m.trace ≡ map traced after.transactions
        → files_of m.files ≡ files_back tree next ts → m.next_node ≡ next → m.keys ≡ keys_back store ts → m.handles.handles ≡ [] → Shows m (fresh s)
    shows_fresh m up back traces files next_node keys handles = record {
      is_up = up;
      boot = back.boot_is ∙ sym (booted s).0;
      transactions = back.now;
      managers = back.managers_are;
      traces = traces ∙ ap traces_of is;
      files =
          files ∙ ap (λ (t : Tree). files_back t next ts) whole_tree ∙ ap (λ (n : ℕ). files_back s.tree n ts) whole_next
          ∙ ap (λ (own : List OwnChanges). record (files_begun s.tree s.next_node) { table = record (files_begun s.tree s.next_node).table { own = own } }) changed;
      next_node = next_node ∙ next_then;
      keys = keys ∙ ap (λ (st : Store). keys_back st ts) whole_store ∙ ap (λ (own : List Own). record { store = s.keys; own = own }) set;
      handles = handles;
    }

-- each enlistment that comes back has the slots that it may be owed
pub fresh_slots : SlotsLaw → (s : Durable) (tm : TmState) → HasComeBack (s.boots + 1) s.managers s.transactions tm → owed_slots (fresh s) ≤ tm.slots
fresh_slots law s tm back = omega (arith, law.few (fresh s), back.slots, ap (λ (n : Transactions). length n.enlistments) back.now)
