-- What transactions in doubt changed and set, which a restart brings back.
use Rattle.std.specs.Prelude.{◌≡◌, ℕ, ◌<◌, ◌≤◌, ◌^◌, true, List, [], ◌∷◌, ◌++◌, map, filter}
use Rattle.ktm_base.specs.declared.id.Id.{Id}
use Rattle.ktm_base.specs.declared.limits.TheConstants.{MOST_UNITS}
use Rattle.ktm_keyed.specs.Keyed.{is_rising}
use Rattle.ktm_world.specs.declared.change.Change.{Change}
use Rattle.ktm_world.specs.Durable.{Durable, Recorded, after_events, changes_of, has_changes_part, has_settings_part, is_held, settings_of}
use Rattle.ktm_world.specs.Files.{FilesNow, OwnChanges}
use Rattle.ktm_world.specs.Keys.{KeysNow, Own, OwnSettings, Store, changes_pending, keys_used}
use Rattle.ktm_world.specs.Tree.{Tree}
use Rattle.ktm_world.specs.World.{has_own_changes, has_own_settings, in_doubt, own_group}
use Rattle.kv_rm.specs.Restored.{keys_restored}
use Rattle.txf_laws.specs.GoodState.{IsGoodState, has_one_part_each}
use Rattle.txf_volume.specs.Held.{files_begun}
use Rattle.txf_volume.specs.Restoring.{CanBeRestored}

-- what the transactions of a list that are in doubt changed, of which each changed something
abbrev pub own_changes_of : List Recorded → List OwnChanges
own_changes_of ts = filter has_own_changes (map (λ t. record { transaction = t.id; changes = changes_of t }) (filter (λ t. is_held t.stage) ts))

-- what they set, of which each set something
abbrev pub own_settings_of : List Recorded → List Own
own_settings_of ts = filter has_own_settings (map (λ t. record { transaction = t.id; settings = settings_of t }) (filter (λ t. is_held t.stage) ts))

-- the files of a machine that starts, with what the transactions in doubt changed
abbrev pub files_back : Tree → ℕ → List Recorded → FilesNow
files_back tree next_node ts = record (files_begun tree next_node) { table = record (files_begun tree next_node).table { own = own_changes_of ts } }

-- the keys of a machine that starts, with what the transactions in doubt set
abbrev pub keys_back : Store → List Recorded → KeysNow
keys_back store ts = record { store = store; own = own_settings_of ts }

-- the committed files and keys and the transactions are those of a good state, of an image that has a size that there is
pub record AreOfGoodState (tree : Tree) (next_node : ℕ) (store : Store) (transactions : List Recorded) : Type 0 where
  pub state : Durable
  pub good : IsGoodState state
  pub small : state.units ≤ MOST_UNITS
  pub tree_is : state.tree ≡ tree
  pub next_node_is : state.next_node ≡ next_node
  pub keys_are : state.keys ≡ store
  pub transactions_are : state.transactions ≡ transactions

-- the group of a restart leaves the same transactions in doubt of what a good state has
abbrev pub InDoubtLaw : Type 0
InDoubtLaw = (s : Durable) → IsGoodState s → in_doubt (after_events s (own_group s)) ≡ in_doubt s

-- ---- no public clause cites what follows

-- the files once these changes are transactions' own too
abbrev pub files_with_own : FilesNow → List OwnChanges → FilesNow
files_with_own files own = record files { table = record files.table { own = files.table.own ++ own } }

-- the keys once these settings are transactions' own too
abbrev pub keys_with_own : KeysNow → List Own → KeysNow
keys_with_own keys own = record keys { own = keys.own ++ own }

-- the changes as a transaction's own, if there are any
abbrev pub own_if_changed : Id → List Change → List OwnChanges
own_if_changed id changes = filter has_own_changes (record { transaction = id; changes = changes } ∷ [])

-- the settings as a transaction's own, if there are any
abbrev pub own_if_set : Id → OwnSettings → List Own
own_if_set id settings = filter has_own_settings (record { transaction = id; settings = settings } ∷ [])

-- the settings can be a transaction's own: some, by rising key, and what is in use of the keys then can be counted
pub record CanBeSetAgain (keys : KeysNow) (id : Id) (settings : OwnSettings) : Type 0 where
  pub some : has_own_settings (record { transaction = id; settings = settings }) ≡ true
  pub rising : is_rising settings ≡ true
  pub few_values : keys_used (keys_restored keys id settings) < 2 ^ 32
  pub few_unsets : changes_pending (keys_restored keys id settings) < 2 ^ 32

-- one transaction can have again what it changed and set, if it is in doubt
pub record CanHaveItsOwn (files : FilesNow) (keys : KeysNow) (t : Recorded) : Type 0 where
  pub parts : has_one_part_each t ≡ true
  pub changes : is_held t.stage ≡ true → has_changes_part t ≡ true → CanBeRestored files t.id (changes_of t)
  pub settings : is_held t.stage ≡ true → has_settings_part t ≡ true → CanBeSetAgain keys t.id (settings_of t)

-- each of a list can have again what it changed and set, once those before it have theirs
abbrev pub CanHaveTheirOwn : FilesNow → KeysNow → List Recorded → Type 0
CanHaveTheirOwn files keys ts =
    (before behind : List Recorded) (t : Recorded) → before ++ t ∷ behind ≡ ts → CanHaveItsOwn (files_with_own files (own_changes_of before)) (keys_with_own keys (own_settings_of before)) t
