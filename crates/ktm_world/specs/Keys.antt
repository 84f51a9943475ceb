-- The store of keys, and what each undecided transaction has set.
use Rattle.std.specs.Prelude.{ℕ, ◌+◌, ◌==◌, ◌&&◌, ◌||◌, not, Bool, false, List, [], ◌∷◌, length, map, nat_lt, Option, Some, None, is_some, is_none, sum_by, count_by, if◌then◌else◌}
use Rattle.std.specs.List.{list_all}
use Rattle.ktm_base.specs.declared.limits.TheConstants.{MOST_KEY_BYTES, MOST_VALUE_BYTES}
use Rattle.ktm_base.specs.declared.id.Id.{Id}
use Rattle.ktm_keyed.specs.declared.keyed.Keyed.{Keyed}
use Rattle.ktm_keyed.specs.Keyed.{value_at, put, without, is_rising}
use Rattle.ktm_world.specs.Transactions.{same_id}

-- a key has 1 to 64 bytes
abbrev pub is_bad_key : List ℕ → Bool
is_bad_key key = (length key == 0) || nat_lt MOST_KEY_BYTES (length key)

-- a value has at most 960 bytes
abbrev pub is_bad_value : List ℕ → Bool
is_bad_value value = nat_lt MOST_VALUE_BYTES (length value)

-- committed keys with their values
abbrev pub Store : Type 0
Store = List (Keyed (List ℕ))

-- a transaction's own settings, one for each key: a value, or none where it unset the key
abbrev pub OwnSettings : Type 0
OwnSettings = List (Keyed (Option (List ℕ)))

-- a transaction with its own settings
pub record Own : Type 0 where
  pub transaction : Id
  pub settings : OwnSettings

-- the keys now: what is committed, and what undecided transactions have set
pub record KeysNow : Type 0 where
  pub store : Store
  -- of the undecided transactions that have set or unset a key
  pub own : List Own

-- a transaction's own settings
abbrev pub own_settings : List Own → Id → OwnSettings
own_settings [] id = []
own_settings (o ∷ os) id = if same_id o.transaction id then o.settings else own_settings os id

-- a transaction has one setting more
abbrev pub with_own : List Own → Id → List ℕ → Option (List ℕ) → List Own
with_own [] id key value = record { transaction = id; settings = put [] key value } ∷ []
with_own (o ∷ os) id key value = if same_id o.transaction id then record o { settings = put o.settings key value } ∷ os else o ∷ with_own os id key value

-- a transaction's settings are gone
abbrev pub without_own : List Own → Id → List Own
without_own [] id = []
without_own (o ∷ os) id = if same_id o.transaction id then os else o ∷ without_own os id

-- what a transaction sees of a key: its own setting, else the committed value
abbrev pub seen_through : Option (Option (List ℕ)) → Option (List ℕ) → Option (List ℕ)
seen_through (Some setting) committed = setting
seen_through None committed = committed

-- the value of a key that a transaction sees, or a plain call
abbrev pub value_seen : KeysNow → Option Id → List ℕ → Option (List ℕ)
value_seen keys None key = value_at keys.store key
value_seen keys (Some id) key = seen_through (value_at (own_settings keys.own id) key) (value_at keys.store key)

-- does an undecided transaction other than this one hold the key, having set or unset it
abbrev pub is_held_by_other : List Own → Id → List ℕ → Bool
is_held_by_other [] id key = false
is_held_by_other (o ∷ os) id key = (not (same_id o.transaction id) && is_some (value_at o.settings key)) || is_held_by_other os id key

-- the keys in use: the committed ones, and those that each undecided transaction sets
abbrev pub keys_used : KeysNow → ℕ
keys_used keys = length keys.store + sum_by (λ o. count_by (λ s. is_some s.value) o.settings) keys.own

-- the changes that wait: the keys that each undecided transaction unsets
abbrev pub changes_pending : KeysNow → ℕ
changes_pending keys = sum_by (λ o. count_by (λ s. is_none s.value) o.settings) keys.own

-- a setting is made in the store
abbrev pub stored : Store → Keyed (Option (List ℕ)) → Store
stored store setting = elim setting.value as (λ _. Store) [ Some value ↦ put store setting.key value | None ↦ without store setting.key ]

-- settings in order
abbrev pub stored_all : Store → OwnSettings → Store
stored_all store [] = store
stored_all store (s ∷ ss) = stored_all (stored store s) ss

-- the store as a transaction sees it, with its own settings made in it, or as all see it
abbrev pub store_seen : KeysNow → Option Id → Store
store_seen keys None = keys.store
store_seen keys (Some id) = stored_all keys.store (own_settings keys.own id)

-- the keys of a store
abbrev pub keys_of : Store → List (List ℕ)
keys_of store = map (λ x. x.key) store

-- what a key may be set to: nothing, or a value within the limit
abbrev pub is_bad_set_to : Option (List ℕ) → Bool
is_bad_set_to None = false
is_bad_set_to (Some value) = is_bad_value value

-- a key and what it is set to are within the limits
abbrev pub is_good_setting : Keyed (Option (List ℕ)) → Bool
is_good_setting setting = not (is_bad_key setting.key) && not (is_bad_set_to setting.value)

-- settings that a transaction may record: one at least, by rising key, each within the limits
abbrev pub are_good_settings : OwnSettings → Bool
are_good_settings settings = not (length settings == 0) && is_rising settings && list_all is_good_setting settings
