-- The calls on keys: for each the tests in their order, and what it does, by the keys alone, the transaction that calls, and the room that there is.
use Rattle.std.specs.Prelude.{ℕ, ◌||◌, Bool, false, List, [], ◌∷◌, nat_lt, Option, Some, None, is_none}
use Rattle.ktm_base.specs.declared.id.Id.{Id}
use Rattle.ktm_base.specs.declared.refusal.Refusal.{Refusal}
use Rattle.ktm_base.specs.declared.refusal.Refusal.TheVariants.{InvalidParameter, NotFound, TransactionalConflict, NotEnoughQuota, DiskFull}
use Rattle.ktm_world.specs.declared.reply.Reply.{Reply}
use Rattle.ktm_world.specs.declared.reply.Reply.TheVariants.{Refused, Done, Contents, Keys}
use Rattle.ktm_world.specs.Keys.{KeysNow, Own, with_own, value_seen, store_seen, keys_of, is_held_by_other, keys_used, changes_pending, is_bad_key, is_bad_value}

-- how many keys may be in use, and how many unset keys may wait
pub record KeyRoom : Type 0 where
  pub keys : ℕ
  pub changes : ℕ

-- what a call on keys comes to: its reply, and what the transactions have set then
pub record KeyOutcome : Type 0 where
  pub reply : Reply
  pub own : List Own

-- does another undecided transaction hold the key
abbrev pub is_key_held : List Own → Option Id → List ℕ → Bool
is_key_held own None key = false
is_key_held own (Some id) key = is_held_by_other own id key

-- a transaction has one setting more: a value, or none where it unsets the key
abbrev pub with_setting : List Own → Option Id → List ℕ → Option (List ℕ) → List Own
with_setting own None key value = own
with_setting own (Some id) key value = with_own own id key value

-- the keys with one setting more
abbrev pub keys_with : KeysNow → Option Id → List ℕ → Option (List ℕ) → KeysNow
keys_with keys who key value = record keys { own = with_setting keys.own who key value }

-- a key is given a value
abbrev pub kv_set : KeysNow → Option Id → List ℕ → List ℕ → KeyOutcome
kv_set keys who key value = record { reply = Done; own = with_setting keys.own who key (Some value) }

-- the tests of KvSet
abbrev pub kv_set_tests : KeysNow → KeyRoom → Option Id → List ℕ → List ℕ → List (Bool × Refusal)
kv_set_tests keys room who key value =
    (is_bad_key key || is_bad_value value, InvalidParameter)
    ∷ (is_key_held keys.own who key, TransactionalConflict)
    ∷ (nat_lt room.keys (keys_used (keys_with keys who key (Some value))), DiskFull)
    ∷ []

-- a key is unset, which is a change that waits
abbrev pub kv_unset : KeysNow → Option Id → List ℕ → KeyOutcome
kv_unset keys who key = record { reply = Done; own = with_setting keys.own who key None }

-- the tests of KvUnset
abbrev pub kv_unset_tests : KeysNow → KeyRoom → Option Id → List ℕ → List (Bool × Refusal)
kv_unset_tests keys room who key =
    (is_bad_key key, InvalidParameter)
    ∷ (is_none (value_seen keys who key), NotFound)
    ∷ (is_key_held keys.own who key, TransactionalConflict)
    ∷ (nat_lt room.changes (changes_pending (keys_with keys who key None)), NotEnoughQuota)
    ∷ []

-- the tests of KvGet
abbrev pub kv_get_tests : KeysNow → Option Id → List ℕ → List (Bool × Refusal)
kv_get_tests keys who key = (is_bad_key key, InvalidParameter) ∷ (is_none (value_seen keys who key), NotFound) ∷ []

-- the reply that tells a value, or that there is none
abbrev pub reply_of_value : Option (List ℕ) → Reply
reply_of_value None = Refused NotFound
reply_of_value (Some value) = Contents value

-- the value that is seen of a key
abbrev pub kv_get : KeysNow → Option Id → List ℕ → KeyOutcome
kv_get keys who key = record { reply = reply_of_value (value_seen keys who key); own = keys.own }

-- the keys that are seen, by rising key
abbrev pub kv_list : KeysNow → Option Id → KeyOutcome
kv_list keys who = record { reply = Keys (keys_of (store_seen keys who)); own = keys.own }
