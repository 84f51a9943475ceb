-- Where a transaction's own settings stand in the list.
use Rattle.std.specs.Prelude.{◌≡◌, ℕ, ◌<◌, List, [], ◌∷◌, ◌++◌, length, true, false, Option, Some, None, MatchOption, ⊤, cond, is_none, slice_index_or, slice_set}
use Rattle.std.specs.List.{remove}
use Rattle.std.specs.Option.{option_map}
use Rattle.ktm_base.specs.declared.id.Id.{Id}
use Rattle.ktm_keyed.specs.Keyed.{put, value_at}
use Rattle.ktm_world.specs.Keys.{Own, own_settings, with_own, without_own}
use Rattle.ktm_keyed.specs.Slot.{IsSlot}
use Rattle.kv_rm.specs.Count.{kind_of}
use Rattle.kv_rm.specs.Held.{hash_of, one_at}
use Rattle.kv_rm.specs.Participant.{has_own}
use Rattle.kv_rm.specs.declared.held.TheConstants.{HASHES}
use Rattle.kv_rm.specs.declared.own.Seat.{Seat}

-- the transaction's settings are the first of its own at this place, and are looked up, changed and taken away there
pub record IsPlace (own : List Own) (id : Id) (i : ℕ) : Type 0 where
  pub within : i < length own
  pub owner : (d : Own) → (slice_index_or own i d).transaction ≡ id
  pub has : has_own own id ≡ true
  pub settings : (d : Own) → own_settings own id ≡ (slice_index_or own i d).settings
  pub changes : (key : List ℕ) (value : Option (List ℕ)) (d : Own) → with_own own id key value ≡ slice_set own i (record (slice_index_or own i d) { settings = put (slice_index_or own i d).settings key value })
  pub removes : without_own own id ≡ remove own i

-- the transaction has set nothing, and what it sets is added at the end
pub record IsAbsent (own : List Own) (id : Id) : Type 0 where
  pub has : has_own own id ≡ false
  pub settings : own_settings own id ≡ []
  pub adds : (key : List ℕ) (value : Option (List ℕ)) → with_own own id key value ≡ own ++ record { transaction = id; settings = put [] key value } ∷ []
  pub keeps : without_own own id ≡ own

-- a setting of the transaction's under this key goes there
pub record IsSeat (own : List Own) (id : Id) (key : List ℕ) (seat : Seat) : Type 0 where
  pub place : MatchOption seat.place (IsAbsent own id) (IsPlace own id)
  pub slot : IsSlot (own_settings own id) key seat.slot
  pub was : seat.was ≡ option_map kind_of (value_at (own_settings own id) key)
  pub hash : seat.hash ≡ hash_of key
  pub within : seat.hash < HASHES

-- the caller's setting under this key goes there, and that of no transaction goes nowhere
abbrev pub IsSeatOf : List Own → Option Id → List ℕ → Option Seat → Type 0
IsSeatOf own (Some id) key (Some seat) = IsSeat own id key seat
IsSeatOf own None key None = ⊤
IsSeatOf _ _ _ _ = ⊥

-- 1 where the setting that goes there is the first under its key, and its key has this hash
abbrev pub one_more : Option Seat → ℕ → ℕ
one_more (Some seat) hash = cond (is_none seat.was) (one_at seat.hash hash) 0
one_more None hash = 0
