-- Where a key stands in a list of values under keys.
use Rattle.std.specs.Prelude.{◌≡◌, ℕ, ◌<◌, ◌≤◌, List, length, Some, None, slice_index_or, slice_set}
use Rattle.std.specs.List.{insert, remove}
use Rattle.ktm_keyed.specs.declared.keyed.Keyed.{Keyed}
use Rattle.ktm_keyed.specs.Keyed.{value_at, put, without}
use Rattle.ktm_keyed.specs.declared.keyed.Slot.{Slot}
use Rattle.ktm_keyed.specs.declared.keyed.Slot.TheVariants.{Here, Free}

-- what is under the key is at the index: it is read, replaced and taken away there
pub record IsHere {V : Type 0} (items : List (Keyed V)) (key : List ℕ) (i : ℕ) : Type 0 where
  pub within : i < length items
  pub value : (d : Keyed V) → value_at items key ≡ Some (slice_index_or items i d).value
  pub replaces : (value : V) → put items key value ≡ slice_set items i (record { key = key; value = value })
  pub removes : without items key ≡ remove items i

-- nothing is under the key, and a value is put before what is at the index
pub record IsFree {V : Type 0} (items : List (Keyed V)) (key : List ℕ) (i : ℕ) : Type 0 where
  pub within : i ≤ length items
  pub value : value_at items key ≡ None
  pub adds : (value : V) → put items key value ≡ insert items i (record { key = key; value = value })
  pub stays : without items key ≡ items

-- what is under a key is at an index, or its place is free there
abbrev pub IsSlot : {V : Type 0} → List (Keyed V) → List ℕ → Slot → Type 0
IsSlot items key (Here i) = IsHere items key i
IsSlot items key (Free i) = IsFree items key i
