-- Lists of values under keys, by rising key. Keys are compared byte by byte.
use Rattle.std.specs.Prelude.{ℕ, Bool, true, ◌&&◌, List, [], ◌∷◌, Option, Some, None, if◌then◌else◌}
use Rattle.std.specs.declared.cmp.Ordering.{Ordering}
use Rattle.std.specs.Ordering.{is_lt, nat_cmp}
use Rattle.std.specs.Cmp.Lexicographic.{slice_cmp}
use Rattle.std.specs.Str.{bytes_eq}
use Rattle.ktm_keyed.specs.declared.keyed.Keyed.{Keyed}

-- how the key of an item stands to this one
abbrev pub key_order : {V : Type 0} → List ℕ → Keyed V → Ordering
key_order key x = slice_cmp nat_cmp x.key key

-- does the first key come before the second
abbrev pub comes_before : List ℕ → List ℕ → Bool
comes_before a b = is_lt (slice_cmp nat_cmp a b)

-- the value under a key, if there is one
abbrev pub value_at : {V : Type 0} → List (Keyed V) → List ℕ → Option V
value_at [] key = None
value_at (x ∷ xs) key = if bytes_eq x.key key then Some x.value else value_at xs key

-- the list with this value under the key
abbrev pub put : {V : Type 0} → List (Keyed V) → List ℕ → V → List (Keyed V)
put [] key value = record { key = key; value = value } ∷ []
put (x ∷ xs) key value =
    if bytes_eq x.key key then record { key = key; value = value } ∷ xs else
    (if comes_before key x.key then record { key = key; value = value } ∷ x ∷ xs else x ∷ put xs key value)

-- the list with nothing under the key
abbrev pub without : {V : Type 0} → List (Keyed V) → List ℕ → List (Keyed V)
without [] key = []
without (x ∷ xs) key = if bytes_eq x.key key then xs else x ∷ without xs key

-- does the key come before the first key of the list, if it has one
abbrev pub comes_first : {V : Type 0} → List ℕ → List (Keyed V) → Bool
comes_first key [] = true
comes_first key (x ∷ xs) = comes_before key x.key

-- does each key of the list come before the next one
abbrev pub is_rising : {V : Type 0} → List (Keyed V) → Bool
is_rising [] = true
is_rising (x ∷ xs) = comes_first x.key xs && is_rising xs

-- a list of values under keys, and how many more it takes with no memory
pub record KeyedItems (V : Type 0) : Type 0 where
  pub items : List (Keyed V)
  pub spare : ℕ
