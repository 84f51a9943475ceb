-- Which transactions hold which keys, and by which names they are sorted. No public clause cites this module.
use Rattle.std.specs.Prelude.{◌≡◌, ℕ, ◌+◌, ◌*◌, ◌/◌, ◌%◌, ◌≤◌, ◌&&◌, not, Bool, true, List, [], ◌∷◌, ◌++◌, length, map, bytes_eq, Option, Some, None, is_some}
use Rattle.std.specs.List.{list_any}
use Rattle.ktm_base.specs.declared.id.Id.{Id}
use Rattle.ktm_world.specs.Transactions.{same_id, is_of}
use Rattle.ktm_links.specs.declared.list.Key.{Key}
use Rattle.ktm_links.specs.Mapped.{NamedItem, at, Begins, IsNotBelow}
use Rattle.ktm_links.specs.Numbers.{number_bytes}

-- a transaction holds a key
pub record Pair : Type 0 where
  pub key : List ℕ
  pub transaction : Id

-- the pairs, and how many can come without memory
pub record PairSet : Type 0 where
  pub pairs : List Pair
  pub spare : ℕ

-- ---- names
-- a transaction, and then these bytes
abbrev pub id_bytes : Id → List ℕ → List ℕ
id_bytes id rest = number_bytes id.boot (number_bytes id.number rest)

-- what the names of all that hold a key begin with: how long it is, and the key
abbrev pub key_bytes : List ℕ → List ℕ
key_bytes key = length key / 256 ∷ length key % 256 ∷ key

-- the name of a pair by its key
abbrev pub key_name : List ℕ → Id → List ℕ
key_name key id = key_bytes key ++ id_bytes id []

-- the name of a pair by its transaction
abbrev pub owner_name : Id → List ℕ → List ℕ
owner_name id key = id_bytes id key

-- the number of which these are the bytes
abbrev pub number_from : ℕ → ℕ → ℕ → ℕ → ℕ
number_from a b c d = 16777216 * a + (65536 * b + (256 * c + d))

-- the pair whose name by its transaction this is
abbrev pub pair_of : List ℕ → Pair
pair_of (b3 ∷ b2 ∷ b1 ∷ b0 ∷ n3 ∷ n2 ∷ n1 ∷ n0 ∷ key) =
    record { key = key; transaction = record { boot = number_from b3 b2 b1 b0; number = number_from n3 n2 n1 n0 } }
pair_of _ = record { key = []; transaction = record { boot = 0; number = 0 } }

-- the pairs whose names these entries have
abbrev pub pairs_of : {V : Type 0} → List (NamedItem V) → List Pair
pairs_of entries = map (λ e. pair_of e.name) entries

-- ---- which are there
-- is it the pair of this key and this transaction
abbrev pub is_pair : List ℕ → Id → Pair → Bool
is_pair key id p = bytes_eq p.key key && same_id p.transaction id

-- does the transaction hold the key
abbrev pub has_pair : List Pair → List ℕ → Id → Bool
has_pair pairs key id = list_any (is_pair key id) pairs

-- does a transaction other than this one hold the key
abbrev pub is_of_other : List ℕ → Option Id → Pair → Bool
is_of_other key who p = bytes_eq p.key key && not (is_of p.transaction who)

-- ---- how the two maps stand for them
-- a name by the key
pub record IsKeyName (room : ℕ) (q : List ℕ) (id : Id) : Type 0 where
  pub key : List ℕ
  pub is : q ≡ key_name key id
  pub short : length key ≤ 263
  pub fits : length key + 11 ≤ room

-- a name by the transaction
pub record IsOwnerName (room : ℕ) (q : List ℕ) : Type 0 where
  pub key : List ℕ
  pub transaction : Id
  pub is : q ≡ owner_name transaction key
  pub short : length key ≤ 263
  pub fits : length key + 11 ≤ room

-- each pair has its name in both maps, and nothing else has
pub record ArePairs (room : ℕ) (keys : List (NamedItem Id)) (owners : List (NamedItem (Unit {0}))) : Type 0 where
  pub by_key : (q : List ℕ) (k : Key) (id : Id) → at keys q ≡ Some (k, id) → IsKeyName room q id
  pub by_owner : (q : List ℕ) → is_some (at owners q) ≡ true → IsOwnerName room q
  pub same : (key : List ℕ) (id : Id) → length key ≤ 263 → is_some (at keys (key_name key id)) ≡ is_some (at owners (owner_name id key))

-- the transaction under the first of the names from this one on, if that begins so
pub record IsHolder (prefix from : List ℕ) (keys : List (NamedItem Id)) (id : Id) : Type 0 where
  pub name : List ℕ
  pub key : Key
  pub there : at keys name ≡ Some (key, id)
  pub begins : Begins prefix name
  pub high : IsNotBelow name from
  pub first : (q : List ℕ) → IsNotBelow q from → is_some (at keys q) ≡ true → IsNotBelow q name

-- no name from this one on begins so
abbrev pub HasNoHolder : List ℕ → List ℕ → List (NamedItem Id) → Type 0
HasNoHolder prefix from keys = (q : List ℕ) → Begins prefix q → IsNotBelow q from → at keys q ≡ None
