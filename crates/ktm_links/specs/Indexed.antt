-- How a map from names to keys stands to the values of a list. Of this module public clauses cite IsFirstUnder and
-- IsNoneUnder alone.
use Rattle.std.specs.Prelude.{◌≡◌, ℕ, true, List, [], ◌∷◌, Some, None, is_some, map}
use Rattle.ktm_links.specs.declared.list.Key.{Key}
use Rattle.ktm_links.specs.Items.{Item, value_at}
use Rattle.ktm_links.specs.Mapped.{NamedItem, IsNotBelow, key_under}

-- the key is under the first of the names of which this is so
pub record IsFirstUnder (P : List ℕ → Type 0) (named : List (NamedItem Key)) (key : Key) : Type 0 where
  pub name : List ℕ
  pub there : key_under named name ≡ Some key
  pub so : P name
  pub first : (q : List ℕ) → P q → is_some (key_under named q) ≡ true → IsNotBelow q name

-- no key is under a name of which this is so
abbrev pub IsNoneUnder : (List ℕ → Type 0) → List (NamedItem Key) → Type 0
IsNoneUnder P named = (q : List ℕ) → P q → key_under named q ≡ None

module _ {T : Type 0} where
  -- the value of an item
  abbrev pub value_in : Item T → T
  value_in item = item.value

  -- the values alone
  abbrev pub values_of : List (Item T) → List T
  values_of items = map value_in items

  -- each value's key is in the map under its name
  abbrev pub AreNamed : (T → List ℕ) → List (NamedItem Key) → List (Item T) → Type 0
  AreNamed name named [] = Unit {0}
  AreNamed name named (x ∷ xs) = (key_under named (name x.value) ≡ Some x.key) × AreNamed name named xs

  -- the map has each value's key under its name, and nothing else
  pub record IsIndex (name : T → List ℕ) (items : List (Item T)) (named : List (NamedItem Key)) : Type 0 where
    pub all : AreNamed name named items
    pub only : (q : List ℕ) (key : Key) → key_under named q ≡ Some key → (v : T) × (value_at items key ≡ Some v) × (name v ≡ q)

  -- no two values have one key
  abbrev pub AreDistinct : List (Item T) → Type 0
  AreDistinct [] = Unit {0}
  AreDistinct (x ∷ xs) = (value_at xs x.key ≡ None) × AreDistinct xs
