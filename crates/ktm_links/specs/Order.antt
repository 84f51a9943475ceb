-- How keys in order of their values' names stand for a map. No public clause cites this module.
use Rattle.std.specs.Prelude.{◌≡◌, ◌⊎◌, ℕ, ◌-◌, ◌<◌, true, false, List, [], ◌∷◌, length, get_or, Option, Some, None, is_some}
use Rattle.std.specs.declared.cmp.Ordering.TheVariants.{Less}
use Rattle.std.specs.declared.cmp.Ordering.{Ordering}
use Rattle.std.specs.List.{slice_get}
use Rattle.std.specs.Ordering.{is_lt}
use Rattle.ktm_links.specs.declared.list.Key.{Key}
use Rattle.ktm_links.specs.Items.{Item, value_at, with_value}
use Rattle.ktm_links.specs.Mapped.{NameAndValue, NamedItem, name_cmp, IsRising}

-- the key is among these
abbrev pub HasKey : Key → List Key → Type 0
HasKey key [] = ⊥
HasKey key (k ∷ ks) = (k ≡ key) ⊎ HasKey key ks

module _ {T : Type 0} where
  -- how the name of a value, if there is one, stands to this one
  abbrev pub order_in : Option (NameAndValue T) → List ℕ → Ordering
  order_in None name = Less
  order_in (Some n) name = name_cmp n.name name

  -- how the name of the key's value stands to this one
  abbrev pub order_at : List (Item (NameAndValue T)) → List ℕ → Key → Ordering
  order_at items name key = order_in (value_at items key) name

  -- how the name of the value of a key, if there is one, stands to this one
  abbrev pub order_from : List (Item (NameAndValue T)) → List ℕ → Option Key → Ordering
  order_from items name None = Less
  order_from items name (Some key) = order_at items name key

  -- how the name of the last key's value stands to this one
  abbrev pub last_order : List (Item (NameAndValue T)) → List ℕ → List Key → Ordering
  last_order items name keys = order_from items name (slice_get keys (length keys - 1))

  -- the entry of a key whose value this is, and then the rest
  abbrev pub entry_from : Key → Option (NameAndValue T) → List (NamedItem T) → List (NamedItem T)
  entry_from key None rest = rest
  entry_from key (Some n) rest = record { name = n.name; key = key; value = n.value } ∷ rest

  -- the entry of each key
  abbrev pub entries_of : List (Item (NameAndValue T)) → List Key → List (NamedItem T)
  entries_of items [] = []
  entries_of items (k ∷ ks) = entry_from k (value_at items k) (entries_of items ks)

  -- the items with another value under the name of the key's, if it names one
  abbrev pub revalued_from : List (Item (NameAndValue T)) → Key → Option (NameAndValue T) → T → List (Item (NameAndValue T))
  revalued_from items key None value = items
  revalued_from items key (Some n) value = with_value items key (record n { value = value })

  abbrev pub revalued : List (Item (NameAndValue T)) → Key → T → List (Item (NameAndValue T))
  revalued items key value = revalued_from items key (value_at items key) value

  -- each key names a value
  abbrev pub ArePresent : List (Item (NameAndValue T)) → List Key → Type 0
  ArePresent items [] = Unit {0}
  ArePresent items (k ∷ ks) = (is_some (value_at items k) ≡ true) × ArePresent items ks

  -- the keys name all the values, by rising name
  pub record IsInOrder (items : List (Item (NameAndValue T))) (keys : List Key) : Type 0 where
    pub present : ArePresent items keys
    pub rising : IsRising (entries_of items keys)
    pub complete : (key : Key) → is_some (value_at items key) ≡ true → HasKey key keys

  -- at the place the first name stands that is not below this one, or all names are below it
  pub record IsFirstNotBelow (items : List (Item (NameAndValue T))) (name : List ℕ) (keys : List Key) (place : ℕ) : Type 0 where
    pub below : (i : ℕ) (d : Key) → i < place → order_at items name (get_or keys i d) ≡ Less
    pub not_below : (d : Key) → place < length keys → is_lt (order_at items name (get_or keys place d)) ≡ false
