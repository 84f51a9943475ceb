-- What a contract sees of a `Chains`.
use Rattle.std.specs.Prelude.{◌≡◌, ◌≢◌, ℕ, ◌<◌, true, false, List, [], ◌∷◌, ◌++◌, Option, Some, None, is_some, if◌then◌else◌, refl}
use Rattle.std.specs.Option.{option_map}
use Rattle.std.specs.Coded.{Coded, code_by, coded×, coded_ℕ, coded_list}
use Rattle.std.specs.declared.cmp.Ordering.{Ordering}
use Rattle.std.specs.declared.cmp.Ordering.TheVariants.{Less}
use Rattle.std.specs.Ordering.{nat_cmp, is_eq, is_lt}
use Rattle.std.specs.Cmp.Lexicographic.{slice_cmp}
use Rattle.ktm_links.specs.declared.list.Key.{Key}
use Rattle.ktm_links.specs.Items.{same_key}

-- a value and its name
pub record NameAndValue (T : Type 0) : Type 0 where
  pub name : List ℕ
  pub value : T

-- a name, the key of its value, and the value
pub record NamedItem (T : Type 0) : Type 0 where
  pub name : List ℕ
  pub key : Key
  pub value : T

-- the entries by rising name, the generation that the next key gets, and how many entries can come without memory
pub record Mapped (T : Type 0) : Type 0 where
  pub entries : List (NamedItem T)
  pub next : ℕ
  pub spare : ℕ

-- how a value with its name is told by numbers and the value's code
abbrev pub name_and_value_code : {T : Type 0} → Coded T → Coded (NameAndValue T)
name_and_value_code {T} code =
    code_by
    (List ℕ × T)
    (coded× (coded_list coded_ℕ) code)
    (λ n. (n.name, n.value))
    (λ p. record { name = p.0; value = p.1 })
    (λ _. refl)

-- how an entry is told by numbers and its value's code
abbrev pub named_item_code : {T : Type 0} → Coded T → Coded (NamedItem T)
named_item_code {T} code =
    code_by
    (List ℕ × ((ℕ × ℕ) × T))
    (coded× (coded_list coded_ℕ) (coded× (coded× coded_ℕ coded_ℕ) code))
    (λ e. (e.name, ((e.key.place, e.key.generation), e.value)))
    (λ p. record { name = p.0; key = record { place = p.1.0.0; generation = p.1.0.1 }; value = p.1.1 })
    (λ _. refl)

-- how a map is told by numbers and its values' code
abbrev pub mapped_code : {T : Type 0} → Coded T → Coded (Mapped T)
mapped_code {T} code =
    code_by
    (List (NamedItem T) × (ℕ × ℕ))
    (coded× (coded_list (named_item_code code)) (coded× coded_ℕ coded_ℕ))
    (λ m. (m.entries, (m.next, m.spare)))
    (λ p. record { entries = p.0; next = p.1.0; spare = p.1.1 })
    (λ _. refl)

-- names are compared byte by byte
abbrev pub name_cmp : List ℕ → List ℕ → Ordering
name_cmp = slice_cmp nat_cmp

-- the first name is not below the second
abbrev pub IsNotBelow : List ℕ → List ℕ → Type 0
IsNotBelow a b = is_lt (name_cmp a b) ≡ false

-- the name begins with these bytes
pub record Begins (prefix name : List ℕ) : Type 0 where
  pub after : List ℕ
  pub is : name ≡ prefix ++ after

module _ {T : Type 0} where
  -- the key and the value that the map has under the name
  abbrev pub at : List (NamedItem T) → List ℕ → Option (Key × T)
  at [] name = None
  at (e ∷ es) name = if is_eq (name_cmp e.name name) then Some (e.key, e.value) else at es name

  -- the key that the map has under the name
  abbrev pub key_at : List (NamedItem T) → List ℕ → Option Key
  key_at [] name = None
  key_at (e ∷ es) name = if is_eq (name_cmp e.name name) then Some e.key else key_at es name

  -- the first entry whose name is not below this one
  abbrev pub first_from : List (NamedItem T) → List ℕ → Option (Key × T)
  first_from [] name = None
  first_from (e ∷ es) name = if is_lt (name_cmp e.name name) then first_from es name else Some (e.key, e.value)

  -- each entry's name is above this one
  abbrev pub AreAbove : List ℕ → List (NamedItem T) → Type 0
  AreAbove name [] = Unit {0}
  AreAbove name (e ∷ es) = (name_cmp name e.name ≡ Less) × AreAbove name es

  -- the names rise strictly
  abbrev pub IsRising : List (NamedItem T) → Type 0
  IsRising [] = Unit {0}
  IsRising (e ∷ es) = AreAbove e.name es × IsRising es

  -- the entries whose names are not below this one, where the names rise
  abbrev pub entries_from : List (NamedItem T) → List ℕ → List (NamedItem T)
  entries_from [] name = []
  entries_from (e ∷ es) name = if is_lt (name_cmp e.name name) then entries_from es name else e ∷ es

  -- this key stands under the first of the names of which this is so
  pub record IsFirstOf (P : List ℕ → Type 0) (entries : List (NamedItem T)) (key : Key) : Type 0 where
    pub name : List ℕ
    pub value : T
    pub there : at entries name ≡ Some (key, value)
    pub so : P name
    pub first : (q : List ℕ) → P q → is_some (at entries q) ≡ true → IsNotBelow q name

  -- nothing stands under a name of which this is so
  abbrev pub IsNoneOf : (List ℕ → Type 0) → List (NamedItem T) → Type 0
  IsNoneOf P entries = (q : List ℕ) → P q → at entries q ≡ None

  -- the entry put in its place by name
  abbrev pub put : List (NamedItem T) → NamedItem T → List (NamedItem T)
  put [] e = e ∷ []
  put (x ∷ xs) e = if is_lt (name_cmp x.name e.name) then x ∷ put xs e else e ∷ (x ∷ xs)

  -- the value that the key names
  abbrev pub value_of : List (NamedItem T) → Key → Option T
  value_of [] key = None
  value_of (e ∷ es) key = if same_key e.key key then Some e.value else value_of es key

  -- the entries without the one that has the name
  abbrev pub without_name : List (NamedItem T) → List ℕ → List (NamedItem T)
  without_name [] name = []
  without_name (e ∷ es) name = if is_eq (name_cmp e.name name) then es else e ∷ without_name es name

  -- the entries with another value under the name, where it has one
  abbrev pub with_value : List (NamedItem T) → List ℕ → T → List (NamedItem T)
  with_value [] name value = []
  with_value (e ∷ es) name value = if is_eq (name_cmp e.name name) then record e { value = value } ∷ es else e ∷ with_value es name value

  -- the key was given out, and names nothing any more
  pub record IsSpent (map : Mapped T) (key : Key) : Type 0 where
    pub before : key.generation < map.next
    pub gone : value_of map.entries key ≡ None

  -- what was spent stays spent
  abbrev pub KeepsSpent : Mapped T → Mapped T → Type 0
  KeepsSpent old new = (key : Key) → IsSpent old key → IsSpent new key

  -- the key, if it is one, is spent, and each other one names what it did
  pub record Spends (old new : Mapped T) (key : Option Key) : Type 0 where
    pub now : (k : Key) → key ≡ Some k → IsSpent new k
    pub others : (k : Key) → key ≢ Some k → value_of new.entries k ≡ value_of old.entries k
    pub still : KeepsSpent old new

-- the key that a map of keys has under the name
abbrev pub key_under : List (NamedItem Key) → List ℕ → Option Key
key_under named name = option_map (λ e. e.1) (at named name)
