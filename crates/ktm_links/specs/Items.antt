-- What a contract sees of a `List`.
use Rattle.std.specs.Prelude.{◌≡◌, ℕ, ◌<◌, Bool, ◌==◌, ◌&&◌, List, [], ◌∷◌, Option, Some, None, if◌then◌else◌, refl}
use Rattle.std.specs.Coded.{Coded, code_by, coded×, coded_ℕ, coded_list}
use Rattle.ktm_links.specs.declared.list.Key.{Key}

-- a value and the key that names it
pub record Item (T : Type 0) : Type 0 where
  pub key : Key
  pub value : T

-- the values in order, the generation that the next key gets, and how many values can come without memory
pub record Listed (T : Type 0) : Type 0 where
  pub items : List (Item T)
  pub next : ℕ
  pub spare : ℕ

-- how an item is told by plain numbers and its value's code
abbrev pub item_code : {T : Type 0} → Coded T → Coded (Item T)
item_code {T} code =
    code_by
    ((ℕ × ℕ) × T)
    (coded× (coded× coded_ℕ coded_ℕ) code)
    (λ i. ((i.key.place, i.key.generation), i.value))
    (λ p. record { key = record { place = p.0.0; generation = p.0.1 }; value = p.1 })
    (λ _. refl)

-- how a list is told by plain numbers and its values' code
abbrev pub listed_code : {T : Type 0} → Coded T → Coded (Listed T)
listed_code {T} code =
    code_by
    (List (Item T) × (ℕ × ℕ))
    (coded× (coded_list (item_code code)) (coded× coded_ℕ coded_ℕ))
    (λ l. (l.items, (l.next, l.spare)))
    (λ p. record { items = p.0; next = p.1.0; spare = p.1.1 })
    (λ _. refl)

-- are the keys one key
abbrev pub same_key : Key → Key → Bool
same_key a b = (a.place == b.place) && (a.generation == b.generation)

module _ {T : Type 0} where
  -- the value with its key
  abbrev pub item : Key → T → Item T
  item key value = record { key = key; value = value }

  -- the value that the key names
  abbrev pub value_at : List (Item T) → Key → Option T
  value_at [] key = None
  value_at (x ∷ xs) key = if same_key x.key key then Some x.value else value_at xs key

  -- the list without the value that the key names
  abbrev pub without : List (Item T) → Key → List (Item T)
  without [] key = []
  without (x ∷ xs) key = if same_key x.key key then xs else x ∷ without xs key

  -- the list with another value under the key, where it names one
  abbrev pub with_value : List (Item T) → Key → T → List (Item T)
  with_value [] key value = []
  with_value (x ∷ xs) key value = if same_key x.key key then item x.key value ∷ xs else x ∷ with_value xs key value

  -- the key of the first value
  abbrev pub first_key : List (Item T) → Option Key
  first_key [] = None
  first_key (x ∷ xs) = Some x.key

  -- the first value
  abbrev pub first_value : List (Item T) → Option T
  first_value [] = None
  first_value (x ∷ xs) = Some x.value

  -- all but the first
  abbrev pub rest : List (Item T) → List (Item T)
  rest [] = []
  rest (x ∷ xs) = xs

  -- the key was given out, and names nothing any more
  pub record IsSpent (list : Listed T) (key : Key) : Type 0 where
    pub before : key.generation < list.next
    pub gone : value_at list.items key ≡ None

  -- what was spent stays spent
  abbrev pub KeepsSpent : Listed T → Listed T → Type 0
  KeepsSpent old new = (key : Key) → IsSpent old key → IsSpent new key
