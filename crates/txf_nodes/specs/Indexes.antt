-- How nodes are found by their numbers and by their names. Of this module public clauses cite `refilled` alone.
use Rattle.std.specs.Prelude.{◌≡◌, ℕ, ◌+◌, ◌<◌, ◌≤◌, Bool, not, true, false, List, [], ◌∷◌, length, map, filter, Option, Some, None, is_some, if◌then◌else◌, nat_lt}
use Rattle.std.specs.Option.{option_map}
use Rattle.ktm_base.specs.declared.limits.TheConstants.{MOST_NAME_BYTES}
use Rattle.ktm_links.specs.declared.list.Key.{Key}
use Rattle.ktm_links.specs.Items.{Item, value_at}
use Rattle.ktm_links.specs.Mapped.{NamedItem, at, IsNotBelow}
use Rattle.ktm_world.specs.Tree.{root}
use Rattle.txf_nodes.specs.NodesState.{NodeOf, is_numbered, now_at}
use Rattle.txf_nodes.specs.Places.{child_name, number_bytes}

-- what a map has under the name
abbrev pub under : {T : Type 0} → List (NamedItem T) → List ℕ → Option T
under named name = option_map (λ e. e.1) (at named name)

module _ {V : Type 0} where
  -- under which name the node stands in its directory
  abbrev pub name_of : NodeOf V → List ℕ
  name_of n = child_name n.parent n.name

  -- ---- nodes by number

  -- is it a node with this number
  abbrev pub has_number : ℕ → Option (NodeOf V) → Bool
  has_number number None = false
  has_number number (Some n) = is_numbered number n

  -- the node of a key, if it names one, and then the rest
  abbrev pub node_from : Option (NodeOf V) → List (NodeOf V) → List (NodeOf V)
  node_from None rest = rest
  node_from (Some n) rest = n ∷ rest

  -- the nodes of these keys
  abbrev pub nodes_of : List (Item (NodeOf V)) → List (NamedItem Key) → List (NodeOf V)
  nodes_of items [] = []
  nodes_of items (e ∷ es) = node_from (value_at items e.value) (nodes_of items es)

  -- the key of a node stands under its number, and no other key does
  pub record IsNumberedAt (items : List (Item (NodeOf V))) (e : NamedItem Key) (es : List (NamedItem Key)) : Type 0 where
    pub node : NodeOf V
    pub there : value_at items e.value ≡ Some node
    pub name : e.name ≡ number_bytes node.number
    pub alone : at es e.name ≡ None

  -- each key is that of a node, and stands alone under its number
  abbrev pub AreNumbered : List (Item (NodeOf V)) → List (NamedItem Key) → Type 0
  AreNumbered items [] = Unit {0}
  AreNumbered items (e ∷ es) = IsNumberedAt items e es × AreNumbered items es

  -- the map has the key of each node under its number, and nothing else
  pub record IsIndexed (items : List (Item (NodeOf V))) (numbers : List (NamedItem Key)) : Type 0 where
    pub all : AreNumbered items numbers
    pub count : length items ≡ length numbers

  -- the nodes with one more, at the place of its number
  abbrev pub with_now : List (NodeOf V) → NodeOf V → List (NodeOf V)
  with_now [] node = node ∷ []
  with_now (n ∷ ns) node = if nat_lt node.number n.number then node ∷ n ∷ ns else n ∷ with_now ns node

  -- the nodes without that of the number
  abbrev pub without_now : List (NodeOf V) → ℕ → List (NodeOf V)
  without_now nodes number = filter (λ n. not (is_numbered number n)) nodes

  -- the nodes with another one in place of that of the number
  abbrev pub replaced : List (NodeOf V) → ℕ → NodeOf V → List (NodeOf V)
  replaced nodes number node = map (λ n. if is_numbered number n then node else n) nodes

  -- the file with another content, which counts as so many changes
  abbrev pub with_content : NodeOf V → ℕ → V → NodeOf V
  with_content n changes content = record n { content = Some content; version = n.version + changes }

  -- the nodes with another content of this one, if it is one
  abbrev pub refilled_in : List (NodeOf V) → Option (NodeOf V) → ℕ → V → List (NodeOf V)
  refilled_in nodes None changes content = nodes
  refilled_in nodes (Some n) changes content = replaced nodes n.number (with_content n changes content)

  -- the nodes with another content of that of the number, if there is one
  abbrev pub refilled : List (NodeOf V) → ℕ → ℕ → V → List (NodeOf V)
  refilled nodes number changes content = refilled_in nodes (now_at nodes number) changes content

  -- ---- nodes by name

  -- the number of the node stands under its name, which has at most 255 bytes
  pub record IsNamedAt (names : List (NamedItem ℕ)) (n : NodeOf V) : Type 0 where
    pub few : length n.name ≤ MOST_NAME_BYTES
    pub under : under names (name_of n) ≡ Some n.number

  -- the number of each node stands under its name
  abbrev pub AreNamed : List (NamedItem ℕ) → List (NodeOf V) → Type 0
  AreNamed names [] = Unit {0}
  AreNamed names (n ∷ ns) = IsNamedAt names n × AreNamed names ns

  -- each number is above this one
  abbrev pub AreAbove : ℕ → List (NodeOf V) → Type 0
  AreAbove number [] = Unit {0}
  AreAbove number (n ∷ ns) = (number < n.number) × AreAbove number ns

  -- the numbers rise
  abbrev pub AreRising : List (NodeOf V) → Type 0
  AreRising [] = Unit {0}
  AreRising (n ∷ ns) = AreAbove n.number ns × AreRising ns

  -- numbers rise, none is the root's, and the map has the number of each node under its name, and nothing else
  pub record IsTree (nodes : List (NodeOf V)) (names : List (NamedItem ℕ)) : Type 0 where
    pub rising : AreRising nodes
    pub no_root : now_at nodes root ≡ None
    pub named : AreNamed names nodes
    pub only : (name : List ℕ) (number : ℕ) → under names name ≡ Some number → (n : NodeOf V) × (now_at nodes number ≡ Some n) × (name_of n ≡ name)

-- ---- names in order

-- the number is under the first of the names of which this is so
pub record IsFirstUnder (P : List ℕ → Type 0) (names : List (NamedItem ℕ)) (number : ℕ) : Type 0 where
  pub name : List ℕ
  pub there : under names name ≡ Some number
  pub so : P name
  pub first : (q : List ℕ) → P q → is_some (under names q) ≡ true → IsNotBelow q name

-- no number is under a name of which this is so
abbrev pub IsNoneUnder : (List ℕ → Type 0) → List (NamedItem ℕ) → Type 0
IsNoneUnder P names = (q : List ℕ) → P q → under names q ≡ None
