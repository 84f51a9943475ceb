-- What a contract sees of nodes, whose contents are of any type.
use Rattle.std.specs.Prelude.{◌≡◌, ◌≢◌, ℕ, zero, suc, ◌+◌, ◌==◌, Bool, List, [], ◌∷◌, map, find, nat_lt, Option, Some, None, if◌then◌else◌, refl}
use Rattle.std.specs.Coded.{Coded, code_by, coded×, coded_ℕ, coded_list, coded_option}
use Rattle.std.specs.Option.{option_map}
use Rattle.ktm_world.specs.declared.recorded.Node.{Node}
use Rattle.ktm_world.specs.Committed.{Version, raised_version}
use Rattle.ktm_world.specs.Tree.{Tree, with_changed, with_node}

-- a node: a file has a content, and a directory none; and how often the content was changed since the restart
pub record NodeOf (V : Type 0) : Type 0 where
  pub number : ℕ
  pub parent : ℕ
  pub name : List ℕ
  pub content : Option V
  pub version : ℕ

-- the nodes by rising number, and how many can come without memory
pub record NodesState (V : Type 0) : Type 0 where
  pub nodes : List (NodeOf V)
  pub spare : ℕ

-- how a node is told by numbers and its content's code
abbrev pub node_code : {V : Type 0} → Coded V → Coded (NodeOf V)
node_code {V} code =
    code_by
    ((ℕ × ℕ) × (List ℕ × (Option V × ℕ)))
    (coded× (coded× coded_ℕ coded_ℕ) (coded× (coded_list coded_ℕ) (coded× (coded_option code) coded_ℕ)))
    (λ n. ((n.number, n.parent), (n.name, (n.content, n.version))))
    (λ p. record { number = p.0.0; parent = p.0.1; name = p.1.0; content = p.1.1.0; version = p.1.1.1 })
    (λ _. refl)

-- how nodes are told by numbers and their contents' code
abbrev pub nodes_code : {V : Type 0} → Coded V → Coded (NodesState V)
nodes_code {V} code =
    code_by
    (List (NodeOf V) × ℕ)
    (coded× (coded_list (node_code code)) coded_ℕ)
    (λ s. (s.nodes, s.spare))
    (λ p. record { nodes = p.0; spare = p.1 })
    (λ _. refl)

-- the versions once the content of a file was changed so many times more
abbrev pub raised : ℕ → List Version → ℕ → List Version
raised zero versions file = versions
raised (suc n) versions file = raised n (raised_version versions file) file

module _ {V : Type 0} where
  -- the node, where this says what bytes a content has
  abbrev pub node_by : (V → List ℕ) → NodeOf V → Node
  node_by bytes n = record { number = n.number; parent = n.parent; name = n.name; content = option_map bytes n.content }

  -- the nodes as a tree, where this says what bytes a content has
  abbrev pub tree_in : (V → List ℕ) → List (NodeOf V) → Tree
  tree_in bytes nodes = map (node_by bytes) nodes

  -- a table as a tree, where this says what bytes a content has
  abbrev pub tree_by : (V → List ℕ) → NodesState V → Tree
  tree_by bytes s = tree_in bytes s.nodes

  -- the versions of the files whose contents were changed since the restart, by rising number
  abbrev pub versions_in : List (NodeOf V) → List Version
  versions_in [] = []
  versions_in (n ∷ ns) = if nat_lt 0 n.version then record { file = n.number; count = n.version } ∷ versions_in ns else versions_in ns

  -- the versions of a table's files
  abbrev pub versions_of : NodesState V → List Version
  versions_of s = versions_in s.nodes

  -- has the node this number
  abbrev pub is_numbered : ℕ → NodeOf V → Bool
  is_numbered number n = n.number == number

  -- the node with this number
  abbrev pub now_at : List (NodeOf V) → ℕ → Option (NodeOf V)
  now_at nodes number = find (is_numbered number) nodes

  -- the content of a node, if it is a file
  abbrev pub content_in : Option (NodeOf V) → Option V
  content_in None = None
  content_in (Some n) = n.content

  -- the content of the node with this number, if it is a file
  abbrev pub content_at : NodesState V → ℕ → Option V
  content_at s number = content_in (now_at s.nodes number)

  -- each file has the content that it had
  abbrev pub KeepsContents : NodesState V → NodesState V → Type 0
  KeepsContents old new = (number : ℕ) → content_at new number ≡ content_at old number

  -- the node with this number has this content, and each other one what it had
  pub record SetsContent (old new : NodesState V) (number : ℕ) (content : Option V) : Type 0 where
    pub here : content_at new number ≡ content
    pub others : (other : ℕ) → other ≢ number → content_at new other ≡ content_at old other

  -- the file has this content, which counts as so many changes, and each other one what it had; whatever bytes contents have,
  -- the tree is the one before with f of the file, for any f that gives a node the bytes of this content for those before
  pub record IsRefilled (old new : NodesState V) (file changes : ℕ) (content : V) : Type 0 where
    pub tree : (bytes : V → List ℕ) (f : Node → Node) → ((n : Node) → n.content ≡ option_map bytes (content_at old file) → f n ≡ record n { content = Some (bytes content) })
        → tree_by bytes new ≡ with_changed (tree_by bytes old) file f
    pub versions : versions_of new ≡ raised changes (versions_of old) file
    pub contents : SetsContent old new file (Some content)

  -- a node came that was not there and was never changed, and all else is as it was
  pub record IsInserted (old new : NodesState V) (number parent : ℕ) (name : List ℕ) (content : Option V) : Type 0 where
    pub tree : (bytes : V → List ℕ) → tree_by bytes new ≡ with_node (tree_by bytes old) (record { number = number; parent = parent; name = name; content = option_map bytes content })
    pub versions : versions_of new ≡ versions_of old
    pub was : content_at old number ≡ None
    pub contents : SetsContent old new number content
    pub spare : new.spare + 1 ≡ old.spare
