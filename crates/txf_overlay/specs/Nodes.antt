-- What became of the nodes that a transaction made, moved or dropped. No public clause cites this module.
use Rattle.std.specs.Prelude.{◌≡◌, ℕ, ◌+◌, ◌<◌, ◌≤◌, ◌^◌, ⊤, ◌==◌, ◌&&◌, not, Bool, false, List, [], ◌∷◌, length, drop, Option, Some, None, if◌then◌else◌}
use Rattle.std.specs.List.{list_any, slice_get}
use Rattle.ktm_base.specs.declared.limits.TheConstants.{MOST_NAME_BYTES}
use Rattle.ktm_world.specs.declared.change.Change.{Change}
use Rattle.ktm_world.specs.declared.change.Change.TheVariants.{Make, Put, Cut, Move, Drop}
use Rattle.ktm_world.specs.declared.change.NodeKind.{NodeKind}
use Rattle.ktm_world.specs.Changes.{node_of, is_make, is_drop}
use Rattle.ktm_world.specs.Holds.{place}
use Rattle.ktm_links.specs.Mapped.{NamedItem}
use Rattle.txf_overlay.specs.declared.node.NodeSeen.{NodeSeen}
use Rattle.txf_overlay.specs.Maps.{under}
use Rattle.txf_tree.specs.Places.{number_bytes}
use Rattle.txf_overlay.specs.Names.{place_bytes}
use Rattle.txf_overlay.specs.Views.{or_before}

-- the change, if it is of the node
abbrev pub if_of : ℕ → Change → Option Change
if_of node change = if node_of change == node then Some change else None

-- the last of the changes that is of the node
abbrev pub last_of : List Change → ℕ → Option Change
last_of [] node = None
last_of (c ∷ cs) node = or_before (last_of cs node) (if_of node c)

-- the kind of the node that a change makes
abbrev pub kind_in : Change → Option NodeKind
kind_in (Make node parent kind name) = Some kind
kind_in _ = None

-- the place to which a change brings its node
abbrev pub given : Change → Option (List ℕ)
given (Make node parent kind name) = Some (place_bytes (place parent name))
given (Put node offset contents) = None
given (Cut node size pages) = None
given (Move node parent name) = Some (place_bytes (place parent name))
given (Drop node) = None

-- the directory to which a change brings its node
abbrev pub given_parent : Change → Option ℕ
given_parent (Make node parent kind name) = Some parent
given_parent (Put node offset contents) = None
given_parent (Cut node size pages) = None
given_parent (Move node parent name) = Some parent
given_parent (Drop node) = None

-- the name that a change gives its node
abbrev pub given_name : Change → Option (List ℕ)
given_name (Make node parent kind name) = Some name
given_name (Put node offset contents) = None
given_name (Cut node size pages) = None
given_name (Move node parent name) = Some name
given_name (Drop node) = None

-- the name that it gives the node has at most 255 bytes
abbrev pub IsShort : Change → Type 0
IsShort (Make node parent kind name) = length name ≤ MOST_NAME_BYTES
IsShort (Put node offset contents) = ⊤
IsShort (Cut node size pages) = ⊤
IsShort (Move node parent name) = length name ≤ MOST_NAME_BYTES
IsShort (Drop node) = ⊤

-- the kind of the node, if the change makes it
abbrev pub kind_if : ℕ → Change → Option NodeKind
kind_if node c = if node_of c == node then kind_in c else None

-- as which kind the node was made last
abbrev pub made_kind : List Change → ℕ → Option NodeKind
made_kind [] node = None
made_kind (c ∷ cs) node = or_before (made_kind cs node) (kind_if node c)

-- 1 where it is so
abbrev pub one_if : Bool → ℕ
one_if b = if b then 1 else 0

-- do changes drop the node
abbrev pub drop_it : List Change → ℕ → Bool
drop_it cs node = list_any (λ c. is_drop c && node_of c == node) cs

-- how often changes make the node and do not drop it behind that
abbrev pub times_made : List Change → ℕ → ℕ
times_made [] node = 0
times_made (c ∷ cs) node = one_if (is_make c && node_of c == node && not (drop_it cs node)) + times_made cs node

-- this is what became of the node
pub record IsSeen (names : List Change) (node : ℕ) (s : NodeSeen) : Type 0 where
  pub last : slice_get names s.last ≡ last_of names node
  pub within : s.last < length names
  pub alone : last_of (drop (s.last + 1) names) node ≡ None
  pub made : s.made ≡ made_kind names node
  pub counted : times_made names node ≡ one_if s.is_counted

-- the map has what became of each node
pub record AreSeen (names : List Change) (nodes : List (NamedItem NodeSeen)) : Type 0 where
  pub there : (node : ℕ) (s : NodeSeen) → node < 2 ^ 64 → under nodes (number_bytes node) ≡ Some s → IsSeen names node s
  pub absent : (node : ℕ) → node < 2 ^ 64 → under nodes (number_bytes node) ≡ None → last_of names node ≡ None

-- what became of the node before, if anything did
abbrev pub WasSeen : List Change → ℕ → Option NodeSeen → Type 0
WasSeen names node None = last_of names node ≡ None
WasSeen names node (Some s) = IsSeen names node s

-- as which kind it was made before, if it was
abbrev pub was_made : Option NodeSeen → Option NodeKind
was_made None = None
was_made (Some s) = s.made

-- was it made before, and is it not dropped
abbrev pub was_counted : Option NodeSeen → Bool
was_counted None = false
was_counted (Some s) = s.is_counted
