-- What a transaction sees of names over a committed tree.
use Rattle.std.specs.Prelude.{◌≡◌, ℕ, true, List, [], ◌∷◌, ◌++◌, bytes_eq, Option, Some, None, if◌then◌else◌}
use Rattle.ktm_world.specs.declared.change.Change.{Change}
use Rattle.ktm_world.specs.declared.change.Change.TheVariants.{Make, Put, Cut, Move, Drop}
use Rattle.ktm_world.specs.declared.recorded.Node.{Node}
use Rattle.ktm_world.specs.Changes.{changes_apply}
use Rattle.ktm_world.specs.Holds.{Place, place, each_change}
use Rattle.ktm_world.specs.Tree.{Tree, IsWellFormed, node_at}
use Rattle.txf_overlay.specs.Names.{place_bytes}
use Rattle.txf_overlay.specs.OverlayState.{OverlayState, Seat, seen}

-- the later one, if there is one, and else the earlier one
abbrev pub or_before : {X : Type 0} → Option X → Option X → Option X
or_before (Some x) before = Some x
or_before None before = before

-- which node stands there now, if the seat is at the place
abbrev pub if_at : List ℕ → Seat → Option (Option ℕ)
if_at name s = if bytes_eq s.place name then Some s.node else None

-- which node stands at the place now, if it is held
abbrev pub seat_at : List Seat → List ℕ → Option (Option ℕ)
seat_at [] name = None
seat_at (s ∷ ss) name = or_before (if_at name s) (seat_at ss name)

-- which node stands at the place at the last, if there is a seat at it
abbrev pub last_seat : List Seat → List ℕ → Option (Option ℕ)
last_seat [] name = None
last_seat (s ∷ ss) name = or_before (last_seat ss name) (if_at name s)

-- a place, and the node that stands there
abbrev pub seat : Place → Option ℕ → Seat
seat p node = record { place = place_bytes p; node = node }

-- the place that a node leaves, at which none stands then
abbrev pub left_by : Option Node → List Seat
left_by None = []
left_by (Some node) = seat (place node.parent node.name) None ∷ []

-- what a change of this tree makes of the places that it holds
abbrev pub seats_of : Tree → Change → List Seat
seats_of tree (Make node parent kind name) = seat (place parent name) (Some node) ∷ []
seats_of tree (Put node offset contents) = []
seats_of tree (Cut node size pages) = []
seats_of tree (Move node parent name) = left_by (node_at tree node) ++ seat (place parent name) (Some node) ∷ []
seats_of tree (Drop node) = left_by (node_at tree node)

-- the changes apply to the tree, which is well formed before and behind them, and what is held is what they make of the places in it
pub record StandsOver (tree : Tree) (o : OverlayState) : Type 0 where
  pub before : IsWellFormed tree
  pub after : IsWellFormed (seen tree o)
  pub applies : changes_apply tree o.names ≡ true
  pub held : (name : List ℕ) → seat_at o.held name ≡ last_seat (each_change seats_of tree o.names) name
