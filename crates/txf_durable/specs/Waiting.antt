-- What transactions that wait hold of the files by their changes, and which changes meet it.
use Rattle.std.specs.Prelude.{◌≡◌, ◌&&◌, ◌||◌, true, false, Bool, List, [], map, Option}
use Rattle.std.specs.List.{list_any}
use Rattle.ktm_base.specs.declared.id.Id.{Id}
use Rattle.ktm_world.specs.declared.change.Change.{Change}
use Rattle.ktm_world.specs.Changes.{is_make, node_of}
use Rattle.ktm_world.specs.Durable.{acts_of_all}
use Rattle.ktm_world.specs.Holds.{dropped_directory, each_change, holds_by, moved_directory, places_of}
use Rattle.ktm_world.specs.Transactions.{same_id}
use Rattle.ktm_world.specs.Tree.{Tree}
use Rattle.txf_reserve.specs.Checks.{is_number_held, meets_another}
use Rattle.txf_reserve.specs.ReserveState.{ReserveState, holds_in, HoldsToo, IsSameHold}

-- the transaction holds nothing
abbrev pub HoldsNothing : ReserveState → Id → Type 0
HoldsNothing r id = IsSameHold (holds_in r id) (holds_by [] [] [])

-- each transaction but this one holds what it did
abbrev pub KeepsOthers : Id → ReserveState → ReserveState → Type 0
KeepsOthers id r r' = (other : Id) → same_id other id ≡ false → IsSameHold (holds_in r' other) (holds_in r other)

-- do changes meet what another transaction holds, or make a node that another one made
unfoldable pub is_met : ReserveState → Option Id → Tree → List Change → Bool
is_met r who tree changes =
    list_any (meets_another r [] who) (acts_of_all tree changes) || list_any (λ change. is_make change && is_number_held who r.nodes (node_of change)) changes

-- the transaction holds what changes of this tree hold, too; each other holds what it did
abbrev pub HoldsChanges : Tree → List Change → Id → ReserveState → ReserveState → Type 0
HoldsChanges tree changes id r r' =
    HoldsToo (map node_of changes) (each_change places_of tree changes) (each_change dropped_directory tree changes) (list_any (λ node. true) (each_change moved_directory tree changes)) id r r'
