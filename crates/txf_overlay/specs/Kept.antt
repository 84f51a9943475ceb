-- How the parts of what a transaction changed stand to each other. No public clause cites this module.
use Rattle.std.specs.Prelude.{◌≡◌, ℕ, true, List, map, Option}
use Rattle.std.specs.List.{list_all}
use Rattle.ktm_links.specs.Mapped.{NamedItem}
use Rattle.ktm_world.specs.declared.change.Change.{Change}
use Rattle.ktm_world.specs.Changes.{nodes_made}
use Rattle.txf_overlay.specs.declared.node.NodeSeen.{NodeSeen}
use Rattle.txf_overlay.specs.Nodes.{AreSeen}
use Rattle.txf_overlay.specs.OverlayState.{Seat, is_of_names}

-- the seat of an entry
abbrev pub seat_in : NamedItem (Option ℕ) → Seat
seat_in e = record { place = e.name; node = e.value }

-- the seats alone
abbrev pub seats_in : List (NamedItem (Option ℕ)) → List Seat
seats_in entries = map seat_in entries

-- the map and the count stand for the changes of names
pub record AreNamesKept (names : List Change) (seen : List (NamedItem NodeSeen)) (made : ℕ) : Type 0 where
  pub only : list_all is_of_names names ≡ true
  pub nodes : AreSeen names seen
  pub count : made ≡ nodes_made names
