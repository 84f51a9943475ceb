-- What lists of changes hold, and when two of them apply in both orders.
use Rattle.std.specs.Prelude.{◌≡◌, ℕ, ◌&&◌, true, false, List, map}
use Rattle.std.specs.List.{list_any}
use Rattle.ktm_world.specs.declared.change.Change.{Change}
use Rattle.ktm_world.specs.Changes.{changed_all, changes_apply, is_make, node_of, has_made}
use Rattle.ktm_world.specs.Durable.{acts_of_all}
use Rattle.ktm_world.specs.Holds.{Place, each_change, holds_by, meets, same_place, places_of, dropped_directory, moved_directory}
use Rattle.ktm_world.specs.Tree.{Tree, IsWellFormed}
use Rattle.txf_laws.specs.Elements.{IsIn}

-- what changes hold: their nodes, their names, and the directories that they drop and that they move
pub record Footprint : Type 0 where
  pub nodes : List ℕ
  pub places : List Place
  pub dropped : List ℕ
  pub moved : List ℕ

-- what these changes hold, each on the tree that the earlier ones make
abbrev pub footprint : Tree → List Change → Footprint
footprint tree cs = record {
  nodes = map node_of cs;
  places = each_change places_of tree cs;
  dropped = each_change dropped_directory tree cs;
  moved = each_change moved_directory tree cs;
}

-- no node and no name is held by both, neither drops a directory in which the other holds a name, and not both move directories
pub record AreFootprintsApart (a b : Footprint) : Type 0 where
  pub nodes : (n : ℕ) → IsIn n a.nodes → IsIn n b.nodes → ⊥
  pub places : (p q : Place) → IsIn p a.places → IsIn q b.places → same_place p q ≡ false
  pub left_stays : (n : ℕ) (p : Place) → IsIn n a.dropped → IsIn p b.places → n ≡ p.directory → ⊥
  pub right_stays : (n : ℕ) (p : Place) → IsIn n b.dropped → IsIn p a.places → n ≡ p.directory → ⊥
  pub moves : (n m : ℕ) → IsIn n a.moved → IsIn m b.moved → ⊥

-- after the first changes the second ones apply, and hold what they held without them
pub record Stays (tree : Tree) (bs cs : List Change) : Type 0 where
  pub applies : changes_apply (changed_all tree bs) cs ≡ true
  pub footprint : footprint (changed_all tree bs) cs ≡ footprint tree cs

-- two lists of changes that apply to a well-formed tree, and whose footprints are apart, apply in both orders, hold what they held, and make the same tree
abbrev pub ListsLaw : Type 0
ListsLaw = (tree : Tree) (bs cs : List Change) → IsWellFormed tree → changes_apply tree bs ≡ true → changes_apply tree cs ≡ true
    → AreFootprintsApart (footprint tree bs) (footprint tree cs)
    → Stays tree bs cs × Stays tree cs bs × (changed_all (changed_all tree bs) cs ≡ changed_all (changed_all tree cs) bs)

-- changes that meet no hold of others on the same tree, and make no node that those make, are apart from them, whatever files those have open for writing
abbrev pub MeetingLaw : Type 0
MeetingLaw = (tree : Tree) (bs cs : List Change) (writes : List ℕ) → changes_apply tree bs ≡ true → changes_apply tree cs ≡ true
    → list_any (meets (holds_by tree bs writes)) (acts_of_all tree cs) ≡ false → list_any (λ c. is_make c && has_made bs (node_of c)) cs ≡ false
    → AreFootprintsApart (footprint tree bs) (footprint tree cs)
