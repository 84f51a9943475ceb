-- When two changes apply in both orders.
use Rattle.std.specs.Prelude.{◌≡◌, ◌&&◌, true, false, map}
use Rattle.std.specs.List.{list_any}
use Rattle.ktm_world.specs.declared.change.Change.{Change}
use Rattle.ktm_world.specs.Changes.{changed, applies, node_of}
use Rattle.ktm_world.specs.Holds.{meet_in, same_place, places_of, dropped_directory, moved_directory}
use Rattle.ktm_world.specs.Tree.{Tree, IsWellFormed}

-- the changes are of two nodes, no name is held by both, neither drops a directory in which the other holds a name, and not both move directories
pub record AreApart (tree : Tree) (b c : Change) : Type 0 where
  pub nodes : node_of b ≡ node_of c → ⊥
  pub places : list_any (λ p. list_any (same_place p) (places_of tree c)) (places_of tree b) ≡ false
  pub left_stays : meet_in (dropped_directory tree b) (map (λ p. p.directory) (places_of tree c)) ≡ false
  pub right_stays : meet_in (dropped_directory tree c) (map (λ p. p.directory) (places_of tree b)) ≡ false
  pub moves : (list_any (λ n. true) (moved_directory tree b) && list_any (λ n. true) (moved_directory tree c)) ≡ false

-- after the first change the second one applies, and holds what it would hold without it
pub record Follows (tree : Tree) (b c : Change) : Type 0 where
  pub applies : applies (changed tree b) c ≡ true
  pub places : places_of (changed tree b) c ≡ places_of tree c
  pub dropped : dropped_directory (changed tree b) c ≡ dropped_directory tree c
  pub moved : moved_directory (changed tree b) c ≡ moved_directory tree c

-- two changes that apply to a well-formed tree and are apart apply in both orders, hold what they held, and make the same tree
abbrev pub DiamondLaw : Type 0
DiamondLaw = (tree : Tree) (b c : Change) → IsWellFormed tree → applies tree b ≡ true → applies tree c ≡ true → AreApart tree b c
    → Follows tree b c × Follows tree c b × (changed (changed tree b) c ≡ changed (changed tree c) b)
