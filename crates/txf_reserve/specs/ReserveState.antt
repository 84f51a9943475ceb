-- What a contract sees of what undecided transactions hold.
use Rattle.std.specs.Prelude.{◌≡◌, ℕ, ◌&&◌, ◌||◌, Bool, List, [], filter, map}
use Rattle.std.specs.List.{list_any}
use Rattle.ktm_base.specs.declared.id.Id.{Id}
use Rattle.ktm_world.specs.Files.{FilesNow, own_changes}
use Rattle.ktm_world.specs.Holds.{Holds, Place, directories_of, holds_by, is_in, is_place_in}
use Rattle.ktm_world.specs.Transactions.{same_id}

-- a transaction holds a file or a directory, or its use
pub record NumberHeld : Type 0 where
  pub number : ℕ
  pub transaction : Id

-- a transaction holds a name
pub record PlaceHeld : Type 0 where
  pub place : Place
  pub transaction : Id

-- what is held by changes, and by how many changes more it can be without memory
pub record ReserveState : Type 0 where
  -- the files and directories
  pub nodes : List NumberHeld
  -- the names
  pub places : List PlaceHeld
  -- the use of directories
  pub uses : List NumberHeld
  -- the directories that are dropped
  pub dropped : List NumberHeld
  -- the right to move directories
  pub moves : List Id
  pub spare : ℕ

-- the numbers that a transaction holds
abbrev pub numbers_of : List NumberHeld → Id → List ℕ
numbers_of held id = map (λ h. h.number) (filter (λ h. same_id h.transaction id) held)

-- the names that a transaction holds
abbrev pub names_of : List PlaceHeld → Id → List Place
names_of held id = map (λ h. h.place) (filter (λ h. same_id h.transaction id) held)

-- what a transaction holds by its changes
abbrev pub holds_in : ReserveState → Id → Holds
holds_in state id = record {
  nodes = numbers_of state.nodes id;
  places = names_of state.places id;
  uses = numbers_of state.uses id;
  dropped = numbers_of state.dropped id;
  moves = list_any (λ i. same_id i id) state.moves;
}

-- both hold the same, in whatever order and however often
pub record IsSameHold (a b : Holds) : Type 0 where
  pub nodes : (n : ℕ) → is_in a.nodes n ≡ is_in b.nodes n
  pub places : (p : Place) → is_place_in a.places p ≡ is_place_in b.places p
  pub uses : (n : ℕ) → is_in a.uses n ≡ is_in b.uses n
  pub dropped : (n : ℕ) → is_in a.dropped n ≡ is_in b.dropped n
  pub moves : a.moves ≡ b.moves

-- each transaction holds what it holds of the files by its changes
abbrev pub Keeps : ReserveState → FilesNow → Type 0
Keeps state files = (id : Id) → IsSameHold (holds_in state id) (holds_by files.tree (own_changes files.table.own id) [])

-- the transaction holds these nodes, names and dropped directories too, and the right to move directories, if it moves one; each other holds what it did
pub record HoldsToo (numbers : List ℕ) (places : List Place) (dropped : List ℕ) (moves : Bool) (id : Id) (r r' : ReserveState) : Type 0 where
  pub nodes : (who : Id) (n : ℕ) → is_in (holds_in r' who).nodes n ≡ (is_in (holds_in r who).nodes n || (same_id who id && is_in numbers n))
  pub names : (who : Id) (p : Place) → is_place_in (holds_in r' who).places p ≡ (is_place_in (holds_in r who).places p || (same_id who id && is_place_in places p))
  pub uses : (who : Id) (n : ℕ) → is_in (holds_in r' who).uses n ≡ (is_in (holds_in r who).uses n || (same_id who id && is_in (directories_of places) n))
  pub drops : (who : Id) (n : ℕ) → is_in (holds_in r' who).dropped n ≡ (is_in (holds_in r who).dropped n || (same_id who id && is_in dropped n))
  pub right : (who : Id) → (holds_in r' who).moves ≡ ((holds_in r who).moves || (same_id who id && moves))
