-- By which keys it is sorted what transactions hold. No public clause cites this module.
use Rattle.std.specs.Prelude.{◌≡◌, ℕ, ◌+◌, ◌*◌, true, List, [], ◌∷◌}
use Rattle.ktm_base.specs.declared.id.Id.{Id}
use Rattle.ktm_world.specs.Holds.{Place}
use Rattle.ktm_links.specs.Numbers.{long_bytes}
use Rattle.txf_reserve.specs.HeldPairs.{has_pair, number_from, Pair}
use Rattle.txf_reserve.specs.ReserveState.{NumberHeld, PlaceHeld}

-- the key of a file or a directory
abbrev pub node_key : ℕ → List ℕ
node_key n = long_bytes n []

-- the key of a name in a directory
abbrev pub place_key : Place → List ℕ
place_key p = long_bytes p.directory p.name

-- the number whose key this is
abbrev pub node_of_key : List ℕ → ℕ
node_of_key (h3 ∷ h2 ∷ h1 ∷ h0 ∷ l3 ∷ l2 ∷ l1 ∷ l0 ∷ rest) = 4294967296 * number_from h3 h2 h1 h0 + number_from l3 l2 l1 l0
node_of_key _ = 0

-- the place whose key this is
abbrev pub place_of_key : List ℕ → Place
place_of_key (h3 ∷ h2 ∷ h1 ∷ h0 ∷ l3 ∷ l2 ∷ l1 ∷ l0 ∷ name) =
    record { directory = 4294967296 * number_from h3 h2 h1 h0 + number_from l3 l2 l1 l0; name = name }
place_of_key _ = record { directory = 0; name = [] }

-- what the pair of such a key says
abbrev pub number_held : Pair → NumberHeld
number_held p = record { number = node_of_key p.key; transaction = p.transaction }

-- what the pair of such a key says
abbrev pub place_held : Pair → PlaceHeld
place_held p = record { place = place_of_key p.key; transaction = p.transaction }

-- the transaction of a pair
abbrev pub holder_of : Pair → Id
holder_of p = p.transaction

-- the key of some file or directory
pub record IsNodeKey (key : List ℕ) : Type 0 where
  pub number : ℕ
  pub is : key ≡ node_key number

-- the key of some name
pub record IsPlaceKey (key : List ℕ) : Type 0 where
  pub place : Place
  pub is : key ≡ place_key place

-- the pairs' keys are such
abbrev pub AreKeys : (List ℕ → Type 0) → List Pair → Type 0
AreKeys P pairs = (key : List ℕ) (id : Id) → has_pair pairs key id ≡ true → P key

-- the keys of each set are of its kind
pub record AreReserved (nodes places uses dropped moves : List Pair) : Type 0 where
  pub nodes_are : AreKeys IsNodeKey nodes
  pub places_are : AreKeys IsPlaceKey places
  pub uses_are : AreKeys IsNodeKey uses
  pub dropped_are : AreKeys IsNodeKey dropped
  pub moves_are : AreKeys (λ key. key ≡ []) moves
