-- Lemmas on numbers that rise.
use Rattle.std.proofs.Common.{◌≡◌, ℕ, true, List, [], ◌∷◌, refl}
use Rattle.std.proofs.lemmas.Bool.{and_from, lt-ltb}
use Rattle.ktm_world.specs.Tree.{numbers_rise}
use Rattle.txf_nodes.specs.Indexes.{AreRising}
use Rattle.txf_nodes.specs.NodesState.{NodeOf, tree_in}

-- the numbers of nodes that rise
pub rise_now : {V : Type 0} (bytes : V → List ℕ) (nodes : List (NodeOf V)) → AreRising nodes → numbers_rise (tree_in bytes nodes) ≡ true
rise_now bytes [] rising = refl
rise_now bytes (x ∷ []) rising = refl
rise_now bytes (x ∷ y ∷ ys) rising = and_from _ _ (lt-ltb x.number y.number rising.0.0) (rise_now bytes (y ∷ ys) rising.1)
