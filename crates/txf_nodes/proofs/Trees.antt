-- Lemmas on trees of which a node is changed.
use Rattle.std.proofs.Common.{◌≡◌, ℕ, eqb, [], ◌∷◌, refl, ap, inl, inr}
use Rattle.std.proofs.lemmas.Bool.{cases_Bool}
use Rattle.ktm_world.specs.Tree.{Tree, with_changed}

pub with_changed-same : (tree : Tree) (n : ℕ) → with_changed tree n (λ node. node) ≡ tree
with_changed-same [] n = refl
with_changed-same (y ∷ ys) n =
    elim (cases_Bool (eqb y.number n)) [
      | inl same ↦ rw same (ap (λ l. y ∷ l) (with_changed-same ys n))
      | inr differs ↦ rw differs (ap (λ l. y ∷ l) (with_changed-same ys n))
    ]
