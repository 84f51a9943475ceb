-- Lemmas on the way up from a node.
use Rattle.std.proofs.Common.{◌≡◌, ℕ, zero, suc, Bool, true, false, eqb, refl, ap, ◌∙◌}
use Rattle.std.specs.List.{list_any}
use Rattle.ktm_world.specs.Tree.{Tree, node_at, parent_of, way_up}

-- is a node among so many on the way up
abbrev pub is_up : Tree → ℕ → ℕ → ℕ → Bool
is_up tree number other most = list_any (λ n. eqb n other) (way_up tree number most)

pub is_up-here : (tree : Tree) (number other most left : ℕ) → most ≡ suc left → eqb number other ≡ true → is_up tree number other most ≡ true
is_up-here tree number other most left more here = rw (more, here) refl

pub is_up-next : (tree : Tree) (number other most left : ℕ) → most ≡ suc left → eqb number other ≡ false
    → is_up tree number other most ≡ is_up tree (parent_of (node_at tree number)) other left
is_up-next tree number other most left more apart = rw (more, apart) refl

-- above a node that is its own parent there is only that
pub is_up-end : (tree : Tree) (number other most : ℕ) → parent_of (node_at tree number) ≡ number → eqb number other ≡ false → is_up tree number other most ≡ false
is_up-end tree number other zero own apart = refl
is_up-end tree number other (suc most) own apart =
    rw apart (ap (λ n. is_up tree n other most) own ∙ is_up-end tree number other most own apart)
