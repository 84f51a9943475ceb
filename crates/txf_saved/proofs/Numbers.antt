-- The least number behind all nodes.
use Rattle.std.proofs.Common.{◌≡◌, ℕ, ◌+◌, ◌<◌, ◌≤◌, ◌==◌, true, [], ◌∷◌, Some, refl, arith, inl, inr}
use Rattle.std.specs.List.{list_all}
use Rattle.std.specs.Prelude.{max, nat_lt}
use Rattle.std.proofs.lemmas.Bool.{cases_Bool, and_parts, and_from, eqb-true, ltb-true, lt-ltb}
use Rattle.std.proofs.lemmas.Option.{none-some}
use Rattle.ktm_world.specs.declared.recorded.Node.{Node}
use Rattle.ktm_world.specs.Tree.{Tree, node_at, with_node}
use Rattle.txf_saved.specs.Saved.{number_behind, LeastBehind}

pub behind-with_node : (tree : Tree) (x : Node) → number_behind (with_node tree x) ≡ max (number_behind tree) (x.number + 1)
behind-with_node [] x = omega arith
behind-with_node (n ∷ ns) x = elim (cases_Bool (nat_lt x.number n.number)) [
  | inl before ↦ rw before (omega arith)
  | inr behind ↦ rw behind (let ih = behind-with_node ns x in omega (arith, ih))
]

pub behind-at : (tree : Tree) (n : ℕ) (x : Node) → node_at tree n ≡ Some x → n < number_behind tree
behind-at [] n x found = absurd (none-some x found)
behind-at (y ∷ ys) n x found = elim (cases_Bool (y.number == n)) [
  | inl is ↦ omega (arith, eqb-true _ _ is)
  | inr other ↦ let ih = behind-at ys n x (rw other at found) in omega (arith, ih)
]

pub least_behind : LeastBehind
least_behind tree next = (forth tree, λ given. back tree given.0 given.1)
  where
    forth : (tree : Tree) → number_behind tree ≤ next → (2 ≤ next) × (list_all (λ node. nat_lt node.number next) tree ≡ true)
    forth [] low = (omega (arith, low), refl)
    forth (n ∷ ns) low =
        let rest = forth ns (omega (arith, low)) in
        (rest.0, and_from _ _ (lt-ltb n.number next (omega (arith, low))) rest.1)

    back : (tree : Tree) → 2 ≤ next → list_all (λ node. nat_lt node.number next) tree ≡ true → number_behind tree ≤ next
    back [] from all = omega (arith, from)
    back (n ∷ ns) from all =
        let parts = and_parts (nat_lt n.number next) (list_all (λ node. nat_lt node.number next) ns) all in
        omega (arith, ltb-true _ _ parts.0, back ns from parts.1)
