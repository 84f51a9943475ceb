-- The way up to the root, as the nodes above a node by how many steps they are above it.
use Rattle.std.proofs.Common.{◌≡◌, ℕ, ◌+◌, ◌-◌, ◌<◌, ◌≤◌, ◌==◌, true, length, suc, zero, None, refl, ◌∙◌, ap, arith, inl, inr}
use Rattle.std.proofs.lemmas.Bool.{eq-eqb, eqb-true, or_cases, or_left, or_right}
use Rattle.std.specs.List.{list_any}
use Rattle.ktm_world.specs.Tree.{Tree, root, node_at, parent_of, way_up, is_at_or_below}

-- the node so many steps above
abbrev pub above : Tree → ℕ → ℕ → ℕ
above tree number zero = number
above tree number (suc steps) = above tree (parent_of (node_at tree number)) steps

pub way_up-from : (tree : Tree) (steps number other most : ℕ) → above tree number steps ≡ other → steps < most → list_any (λ n. n == other) (way_up tree number most) ≡ true
way_up-from tree steps number other zero is less = absurd (omega arith)
way_up-from tree zero number other (suc most) is less = or_left _ _ (eq-eqb number other is)
way_up-from tree (suc steps) number other (suc most) is less = or_right _ _ (way_up-from tree steps (parent_of (node_at tree number)) other most is (omega (arith, less)))

pub above-from_way : (tree : Tree) (most number other : ℕ) → list_any (λ n. n == other) (way_up tree number most) ≡ true
    → (steps : ℕ) × (steps < most) × (above tree number steps ≡ other)
above-from_way tree zero number other is = absurd (cc)
above-from_way tree (suc most) number other is = elim (or_cases (number == other) (list_any (λ n. n == other) (way_up tree (parent_of (node_at tree number)) most)) is) [
  | inl here ↦ (zero, omega arith, eqb-true _ _ here)
  | inr further ↦ let rest = above-from_way tree most (parent_of (node_at tree number)) other further in (suc rest.0, omega (arith, rest.1), rest.2)
]

pub is_at_or_below-from : (tree : Tree) (number other steps : ℕ) → above tree number steps ≡ other → steps ≤ length tree → is_at_or_below tree number other ≡ true
is_at_or_below-from tree number other steps is few = way_up-from tree steps number other (length tree + 1) is (omega (arith, few))

pub steps-from : (tree : Tree) (number other : ℕ) → is_at_or_below tree number other ≡ true → (steps : ℕ) × (steps ≤ length tree) × (above tree number steps ≡ other)
steps-from tree number other is = let way = above-from_way tree (length tree + 1) number other is in (way.0, omega (arith, way.1), way.2)

-- a step further, from the parent
pub above-step : (tree : Tree) (number parent steps other : ℕ) → parent_of (node_at tree number) ≡ parent → above tree parent steps ≡ other → above tree number (suc steps) ≡ other
above-step tree number parent steps other up way = ap (λ n. above tree n steps) up ∙ way

-- the way of a node, and then of the node that it comes to
pub above-add : (tree : Tree) (a b number : ℕ) → above tree number (a + b) ≡ above tree (above tree number a) b
above-add tree zero b number = let e : 0 + b ≡ b = omega arith in ap (above tree number) e
above-add tree (suc a) b number = let e : suc a + b ≡ suc (a + b) = omega arith in ap (above tree number) e ∙ above-add tree a b (parent_of (node_at tree number))

-- no node has the root's number, so above the root is the root alone
pub above-root : (tree : Tree) → node_at tree root ≡ None → (steps : ℕ) → above tree root steps ≡ root
above-root tree none zero = refl
above-root tree none (suc steps) = rw none (above-root tree none steps)

-- once the root is met, it stays
pub root-stays : (tree : Tree) → node_at tree root ≡ None → (number steps more : ℕ) → above tree number steps ≡ root → steps ≤ more → above tree number more ≡ root
root-stays tree none number steps more met longer =
    let e : more ≡ steps + (more - steps) = omega (arith, longer) in
    ap (above tree number) e ∙ above-add tree steps (more - steps) number ∙ ap (λ n. above tree n (more - steps)) met ∙ above-root tree none (more - steps)
