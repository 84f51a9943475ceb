-- Lemmas on the units of a tree of which one node changes.
use Rattle.std.proofs.Common.{◌≡◌, ℕ, ◌+◌, ◌≤◌, ◌==◌, true, List, [], ◌∷◌, None, Some, nat_lt, refl, ap, arith, inl, inr}
use Rattle.std.proofs.lemmas.Bool.{and_parts, cases_Bool, eq-eqb, eqb-true, ltb-true, ne_eqb}
use Rattle.std.proofs.lemmas.List.Sums.{sum_by-cons}
use Rattle.ktm_world.specs.declared.change.Change.{Change}
use Rattle.ktm_world.specs.declared.change.Change.TheVariants.{Make, Put, Cut, Move, Drop}
use Rattle.ktm_world.specs.declared.recorded.Node.{Node}
use Rattle.ktm_world.specs.Changes.{changed, new_content, node_of}
use Rattle.ktm_world.specs.Tree.{Tree, bytes_of, bytes_or_none, numbers_rise, units_of, with_changed, with_node, without_node}
use Rattle.ktm_world.specs.declared.change.NodeKind.{NodeKind}
use Rattle.ktm_world.specs.declared.change.NodeKind.TheVariants.{File, Directory}
use Rattle.txf_durable.specs.State.{tree_units}

-- the units of the file with this number
abbrev units_at : Tree → ℕ → ℕ
units_at tree n = units_of (bytes_of tree n)

rise-behind : (node : Node) (tree : Tree) → numbers_rise (node ∷ tree) ≡ true → numbers_rise tree ≡ true
rise-behind node [] rise = refl
rise-behind node (n ∷ ns) rise = (and_parts (nat_lt node.number n.number) (numbers_rise (n ∷ ns)) rise).1

-- no node behind another one has its number
none-behind : (node : Node) (tree : Tree) (n : ℕ) → numbers_rise (node ∷ tree) ≡ true → n ≤ node.number → without_node tree n ≡ tree
none-behind node [] n rise low = refl
none-behind node (m ∷ ms) n rise low =
    let parts = and_parts (nat_lt node.number m.number) (numbers_rise (m ∷ ms)) rise in
    let less = ltb-true node.number m.number parts.0 in
    rw (ne_eqb m.number n (λ e. omega (arith, e, less, low))) (ap (λ l. m ∷ l) (none-behind m ms n parts.1 (omega (arith, less, low))))

-- the units of a file are among those of the tree
pub units-apart : (tree : Tree) (n : ℕ) → numbers_rise tree ≡ true → tree_units (without_node tree n) + units_at tree n ≡ tree_units tree
units-apart [] n rise = omega arith
units-apart (x ∷ xs) n rise =
    let all = sum_by-cons (λ (node : Node). units_of (bytes_or_none node.content)) x xs in
    elim (cases_Bool (x.number == n)) [
      | inl here ↦ rw here (let same = ap tree_units (none-behind x xs n rise (omega (arith, eqb-true _ _ here))) in omega arith)
      | inr other ↦
          rw other
          (let rest = units-apart xs n (rise-behind x xs rise) in
          let some = sum_by-cons (λ (node : Node). units_of (bytes_or_none node.content)) x (without_node xs n) in
          omega arith)
    ]

-- ---- the other nodes stay

without-with : (tree : Tree) (node : Node) → without_node (with_node tree node) node.number ≡ without_node tree node.number
without-with [] node = rw (eq-eqb node.number node.number refl) refl
without-with (n ∷ ns) node = elim (cases_Bool (nat_lt node.number n.number)) [
  | inl before ↦ rw (before, eq-eqb node.number node.number refl) refl
  | inr behind ↦ elim (cases_Bool (n.number == node.number)) [
    | inl same ↦ rw (behind, same) (without-with ns node)
    | inr other ↦ rw (behind, other) (ap (λ l. n ∷ l) (without-with ns node))
  ]
]

without-changed : (tree : Tree) (n : ℕ) (f : Node → Node) → ((node : Node) → (f node).number ≡ node.number) → without_node (with_changed tree n f) n ≡ without_node tree n
without-changed [] n f kept = refl
without-changed (x ∷ xs) n f kept = elim (cases_Bool (x.number == n)) [
  | inl same ↦ rw (same, eq-eqb (f x).number n (omega (arith, kept x, eqb-true _ _ same))) (without-changed xs n f kept)
  | inr other ↦ rw (other, other) (ap (λ l. x ∷ l) (without-changed xs n f kept))
]

without-twice : (tree : Tree) (n : ℕ) → without_node (without_node tree n) n ≡ without_node tree n
without-twice [] n = refl
without-twice (x ∷ xs) n = elim (cases_Bool (x.number == n)) [
  | inl same ↦ rw same (without-twice xs n)
  | inr other ↦ rw (other, other) (ap (λ l. x ∷ l) (without-twice xs n))
]

others-stay : (tree : Tree) (c : Change) → without_node (changed tree c) (node_of c) ≡ without_node tree (node_of c)
others-stay tree (Make node parent kind name) = without-with tree (record { number = node; parent = parent; name = name; content = new_content kind })
others-stay tree (Put node offset contents) = without-changed tree node _ (λ n. refl)
others-stay tree (Cut node size pages) = without-changed tree node _ (λ n. refl)
others-stay tree (Move node parent name) = without-changed tree node _ (λ n. refl)
others-stay tree (Drop node) = without-twice tree node

-- a change takes the units that its file had, and gives those that it has then
pub units-after : (tree : Tree) (c : Change) → numbers_rise tree ≡ true → numbers_rise (changed tree c) ≡ true
    → tree_units (changed tree c) + units_at tree (node_of c) ≡ tree_units tree + units_at (changed tree c) (node_of c)
units-after tree c rise rise' =
    let before = units-apart tree (node_of c) rise in
    let after = units-apart (changed tree c) (node_of c) rise' in
    let same = ap tree_units (others-stay tree c) in
    omega (arith, before, after, same)

-- ---- a node that comes

-- a node that has no units adds none
units-with : (tree : Tree) (node : Node) → units_of (bytes_or_none node.content) ≡ 0 → tree_units (with_node tree node) ≡ tree_units tree
units-with [] node none = let all = sum_by-cons (λ (node : Node). units_of (bytes_or_none node.content)) node [] in omega (arith, all, none)
units-with (n ∷ ns) node none =
    let all = sum_by-cons (λ (node : Node). units_of (bytes_or_none node.content)) n ns in
    elim (cases_Bool (nat_lt node.number n.number)) [
      | inl before ↦ rw before (let more = sum_by-cons (λ (node : Node). units_of (bytes_or_none node.content)) node (n ∷ ns) in omega (arith, more, none))
      | inr behind ↦
          rw behind
          (let rest = units-with ns node none in
          let more = sum_by-cons (λ (node : Node). units_of (bytes_or_none node.content)) n (with_node ns node) in
          omega (arith, rest, more, all))
    ]

pub units-made : (tree : Tree) (node parent : ℕ) (kind : NodeKind) (name : List ℕ) → tree_units (changed tree (Make node parent kind name)) ≡ tree_units tree
units-made tree node parent File name = units-with tree (record { number = node; parent = parent; name = name; content = Some [] }) refl
units-made tree node parent Directory name = units-with tree (record { number = node; parent = parent; name = name; content = None }) refl
