-- The units of committed files, and how many nodes there are, once a change is made.
use Rattle.std.proofs.Common.{◌≡◌, ℕ, ◌+◌, ◌≤◌, ◌==◌, ◌&&◌, true, is_some, [], ◌∷◌, length, Option, Some, None, refl, sym, ap, arith, inl, inr}
use Rattle.std.proofs.lemmas.Bool.{cases_Bool, eqb-true, ne_eqb, true≢false}
use Rattle.std.proofs.lemmas.List.Sums.{sum_by-cons}
use Rattle.std.proofs.lemmas.Option.{same_Some}
use Rattle.std.specs.Prelude.{nat_lt}
use Rattle.ktm_world.specs.declared.change.Change.{Change}
use Rattle.ktm_world.specs.declared.change.Change.TheVariants.{Make, Put, Cut, Move, Drop}
use Rattle.ktm_world.specs.declared.change.NodeKind.TheVariants.{File, Directory}
use Rattle.ktm_world.specs.declared.recorded.Node.{Node}
use Rattle.ktm_world.specs.Changes.{changed, bytes_in, new_content, changes_bytes, is_drop, is_make, node_of}
use Rattle.ktm_world.specs.Tree.{Tree, node_at, content_of, is_file, bytes_or_none, bytes_of, units_of, cut_to, put_over, with_node, with_changed, without_node}
use Rattle.txf_volume.specs.Uses.{gain, loss, one_if}
use Rattle.ktm_world.proofs.offered.Lookups.{Above, Rises}
use Rattle.txf_volume.specs.Held.{node_units, tree_units}
use Rattle.txf_laws.proofs.offered.CommittedUnits.{units-with_node, changed-above, units-with_same, file-found}

-- the units of a node, where there is one
abbrev units_in : Option Node → ℕ
units_in o = units_of (bytes_or_none (content_of o))

-- without a number that no node has, the tree is as it was
without-above : (tree : Tree) (n m : ℕ) → Above n tree → m ≤ n → without_node tree m ≡ tree
without-above [] n m above low = refl
without-above (x ∷ xs) n m above low = rw (ne_eqb x.number m (λ e. omega (arith, above.0))) (ap (λ ys. x ∷ ys) (without-above xs n m above.1 low))

units-without_node : (tree : Tree) (n : ℕ) → Rises tree → tree_units (without_node tree n) + units_in (node_at tree n) ≡ tree_units tree
units-without_node [] n rises = omega arith
units-without_node (x ∷ xs) n rises =
    let all = sum_by-cons node_units x xs in
    elim (cases_Bool (x.number == n)) [
      | inl here ↦ rw here (let same = ap tree_units (without-above xs x.number n rises.0 (omega (arith, eqb-true _ _ here))) in omega arith)
      | inr other ↦ rw other (let rest = units-without_node xs n rises.1 in let b = sum_by-cons node_units x (without_node xs n) in omega arith)
    ]

nodes-without_node : (tree : Tree) (n : ℕ) → Rises tree → length (without_node tree n) + one_if (is_some (node_at tree n)) ≡ length tree
nodes-without_node [] n rises = omega arith
nodes-without_node (x ∷ xs) n rises = elim (cases_Bool (x.number == n)) [
  | inl here ↦ rw here (let same = ap length (without-above xs x.number n rises.0 (omega (arith, eqb-true _ _ here))) in omega arith)
  | inr other ↦ rw other (let rest = nodes-without_node xs n rises.1 in omega arith)
]

units-with_changed : (tree : Tree) (n : ℕ) (f : Node → Node) (node : Node) → Rises tree → node_at tree n ≡ Some node → tree_units (with_changed tree n f) + node_units node ≡ tree_units tree + node_units (f node)
units-with_changed [] n f node rises found = absurd (true≢false (sym (ap is_some found)))
units-with_changed (x ∷ xs) n f node rises found =
    let all = sum_by-cons node_units x xs in
    elim (cases_Bool (x.number == n)) [
      | inl here ↦
          let is : x ≡ node = same_Some x node (rw here at found) in
          let rest : with_changed xs n f ≡ xs = changed-above xs x.number n f rises.0 (omega (arith, eqb-true _ _ here)) in
          rw here (let new = sum_by-cons node_units (f x) (with_changed xs n f) in let tail = ap tree_units rest in let e = ap node_units is in let e' = ap (λ y. node_units (f y)) is in omega arith)
      | inr other ↦ rw other (let rest = units-with_changed xs n f node rises.1 (rw other at found) in let new = sum_by-cons node_units x (with_changed xs n f) in omega arith)
    ]

pub units-changed : (tree : Tree) (c : Change) → (changes_bytes c ≡ true → is_file tree (node_of c) ≡ true) → Rises tree
    → tree_units (changed tree c) + loss (bytes_of tree (node_of c)) c ≡ tree_units tree + gain (bytes_of tree (node_of c)) c
units-changed tree (Make node parent File name) file rises = let all = units-with_node tree (record { number = node; parent = parent; name = name; content = Some [] }) in omega arith
units-changed tree (Make node parent Directory name) file rises = let all = units-with_node tree (record { number = node; parent = parent; name = name; content = None }) in omega arith
units-changed tree (Put node offset contents) file rises =
    let found = file-found tree node (file refl) in
    let all = units-with_changed tree node (λ n. record n { content = Some (put_over (bytes_or_none n.content) offset (bytes_in contents)) }) found.0 rises found.1 in
    let old = ap (λ o. units_of (bytes_or_none (content_of o))) found.1 in
    let new = ap (λ o. units_of (put_over (bytes_or_none (content_of o)) offset (bytes_in contents))) found.1 in
    omega arith
units-changed tree (Cut node size pages) file rises =
    let found = file-found tree node (file refl) in
    let all = units-with_changed tree node (λ n. record n { content = Some (cut_to (bytes_or_none n.content) size) }) found.0 rises found.1 in
    let old = ap (λ o. units_of (bytes_or_none (content_of o))) found.1 in
    let new = ap (λ o. units_of (cut_to (bytes_or_none (content_of o)) size)) found.1 in
    omega arith
units-changed tree (Move node parent name) file rises = let all = units-with_same tree node (λ n. record n { parent = parent; name = name }) (λ x. refl) in omega arith
units-changed tree (Drop node) file rises = let all = units-without_node tree node rises in omega arith

nodes-with_node : (tree : Tree) (node : Node) → length (with_node tree node) ≡ length tree + 1
nodes-with_node [] node = omega arith
nodes-with_node (n ∷ ns) node = elim (cases_Bool (nat_lt node.number n.number)) [
  | inl before ↦ rw before (omega arith)
  | inr behind ↦ rw behind (let rest = nodes-with_node ns node in omega arith)
]

nodes-with_changed : (tree : Tree) (n : ℕ) (f : Node → Node) → length (with_changed tree n f) ≡ length tree
nodes-with_changed [] n f = refl
nodes-with_changed (x ∷ xs) n f = let rest = nodes-with_changed xs n f in omega arith

pub nodes-changed : (tree : Tree) (c : Change) → Rises tree → length (changed tree c) + one_if (is_drop c && is_some (node_at tree (node_of c))) ≡ length tree + one_if (is_make c)
nodes-changed tree (Make node parent kind name) rises = let all = nodes-with_node tree (record { number = node; parent = parent; name = name; content = new_content kind }) in omega arith
nodes-changed tree (Put node offset contents) rises = let all = nodes-with_changed tree node (λ n. record n { content = Some (put_over (bytes_or_none n.content) offset (bytes_in contents)) }) in omega arith
nodes-changed tree (Cut node size pages) rises = let all = nodes-with_changed tree node (λ n. record n { content = Some (cut_to (bytes_or_none n.content) size) }) in omega arith
nodes-changed tree (Move node parent name) rises = let all = nodes-with_changed tree node (λ n. record n { parent = parent; name = name }) in omega arith
nodes-changed tree (Drop node) rises = let all = nodes-without_node tree node rises in omega arith
