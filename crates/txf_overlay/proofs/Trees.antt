-- Lemmas on trees by their lookups, and on what a change makes of them.
use Rattle.std.proofs.Common.{◌≡◌, ℕ, ◌==◌, not, Bool, true, false, cond, is_some, find, [], ◌∷◌, Option, Some, None, All, refl, sym, ◌∙◌, arith, inl, inr}
use Rattle.std.specs.Bool.{⊤}
use Rattle.std.proofs.lemmas.Bool.{cases_Bool, cases_eq, eq-eqb, ne_eqb, eqb-true, and_parts, or_parts, not-true}
use Rattle.std.proofs.lemmas.List.Elements.{All-head, All-tail}
use Rattle.std.proofs.lemmas.Option.{none-some, same_Some}
use Rattle.ktm_world.specs.declared.change.Change.{Change}
use Rattle.ktm_world.specs.declared.change.Change.TheVariants.{Make, Put, Cut, Move, Drop}
use Rattle.ktm_world.specs.declared.recorded.Node.{Node}
use Rattle.ktm_world.specs.Changes.{applies, changed, is_free, is_make, is_node_number, node_of}
use Rattle.ktm_world.specs.Paths.{is_name}
use Rattle.ktm_world.specs.Tree.{Tree, has_entries, is_at_or_below, is_directory, is_there, node_at, root}
use Rattle.ktm_world.proofs.offered.Lookups.{node_at-with_node, node_at-with_changed, node_at-without_node, remade, Rises, node_at-below}

-- ---- the tests of a change, one by one
abbrev pub Applies : Tree → Change → Type 0
Applies tree (Make node parent kind name) = (is_there tree node ≡ false) × (is_name name ≡ true) × (is_free tree parent name ≡ true)
Applies tree (Put node offset contents) = ⊤
Applies tree (Cut node size pages) = ⊤
Applies tree (Move node parent name) = ((node == root) ≡ false) × (is_there tree node ≡ true) × (is_name name ≡ true) × (is_free tree parent name ≡ true)
Applies tree (Drop node) = ((node == root) ≡ false) × (is_there tree node ≡ true)

pub Applies-from : (tree : Tree) (c : Change) → applies tree c ≡ true → Applies tree c
Applies-from tree (Make node parent kind name) is =
    let e = and_parts _ (is_free tree parent name) is in
    let d = and_parts _ (is_name name) e.0 in
    let c = and_parts _ (is_directory tree parent) d.0 in
    let b = and_parts (is_node_number node) (not (is_there tree node)) c.0 in
    (not-true _ b.1, d.1, e.1)
Applies-from tree (Put node offset contents) is = tt
Applies-from tree (Cut node size pages) is = tt
Applies-from tree (Move node parent name) is =
    let f = and_parts _ (is_free tree parent name) is in
    let e = and_parts _ (is_name name) f.0 in
    let d = and_parts _ (not (is_at_or_below tree parent node)) e.0 in
    let c = and_parts _ (is_directory tree parent) d.0 in
    let b = and_parts (not (node == root)) (is_there tree node) c.0 in
    (not-true _ b.0, b.1, e.1, f.1)
Applies-from tree (Drop node) is =
    let c = and_parts _ (not (has_entries tree node)) is in
    let b = and_parts (not (node == root)) (is_there tree node) c.0 in
    (not-true _ b.0, b.1)

no_node : (o : Option Node) → is_some o ≡ false → o ≡ None
no_node None e = refl
no_node (Some node) e = absurd (cc)

pub some_node : (o : Option Node) → is_some o ≡ true → (n : Node) × (o ≡ Some n)
some_node None e = absurd (cc)
some_node (Some node) e = (node, refl)

pub is_there-none : (tree : Tree) (number : ℕ) → is_there tree number ≡ false → node_at tree number ≡ None
is_there-none tree number gone = no_node (node_at tree number) (or_parts (number == root) (is_some (node_at tree number)) gone).1

-- a node that is there and is not the root
pub is_there-some : (tree : Tree) (number : ℕ) → (number == root) ≡ false → is_there tree number ≡ true → (n : Node) × (node_at tree number ≡ Some n)
is_there-some tree number other there = some_node (node_at tree number) (rw other at there)

-- a node that is made is not there yet
Fits : Tree → Change → Type 0
Fits tree c = is_make c ≡ true → node_at tree (node_of c) ≡ None

Fits-from : (tree : Tree) (c : Change) → Applies tree c → Fits tree c
unfolding Fits
Fits-from tree (Make node parent kind name) is made = is_there-none tree node is.0
Fits-from tree (Put node offset contents) is made = absurd (cc)
Fits-from tree (Cut node size pages) is made = absurd (cc)
Fits-from tree (Move node parent name) is made = absurd (cc)
Fits-from tree (Drop node) is made = absurd (cc)

node_at-fitting : (tree : Tree) (c : Change) → Fits tree c → (m : ℕ) → node_at (changed tree c) m ≡ cond (node_of c == m) (remade c (node_at tree m)) (node_at tree m)
unfolding Fits
node_at-fitting tree (Make node parent kind name) fits m = node_at-with_node tree _ m (fits refl)
node_at-fitting tree (Put node offset contents) fits m = node_at-with_changed tree node _ (λ n. refl) m
node_at-fitting tree (Cut node size pages) fits m = node_at-with_changed tree node _ (λ n. refl) m
node_at-fitting tree (Move node parent name) fits m = node_at-with_changed tree node _ (λ n. refl) m
node_at-fitting tree (Drop node) fits m = node_at-without_node tree node m

pub node_at-changed : (tree : Tree) (c : Change) → applies tree c ≡ true → (m : ℕ) → node_at (changed tree c) m ≡ cond (node_of c == m) (remade c (node_at tree m)) (node_at tree m)
node_at-changed tree c is = node_at-fitting tree c (Fits-from tree c (Applies-from tree c is))

pub node_at-elsewhere : (tree : Tree) (c : Change) → applies tree c ≡ true → (m : ℕ) → (node_of c ≡ m → ⊥) → node_at (changed tree c) m ≡ node_at tree m
node_at-elsewhere tree c is m other = node_at-changed tree c is m ∙ rw (ne_eqb (node_of c) m other) refl

pub node_at-there : (tree : Tree) (c : Change) → applies tree c ≡ true → (m : ℕ) → node_of c ≡ m → node_at (changed tree c) m ≡ remade c (node_at tree m)
node_at-there tree c is m at = node_at-changed tree c is m ∙ rw (eq-eqb (node_of c) m at) refl

-- ---- what holds of each node
pub number-at : (tree : Tree) (m : ℕ) (node : Node) → node_at tree m ≡ Some node → node.number ≡ m
number-at [] m node found = absurd (none-some node found)
number-at (x ∷ xs) m node found = elim (cases_Bool (x.number == m)) [
  | inl is ↦ let e : x ≡ node = same_Some x node (rw is at found) in rw e at (eqb-true _ _ is)
  | inr other ↦ number-at xs m node (rw other at found)
]

pub at-All : (P : Node → Type 0) (tree : Tree) → All P tree → (m : ℕ) (node : Node) → node_at tree m ≡ Some node → P node
at-All P [] all m node found = absurd (none-some node found)
at-All P (x ∷ xs) all m node found = elim (cases_Bool (x.number == m)) [
  | inl is ↦ let e : x ≡ node = same_Some x node (rw is at found) in rw e at (All-head P x xs all)
  | inr other ↦ at-All P xs (All-tail P x xs all) m node (rw other at found)
]

-- a node that a lookup by another test does not find does not pass it
pub fails-all : (test : Node → Bool) (tree : Tree) → find test tree ≡ None → (m : ℕ) (n : Node) → node_at tree m ≡ Some n → test n ≡ false
fails-all test [] none m n found = absurd (none-some n found)
fails-all test (x ∷ xs) none m n found = elim (cases_Bool (test x)) [
  | inl is ↦ absurd (let some = rw is at none in cc)
  | inr fails ↦ elim (cases_Bool (x.number == m)) [
    | inl at ↦ let e : x ≡ n = same_Some x n (rw at at found) in rw e at fails
    | inr other ↦ fails-all test xs (rw fails at none) m n (rw other at found)
  ]
]

-- a node that a lookup by another test finds passes it, and stands at its number
pub found-at : (test : Node → Bool) (tree : Tree) (n : Node) → Rises tree → find test tree ≡ Some n → (test n ≡ true) × (node_at tree n.number ≡ Some n)
found-at test [] n rises found = absurd (none-some n found)
found-at test (x ∷ xs) n rises found = elim (cases_Bool (test x)) [
  | inl is ↦ let e : x ≡ n = same_Some x n (rw is at found) in (rw e at is, rw (e, eq-eqb n.number n.number refl) refl)
  | inr fails ↦
      let rest = found-at test xs n rises.1 (rw fails at found) in (
        rest.0,
        elim (cases_eq x.number n.number) [
          | inl same ↦ absurd (none-some n (sym (node_at-below xs x.number n.number rises.0 (omega arith)) ∙ rest.1))
          | inr other ↦ rw (ne_eqb x.number n.number other) rest.1
        ],
      )
]
