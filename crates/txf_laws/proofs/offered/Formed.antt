-- A change keeps a tree well formed.
use Rattle.std.proofs.Common.{◌≡◌, ℕ, ◌^◌, ◌<◌, ◌≤◌, ◌==◌, ◌&&◌, Bool, true, false, is_some, List, [], ◌∷◌, Option, Some, None, refl, sym, ◌∙◌, ap, subst, arith, inl, inr, zero, suc, nat_lt, nat_le}
use Rattle.std.proofs.lemmas.Bool.{cases_eq, eq-eqb, eqb-true, leb-true, or_right, and_parts, and_from, true≢false}
use Rattle.std.proofs.lemmas.Cmp.{nat_list_eq_equiv}
use Rattle.ktm_base.specs.Names.{IsName, folded}
use Rattle.ktm_world.specs.declared.change.Change.{Change}
use Rattle.ktm_world.specs.declared.change.Change.TheVariants.{Make, Put, Cut, Move, Drop}
use Rattle.ktm_world.specs.declared.recorded.Node.{Node}
use Rattle.ktm_world.specs.Changes.{changed, changed_all, applies, changes_apply, node_of, is_drop}
use Rattle.ktm_world.specs.Paths.{is_name}
use Rattle.ktm_world.specs.Tree.{Tree, IsWellFormed, root, node_at, is_there, is_directory, same_name, parent_of, content_of}
use Rattle.txf_laws.specs.Formed.{FormedLaw}
use Rattle.ktm_world.proofs.offered.Lookups.{Fits, node_at-elsewhere, node_at-there, Rises-changed}
use Rattle.txf_laws.proofs.Ways.{above, above-step, is_at_or_below-from}
use Rattle.txf_laws.proofs.offered.ChangeTests.{Applies, Applies-from, Fits-from, Good, Good-from, IsWellFormed-from, Gives, remade-holds, holds-after, at-All, NoneAt-from_find, no_entry, parents-after}
use Rattle.txf_laws.proofs.offered.Diamonds.{moves_directory, no_root-after, dir-parent, way-after, dir-reach}
use Rattle.txf_laws.proofs.offered.Pigeons.{short}

-- ---- numbers

pub found-from : (tree : Tree) (m : ℕ) → is_some (node_at tree m) ≡ true → (n : Node) × (node_at tree m ≡ Some n)
found-from tree m there = go (node_at tree m) there
  where
    go : (o : Option Node) → is_some o ≡ true → (n : Node) × (o ≡ Some n)
    go None is = absurd (cc)
    go (Some n) is = (n, refl)

pub content-found : (o : Option Node) → is_some (content_of o) ≡ true → is_some o ≡ true
content-found None is = is
content-found (Some n) is = refl

number-of : (tree : Tree) (c : Change) → Good tree → Applies tree c → 2 ≤ node_of c
number-of tree (Make node parent kind name) good is = leb-true 2 node (and_parts (nat_le 2 node) (nat_lt node (2 ^ 63)) is.0).0
number-of tree (Put node offset contents) good is = let found = found-from tree node (content-found _ is.0) in good.numbers node found.0 found.1
number-of tree (Cut node size pages) good is = let found = found-from tree node (content-found _ is.0) in good.numbers node found.0 found.1
number-of tree (Move node parent name) good is = let found = found-from tree node (rw is.0 at is.1) in good.numbers node found.0 found.1
number-of tree (Drop node) good is = let found = found-from tree node (rw is.0 at is.1) in good.numbers node found.0 found.1

-- ---- one name each

abbrev same_spot : ℕ → List ℕ → ℕ → List ℕ → Bool
same_spot parent name parent' name' = parent == parent' && same_name name name'

same_spot-sym : (p : ℕ) (n : List ℕ) (q : ℕ) (m : List ℕ) → same_spot p n q m ≡ true → same_spot q m p n ≡ true
same_spot-sym p n q m is =
    let parts = and_parts (p == q) (same_name n m) is in
    and_from _ _ (eq-eqb q p (sym (eqb-true _ _ parts.0))) (nat_list_eq_equiv.symm (folded m) (folded n) ∙ parts.1)

-- the spot that a change gives is free
Gives-free : (tree : Tree) (c : Change) → Good tree → Applies tree c → (m : ℕ) (n : Node) → node_at tree m ≡ Some n → Gives c (λ parent name. same_spot n.parent n.name parent name ≡ true → ⊥)
Gives-free tree (Make node parent kind name) good is m n found = λ same. true≢false (sym same ∙ at-All (λ n. same_spot n.parent n.name parent name ≡ false) tree (NoneAt-from_find _ tree is.4) m n found)
Gives-free tree (Put node offset contents) good is m n found = tt
Gives-free tree (Cut node size pages) good is m n found = tt
Gives-free tree (Move node parent name) good is m n found = λ same. true≢false (sym same ∙ at-All (λ n. same_spot n.parent n.name parent name ≡ false) tree (NoneAt-from_find _ tree is.5) m n found)
Gives-free tree (Drop node) good is m n found = tt

-- no other node has the spot of the changed one
alone : (tree : Tree) (c : Change) → Good tree → Applies tree c → (n : Node) → node_at (changed tree c) (node_of c) ≡ Some n → (m' : ℕ) (n' : Node) → node_at tree m' ≡ Some n' → (node_of c ≡ m' → ⊥)
    → same_spot n'.parent n'.name n.parent n.name ≡ true → ⊥
alone tree c good is n found m' n' found' other =
    remade-holds (λ parent name. same_spot n'.parent n'.name parent name ≡ true → ⊥) c (node_at tree (node_of c)) n (sym (node_at-there tree c (Fits-from tree c is)) ∙ found)
    (Gives-free tree c good is m' n' found')
    (λ o there same. other (sym (good.one_each (node_of c) m' o n' there found' same)))

one_each-after : (tree : Tree) (c : Change) → Good tree → Applies tree c → (m m' : ℕ) (n n' : Node) → node_at (changed tree c) m ≡ Some n → node_at (changed tree c) m' ≡ Some n'
    → same_spot n'.parent n'.name n.parent n.name ≡ true → m' ≡ m
one_each-after tree c good is m m' n n' found found' same = elim (cases_eq (node_of c) m) [
  | inl at ↦ elim (cases_eq (node_of c) m') [
    | inl at' ↦ sym at' ∙ at
    | inr other' ↦ absurd (alone tree c good is n (ap (node_at (changed tree c)) at ∙ found) m' n' (sym (node_at-elsewhere tree c fits m' other') ∙ found') other' same)
  ]
  | inr other ↦ elim (cases_eq (node_of c) m') [
    | inl at' ↦ absurd (alone tree c good is n' (ap (node_at (changed tree c)) at' ∙ found') m n (sym (node_at-elsewhere tree c fits m other) ∙ found) other (same_spot-sym _ _ _ _ same))
    | inr other' ↦ good.one_each m m' n n' (sym (node_at-elsewhere tree c fits m other) ∙ found) (sym (node_at-elsewhere tree c fits m' other') ∙ found') same
  ]
]
  where
    fits : Fits tree c
    fits = Fits-from tree c is

-- ---- the way to the root

-- where no directory is moved, the way of each parent stays
still-reach : (tree : Tree) (c : Change) → Good tree → Applies tree c → moves_directory tree c ≡ false → (m : ℕ) (n : Node) → node_at (changed tree c) m ≡ Some n
    → (k : ℕ) × (above (changed tree c) m k ≡ root)
still-reach tree c good is still m n found =
    let old = holds-after (λ parent name. (is_directory tree parent ≡ true) × (is_drop c ≡ true → node_of c ≡ parent → ⊥)) tree c (Fits-from tree c is)
    (given c is) (λ m n found. (good.parents m n found, λ drops. no_entry tree c is drops m n found)) m n found in
    let end = dir-reach tree good n.parent old.0 in
    (suc end.0, above-step (changed tree c) m n.parent end.0 root (ap parent_of found) (way-after tree c good is still end.0 n.parent old.0 old.1 ∙ end.2))
  where
    given : (c : Change) → Applies tree c → Gives c (λ parent name. (is_directory tree parent ≡ true) × (is_drop c ≡ true → node_of c ≡ parent → ⊥))
    given (Make node parent kind name) is = (is.2, λ e. absurd (cc))
    given (Put node offset contents) is = tt
    given (Cut node size pages) is = tt
    given (Move node parent name) is = (is.2, λ e. absurd (cc))
    given (Drop node) is = tt

-- a way that does not come to the moved node stays
free-way : (tree : Tree) (c : Change) → Fits tree c → (k m : ℕ) → ((i : ℕ) → i < k → above tree m i ≡ node_of c → ⊥) → above (changed tree c) m k ≡ above tree m k
free-way tree c fits zero m free = refl
free-way tree c fits (suc k) m free =
    rw (node_at-elsewhere tree c fits m (λ e. free 0 (omega arith) (sym e))) (free-way tree c fits k (parent_of (node_at tree m)) (λ i less. free (suc i) (omega (arith, less))))

-- a way that comes to it goes on from its new parent
move-reach : (tree : Tree) (c : Change) → Fits tree c → (rest : ℕ) → above (changed tree c) (node_of c) rest ≡ root → (k m : ℕ) → above tree m k ≡ root → (k' : ℕ) × (above (changed tree c) m k' ≡ root)
move-reach tree c fits rest met zero m end = (0, end)
move-reach tree c fits rest met (suc k) m end = elim (cases_eq (node_of c) m) [
  | inl at ↦ (rest, subst (λ m. above (changed tree c) m rest ≡ root) at met)
  | inr other ↦
      let more = move-reach tree c fits rest met k (parent_of (node_at tree m)) end in
      (suc more.0, rw (node_at-elsewhere tree c fits m other) more.1)
]

moved-parent : (tree : Tree) (node parent : ℕ) (name : List ℕ) → Good tree → Applies tree (Move node parent name) → parent_of (node_at (changed tree (Move node parent name)) node) ≡ parent
moved-parent tree node parent name good is =
    rw (node_at-there tree (Move node parent name) (λ e. absurd (cc))) (let found = found-from tree node (rw is.0 at is.1) in rw found.1 refl)

moved-reach : (tree : Tree) (node parent : ℕ) (name : List ℕ) → Good tree → Applies tree (Move node parent name) → (m : ℕ) (n : Node) → node_at (changed tree (Move node parent name)) m ≡ Some n
    → (k : ℕ) × (above (changed tree (Move node parent name)) m k ≡ root)
moved-reach tree node parent name good is m n found =
    let c = Move node parent name in
    let fits = Fits-from tree c is in
    let end = dir-reach tree good parent is.2 in
    let free : (i : ℕ) → i < end.0 → above tree parent i ≡ node → ⊥ = λ i less at. true≢false (sym (is_at_or_below-from tree parent node i at (omega (arith, less, end.1))) ∙ is.3) in
    let rest : above (changed tree c) node (suc end.0) ≡ root = above-step (changed tree c) node parent end.0 root (moved-parent tree node parent name good is) (free-way tree c fits end.0 parent free ∙ end.2) in
    elim (cases_eq node m) [
      | inl at ↦ (suc end.0, subst (λ m. above (changed tree c) m (suc end.0) ≡ root) at rest)
      | inr other ↦
          let old = good.reach m n (sym (node_at-elsewhere tree c fits m other) ∙ found) in
          move-reach tree c fits (suc end.0) rest old.0 m old.2
    ]

reach-after : (tree : Tree) (c : Change) → Good tree → Applies tree c → (m : ℕ) (n : Node) → node_at (changed tree c) m ≡ Some n → (k : ℕ) × (above (changed tree c) m k ≡ root)
reach-after tree (Make node parent kind name) good is = still-reach tree (Make node parent kind name) good is refl
reach-after tree (Put node offset contents) good is = still-reach tree (Put node offset contents) good is refl
reach-after tree (Cut node size pages) good is = still-reach tree (Cut node size pages) good is refl
reach-after tree (Move node parent name) good is = moved-reach tree node parent name good is
reach-after tree (Drop node) good is = still-reach tree (Drop node) good is refl

module _ (read_name : (name : List ℕ) → is_name name ≡ true → IsName name) where
  Gives-name : (tree : Tree) (c : Change) → Applies tree c → Gives c (λ parent name. IsName name)
  Gives-name tree (Make node parent kind name) is = read_name name is.3
  Gives-name tree (Put node offset contents) is = tt
  Gives-name tree (Cut node size pages) is = tt
  Gives-name tree (Move node parent name) is = read_name name is.4
  Gives-name tree (Drop node) is = tt

  pub Good-after : (tree : Tree) (c : Change) → Good tree → Applies tree c → Good (changed tree c)
  Good-after tree c good is = record {
    rises = Rises-changed tree c fits good.rises;
    numbers = λ m n found. elim (cases_eq (node_of c) m) [
      | inl at ↦ subst (λ m. 2 ≤ m) at (number-of tree c good is)
      | inr other ↦ good.numbers m n (sym (node_at-elsewhere tree c fits m other) ∙ found)
    ];
    parents = parents;
    reach = λ m n found. let way = reach-after tree c good is m n found in
        short (changed tree c) none (λ d. (and_parts (is_there (changed tree c) (parent_of (node_at (changed tree c) d))) _ (dir-parent (changed tree c) none parents d)).0) m way.0
        (there m n found) way.1;
    names = holds-after (λ parent name. IsName name) tree c fits (Gives-name tree c is) good.names;
    one_each = one_each-after tree c good is;
  }
    where
      fits : Fits tree c
      fits = Fits-from tree c is

      none : node_at (changed tree c) root ≡ None
      none = no_root-after tree c good is

      parents : (m : ℕ) (n : Node) → node_at (changed tree c) m ≡ Some n → is_directory (changed tree c) n.parent ≡ true
      parents = parents-after tree c good is

      there : (m : ℕ) (n : Node) → node_at (changed tree c) m ≡ Some n → is_there (changed tree c) m ≡ true
      there m n found = or_right (m == root) _ (ap is_some found)

  pub formed_law : FormedLaw
  formed_law = (one, all)
    where
      one : (tree : Tree) (c : Change) → IsWellFormed tree → applies tree c ≡ true → IsWellFormed (changed tree c)
      one tree c formed is = IsWellFormed-from (changed tree c) (Good-after tree c (Good-from tree formed) (Applies-from tree c is))

      all : (tree : Tree) (cs : List Change) → IsWellFormed tree → changes_apply tree cs ≡ true → IsWellFormed (changed_all tree cs)
      all tree [] formed is = formed
      all tree (c ∷ cs) formed is = let parts = and_parts (applies tree c) (changes_apply (changed tree c) cs) is in all (changed tree c) cs (one tree c formed parts.0) parts.1
