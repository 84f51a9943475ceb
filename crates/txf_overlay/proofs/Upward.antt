-- Lemmas on the way up from a node.
use Rattle.std.proofs.Common.{◌≡◌, ℕ, zero, suc, ◌+◌, ◌≤◌, ◌==◌, Bool, true, false, length, List, [], ◌∷◌, refl, sym, ap, ◌∙◌, inl, inr, arith, Option, Some, None}
use Rattle.std.specs.Prelude.{nat_lt}
use Rattle.std.specs.List.{list_any}
use Rattle.std.proofs.lemmas.Bool.{cases_Bool, eqb-true, eq-eqb, true≢false}
use Rattle.std.proofs.lemmas.List.{length-map}
use Rattle.ktm_world.specs.declared.change.Change.{Change}
use Rattle.ktm_world.specs.declared.change.Change.TheVariants.{Make, Put, Cut, Move, Drop}
use Rattle.ktm_world.specs.declared.recorded.Node.{Node}
use Rattle.ktm_world.specs.Changes.{changed, changed_all}
use Rattle.ktm_world.specs.Tree.{IsWellFormed, Tree, is_at_or_below, is_there, node_at, parent_of, root, way_up, with_node, without_node, has_number}
use Rattle.txf_overlay.proofs.Trees.{at-All, number-at, some_node}

-- is a node among so many on the way up
abbrev pub is_up : Tree → ℕ → ℕ → ℕ → Bool
is_up tree number other most = list_any (λ n. n == other) (way_up tree number most)

pub is_up-next : (tree : Tree) (number other most left : ℕ) → most ≡ suc left → (number == other) ≡ false
    → is_up tree number other most ≡ is_up tree (parent_of (node_at tree number)) other left
is_up-next tree number other most left more apart = rw (more, apart) refl

-- above a node that is its own parent there is only that
pub is_up-end : (tree : Tree) (number other most : ℕ) → parent_of (node_at tree number) ≡ number → (number == other) ≡ false → is_up tree number other most ≡ false
is_up-end tree number other zero own apart = refl
is_up-end tree number other (suc most) own apart =
    is_up-next tree number other (suc most) most refl apart ∙ ap (λ n. is_up tree n other most) own ∙ is_up-end tree number other most own apart

-- once the root is reached, no more come
up-more : (tree : Tree) (number other k n : ℕ) → node_at tree root ≡ None → is_up tree number root k ≡ true → k ≤ n → is_up tree number other n ≡ is_up tree number other k
up-more tree number other zero n none up more = absurd (true≢false (sym up))
up-more tree number other (suc k) zero none up more = absurd (omega arith)
up-more tree number other (suc k) (suc n) none up more = elim (cases_Bool (number == other)) [
  | inl same ↦ rw same refl
  | inr apart ↦ elim (cases_Bool (number == root)) [
    | inl at ↦
        let at_root : number ≡ root = eqb-true number root at in
        let own : parent_of (node_at tree number) ≡ number = ap (λ m. parent_of (node_at tree m)) at_root ∙ ap parent_of none ∙ sym at_root in
        is_up-end tree number other (suc n) own apart ∙ sym (is_up-end tree number other (suc k) own apart)
    | inr below ↦
        is_up-next tree number other (suc n) n refl apart
        ∙ up-more tree (parent_of (node_at tree number)) other k n none (sym (is_up-next tree number root (suc k) k refl below) ∙ up) (omega arith)
        ∙ sym (is_up-next tree number other (suc k) k refl apart)
  ]
]

no_root : (tree : Tree) → IsWellFormed tree → node_at tree root ≡ None
no_root tree formed = go (node_at tree root) refl
  where
    go : (o : Option Node) → node_at tree root ≡ o → o ≡ None
    go None is = refl
    go (Some n) is =
        absurd (let few = at-All (λ n. 2 ≤ n.number) tree formed.numbers root n is in let number = number-at tree root n is in omega (arith, few, number))

-- the way up from a node that is there, as far as may be
pub up-far : (tree : Tree) (number other n : ℕ) → IsWellFormed tree → is_there tree number ≡ true → length tree ≤ n
    → is_at_or_below tree number other ≡ is_up tree number other (n + 1)
up-far tree number other n formed there far =
    sym (up-more tree number other (length tree + 1) (n + 1) (no_root tree formed) reached (omega (arith, far)))
  where
    here : (m k : ℕ) → m ≡ suc k → number ≡ root → is_up tree number root m ≡ true
    here m k more at = rw (more, eq-eqb number root at) refl

    reached : is_up tree number root (length tree + 1) ≡ true
    reached = elim (cases_Bool (number == root)) [
      | inl at ↦ here (length tree + 1) (length tree) (omega arith) (eqb-true number root at)
      | inr other ↦
          let n = some_node (node_at tree number) (rw other at there) in
          ap (λ m. is_up tree m root (length tree + 1)) (sym (number-at tree number n.0 n.1))
          ∙ at-All (λ n. is_at_or_below tree n.number root ≡ true) tree formed.reach number n.0 n.1
    ]

-- ---- how many nodes there are
with-length : (tree : Tree) (node : Node) → length (with_node tree node) ≡ length tree + 1
with-length [] node = refl
with-length (x ∷ xs) node = elim (cases_Bool (nat_lt node.number x.number)) [
  | inl before ↦ rw before (omega arith)
  | inr behind ↦ rw behind (omega (arith, with-length xs node))
]

without-length : (tree : Tree) (number : ℕ) → length (without_node tree number) ≤ length tree
without-length [] number = omega arith
without-length (x ∷ xs) number = elim (cases_Bool (has_number number x)) [
  | inl same ↦ rw same (omega (arith, without-length xs number))
  | inr other ↦ rw other (omega (arith, without-length xs number))
]

changed-length : (t : Tree) (c : Change) → length (changed t c) ≤ length t + 1
changed-length t (Make node parent kind name) = let e : length (changed t (Make node parent kind name)) ≡ length t + 1 = with-length t _ in omega arith
changed-length t (Put node offset contents) = let e : length (changed t (Put node offset contents)) ≡ length t = length-map t _ in omega arith
changed-length t (Cut node size pages) = let e : length (changed t (Cut node size pages)) ≡ length t = length-map t _ in omega arith
changed-length t (Move node parent name) = let e : length (changed t (Move node parent name)) ≡ length t = length-map t _ in omega arith
changed-length t (Drop node) = omega (arith, without-length t node)

pub seen-length : (cs : List Change) (t : Tree) → length (changed_all t cs) ≤ length t + length cs
seen-length [] t = omega arith
seen-length (c ∷ cs) t = omega (arith, changed-length t c, seen-length cs (changed t c))
