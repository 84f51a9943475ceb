-- Changes of different nodes that are apart.
use Rattle.std.proofs.Common.{◌≡◌, ℕ, ◌≤◌, ◌==◌, ◌&&◌, ◌||◌, not, Bool, true, false, cond, is_some, List, [], ◌∷◌, ◌++◌, length, map, Option, Some, None, refl, sym, ◌∙◌, ap, subst, arith, inl, inr, zero, suc}
use Rattle.std.proofs.lemmas.Bool.{cases_Bool, cases_eq, cases_lt, eq-eqb, ne_eqb, eqb-true, eqb-false, and_parts, and_from, or_parts, or_from, not-true, true≢false, false_from_ne_true}
use Rattle.std.proofs.lemmas.List.Folds.{list_any_none}
use Rattle.std.specs.List.{list_any}
use Rattle.std.specs.Prelude.{bytes_eq}
use Rattle.std.proofs.lemmas.Cmp.{nat_list_eq_equiv}
use Rattle.ktm_world.specs.declared.change.Change.{Change}
use Rattle.ktm_world.specs.declared.change.Change.TheVariants.{Make, Put, Cut, Move, Drop}
use Rattle.ktm_world.specs.declared.recorded.Node.{Node}
use Rattle.ktm_world.specs.Changes.{changed, node_of, is_move, is_drop, is_free}
use Rattle.ktm_world.specs.Holds.{Place, place, place_of, same_place, places_of, meet_in, is_in, dropped_directory, moved_directory}
use Rattle.ktm_world.specs.Tree.{Tree, root, node_at, is_there, is_file, is_directory, is_at_or_below, has_entries, same_name, parent_of, content_of}
use Rattle.txf_laws.specs.Elements.{IsIn}
use Rattle.txf_laws.specs.Diamond.{AreApart, Follows, DiamondLaw}
use Rattle.ktm_world.proofs.offered.Lookups.{node_at-elsewhere, changed-commute, Rises-changed}
use Rattle.txf_laws.proofs.Ways.{above, root-stays, steps-from, is_at_or_below-from}
use Rattle.txf_laws.proofs.offered.ChangeTests.{Applies, Applies-from, applies-from, Fits-from, Good, Good-from, no_root, Gives, holds-after, at-All, All-at, NoneAt-from_find, NoneAt-from_any, find-from_NoneAt, dir_after, no_entry, parents-after}

-- ---- no test passes

pub IsIn-right : {X : Type 0} (x : X) (xs ys : List X) → IsIn x ys → IsIn x (xs ++ ys)
IsIn-right x [] ys there = there
IsIn-right x (y ∷ xs) ys there = inr (IsIn-right x xs ys there)

pub IsIn-map : {X Y : Type 0} (f : X → Y) (x : X) (xs : List X) → IsIn x xs → IsIn (f x) (map f xs)
IsIn-map f x [] there = absurd there
IsIn-map f x (y ∷ ys) (inl is) = inl (ap f is)
IsIn-map f x (y ∷ ys) (inr there) = inr (IsIn-map f x ys there)

pub no_test : {X : Type 0} (p : X → Bool) (x : X) (xs : List X) → list_any p xs ≡ false → IsIn x xs → p x ≡ false
no_test p x [] none there = absurd there
no_test p x (y ∷ ys) none (inl is) = subst (λ z. p z ≡ false) is (or_parts (p y) (list_any p ys) none).0
no_test p x (y ∷ ys) none (inr there) = no_test p x ys (or_parts (p y) (list_any p ys) none).1 there

apart-places : (ps qs : List Place) → list_any (λ p. list_any (same_place p) qs) ps ≡ false → (p q : Place) → IsIn p ps → IsIn q qs → same_place p q ≡ false
apart-places ps qs apart p q p_there q_there = no_test (same_place p) q qs (no_test (λ p. list_any (same_place p) qs) p ps apart p_there) q_there

pub meets-not : (ms ns : List ℕ) → meet_in ms ns ≡ false → (m : ℕ) → IsIn m ms → IsIn m ns → ⊥
meets-not ms ns apart m m_there n_there = eqb-false m m (no_test (λ n. n == m) m ns (no_test (is_in ns) m ms apart m_there) n_there) refl

pub none-from : {X : Type 0} (p : X → Bool) (xs : List X) → ((x : X) → IsIn x xs → p x ≡ false) → list_any p xs ≡ false
none-from p [] each = refl
none-from p (x ∷ xs) each = or_from _ _ (each x (inl refl)) (none-from p xs (λ y there. each y (inr there)))

pub same_place-sym : (p q : Place) → same_place p q ≡ false → same_place q p ≡ false
same_place-sym p q apart = false_from_ne_true _ (λ same.
    let parts = and_parts (q.directory == p.directory) (bytes_eq q.name p.name) same in
    true≢false (sym (and_from _ _ (eq-eqb p.directory q.directory (sym (eqb-true _ _ parts.0))) (nat_list_eq_equiv.symm p.name q.name ∙ parts.1)) ∙ apart))

-- a change gives a place that it holds
gives-place : (tree : Tree) (c : Change) (Q : Place → Type 0) → ((p : Place) → IsIn p (places_of tree c) → Q p) → Gives c (λ parent name. Q (place parent name))
gives-place tree (Make node parent kind name) Q each = each (place parent name) (inl refl)
gives-place tree (Put node offset contents) Q each = tt
gives-place tree (Cut node size pages) Q each = tt
gives-place tree (Move node parent name) Q each = each (place parent name) (IsIn-right _ (place_of (node_at tree node)) _ (inl refl))
gives-place tree (Drop node) Q each = tt

-- ---- names and entries after a change

free-after : (tree : Tree) (c : Change) → Good tree → Applies tree c → (d : ℕ) (name : List ℕ) → Gives c (λ p n. (p == d && same_name n name) ≡ false)
    → is_free tree d name ≡ true → is_free (changed tree c) d name ≡ true
free-after tree c good is d name gives free =
    let test : Node → Bool = λ node. node.parent == d && same_name node.name name in
    find-from_NoneAt test (changed tree c) (All-at (λ n. test n ≡ false) (changed tree c) (Rises-changed tree c (Fits-from tree c is) good.rises)
    (holds-after (λ p n. (p == d && same_name n name) ≡ false) tree c (Fits-from tree c is) gives (at-All (λ n. test n ≡ false) tree (NoneAt-from_find test tree free))))

empty-after : (tree : Tree) (c : Change) → Good tree → Applies tree c → (d : ℕ) → Gives c (λ p n. (p == d) ≡ false)
    → has_entries tree d ≡ false → has_entries (changed tree c) d ≡ false
empty-after tree c good is d gives empty =
    list_any_none (λ node. node.parent == d) (changed tree c) (All-at (λ n. (n.parent == d) ≡ false) (changed tree c) (Rises-changed tree c (Fits-from tree c is) good.rises)
    (holds-after (λ p n. (p == d) ≡ false) tree c (Fits-from tree c is) gives (at-All (λ n. (n.parent == d) ≡ false) tree (NoneAt-from_any (λ n. n.parent == d) tree empty))))

-- ---- the way up after a change

abbrev pub moves_directory : Tree → Change → Bool
moves_directory tree c = is_move c && is_directory tree (node_of c)

no_change : (tree : Tree) (c : Change) → Applies tree c → moves_directory tree c ≡ false → is_directory tree (node_of c) ≡ true → is_drop c ≡ false → ⊥
no_change tree (Make node parent kind name) is still dir kept = true≢false (sym (and_parts (is_there tree node) (not (is_file tree node)) dir).0 ∙ is.1)
no_change tree (Put node offset contents) is still dir kept = true≢false (sym is.0 ∙ not-true _ (and_parts (is_there tree node) (not (is_file tree node)) dir).1)
no_change tree (Cut node size pages) is still dir kept = true≢false (sym is.0 ∙ not-true _ (and_parts (is_there tree node) (not (is_file tree node)) dir).1)
no_change tree (Move node parent name) is still dir kept = true≢false (sym dir ∙ still)
no_change tree (Drop node) is still dir kept = true≢false kept

-- the parent of a directory that is not moved
parent-after : (tree : Tree) (c : Change) → Applies tree c → moves_directory tree c ≡ false → (d : ℕ) → is_directory tree d ≡ true → (is_drop c ≡ true → node_of c ≡ d → ⊥)
    → parent_of (node_at (changed tree c) d) ≡ parent_of (node_at tree d)
parent-after tree c is still d dir stays = elim (cases_eq (node_of c) d) [
  | inr other ↦ rw (node_at-elsewhere tree c (Fits-from tree c is) d other) refl
  | inl at ↦ elim (cases_Bool (is_drop c)) [
    | inl drops ↦ absurd (stays drops at)
    | inr kept ↦ absurd (no_change tree c is still (subst (λ m. is_directory tree m ≡ true) (sym at) dir) kept)
  ]
]

-- no change is of the root
pub not_root : (tree : Tree) (c : Change) → Good tree → Applies tree c → node_of c ≡ root → ⊥
not_root tree (Make node parent kind name) good is at = eqb-false node root (or_parts (node == root) (is_some (node_at tree node)) is.1).0 at
not_root tree (Put node offset contents) good is at = true≢false (sym is.0 ∙ ap (λ m. is_file tree m) at ∙ ap (λ o. is_some (content_of o)) (no_root tree good))
not_root tree (Cut node size pages) good is at = true≢false (sym is.0 ∙ ap (λ m. is_file tree m) at ∙ ap (λ o. is_some (content_of o)) (no_root tree good))
not_root tree (Move node parent name) good is at = eqb-false node root is.0 at
not_root tree (Drop node) good is at = eqb-false node root is.0 at

pub no_root-after : (tree : Tree) (c : Change) → Good tree → Applies tree c → node_at (changed tree c) root ≡ None
no_root-after tree c good is = node_at-elsewhere tree c (Fits-from tree c is) root (not_root tree c good is) ∙ no_root tree good

-- a parent is a directory
pub dir-parent : (tree : Tree) → node_at tree root ≡ None → ((m : ℕ) (n : Node) → node_at tree m ≡ Some n → is_directory tree n.parent ≡ true) → (d : ℕ)
    → is_directory tree (parent_of (node_at tree d)) ≡ true
dir-parent tree none parents d = go (node_at tree d) refl
  where
    go : (o : Option Node) → node_at tree d ≡ o → is_directory tree (parent_of o) ≡ true
    go None e = rw none refl
    go (Some n) e = parents d n e

-- all that is above a directory is one
way-directory : (tree : Tree) → node_at tree root ≡ None → ((m : ℕ) (n : Node) → node_at tree m ≡ Some n → is_directory tree n.parent ≡ true) → (steps d : ℕ) → is_directory tree d ≡ true
    → is_directory tree (above tree d steps) ≡ true
way-directory tree none parents zero d dir = dir
way-directory tree none parents (suc steps) d dir = way-directory tree none parents steps (parent_of (node_at tree d)) (dir-parent tree none parents d)

file-not-below : (tree : Tree) → node_at tree root ≡ None → ((m : ℕ) (n : Node) → node_at tree m ≡ Some n → is_directory tree n.parent ≡ true) → (d file : ℕ) → is_directory tree d ≡ true
    → is_file tree file ≡ true → is_at_or_below tree d file ≡ false
file-not-below tree none parents d file dir is_one = false_from_ne_true _ (λ below.
    let way = steps-from tree d file below in
    let met : is_directory tree file ≡ true = subst (λ m. is_directory tree m ≡ true) way.2 (way-directory tree none parents way.0 d dir) in
    true≢false (sym is_one ∙ not-true _ (and_parts (is_there tree file) (not (is_file tree file)) met).1))

not_dropped-parent : (tree : Tree) (c : Change) → Good tree → Applies tree c → is_drop c ≡ true → (d : ℕ) → node_of c ≡ parent_of (node_at tree d) → ⊥
not_dropped-parent tree c good is drops d = go (node_at tree d) refl
  where
    go : (o : Option Node) → node_at tree d ≡ o → node_of c ≡ parent_of o → ⊥
    go None e at = not_root tree c good is at
    go (Some n) e at = no_entry tree c is drops d n e at

-- the way up from a directory stays
pub way-after : (tree : Tree) (c : Change) → Good tree → Applies tree c → moves_directory tree c ≡ false → (steps d : ℕ) → is_directory tree d ≡ true → (is_drop c ≡ true → node_of c ≡ d → ⊥)
    → above (changed tree c) d steps ≡ above tree d steps
way-after tree c good is still zero d dir stays = refl
way-after tree c good is still (suc steps) d dir stays =
    rw (parent-after tree c is still d dir stays)
    (way-after tree c good is still steps (parent_of (node_at tree d)) (dir-parent tree (no_root tree good) good.parents d) (λ drops. not_dropped-parent tree c good is drops d))

-- a directory reaches the root
pub dir-reach : (tree : Tree) → Good tree → (d : ℕ) → is_directory tree d ≡ true → (k : ℕ) × (k ≤ length tree) × (above tree d k ≡ root)
dir-reach tree good d dir = go (node_at tree d) refl
  where
    go : (o : Option Node) → node_at tree d ≡ o → (k : ℕ) × (k ≤ length tree) × (above tree d k ≡ root)
    go None e = (0, omega arith, eqb-true d root (there (d == root) (and_parts (is_there tree d) (not (is_file tree d)) dir).0))
      where
        there : (b : Bool) → (b || is_some (node_at tree d)) ≡ true → b ≡ true
        there true is = refl
        there false is = absurd (true≢false (sym is ∙ ap is_some e))
    go (Some n) e = good.reach d n e

below-after : (tree : Tree) (c : Change) → Good tree → Applies tree c → moves_directory tree c ≡ false → (d other : ℕ) → is_directory tree d ≡ true → (is_drop c ≡ true → node_of c ≡ d → ⊥)
    → (other == root) ≡ false → is_at_or_below tree d other ≡ false → is_at_or_below (changed tree c) d other ≡ false
below-after tree c good is still d other dir stays differs below = false_from_ne_true _ (λ now.
    let way = steps-from (changed tree c) d other now in
    let old : above tree d way.0 ≡ other = sym (way-after tree c good is still way.0 d dir stays) ∙ way.2 in
    let end = dir-reach tree good d dir in
    elim (cases_lt way.0 end.0) [
      | inl less ↦ true≢false (sym (is_at_or_below-from tree d other way.0 old (omega (arith, less, end.1))) ∙ below)
      | inr more ↦ eqb-false other root differs (sym old ∙ root-stays tree (no_root tree good) d end.0 way.0 end.2 more)
    ])

-- ---- a change after another

-- a change does not give a place in a directory that the other drops
drops-held : (tree : Tree) (c : Change) → is_drop c ≡ true → is_directory tree (node_of c) ≡ true → IsIn (node_of c) (dropped_directory tree c)
drops-held tree c drops dir = rw (drops, dir) (inl refl)

drop-apart : (tree : Tree) (b : Change) (places : List Place) → meet_in (dropped_directory tree b) (map (λ p. p.directory) places) ≡ false → (p : Place) → IsIn p places
    → is_directory tree p.directory ≡ true → is_drop b ≡ true → node_of b ≡ p.directory → ⊥
drop-apart tree b places apart p held dir drops at =
    meets-not (dropped_directory tree b) (map (λ p. p.directory) places) apart (node_of b) (drops-held tree b drops (subst (λ d. is_directory tree d ≡ true) (sym at) dir))
    (subst (λ d. IsIn d (map (λ p. p.directory) places)) (sym at) (IsIn-map (λ (p : Place). p.directory) p places held))

pub given-directory : (tree : Tree) (c : Change) → Applies tree c → Gives c (λ parent name. is_directory tree parent ≡ true)
given-directory tree (Make node parent kind name) is = is.2
given-directory tree (Put node offset contents) is = tt
given-directory tree (Cut node size pages) is = tt
given-directory tree (Move node parent name) is = is.2
given-directory tree (Drop node) is = tt

pub Gives-both : (c : Change) (P Q R : ℕ → List ℕ → Type 0) → Gives c P → Gives c Q → ((parent : ℕ) (name : List ℕ) → P parent name → Q parent name → R parent name) → Gives c R
Gives-both (Make node parent kind name) P Q R p q both = both parent name p q
Gives-both (Put node offset contents) P Q R p q both = tt
Gives-both (Cut node size pages) P Q R p q both = tt
Gives-both (Move node parent name) P Q R p q both = both parent name p q
Gives-both (Drop node) P Q R p q both = tt

moves-test : (b : Bool) (n : ℕ) → list_any (λ (n : ℕ). true) (cond b (n ∷ []) []) ≡ b
moves-test true n = refl
moves-test false n = refl

file-from : (tree : Tree) (n : ℕ) → is_there tree n ≡ true → is_directory tree n ≡ false → is_file tree n ≡ true
file-from tree n there not' = go (is_file tree n) not'
  where
    go : (b : Bool) → (is_there tree n && not b) ≡ false → b ≡ true
    go true e = refl
    go false e = absurd (true≢false (sym (and_from _ _ there refl) ∙ e))

applies-after : (tree : Tree) (b c : Change) → Good tree → Applies tree b → Applies tree c → AreApart tree b c → Applies (changed tree b) c
applies-after tree b (Make node parent kind name) good is is' apart = (
  is'.0,
  rw (node_at-elsewhere tree b (Fits-from tree b is) node apart.nodes) is'.1,
  dir_after tree b is parent is'.2 (drop-apart tree b (place parent name ∷ []) apart.left_stays (place parent name) (inl refl) is'.2),
  is'.3,
  free-after tree b good is parent name
      (gives-place tree b (λ p. same_place p (place parent name) ≡ false) (λ p held. apart-places (places_of tree b) (place parent name ∷ []) apart.places p (place parent name) held (inl refl))) is'.4,
)
applies-after tree b (Put node offset contents) good is is' apart = (rw (node_at-elsewhere tree b (Fits-from tree b is) node apart.nodes) is'.0, is'.1)
applies-after tree b (Cut node size pages) good is is' apart = (rw (node_at-elsewhere tree b (Fits-from tree b is) node apart.nodes) is'.0, is'.1)
applies-after tree b (Move node parent name) good is is' apart = (
  is'.0,
  rw (node_at-elsewhere tree b (Fits-from tree b is) node apart.nodes) is'.1,
  dir,
  way,
  is'.4,
  free-after tree b good is parent name
      (gives-place tree b (λ p. same_place p (place parent name) ≡ false) (λ p held. apart-places (places_of tree b) (places_of tree (Move node parent name)) apart.places p (place parent name) held here)) is'.5,
)
  where
    here : IsIn (place parent name) (places_of tree (Move node parent name))
    here = IsIn-right _ (place_of (node_at tree node)) _ (inl refl)

    stays : is_drop b ≡ true → node_of b ≡ parent → ⊥
    stays = drop-apart tree b (places_of tree (Move node parent name)) apart.left_stays (place parent name) here is'.2

    dir : is_directory (changed tree b) parent ≡ true
    dir = dir_after tree b is parent is'.2 stays

    still : is_directory tree node ≡ true → moves_directory tree b ≡ false
    still moves = false_from_ne_true _ (λ too. true≢false (sym (and_from _ _ (moves-test _ (node_of b) ∙ too) (moves-test (is_directory tree node) node ∙ moves)) ∙ apart.moves))

    way : is_at_or_below (changed tree b) parent node ≡ false
    way = elim (cases_Bool (is_directory tree node)) [
      | inl moves ↦ below-after tree b good is (still moves) parent node is'.2 stays is'.0 is'.3
      | inr file ↦
          file-not-below (changed tree b) (no_root-after tree b good is) (parents-after tree b good is) parent node dir
          (rw (node_at-elsewhere tree b (Fits-from tree b is) node apart.nodes) (file-from tree node is'.1 file))
    ]
applies-after tree b (Drop node) good is is' apart = (
  is'.0,
  rw (node_at-elsewhere tree b (Fits-from tree b is) node apart.nodes) is'.1,
  empty-after tree b good is node
      (Gives-both b _ _ _ (given-directory tree b is) (gives-place tree b (λ p. IsIn p (places_of tree b)) (λ p held. held))
      (λ parent name dir held. ne_eqb parent node (λ at. drop-apart tree (Drop node) (places_of tree b) apart.right_stays (place parent name) held dir refl (sym at)))) is'.2,
)

-- ---- what the second holds

follows : (tree : Tree) (b c : Change) → Good tree → Applies tree b → Applies tree c → AreApart tree b c → Follows tree b c
follows tree b c good is is' apart = record {
  applies = applies-from (changed tree b) c (applies-after tree b c good is is' apart);
  places = places c same;
  dropped = rw same refl;
  moved = rw same refl;
}
  where
    same : node_at (changed tree b) (node_of c) ≡ node_at tree (node_of c)
    same = node_at-elsewhere tree b (Fits-from tree b is) (node_of c) apart.nodes

    places : (c : Change) → node_at (changed tree b) (node_of c) ≡ node_at tree (node_of c) → places_of (changed tree b) c ≡ places_of tree c
    places (Make node parent kind name) e = refl
    places (Put node offset contents) e = refl
    places (Cut node size pages) e = refl
    places (Move node parent name) e = rw e refl
    places (Drop node) e = rw e refl

AreApart-sym : (tree : Tree) (b c : Change) → AreApart tree b c → AreApart tree c b
AreApart-sym tree b c apart = record {
  nodes = λ e. apart.nodes (sym e);
  places = none-from (λ p. list_any (same_place p) (places_of tree b)) (places_of tree c) (λ q q_there. none-from (same_place q) (places_of tree b) (λ p p_there.
      same_place-sym p q (apart-places (places_of tree b) (places_of tree c) apart.places p q p_there q_there)));
  left_stays = apart.right_stays;
  right_stays = apart.left_stays;
  moves = false_from_ne_true _ (λ both. let parts = and_parts (list_any (λ n. true) (moved_directory tree c)) (list_any (λ n. true) (moved_directory tree b)) both in true≢false (sym (and_from _ _ parts.1 parts.0) ∙ apart.moves));
}

pub diamond_law : DiamondLaw
diamond_law tree b c formed is is' apart =
    let good = Good-from tree formed in
    let applies_b = Applies-from tree b is in
    let applies_c = Applies-from tree c is' in (
      follows tree b c good applies_b applies_c apart,
      follows tree c b good applies_c applies_b (AreApart-sym tree b c apart),
      changed-commute tree b c good.rises (Fits-from tree b applies_b) (Fits-from tree c applies_c) apart.nodes,
    )
