-- How many nodes changes make and leave: as many as they make, but for those of them that they drop.
use Rattle.std.proofs.Common.{◌≡◌, ℕ, ◌+◌, ◌==◌, ◌&&◌, ◌||◌, not, Bool, true, false, List, [], ◌∷◌, ◌++◌, Option, Some, None, count_by, is_none, is_some, refl, sym, ◌∙◌, ap, subst, arith, inl, inr, ◌⊎◌, append_assoc}
use Rattle.std.specs.List.{list_all}
use Rattle.std.proofs.Math.Bool.{and-false}
use Rattle.std.proofs.lemmas.Bool.{and_from, and_parts, cases_Bool, cases_eq, eq-eqb, eqb-true, ne_eqb, not-true, or_parts, true≢false}
use Rattle.std.proofs.lemmas.List.{append-nil}
use Rattle.ktm_world.specs.declared.change.Change.{Change}
use Rattle.ktm_world.specs.declared.change.Change.TheVariants.{Make, Put, Cut, Move, Drop}
use Rattle.ktm_world.specs.declared.recorded.Node.{Node}
use Rattle.ktm_world.specs.Changes.{applies, changed, changed_all, changes_apply, is_drop, is_free, is_make, is_node_number, node_of, nodes_made}
use Rattle.ktm_world.specs.Durable.{is_new_in}
use Rattle.ktm_world.specs.Paths.{is_name}
use Rattle.ktm_world.specs.Tree.{Tree, has_entries, is_directory, is_there, node_at, root}
use Rattle.ktm_world.proofs.offered.Lookups.{remade}
use Rattle.ktm_waiting.specs.Totals.{drops_made}
use Rattle.txf_laws.proofs.offered.CommitsOfOthers.{changes_apply-first}
use Rattle.txf_laws.proofs.offered.Sums.{count-append, count-cons}
use Rattle.txf_overlay.specs.Nodes.{drop_it, one_if, times_made}
use Rattle.txf_overlay.proofs.NodesSeen.{drops, made-drop, made-push}
use Rattle.txf_overlay.proofs.Trees.{node_at-elsewhere, node_at-there}

-- ---- one node

none-more : (n : ℕ) → n + 0 ≡ n
none-more n = omega arith

none-before : (n : ℕ) → 0 + n ≡ n
none-before n = omega arith

-- a change of another node
passed-by : (x d dr mk : Bool) → one_if (x && not ((dr && false) || d)) + one_if (mk && false && not d) ≡ one_if (x && not d)
passed-by x d true true = none-more (one_if (x && not d))
passed-by x d true false = none-more (one_if (x && not d))
passed-by x d false true = none-more (one_if (x && not d))
passed-by x d false false = none-more (one_if (x && not d))

same-there : (c : Change) (o : Option Node) → is_drop c ≡ false → is_make c ≡ false → is_some (remade c o) ≡ is_some o
same-there (Make node parent kind name) o kept kept' = absurd (true≢false kept')
same-there (Put node offset contents) None kept kept' = refl
same-there (Put node offset contents) (Some x) kept kept' = refl
same-there (Cut node size pages) None kept kept' = refl
same-there (Cut node size pages) (Some x) kept kept' = refl
same-there (Move node parent name) None kept kept' = refl
same-there (Move node parent name) (Some x) kept kept' = refl
same-there (Drop node) o kept kept' = absurd (true≢false kept)

-- a node that is made is not there before
make-absent : (t : Tree) (c : Change) → applies t c ≡ true → is_make c ≡ true → is_some (node_at t (node_of c)) ≡ false
make-absent t (Make node parent kind name) is make =
    let d = and_parts (is_node_number node && not (is_there t node) && is_directory t parent && is_name name) (is_free t parent name) is in
    let c = and_parts (is_node_number node && not (is_there t node) && is_directory t parent) (is_name name) d.0 in
    let b = and_parts (is_node_number node && not (is_there t node)) (is_directory t parent) c.0 in
    let first = and_parts (is_node_number node) (not (is_there t node)) b.0 in
    (or_parts (node == root) (is_some (node_at t node)) (not-true (is_there t node) first.1)).1
make-absent t (Put node offset contents) is make = absurd (true≢false (sym make))
make-absent t (Cut node size pages) is make = absurd (true≢false (sym make))
make-absent t (Move node parent name) is make = absurd (true≢false (sym make))
make-absent t (Drop node) is make = absurd (true≢false (sym make))

-- one that is dropped is there before
drop-there : (t : Tree) (node : ℕ) → applies t (Drop node) ≡ true → is_some (node_at t node) ≡ true
drop-there t node is =
    let both = and_parts (not (node == root)) (is_there t node) (and_parts (not (node == root) && is_there t node) (not (has_entries t node)) is).0 in
    ap (λ b. b || is_some (node_at t node)) (sym (not-true (node == root) both.0)) ∙ both.1

made-there : (c : Change) (o : Option Node) → is_make c ≡ true → is_some (remade c o) ≡ true
made-there (Make node parent kind name) o make = refl
made-there (Put node offset contents) o make = absurd (true≢false (sym make))
made-there (Cut node size pages) o make = absurd (true≢false (sym make))
made-there (Move node parent name) o make = absurd (true≢false (sym make))
made-there (Drop node) o make = absurd (true≢false (sym make))

dropped : (c : Change) (o : Option Node) → is_drop c ≡ true → is_some (remade c o) ≡ false
dropped (Make node parent kind name) o drop = absurd (true≢false (sym drop))
dropped (Put node offset contents) o drop = absurd (true≢false (sym drop))
dropped (Cut node size pages) o drop = absurd (true≢false (sym drop))
dropped (Move node parent name) o drop = absurd (true≢false (sym drop))
dropped (Drop node) o drop = refl

not-both : (c : Change) → is_drop c ≡ true → is_make c ≡ true → ⊥
not-both (Make node parent kind name) drop make = true≢false (sym drop)
not-both (Put node offset contents) drop make = true≢false (sym drop)
not-both (Cut node size pages) drop make = true≢false (sym drop)
not-both (Move node parent name) drop make = true≢false (sym drop)
not-both (Drop node) drop make = true≢false (sym make)

-- whether a node is there that was, or is made, and not dropped behind that, one change on
one-on : (t : Tree) (c : Change) (n : ℕ) → applies t c ≡ true → (d : Bool)
    → one_if (is_some (node_at t n) && not (drops c n || d)) + one_if (is_make c && node_of c == n && not d) ≡ one_if (is_some (node_at (changed t c) n) && not d)
one-on t c n is d = go (cases_eq (node_of c) n)
  where
    x : Bool
    x = is_some (node_at t n)

    kinds : (dr mk : Bool) → is_drop c ≡ dr → is_make c ≡ mk → node_of c ≡ n → one_if (x && not ((dr && true) || d)) + one_if (mk && true && not d) ≡ one_if (is_some (node_at (changed t c) n) && not d)
    kinds false false kept kept' same =
        none-more (one_if (x && not d)) ∙ ap (λ b. one_if (b && not d)) (sym (ap is_some (node_at-there t c is n same) ∙ same-there c (node_at t n) kept kept'))
    kinds false true kept make same =
        let absent : x ≡ false = ap (λ m. is_some (node_at t m)) (sym same) ∙ make-absent t c is make in
        let there : is_some (node_at (changed t c) n) ≡ true = ap is_some (node_at-there t c is n same) ∙ made-there c (node_at t n) make in
        ap (λ b. one_if (b && not d) + one_if (not d)) absent ∙ none-before (one_if (not d)) ∙ ap (λ b. one_if (b && not d)) (sym there)
    kinds true false drop kept same =
        let gone : is_some (node_at (changed t c) n) ≡ false = ap is_some (node_at-there t c is n same) ∙ dropped c (node_at t n) drop in
        ap (λ b. one_if b + 0) (and-false x) ∙ ap (λ b. one_if (b && not d)) (sym gone)
    kinds true true drop make same = absurd (not-both c drop make)

    go : (node_of c ≡ n) ⊎ (node_of c ≡ n → ⊥) → one_if (x && not (drops c n || d)) + one_if (is_make c && node_of c == n && not d) ≡ one_if (is_some (node_at (changed t c) n) && not d)
    go (inl same) = rw (eq-eqb (node_of c) n same) (kinds (is_drop c) (is_make c) refl refl same)
    go (inr other) = rw (ne_eqb (node_of c) n other) (passed-by x d (is_drop c) (is_make c) ∙ ap (λ o. one_if (is_some o && not d)) (sym (node_at-elsewhere t c is n other)))

lives : (cs : List Change) (t : Tree) (n : ℕ) → changes_apply t cs ≡ true → one_if (is_some (node_at t n) && not (drop_it cs n)) + times_made cs n ≡ one_if (is_some (node_at (changed_all t cs) n))
lives [] t n all = none-more _ ∙ go (is_some (node_at t n))
  where
    go : (b : Bool) → one_if (b && true) ≡ one_if b
    go true = refl
    go false = refl
lives (c ∷ cs) t n all =
    let parts = and_parts (applies t c) (changes_apply (changed t c) cs) all in
    let rest = lives cs (changed t c) n parts.1 in
    let first = one-on t c n parts.0 (drop_it cs n) in
    omega (arith, rest, first)

-- changes that make new nodes alone make none of those that are there
new-times : (tree : Tree) (cs : List Change) (n : ℕ) → list_all (is_new_in tree) cs ≡ true → is_some (node_at tree n) ≡ true → times_made cs n ≡ 0
new-times tree [] n new there = refl
new-times tree (c ∷ cs) n new there =
    let parts = and_parts (is_new_in tree c) (list_all (is_new_in tree) cs) new in
    let rest = new-times tree cs n parts.1 there in
    elim (cases_Bool (is_make c && node_of c == n)) [
      | inl both ↦
          let is = and_parts (is_make c) (node_of c == n) both in
          let absent : is_none (node_at tree (node_of c)) ≡ true = ap (λ b. not b || is_none (node_at tree (node_of c))) (sym is.0) ∙ parts.0 in
          absurd (neither (node_at tree n) (ap (λ m. is_none (node_at tree m)) (sym (eqb-true (node_of c) n is.1)) ∙ absent) there)
      | inr other ↦ rw other (none-before (times_made cs n) ∙ rest)
    ]
  where
    neither : (o : Option Node) → is_none o ≡ true → is_some o ≡ true → ⊥
    neither None none some = true≢false (sym some)
    neither (Some x) none some = true≢false (sym none)

-- ---- all of them

-- the nodes that changes make are those that they leave made and those that they drop again
abbrev IsCounted : Tree → List Change → Type 0
IsCounted tree cs = nodes_made cs + count_by (drops_made tree) cs ≡ count_by is_make cs

-- the last of some changes applies to what the others made
apply-last : (done : List Change) (tree : Tree) (c : Change) → changes_apply tree (done ++ c ∷ []) ≡ true → (changes_apply tree done ≡ true) × (applies (changed_all tree done) c ≡ true)
apply-last [] tree c all = (refl, (and_parts (applies tree c) true all).0)
apply-last (d ∷ done) tree c all =
    let parts = and_parts (applies tree d) (changes_apply (changed tree d) (done ++ c ∷ [])) all in
    let rest = apply-last done (changed tree d) c parts.1 in
    (and_from _ _ parts.0 rest.0, rest.1)

all-first : (test : Change → Bool) (xs ys : List Change) → list_all test (xs ++ ys) ≡ true → list_all test xs ≡ true
all-first test [] ys all = refl
all-first test (x ∷ xs) ys all = let parts = and_parts (test x) (list_all test (xs ++ ys)) all in and_from _ _ parts.0 (all-first test xs ys parts.1)

one-more : (test : Change → Bool) (cs : List Change) (c : Change) → count_by test (cs ++ c ∷ []) ≡ count_by test cs + one_if (test c)
one-more test cs c = count-append test cs (c ∷ []) ∙ ap (λ n. count_by test cs + n) (count-cons test c [] ∙ none-more _)

counted-kept : (tree : Tree) (done : List Change) (c : Change) → is_drop c ≡ false → IsCounted tree done → IsCounted tree (done ++ c ∷ [])
counted-kept tree done c kept before =
    let made = made-push done c kept in
    let makes = one-more is_make done c in
    let drops = one-more (drops_made tree) done c ∙ ap (λ b. count_by (drops_made tree) done + one_if (b && is_none (node_at tree (node_of c)))) kept in
    omega (arith, before, made, makes, drops)

counted-drop : (tree : Tree) (done : List Change) (node : ℕ) → changes_apply tree (done ++ Drop node ∷ []) ≡ true → list_all (is_new_in tree) done ≡ true → IsCounted tree done → IsCounted tree (done ++ Drop node ∷ [])
counted-drop tree done node all new before = go (node_at tree node) refl
  where
    go : (o : Option Node) → node_at tree node ≡ o → IsCounted tree (done ++ Drop node ∷ [])
    go None absent =
        let last = apply-last done tree (Drop node) all in
        let made = made-drop done node in
        let makes = one-more is_make done (Drop node) in
        let drops = one-more (drops_made tree) done (Drop node) ∙ ap (λ (p : Option Node). count_by (drops_made tree) done + one_if (is_none p)) absent in
        let once : times_made done node ≡ 1 =
        sym (none-before (times_made done node)) ∙ ap (λ (p : Option Node). one_if (is_some p && not (drop_it done node)) + times_made done node) (sym absent)
        ∙ lives done tree node last.0 ∙ ap one_if (drop-there (changed_all tree done) node last.1) in
        omega (arith, before, made, makes, drops, once)
    go (Some x) there =
        let made = made-drop done node in
        let makes = one-more is_make done (Drop node) in
        let drops = one-more (drops_made tree) done (Drop node) ∙ ap (λ (p : Option Node). count_by (drops_made tree) done + one_if (is_none p)) there in
        let none = new-times tree done node new (ap is_some there) in
        omega (arith, before, made, makes, drops, none)

counted-all : (tree : Tree) (rest done : List Change) → changes_apply tree (done ++ rest) ≡ true → list_all (is_new_in tree) (done ++ rest) ≡ true → IsCounted tree done → IsCounted tree (done ++ rest)
counted-all tree [] done all new before = subst (IsCounted tree) (sym (append-nil done)) before
counted-all tree (c ∷ rest) done all new before =
    let again : (done ++ c ∷ []) ++ rest ≡ done ++ c ∷ rest = append_assoc done (c ∷ []) rest in
    let all' = ap (changes_apply tree) again ∙ all in
    subst (IsCounted tree) again
    (counted-all tree rest (done ++ c ∷ []) all' (ap (list_all (is_new_in tree)) again ∙ new) (next c (changes_apply-first tree (done ++ c ∷ []) rest all') (all-first (is_new_in tree) done (c ∷ rest) new) before))
  where
    next : (d : Change) → changes_apply tree (done ++ d ∷ []) ≡ true → list_all (is_new_in tree) done ≡ true → IsCounted tree done → IsCounted tree (done ++ d ∷ [])
    next (Drop node) applied news is = counted-drop tree done node applied news is
    next (Make node parent kind name) applied news is = counted-kept tree done (Make node parent kind name) refl is
    next (Put node offset contents) applied news is = counted-kept tree done (Put node offset contents) refl is
    next (Cut node size pages) applied news is = counted-kept tree done (Cut node size pages) refl is
    next (Move node parent name) applied news is = counted-kept tree done (Move node parent name) refl is

pub nodes-counted : (tree : Tree) (cs : List Change) → changes_apply tree cs ≡ true → list_all (is_new_in tree) cs ≡ true → nodes_made cs + count_by (drops_made tree) cs ≡ count_by is_make cs
nodes-counted tree cs all new = counted-all tree cs [] all new refl
