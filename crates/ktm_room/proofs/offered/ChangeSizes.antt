-- How many bytes the changes of a transaction take in a log, by how many names they change, and by the files that they write with their pages.
use Rattle.std.proofs.Common.{◌≡◌, ℕ, ◌+◌, ◌*◌, ◌≤◌, true, is_some, List, [], ◌∷◌, ◌++◌, length, sum_by, refl, sym, ◌∙◌, ap, subst, arith, inl, inr}
use Rattle.std.proofs.lemmas.Bool.{and_parts, ne_eqb, true≢false}
use Rattle.std.proofs.lemmas.List.Sums.{sum_by-append, sum_by-cons, sum_by-le}
use Rattle.std.specs.List.{list_all}
use Rattle.ktm_event.specs.Spelling.{IsSpellableChange}
use Rattle.ktm_world.specs.declared.change.Change.{Change}
use Rattle.ktm_world.specs.declared.change.Change.TheVariants.{Make, Put, Cut, Move, Drop}
use Rattle.ktm_world.specs.declared.change.Contents.TheVariants.{Whole}
use Rattle.ktm_world.specs.Sizes.{change_size}
use Rattle.ktm_world.specs.Changes.{applies, changed, changed_all, changes_apply, changes_bytes, nodes_made}
use Rattle.ktm_world.specs.Committed.{changes_to_commit, final_bytes, written_files}
use Rattle.ktm_world.specs.Tree.{Tree, is_file, node_at, units_of, without_node}
use Rattle.ktm_world.proofs.offered.Lookups.{node_at-without_node}
use Rattle.txf_laws.specs.Elements.{IsIn}
use Rattle.txf_laws.specs.FinalChanges.{names_of}
use Rattle.txf_laws.proofs.offered.ChangeTests.{Applies-from}
use Rattle.txf_laws.proofs.offered.CommitsOfOthers.{All-by}
use Rattle.txf_laws.proofs.offered.CommittedUnits.{nodes-all}
use Rattle.txf_laws.proofs.offered.Elements.{IsIn-filter}
use Rattle.txf_laws.proofs.offered.Formed.{content-found}
use Rattle.txf_laws.proofs.offered.NormalForms.{AllBytes, RisingNumbers, changed_all-append, changes_apply-second, ends-bytes, ends_of, names_only, rising-written}
use Rattle.txf_laws.proofs.offered.Pigeons.{length-without}
use Rattle.txf_laws.proofs.offered.PlainChange.{no-drop}
use Rattle.txf_laws.proofs.offered.Versions.{is_file-kept}
use Rattle.ktm_owned.proofs.offered.RestoredChanges.{applied-in}
use Rattle.ktm_records.proofs.offered.OwnSizes.{spelled-name}

-- ---- names

-- a change of a name that applies
pub name-size : (tree : Tree) (c : Change) → applies tree c ≡ true → names_only c ≡ true → change_size c ≤ 274
name-size tree c is names = go c (spelled-name tree c is names) names
  where
    go : (c : Change) → IsSpellableChange c → names_only c ≡ true → change_size c ≤ 274
    go (Make node parent kind name) short names = omega (arith, short)
    go (Put node offset contents) short names = absurd (true≢false (sym names))
    go (Cut node size pages) short names = absurd (true≢false (sym names))
    go (Move node parent name) short names = omega (arith, short)
    go (Drop node) short names = omega arith

names-size : (tree : Tree) (cs : List Change) → changes_apply tree cs ≡ true → sum_by change_size (names_of cs) ≤ 274 * length (names_of cs)
names-size tree cs all =
    let most = sum_by-le change_size 274 (names_of cs) (All-by (λ c. change_size c ≤ 274) (names_of cs) (λ c there.
    let kept = IsIn-filter names_only cs c there in
    let at = applied-in cs tree all c kept.0 in
    name-size at.0 c at.1 kept.1)) in
    omega (arith, most)

-- ---- bytes

-- the bytes of a file, behind the cut to nothing
end-size : (file : ℕ) (bytes : List ℕ) → sum_by change_size (final_bytes file bytes) ≤ 46 + 4 * units_of bytes
end-size file [] = let cut = sum_by-cons change_size (Cut file 0 []) [] in omega (arith, cut)
end-size file (b ∷ bs) =
    let put = Put file 0 (Whole (b ∷ bs)) in
    let first = sum_by-cons change_size (Cut file 0 []) (put ∷ []) in
    let second = sum_by-cons change_size put [] in
    omega (arith, first, second)

ends-size : (by : ℕ → List ℕ) (files : List ℕ) → sum_by change_size (ends_of by files) ≤ 46 * length files + 4 * sum_by (λ f. units_of (by f)) files
ends-size by [] = omega arith
ends-size by (f ∷ fs) =
    let both = sum_by-append change_size (final_bytes f (by f)) (ends_of by fs) in
    let units = sum_by-cons (λ f. units_of (by f)) f fs in
    let one = end-size f (by f) in
    let rest = ends-size by fs in
    omega (arith, both, units, one, rest)

-- ---- how many files

-- a tree has as many nodes as there are different numbers of them
pub as-many : (numbers : List ℕ) (tree : Tree) → RisingNumbers numbers → ((n : ℕ) → IsIn n numbers → is_some (node_at tree n) ≡ true) → length numbers ≤ length tree
as-many [] tree rises there = omega arith
as-many (n ∷ ns) tree rises there =
    let less = length-without tree n (there n (inl refl)) in
    let rest = as-many ns (without_node tree n) rises.1 (λ m is. rw (node_at-without_node tree n m, ne_eqb n m (λ e. absurd (let over = rises.0 m is in omega (arith, over, e)))) (there m (inr is))) in
    omega (arith, less, rest)

-- changes of bytes leave a file there
file-stays : (cs : List Change) (tree : Tree) → AllBytes cs → changes_apply tree cs ≡ true → (f : ℕ) → is_file tree f ≡ true → is_file (changed_all tree cs) f ≡ true
file-stays [] tree bytes all f file = file
file-stays (c ∷ cs) tree bytes all f file =
    let here = and_parts (changes_bytes c) (list_all changes_bytes cs) bytes in
    let is = and_parts (applies tree c) (changes_apply (changed tree c) cs) all in
    file-stays cs (changed tree c) here.1 is.1 f (is_file-kept tree c is.0 (no-drop c here.0) f file)

-- the files whose bytes are given are there
given-there : (by : ℕ → List ℕ) (files : List ℕ) (tree : Tree) → changes_apply tree (ends_of by files) ≡ true → (f : ℕ) → IsIn f files → is_file (changed_all tree (ends_of by files)) f ≡ true
given-there by [] tree all f there = absurd there
given-there by (g ∷ gs) tree all f (inl e) = file-stays (ends_of by (g ∷ gs)) tree (ends-bytes by (g ∷ gs)) all f (subst (λ n. is_file tree n ≡ true) e (first (by g) all))
  where
    first : (bytes : List ℕ) → changes_apply tree (final_bytes g bytes ++ ends_of by gs) ≡ true → is_file tree g ≡ true
    first [] is = (Applies-from tree (Cut g 0 []) (and_parts (applies tree (Cut g 0 [])) _ is).0).0
    first (b ∷ bs) is = (Applies-from tree (Cut g 0 []) (and_parts (applies tree (Cut g 0 [])) _ is).0).0
given-there by (g ∷ gs) tree all f (inr there) =
    let own = final_bytes g (by g) in
    subst (λ t. is_file t f ≡ true) (sym (changed_all-append tree own (ends_of by gs))) (given-there by gs (changed_all tree own) (changes_apply-second tree own (ends_of by gs) all) f there)

-- ---- all changes

-- changes in the form in which they are committed, with these bytes of files
module _ (tree : Tree) (cs : List Change) (by : ℕ → List ℕ) (final : changes_to_commit cs by ≡ cs) (applied : changes_apply tree cs ≡ true) where
  abbrev ends : List Change
  ends = ends_of by (written_files cs)

  -- the files that they write are there then
  pub written-there : (f : ℕ) → IsIn f (written_files cs) → is_some (node_at (changed_all tree cs) f) ≡ true
  written-there f is =
      let here = changed_all tree (names_of cs) in
      let all : changes_apply tree (names_of cs ++ ends) ≡ true = subst (λ ds. changes_apply tree ds ≡ true) (sym final) applied in
      let after : changed_all here ends ≡ changed_all tree cs = sym (changed_all-append tree (names_of cs) ends) ∙ ap (changed_all tree) final in
      content-found (node_at (changed_all tree cs) f) (subst (λ t. is_file t f ≡ true) after (given-there by (written_files cs) here (changes_apply-second tree (names_of cs) ends all) f is))

  pub parts-size : sum_by change_size cs ≤ 274 * length (names_of cs) + 46 * length (written_files cs) + 4 * sum_by (λ f. units_of (by f)) (written_files cs)
  parts-size =
      let named = names-size tree cs applied in
      let given = ends-size by (written_files cs) in
      let both = sum_by-append change_size (names_of cs) ends in
      let same : sum_by change_size cs ≡ sum_by change_size (names_of cs ++ ends) = ap (sum_by change_size) (sym final) in
      omega (arith, named, given, both, same)

  pub changes-size : sum_by change_size cs ≤ 274 * length (names_of cs) + 46 * (length tree + nodes_made cs) + 4 * sum_by (λ f. units_of (by f)) (written_files cs)
  changes-size =
      let many = as-many (written_files cs) (changed_all tree cs) (rising-written cs [] tt) written-there in
      let nodes = nodes-all cs tree in
      let parts = parts-size in
      omega (arith, many, nodes, parts)
