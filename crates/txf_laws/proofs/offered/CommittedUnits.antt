-- The units of committed files and of older versions, and how many nodes there are, once changes are committed.
use Rattle.std.proofs.Common.{◌≡◌, ◌⊎◌, ℕ, ◌+◌, ◌≤◌, ◌==◌, ◌&&◌, not, Bool, true, false, cond, is_some, List, [], ◌∷◌, ◌++◌, fold, filter, length, sum_by, Option, Some, None, refl, sym, ◌∙◌, ap, subst, arith, inl, inr}
use Rattle.std.proofs.lemmas.Bool.{cases_Bool, and_parts, and_from, eqb-true, eqb-false, eq-eqb, ne_eqb, not-true, not_from_false, true≢false, false_from_ne_true}
use Rattle.std.proofs.lemmas.List.Sums.{sum_by-cons}
use Rattle.std.specs.List.{list_any}
use Rattle.std.specs.Prelude.{nat_lt}
use Rattle.ktm_world.specs.declared.change.Change.{Change}
use Rattle.ktm_world.specs.declared.change.Change.TheVariants.{Make, Put, Cut, Move, Drop}
use Rattle.ktm_world.specs.declared.change.Contents.TheVariants.{Whole}
use Rattle.ktm_world.specs.declared.change.NodeKind.TheVariants.{File, Directory}
use Rattle.ktm_world.specs.declared.recorded.Node.{Node}
use Rattle.ktm_world.specs.Changes.{changed, changed_all, applies, changes_apply, bytes_in, changes_bytes, is_drop, is_make, new_content, node_of, nodes_made}
use Rattle.ktm_world.specs.Committed.{Committed, Version, version_of, versions_after, with_change, final_bytes, written_files, changes_to_commit}
use Rattle.ktm_world.specs.Files.{FirstOpen}
use Rattle.ktm_world.specs.FileUses.{same_version}
use Rattle.ktm_world.specs.Tree.{Tree, node_at, content_of, is_file, bytes_or_none, bytes_of, units_of, cut_to, put_over, with_node, with_changed, without_node}
use Rattle.txf_laws.specs.FinalChanges.{names_of}
use Rattle.txf_laws.specs.Elements.{IsIn, each_pair}
use Rattle.txf_laws.specs.SoundFiles.{files_rise}
use Rattle.txf_laws.proofs.offered.ChangeTests.{Applies-from, Fits-from}
use Rattle.txf_laws.proofs.offered.Elements.{IsIn-filter, not-not, length-filter-less}
use Rattle.ktm_world.proofs.offered.Lookups.{Above, Fits, Rises, map_node, node_at-with_changed, node_at-elsewhere, node_at-there, Rises-changed}
use Rattle.txf_laws.proofs.offered.NormalForms.{names_only, ends_of, cut-none, put-none}
use Rattle.txf_laws.proofs.offered.OlderVersions.{older_units, newly, older-grows}
use Rattle.txf_laws.proofs.offered.Sums.{sum-filter-less}
use Rattle.txf_laws.proofs.offered.Versions.{FitVersions, fit-after, Shows, shows-after, version_of-raised, version-elsewhere}

-- ---- the units of a tree

-- the units of a node
abbrev pub node_units : Node → ℕ
node_units node = units_of (bytes_or_none node.content)

-- the units of all committed files
abbrev pub tree_units : Tree → ℕ
tree_units tree = sum_by node_units tree

-- the units of the file with this number
abbrev pub units_at : Tree → ℕ → ℕ
units_at tree n = units_of (bytes_of tree n)

pub units-with_node : (tree : Tree) (node : Node) → tree_units (with_node tree node) ≡ node_units node + tree_units tree
units-with_node [] node = omega (arith, sum_by-cons node_units node [])
units-with_node (n ∷ ns) node = elim (cases_Bool (nat_lt node.number n.number)) [
  | inl before ↦ rw before (sum_by-cons node_units node (n ∷ ns))
  | inr behind ↦ rw behind (let rest = units-with_node ns node in let a = sum_by-cons node_units n (with_node ns node) in let b = sum_by-cons node_units n ns in omega arith)
]

units-without_node : (tree : Tree) (n : ℕ) → tree_units (without_node tree n) + units_at tree n ≤ tree_units tree
units-without_node [] n = omega arith
units-without_node (x ∷ xs) n =
    let all = sum_by-cons node_units x xs in
    elim (cases_Bool (x.number == n)) [
      | inl here ↦ rw here (let low = sum-filter-less node_units (λ (y : Node). not (y.number == n)) xs in omega arith)
      | inr other ↦ rw other (let rest = units-without_node xs n in let b = sum_by-cons node_units x (without_node xs n) in omega arith)
    ]

pub changed-above : (tree : Tree) (n m : ℕ) (f : Node → Node) → Above n tree → m ≤ n → with_changed tree m f ≡ tree
changed-above [] n m f above low = refl
changed-above (x ∷ xs) n m f above low = rw (ne_eqb x.number m (λ e. omega (arith, above.0))) (ap (λ ys. x ∷ ys) (changed-above xs n m f above.1 low))

units-with_changed : (tree : Tree) (n : ℕ) (f : Node → Node) (node : Node) → Rises tree → node_at tree n ≡ Some node → tree_units (with_changed tree n f) + node_units node ≡ tree_units tree + node_units (f node)
units-with_changed [] n f node rises found = absurd (no_none node found)
  where
    no_none : (node : Node) → ◌≡◌ {A = Option Node} None (Some node) → ⊥
    no_none node e = true≢false (sym (ap is_some e))
units-with_changed (x ∷ xs) n f node rises found =
    let all = sum_by-cons node_units x xs in
    elim (cases_Bool (x.number == n)) [
      | inl here ↦
          let is : x ≡ node = same (rw here at found) in
          let rest : with_changed xs n f ≡ xs = changed-above xs x.number n f rises.0 (omega (arith, eqb-true _ _ here)) in
          rw here (let new = sum_by-cons node_units (f x) (with_changed xs n f) in let tail = ap tree_units rest in let e = ap node_units is in let e' = ap (λ y. node_units (f y)) is in omega arith)
      | inr other ↦ rw other (let rest = units-with_changed xs n f node rises.1 (rw other at found) in let new = sum_by-cons node_units x (with_changed xs n f) in omega arith)
    ]
  where
    same : {x node : Node} → Some x ≡ Some node → x ≡ node
    same {x} {node} e = ap (λ o. elim o as (λ _. Node) [ Some y ↦ y | None ↦ x ]) e

pub units-with_same : (tree : Tree) (n : ℕ) (f : Node → Node) → ((x : Node) → (f x).content ≡ x.content) → tree_units (with_changed tree n f) ≡ tree_units tree
units-with_same [] n f same = refl
units-with_same (x ∷ xs) n f same =
    let rest = units-with_same xs n f same in
    let all = sum_by-cons node_units x xs in
    elim (cases_Bool (x.number == n)) [
      | inl here ↦ rw here (let new = sum_by-cons node_units (f x) (with_changed xs n f) in let e = ap (λ c. units_of (bytes_or_none c)) (same x) in omega arith)
      | inr other ↦ rw other (let new = sum_by-cons node_units x (with_changed xs n f) in omega arith)
    ]

-- ---- one change

-- the units that a change gives its file
abbrev pub gain : Tree → Change → ℕ
gain tree (Put node offset contents) = units_of (put_over (bytes_of tree node) offset (bytes_in contents))
gain tree (Cut node size pages) = units_of (cut_to (bytes_of tree node) size)
gain tree _ = 0

-- does the change end a version of its file
abbrev pub ends : Change → Bool
ends (Make node parent kind name) = false
ends (Put node offset contents) = true
ends (Cut node size pages) = true
ends (Move node parent name) = false
ends (Drop node) = true

-- the units that the committed file loses
abbrev loss : Tree → Change → ℕ
loss tree c = cond (ends c) (units_at tree (node_of c)) 0

-- a node that a change makes is not there yet, and a file that it puts or cuts is there
pub record Suits (tree : Tree) (c : Change) : Type 0 where
  pub fits : Fits tree c
  pub file : changes_bytes c ≡ true → is_file tree (node_of c) ≡ true

pub suits-applies : (tree : Tree) (c : Change) → applies tree c ≡ true → Suits tree c
suits-applies tree c is = record { fits = Fits-from tree c (Applies-from tree c is); file = there c is }
  where
    there : (c : Change) → applies tree c ≡ true → changes_bytes c ≡ true → is_file tree (node_of c) ≡ true
    there (Make node parent kind name) is bytes = absurd (true≢false (sym bytes))
    there (Put node offset contents) is bytes = (Applies-from tree (Put node offset contents) is).0
    there (Cut node size pages) is bytes = (Applies-from tree (Cut node size pages) is).0
    there (Move node parent name) is bytes = absurd (true≢false (sym bytes))
    there (Drop node) is bytes = absurd (true≢false (sym bytes))

pub file-found : (tree : Tree) (n : ℕ) → is_file tree n ≡ true → (node : Node) × (node_at tree n ≡ Some node)
file-found tree n file = go (node_at tree n) refl file
  where
    go : (o : Option Node) → node_at tree n ≡ o → is_some (content_of o) ≡ true → (node : Node) × (node_at tree n ≡ Some node)
    go None e some = absurd (true≢false (sym some))
    go (Some node) e some = (node, e)

units-changed : (tree : Tree) (c : Change) → Suits tree c → Rises tree → tree_units (changed tree c) + loss tree c ≤ tree_units tree + gain tree c
units-changed tree (Make node parent File name) is rises = let all = units-with_node tree (record { number = node; parent = parent; name = name; content = Some [] }) in omega arith
units-changed tree (Make node parent Directory name) is rises = let all = units-with_node tree (record { number = node; parent = parent; name = name; content = None }) in omega arith
units-changed tree (Put node offset contents) is rises =
    let found = file-found tree node (is.file refl) in
    let all = units-with_changed tree node (λ n. record n { content = Some (put_over (bytes_or_none n.content) offset (bytes_in contents)) }) found.0 rises found.1 in
    let old = ap (λ o. units_of (bytes_or_none (content_of o))) found.1 in
    let new = ap (λ o. units_of (put_over (bytes_or_none (content_of o)) offset (bytes_in contents))) found.1 in
    omega arith
units-changed tree (Cut node size pages) is rises =
    let found = file-found tree node (is.file refl) in
    let all = units-with_changed tree node (λ n. record n { content = Some (cut_to (bytes_or_none n.content) size) }) found.0 rises found.1 in
    let old = ap (λ o. units_of (bytes_or_none (content_of o))) found.1 in
    let new = ap (λ o. units_of (cut_to (bytes_or_none (content_of o)) size)) found.1 in
    omega arith
units-changed tree (Move node parent name) is rises = let all = units-with_same tree node (λ n. record n { parent = parent; name = name }) (λ x. refl) in omega arith
units-changed tree (Drop node) is rises = let all = units-without_node tree node in omega arith

-- ---- older versions

-- is it an older version than that of the tree
abbrev pub is_older : Tree → List Version → FirstOpen → Bool
is_older tree vs o = not (is_file tree o.file && o.version == version_of vs o.file)

pub older-like : (tree : Tree) (vs : List Version) (a b : FirstOpen) → same_version a b ≡ true → is_older tree vs a ≡ is_older tree vs b
older-like tree vs a b same =
    let parts = and_parts (a.file == b.file) (a.version == b.version) same in
    let file = eqb-true _ _ parts.0 in
    let version = eqb-true _ _ parts.1 in
    λ i. not (is_file tree (file i) && version i == version_of vs (file i))

-- what is committed, and the first opens of other transactions
pub record Rests (tree : Tree) (vs : List Version) (os : List FirstOpen) : Type 0 where
  pub rises : Rises tree
  pub fit : FitVersions tree vs
  pub shows : (o : FirstOpen) → IsIn o os → Shows tree vs o

-- no change makes a file of theirs
abbrev pub Fresh : Change → List FirstOpen → Type 0
Fresh c os = (o : FirstOpen) → IsIn o os → is_make c ≡ true → node_of c ≡ o.file → ⊥

-- of another file the version is as before, and of the same one older
older-after : (tree : Tree) (vs : List Version) (c : Change) (o : FirstOpen) → Suits tree c → each_pair files_rise vs ≡ true → Shows tree vs o → (is_make c ≡ true → node_of c ≡ o.file → ⊥)
    → (is_older (changed tree c) (versions_after vs c) o ≡ is_older tree vs o) ⊎ ((node_of c ≡ o.file) × (ends c ≡ true) × (is_older (changed tree c) (versions_after vs c) o ≡ true))
older-after tree vs c o is rises shows fresh = elim (cases_Bool (node_of c == o.file)) [
  | inl here ↦ there c is fresh (eqb-true _ _ here)
  | inr other ↦ inl (
      let file = ap (λ n. is_some (content_of n)) (node_at-elsewhere tree c is.fits o.file (eqb-false _ _ other)) in
      let version = version-elsewhere vs c o.file (eqb-false _ _ other) in
      λ i. not (file i && o.version == version i))
]
  where
    moved : (f : Node → Node) → ((n : Node) → (f n).content ≡ n.content) → (n : Option Node) → content_of (map_node f n) ≡ content_of n
    moved f same None = refl
    moved f same (Some n) = same n

    raised : (tree' : Tree) (n : ℕ) → n ≡ o.file → is_file tree n ≡ true → is_older tree' (versions_after vs (Cut n 0 [])) o ≡ true
    raised tree' n e file = not_from_false _ (false_from_ne_true _ (λ last.
        let parts = and_parts (is_file tree' o.file) (o.version == version_of (versions_after vs (Cut n 0 [])) o.file) last in
        let was = shows.was (subst (λ k. is_file tree k ≡ true) e file) in
        let now : version_of (versions_after vs (Cut n 0 [])) o.file ≡ version_of vs o.file + 1 = ap (λ k. version_of (versions_after vs (Cut k 0 [])) o.file) e ∙ version_of-raised vs o.file rises in
        let at = eqb-true _ _ parts.1 in
        omega arith))

    there : (c : Change) → Suits tree c → (is_make c ≡ true → node_of c ≡ o.file → ⊥) → node_of c ≡ o.file
        → (is_older (changed tree c) (versions_after vs c) o ≡ is_older tree vs o) ⊎ ((node_of c ≡ o.file) × (ends c ≡ true) × (is_older (changed tree c) (versions_after vs c) o ≡ true))
    there (Make node parent kind name) is fresh e = absurd (fresh refl e)
    there (Put node offset contents) is fresh e = inr (e, refl, raised (changed tree (Put node offset contents)) node e (is.file refl))
    there (Cut node size pages) is fresh e = inr (e, refl, raised (changed tree (Cut node size pages)) node e (is.file refl))
    there (Move node parent name) is fresh e = inl (
        let file : is_file (changed tree (Move node parent name)) o.file ≡ is_file tree o.file = subst (λ k. is_file (changed tree (Move node parent name)) k ≡ is_file tree k) e (ap is_some
        (ap content_of (node_at-there tree (Move node parent name) is.fits) ∙ moved _ (λ n. refl) (node_at tree node))) in
        λ i. not (file i && o.version == version_of vs o.file))
    there (Drop node) is fresh e = inr (
      e,
      refl,
      let gone : is_file (changed tree (Drop node)) o.file ≡ false = subst (λ k. is_file (changed tree (Drop node)) k ≡ false) e
          (ap (λ n. is_some (content_of n)) (node_at-there tree (Drop node) is.fits)) in
          rw gone refl,
    )

-- the units of committed files, and of older versions
abbrev pub all_units : Tree → List Version → List FirstOpen → ℕ
all_units tree vs os = tree_units tree + older_units (is_older tree vs) os

pub units-after : (tree : Tree) (vs : List Version) (c : Change) (os : List FirstOpen) → Suits tree c → Rests tree vs os → Fresh c os
    → all_units (changed tree c) (versions_after vs c) os ≤ all_units tree vs os + gain tree c
units-after tree vs c os is rests fresh =
    let of_tree = units-changed tree c is rests.rises in
    let of_older = older-grows (is_older tree vs) (is_older (changed tree c) (versions_after vs c)) (loss tree c) os (record {
      stays = λ o there was. elim (after o there) [ inl same ↦ same ∙ was | inr (e, ends, now) ↦ now ];
      old_like = older-like tree vs;
      new_like = older-like (changed tree c) (versions_after vs c);
      one = λ a b there there' new new'.
          let p = was-last a there new in
          let q = was-last b there' new' in
          let e = sym p.0 ∙ q.0 in
          and_from _ _ (eq-eqb _ _ e) (eq-eqb _ _ (p.3 ∙ ap (version_of vs) e ∙ sym q.3));
      units = λ o there new.
          let p = was-last o there new in
          let bytes = ap units_of ((rests.shows o there).bytes p.2 p.3) in
          let at : units_at tree (node_of c) ≡ units_at tree o.file = ap (units_at tree) p.0 in
          rw p.1 (omega arith);
    }) in
    omega arith
  where
    after : (o : FirstOpen) → IsIn o os → (is_older (changed tree c) (versions_after vs c) o ≡ is_older tree vs o) ⊎ ((node_of c ≡ o.file) × (ends c ≡ true) × (is_older (changed tree c) (versions_after vs c) o ≡ true))
    after o there = older-after tree vs c o is rests.fit.rise (rests.shows o there) (fresh o there)

    was-last : (o : FirstOpen) → IsIn o os → newly (is_older tree vs) (is_older (changed tree c) (versions_after vs c)) o ≡ true
        → (node_of c ≡ o.file) × (ends c ≡ true) × (is_file tree o.file ≡ true) × (o.version ≡ version_of vs o.file)
    was-last o there new =
        let parts = and_parts (is_older (changed tree c) (versions_after vs c) o) (not (is_older tree vs o)) new in
        elim (after o there) [
          | inl same ↦ absurd (true≢false (sym parts.0 ∙ same ∙ not-true _ parts.1))
          | inr (e, ends, now) ↦
              let last = and_parts (is_file tree o.file) (o.version == version_of vs o.file) (not-not _ (not-true _ parts.1)) in
              (e, ends, last.0, eqb-true _ _ last.1)
        ]

-- ---- all changes

-- what changes give their files, each on the tree that it finds
abbrev pub gains : Tree → List Change → ℕ
gains tree [] = 0
gains tree (c ∷ cs) = gain tree c + gains (changed tree c) cs

pub units-all : (cs : List Change) (c : Committed) (os : List FirstOpen) → changes_apply c.tree cs ≡ true → Rests c.tree c.versions os → ((change : Change) → IsIn change cs → Fresh change os)
    → all_units (fold with_change c cs).tree (fold with_change c cs).versions os ≤ all_units c.tree c.versions os + gains c.tree cs
units-all [] c os all rests fresh = omega arith
units-all (change ∷ cs) c os all rests fresh =
    let parts = and_parts (applies c.tree change) (changes_apply (changed c.tree change) cs) all in
    let first = units-after c.tree c.versions change os (suits-applies c.tree change parts.0) rests (fresh change (inl refl)) in
    let rest = units-all cs (with_change c change) os parts.1 (record {
      rises = Rises-changed c.tree change (Fits-from c.tree change (Applies-from c.tree change parts.0)) rests.rises;
      fit = fit-after c.tree c.versions change parts.0 rests.fit;
      shows = λ o there. shows-after c.tree c.versions change o parts.0 rests.fit.rise (fresh change (inl refl) o there) (rests.shows o there);
    }) (λ d there. fresh d (inr there)) in
    omega arith

gains-append : (tree : Tree) (as' bs : List Change) → gains tree (as' ++ bs) ≡ gains tree as' + gains (changed_all tree as') bs
gains-append tree [] bs = omega arith
gains-append tree (a ∷ as') bs = let rest = gains-append (changed tree a) as' bs in omega arith

pub gains-names : (tree : Tree) (cs : List Change) → ((c : Change) → IsIn c cs → names_only c ≡ true) → gains tree cs ≡ 0
gains-names tree [] names = refl
gains-names tree (c ∷ cs) names = let rest = gains-names (changed tree c) cs (λ d there. names d (inr there)) in let one = none c (names c (inl refl)) in omega arith
  where
    none : (c : Change) → names_only c ≡ true → gain tree c ≡ 0
    none (Make node parent kind name) is = refl
    none (Put node offset contents) is = absurd (true≢false (sym is))
    none (Cut node size pages) is = absurd (true≢false (sym is))
    none (Move node parent name) is = refl
    none (Drop node) is = refl

-- a file that was cut to nothing has no bytes
pub cut-empty : (tree : Tree) (f : ℕ) → bytes_of (changed tree (Cut f 0 [])) f ≡ []
cut-empty tree f =
    let step : Node → Node = λ n. record n { content = Some (cut_to (bytes_or_none n.content) 0) } in
    let here : cond (f == f) (map_node step (node_at tree f)) (node_at tree f) ≡ map_node step (node_at tree f) = rw (eq-eqb f f refl) refl in
    ap (λ n. bytes_or_none (content_of n)) (node_at-with_changed tree f step (λ n. refl) f ∙ here) ∙ go (node_at tree f)
  where
    go : (o : Option Node) → bytes_or_none (content_of (map_node (λ n. record n { content = Some (cut_to (bytes_or_none n.content) 0) }) o)) ≡ []
    go None = refl
    go (Some n) = cut-none (bytes_or_none n.content)

gains-ends : (tree : Tree) (by : ℕ → List ℕ) (files : List ℕ) → gains tree (ends_of by files) ≡ sum_by (λ f. units_of (by f)) files
gains-ends tree by [] = refl
gains-ends tree by (f ∷ fs) = let all = sum_by-cons (λ f. units_of (by f)) f fs in let these = go (λ t. gains-ends t by fs) (by f) in omega arith
  where
    cut : units_of (cut_to (bytes_of tree f) 0) ≡ 0
    cut = ap units_of (cut-none (bytes_of tree f))

    go : ((t : Tree) → gains t (ends_of by fs) ≡ sum_by (λ f. units_of (by f)) fs) → (bs : List ℕ) → gains tree (final_bytes f bs ++ ends_of by fs) ≡ units_of bs + sum_by (λ f. units_of (by f)) fs
    go rest [] = let later = rest (changed tree (Cut f 0 [])) in let first = cut in omega arith
    go rest (b ∷ bs) =
        let t = changed tree (Cut f 0 []) in
        let put = ap units_of (put-none (bytes_of t f) (b ∷ bs) (cut-empty tree f)) in
        let later = rest (changed t (Put f 0 (Whole (b ∷ bs)))) in
        let first = cut in
        omega arith

-- changes in the form in which they are committed give the files that they leave their bytes
pub gains-final : (tree : Tree) (cs : List Change) (by : ℕ → List ℕ) → changes_to_commit cs by ≡ cs → gains tree cs ≡ sum_by (λ f. units_of (by f)) (written_files cs)
gains-final tree cs by final =
    ap (gains tree) (sym final) ∙ gains-append tree (names_of cs) (ends_of by (written_files cs))
    ∙ ap (λ n. n + gains (changed_all tree (names_of cs)) (ends_of by (written_files cs))) (gains-names tree (names_of cs) (λ c there. (IsIn-filter names_only cs c there).1))
    ∙ (let these = gains-ends (changed_all tree (names_of cs)) by (written_files cs) in omega arith)

-- ---- nodes

-- does no change drop the node
abbrev stays : List Change → Node → Bool
stays cs node = not (list_any (λ later. is_drop later && node_of later == node.number) cs)

length-with_node : (keep : Node → Bool) (tree : Tree) (node : Node) → length (filter keep (with_node tree node)) ≡ cond (keep node) 1 0 + length (filter keep tree)
length-with_node keep [] node = elim (cases_Bool (keep node)) [ inl is ↦ rw is (omega arith) | inr not' ↦ rw not' (omega arith) ]
length-with_node keep (n ∷ ns) node = elim (cases_Bool (nat_lt node.number n.number)) [
  | inl before ↦ rw before (elim (cases_Bool (keep node)) [ inl is ↦ rw is (omega arith) | inr not' ↦ rw not' (omega arith) ])
  | inr behind ↦ rw behind (let rest = length-with_node keep ns node in elim (cases_Bool (keep n)) [ inl is ↦ rw is (omega arith) | inr not' ↦ rw not' rest ])
]

length-with_changed : (cs : List Change) (tree : Tree) (n : ℕ) (f : Node → Node) → ((x : Node) → (f x).number ≡ x.number) → length (filter (stays cs) (with_changed tree n f)) ≡ length (filter (stays cs) tree)
length-with_changed cs [] n f same = refl
length-with_changed cs (x ∷ xs) n f same =
    let rest = length-with_changed cs xs n f same in
    elim (cases_Bool (x.number == n)) [
      | inl here ↦ rw here (let e : stays cs (f x) ≡ stays cs x = ap (λ k. not (list_any (λ later. is_drop later && node_of later == k) cs)) (same x) in
          elim (cases_Bool (stays cs x)) [ inl is ↦ rw (e ∙ is, is) (omega arith) | inr not' ↦ rw (e ∙ not', not') rest ])
      | inr other ↦ rw other (elim (cases_Bool (stays cs x)) [ inl is ↦ rw is (omega arith) | inr not' ↦ rw not' rest ])
    ]

length-dropped : (cs : List Change) (n : ℕ) (tree : Tree) → length (filter (stays cs) (without_node tree n)) ≡ length (filter (stays (Drop n ∷ cs)) tree)
length-dropped cs n [] = refl
length-dropped cs n (x ∷ xs) =
    let rest = length-dropped cs n xs in
    elim (cases_Bool (n == x.number)) [
      | inl here ↦ let turned : (x.number == n) ≡ true = eq-eqb _ _ (sym (eqb-true _ _ here)) in rw (turned, here) rest
      | inr other ↦ let turned : (x.number == n) ≡ false = ne_eqb _ _ (λ e. eqb-false _ _ other (sym e)) in
          rw (turned, other) (elim (cases_Bool (list_any (λ later. is_drop later && node_of later == x.number) cs)) [ inl dropped ↦ rw dropped rest | inr stays ↦ rw stays (omega arith) ])
    ]

length-staying : (cs : List Change) (tree : Tree) → length (changed_all tree cs) ≤ length (filter (stays cs) tree) + nodes_made cs
length-staying [] tree = go tree
  where
    go : (tree : Tree) → length tree ≤ length (filter (stays []) tree) + 0
    go [] = omega arith
    go (x ∷ xs) = let rest = go xs in omega arith
length-staying (Make node parent kind name ∷ cs) tree =
    let made : Node = record { number = node; parent = parent; name = name; content = new_content kind } in
    let rest = length-staying cs (with_node tree made) in
    let kept = length-with_node (stays cs) tree made in
    omega arith
length-staying (Put node offset contents ∷ cs) tree =
    let rest = length-staying cs (changed tree (Put node offset contents)) in
    let kept = length-with_changed cs tree node (λ n. record n { content = Some (put_over (bytes_or_none n.content) offset (bytes_in contents)) }) (λ x. refl) in
    omega arith
length-staying (Cut node size pages ∷ cs) tree =
    let rest = length-staying cs (changed tree (Cut node size pages)) in
    let kept = length-with_changed cs tree node (λ n. record n { content = Some (cut_to (bytes_or_none n.content) size) }) (λ x. refl) in
    omega arith
length-staying (Move node parent name ∷ cs) tree =
    let rest = length-staying cs (changed tree (Move node parent name)) in
    let kept = length-with_changed cs tree node (λ n. record n { parent = parent; name = name }) (λ x. refl) in
    omega arith
length-staying (Drop node ∷ cs) tree = let rest = length-staying cs (changed tree (Drop node)) in let kept = length-dropped cs node tree in omega arith

-- there are no more nodes than there were, and those that changes make and leave
pub nodes-all : (cs : List Change) (tree : Tree) → length (changed_all tree cs) ≤ length tree + nodes_made cs
nodes-all cs tree = let all = length-staying cs tree in let some = length-filter-less (stays cs) tree in omega arith
