-- Versions of files while changes are committed, and what a first open shows then.
use Rattle.std.proofs.Common.{◌≡◌, ℕ, ◌+◌, ◌<◌, ◌≤◌, ◌==◌, not, true, false, is_some, List, [], ◌∷◌, map, fold, Option, Some, None, refl, sym, ◌∙◌, ap, subst, arith, inl, inr, ◌⊎◌}
use Rattle.std.proofs.lemmas.Bool.{cases_Bool, eq-eqb, ne_eqb, eqb-true, eqb-false, ltb-true, ltb-false, lt-ltb, and_parts, and_from, not-true, true≢false}
use Rattle.std.specs.List.{list_all}
use Rattle.std.specs.Prelude.{nat_lt}
use Rattle.ktm_world.specs.declared.change.Change.{Change}
use Rattle.ktm_world.specs.declared.change.Change.TheVariants.{Make, Put, Cut, Move, Drop}
use Rattle.ktm_world.specs.declared.recorded.Node.{Node}
use Rattle.ktm_world.specs.Changes.{changed, applies, changes_apply, is_drop, is_make, node_of}
use Rattle.ktm_world.specs.Committed.{Committed, Version, version_of, raised_version, without_version, versions_after, with_change}
use Rattle.ktm_world.specs.Files.{FirstOpen}
use Rattle.ktm_world.specs.Tree.{Tree, bytes_of, bytes_or_none, content_of, is_file, node_at}
use Rattle.txf_laws.specs.Elements.{IsIn, each_pair}
use Rattle.txf_laws.specs.SoundFiles.{files_rise}
use Rattle.txf_laws.proofs.offered.ChangeTests.{Applies-from, Fits-from, is_there-none}
use Rattle.txf_laws.proofs.offered.Elements.{IsIn-filter, list_all-at, list_all-from, each_pair-filter}
use Rattle.ktm_world.proofs.offered.Lookups.{map_node, remade, node_at-elsewhere, node_at-there}

-- ---- lists of versions

version_of-later : (vs : List Version) (n : ℕ) → ((v : Version) → IsIn v vs → n < v.file) → version_of vs n ≡ 0
version_of-later [] n later = refl
version_of-later (v ∷ vs) n later = rw (ne_eqb v.file n (λ e. omega (arith, later v (inl refl), e))) (version_of-later vs n (λ u there. later u (inr there)))

pub rises-behind : (v : Version) (vs : List Version) → each_pair files_rise (v ∷ vs) ≡ true → (u : Version) → IsIn u vs → v.file < u.file
rises-behind v vs rises u there = ltb-true v.file u.file (list_all-at (files_rise v) vs (and_parts (list_all (files_rise v) vs) (each_pair files_rise vs) rises).0 u there)

rises-rest : (v : Version) (vs : List Version) → each_pair files_rise (v ∷ vs) ≡ true → each_pair files_rise vs ≡ true
rises-rest v vs rises = (and_parts (list_all (files_rise v) vs) (each_pair files_rise vs) rises).1

pub version_of-raised : (vs : List Version) (n : ℕ) → each_pair files_rise vs ≡ true → version_of (raised_version vs n) n ≡ version_of vs n + 1
version_of-raised [] n rises = rw (eq-eqb n n refl) refl
version_of-raised (v ∷ vs) n rises = elim (cases_Bool (v.file == n)) [
  | inl same ↦ rw (same, same) refl
  | inr other ↦ elim (cases_Bool (nat_lt n v.file)) [
    | inl before ↦
        let less = ltb-true n v.file before in
        rw (other, before, eq-eqb n n refl, version_of-later vs n (λ u there. omega (arith, less, rises-behind v vs rises u there))) refl
    | inr behind ↦ rw (other, behind, other) (version_of-raised vs n (rises-rest v vs rises))
  ]
]

pub version_of-raised-other : (vs : List Version) (n file : ℕ) → (n ≡ file → ⊥) → version_of (raised_version vs n) file ≡ version_of vs file
version_of-raised-other [] n file other = rw (ne_eqb n file other) refl
version_of-raised-other (v ∷ vs) n file other = elim (cases_Bool (v.file == n)) [
  | inl same ↦
      let differs : (v.file == file) ≡ false = ne_eqb v.file file (λ e. other (sym (eqb-true _ _ same) ∙ e)) in
      rw (same, differs) refl
  | inr not_n ↦ elim (cases_Bool (nat_lt n v.file)) [
    | inl before ↦ rw (not_n, before, ne_eqb n file other) refl
    | inr behind ↦ elim (cases_Bool (v.file == file)) [
      | inl here ↦ rw (not_n, behind, here) refl
      | inr later ↦ rw (not_n, behind, later) (version_of-raised-other vs n file other)
    ]
  ]
]

pub version_of-without : (vs : List Version) (n file : ℕ) → (n ≡ file → ⊥) → version_of (without_version vs n) file ≡ version_of vs file
version_of-without [] n file other = refl
version_of-without (v ∷ vs) n file other = elim (cases_Bool (v.file == n)) [
  | inl same ↦
      let differs : (v.file == file) ≡ false = ne_eqb v.file file (λ e. other (sym (eqb-true _ _ same) ∙ e)) in
      rw (same, differs) (version_of-without vs n file other)
  | inr kept ↦ elim (cases_Bool (v.file == file)) [
    | inl here ↦ rw (kept, here) refl
    | inr later ↦ rw (kept, later) (version_of-without vs n file other)
  ]
]

-- a version that was there, or one of the file that counts from 1
IsIn-raised : (vs : List Version) (n : ℕ) (v : Version) → IsIn v (raised_version vs n) → IsIn v vs ⊎ ((v.file ≡ n) × (1 ≤ v.count))
IsIn-raised [] n v (inl e) = inr (ap (λ (u : Version). u.file) (sym e), subst (λ (u : Version). 1 ≤ u.count) e (omega arith))
IsIn-raised [] n v (inr none) = absurd none
IsIn-raised (u ∷ us) n v there = elim (cases_Bool (u.file == n)) [
  | inl same ↦
      let there' : IsIn v (record u { count = u.count + 1 } ∷ us) = rw same at there in
      elim there' [
        | inl e ↦ inr (ap (λ (w : Version). w.file) (sym e) ∙ eqb-true _ _ same, subst (λ (w : Version). 1 ≤ w.count) e (omega arith))
        | inr later ↦ inl (inr later)
      ]
  | inr other ↦ elim (cases_Bool (nat_lt n u.file)) [
    | inl before ↦
        let there' : IsIn v (record { file = n; count = 1 } ∷ u ∷ us) = rw (other, before) at there in
        elim there' [ inl e ↦ inr (ap (λ (w : Version). w.file) (sym e), subst (λ (w : Version). 1 ≤ w.count) e (omega arith)) | inr later ↦ inl later ]
    | inr behind ↦
        let there' : IsIn v (u ∷ raised_version us n) = rw (other, behind) at there in
        elim there' [ inl e ↦ inl (inl e) | inr later ↦ elim (IsIn-raised us n v later) [ inl old ↦ inl (inr old) | inr new ↦ inr new ] ]
  ]
]

rises-raised : (vs : List Version) (n : ℕ) → each_pair files_rise vs ≡ true → each_pair files_rise (raised_version vs n) ≡ true
rises-raised [] n rises = refl
rises-raised (v ∷ vs) n rises =
    let parts = and_parts (list_all (files_rise v) vs) (each_pair files_rise vs) rises in
    elim (cases_Bool (v.file == n)) [
      | inl same ↦ rw same rises
      | inr other ↦ elim (cases_Bool (nat_lt n v.file)) [
        | inl before ↦ rw (other, before) (and_from _ _
            (and_from _ _ before (list_all-from (files_rise (record { file = n; count = 1 })) vs (λ u there. lt-ltb n u.file (omega (arith, ltb-true n v.file before, rises-behind v vs rises u there)))))
            rises)
        | inr behind ↦ rw (other, behind) (and_from _ _
            (list_all-from (files_rise v) (raised_version vs n) (λ u there. elim (IsIn-raised vs n u there) [
              | inl old ↦ list_all-at (files_rise v) vs parts.0 u old
              | inr (is, counts) ↦ lt-ltb v.file u.file (omega (arith, is, ltb-false n v.file behind, eqb-false v.file n other))
            ]))
            (rises-raised vs n parts.1))
      ]
    ]

-- ---- files after a change

-- a file stays one until it is dropped
pub is_file-kept : (tree : Tree) (c : Change) → applies tree c ≡ true → is_drop c ≡ false → (m : ℕ) → is_file tree m ≡ true → is_file (changed tree c) m ≡ true
is_file-kept tree c is kept m file = elim (cases_Bool (node_of c == m)) [
  | inl here ↦ subst (λ k. is_file (changed tree c) k ≡ true) (eqb-true _ _ here) (ap (λ n. is_some (content_of n)) (node_at-there tree c (Fits-from tree c (Applies-from tree c is)))
      ∙ there c is kept (subst (λ k. is_file tree k ≡ true) (sym (eqb-true _ _ here)) file))
  | inr other ↦ ap (λ n. is_some (content_of n)) (node_at-elsewhere tree c (Fits-from tree c (Applies-from tree c is)) m (eqb-false _ _ other)) ∙ file
]
  where
    still : (f : Node → Node) → ((n : Node) → is_some n.content ≡ true → is_some (f n).content ≡ true) → (o : Option Node) → is_some (content_of o) ≡ true → is_some (content_of (map_node f o)) ≡ true
    still f keeps None some = absurd (true≢false (sym some))
    still f keeps (Some n) some = keeps n some

    there : (c : Change) → applies tree c ≡ true → is_drop c ≡ false → is_file tree (node_of c) ≡ true → is_some (content_of (remade c (node_at tree (node_of c)))) ≡ true
    there (Make node parent kind name) is kept file = absurd (true≢false (sym (ap (λ n. is_some (content_of n)) (sym (is_there-none tree node (Applies-from tree (Make node parent kind name) is).1)) ∙ file)))
    there (Put node offset contents) is kept file = still _ (λ n some. refl) (node_at tree node) file
    there (Cut node size pages) is kept file = still _ (λ n some. refl) (node_at tree node) file
    there (Move node parent name) is kept file = still _ (λ n some. some) (node_at tree node) file
    there (Drop node) is kept file = absurd (true≢false kept)

-- ---- versions of files that are there

pub record FitVersions (tree : Tree) (vs : List Version) : Type 0 where
  pub rise : each_pair files_rise vs ≡ true
  pub each : (v : Version) → IsIn v vs → (is_file tree v.file ≡ true) × (1 ≤ v.count)

fit-raised : (tree tree' : Tree) (vs : List Version) (n : ℕ) → FitVersions tree vs → ((m : ℕ) → is_file tree m ≡ true → is_file tree' m ≡ true) → is_file tree n ≡ true → FitVersions tree' (raised_version vs n)
fit-raised tree tree' vs n fit kept file = record {
  rise = rises-raised vs n fit.rise;
  each = λ v there. elim (IsIn-raised vs n v there) [
    | inl old ↦ let is = fit.each v old in (kept v.file is.0, is.1)
    | inr (is, counts) ↦ (subst (λ k. is_file tree' k ≡ true) (sym is) (kept n file), counts)
  ];
}

fit-same : (tree tree' : Tree) (vs : List Version) → FitVersions tree vs → ((m : ℕ) → is_file tree m ≡ true → is_file tree' m ≡ true) → FitVersions tree' vs
fit-same tree tree' vs fit kept = record { rise = fit.rise; each = λ v there. let is = fit.each v there in (kept v.file is.0, is.1) }

pub fit-after : (tree : Tree) (vs : List Version) (c : Change) → applies tree c ≡ true → FitVersions tree vs → FitVersions (changed tree c) (versions_after vs c)
fit-after tree vs (Make node parent kind name) is fit = fit-same tree _ vs fit (is_file-kept tree (Make node parent kind name) is refl)
fit-after tree vs (Put node offset contents) is fit = fit-raised tree _ vs node fit (is_file-kept tree (Put node offset contents) is refl) (Applies-from tree (Put node offset contents) is).0
fit-after tree vs (Cut node size pages) is fit = fit-raised tree _ vs node fit (is_file-kept tree (Cut node size pages) is refl) (Applies-from tree (Cut node size pages) is).0
fit-after tree vs (Move node parent name) is fit = fit-same tree _ vs fit (is_file-kept tree (Move node parent name) is refl)
fit-after tree vs (Drop node) is fit = record {
  rise = each_pair-filter files_rise (λ (v : Version). not (v.file == node)) vs fit.rise;
  each = λ v there.
      let kept = IsIn-filter (λ (v : Version). not (v.file == node)) vs v there in
      let old = fit.each v kept.0 in
      (ap (λ n. is_some (content_of n)) (node_at-elsewhere tree (Drop node) (Fits-from tree (Drop node) (Applies-from tree (Drop node) is)) v.file (λ e. eqb-false v.file node (not-true _ kept.1) (sym e))) ∙ old.0, old.1);
}

pub fit-all : (cs : List Change) (c : Committed) → changes_apply c.tree cs ≡ true → FitVersions c.tree c.versions → FitVersions (fold with_change c cs).tree (fold with_change c cs).versions
fit-all [] c all fit = fit
fit-all (change ∷ cs) c all fit =
    let parts = and_parts (applies c.tree change) (changes_apply (changed c.tree change) cs) all in
    fit-all cs (with_change c change) parts.1 (fit-after c.tree c.versions change parts.0 fit)

-- ---- what a first open shows

-- the version of a first open is one that there was, and its bytes are those of the last one where it is that one
pub record Shows (tree : Tree) (vs : List Version) (o : FirstOpen) : Type 0 where
  pub was : is_file tree o.file ≡ true → o.version ≤ version_of vs o.file
  pub bytes : is_file tree o.file ≡ true → o.version ≡ version_of vs o.file → o.bytes ≡ bytes_of tree o.file

pub shows-same : (tree tree' : Tree) (vs vs' : List Version) (o : FirstOpen) → content_of (node_at tree' o.file) ≡ content_of (node_at tree o.file) → version_of vs' o.file ≡ version_of vs o.file
    → Shows tree vs o → Shows tree' vs' o
shows-same tree tree' vs vs' o content version shows = record {
  was = λ file. subst (λ v. o.version ≤ v) (sym version) (shows.was (ap is_some (sym content) ∙ file));
  bytes = λ file last. shows.bytes (ap is_some (sym content) ∙ file) (last ∙ version) ∙ ap bytes_or_none (sym content);
}

-- a change of another file changes neither its content nor its version
pub version-elsewhere : (vs : List Version) (c : Change) (file : ℕ) → (node_of c ≡ file → ⊥) → version_of (versions_after vs c) file ≡ version_of vs file
version-elsewhere vs (Make node parent kind name) file other = refl
version-elsewhere vs (Put node offset contents) file other = version_of-raised-other vs node file other
version-elsewhere vs (Cut node size pages) file other = version_of-raised-other vs node file other
version-elsewhere vs (Move node parent name) file other = refl
version-elsewhere vs (Drop node) file other = version_of-without vs node file other

shows-raised : (tree tree' : Tree) (vs : List Version) (o : FirstOpen) → each_pair files_rise vs ≡ true → is_file tree o.file ≡ true → Shows tree vs o → Shows tree' (raised_version vs o.file) o
shows-raised tree tree' vs o rises file shows =
    let now = version_of-raised vs o.file rises in
    let before = shows.was file in
    record {
      was = λ file'. subst (λ v. o.version ≤ v) (sym now) (omega (arith, before));
      bytes = λ file' last. absurd (omega (arith, before, last, now));
    }

pub shows-after : (tree : Tree) (vs : List Version) (c : Change) (o : FirstOpen) → applies tree c ≡ true → each_pair files_rise vs ≡ true → (is_make c ≡ true → node_of c ≡ o.file → ⊥)
    → Shows tree vs o → Shows (changed tree c) (versions_after vs c) o
shows-after tree vs c o is rises fresh shows = elim (cases_Bool (node_of c == o.file)) [
  | inl here ↦ there c is fresh (eqb-true _ _ here)
  | inr other ↦ shows-same tree (changed tree c) vs (versions_after vs c) o
      (ap content_of (node_at-elsewhere tree c (Fits-from tree c (Applies-from tree c is)) o.file (eqb-false _ _ other))) (version-elsewhere vs c o.file (eqb-false _ _ other)) shows
]
  where
    moved : (f : Node → Node) → ((n : Node) → (f n).content ≡ n.content) → (n : Option Node) → content_of (map_node f n) ≡ content_of n
    moved f same None = refl
    moved f same (Some n) = same n

    there : (c : Change) → applies tree c ≡ true → (is_make c ≡ true → node_of c ≡ o.file → ⊥) → node_of c ≡ o.file → Shows (changed tree c) (versions_after vs c) o
    there (Make node parent kind name) is fresh e = absurd (fresh refl e)
    there (Put node offset contents) is fresh e = subst (λ k. Shows (changed tree (Put node offset contents)) (raised_version vs k) o) (sym e)
        (shows-raised tree (changed tree (Put node offset contents)) vs o rises (subst (λ k. is_file tree k ≡ true) e (Applies-from tree (Put node offset contents) is).0) shows)
    there (Cut node size pages) is fresh e = subst (λ k. Shows (changed tree (Cut node size pages)) (raised_version vs k) o) (sym e)
        (shows-raised tree (changed tree (Cut node size pages)) vs o rises (subst (λ k. is_file tree k ≡ true) e (Applies-from tree (Cut node size pages) is).0) shows)
    there (Move node parent name) is fresh e = shows-same tree (changed tree (Move node parent name)) vs vs o
        (subst (λ k. content_of (node_at (changed tree (Move node parent name)) k) ≡ content_of (node_at tree k)) e
        (ap content_of (node_at-there tree (Move node parent name) (Fits-from tree (Move node parent name) (Applies-from tree (Move node parent name) is)))
        ∙ moved _ (λ n. refl) (node_at tree node)))
        refl shows
    there (Drop node) is fresh e =
        let gone : is_file (changed tree (Drop node)) o.file ≡ false = subst (λ k. is_file (changed tree (Drop node)) k ≡ false) e (ap (λ n. is_some (content_of n)) (node_at-there tree (Drop node) (Fits-from tree (Drop node) (Applies-from tree (Drop node) is)))) in
        record { was = λ file. absurd (true≢false (sym file ∙ gone)); bytes = λ file last. absurd (true≢false (sym file ∙ gone)) }

pub shows-all : (cs : List Change) (c : Committed) (o : FirstOpen) → changes_apply c.tree cs ≡ true → FitVersions c.tree c.versions → ((change : Change) → IsIn change cs → is_make change ≡ true → node_of change ≡ o.file → ⊥)
    → Shows c.tree c.versions o → Shows (fold with_change c cs).tree (fold with_change c cs).versions o
shows-all [] c o all fit fresh shows = shows
shows-all (change ∷ cs) c o all fit fresh shows =
    let parts = and_parts (applies c.tree change) (changes_apply (changed c.tree change) cs) all in
    shows-all cs (with_change c change) o parts.1 (fit-after c.tree c.versions change parts.0 fit) (λ d there. fresh d (inr there)) (shows-after c.tree c.versions change o parts.0 fit.rise (fresh change (inl refl)) shows)

-- what no change is of has its version still
pub version-all : (cs : List Change) (c : Committed) (file : ℕ) → (IsIn file (map node_of cs) → ⊥) → version_of (fold with_change c cs).versions file ≡ version_of c.versions file
version-all [] c file other = refl
version-all (change ∷ cs) c file other = version-all cs (with_change c change) file (λ there. other (inr there)) ∙ version-elsewhere c.versions change file (λ e. other (inl e))
