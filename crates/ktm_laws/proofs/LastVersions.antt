-- A first open whose version is the last one has been so since it was made.
use Rattle.std.proofs.Common.{◌≡◌, ℕ, zero, suc, ◌+◌, ◌≤◌, ◌==◌, ◌&&◌, ◌||◌, not, Bool, true, false, is_some, nat_le, List, [], ◌∷◌, ◌++◌, length, map, drop, fold, refl, sym, ◌∙◌, ap, subst, arith, inl, inr}
use Rattle.std.proofs.lemmas.Bool.{cases_Bool, and_from, and_parts, and_right, or_from, or_cases, or_left, or_right, eq-eqb, eqb-true, leb-true, not-true, not_from_false, true≢false}
use Rattle.std.proofs.lemmas.List.{take-append-le}
use Rattle.std.proofs.lemmas.List.Sums.{fold-append}
use Rattle.std.specs.List.{list_any, list_all}
use Rattle.ktm_world.specs.declared.change.Change.{Change}
use Rattle.ktm_world.specs.declared.change.Change.TheVariants.{Make, Put, Cut, Move, Drop}
use Rattle.ktm_world.specs.Changes.{applies, changes_apply, changed, changes_bytes, is_drop, is_make, node_of}
use Rattle.ktm_world.specs.Committed.{Committed, Version, version_of, versions_after, raised_version, with_change, with_work, committed_with}
use Rattle.ktm_world.specs.Files.{FirstOpen, first_open, is_last_version}
use Rattle.ktm_world.specs.Lawful.{ends_version}
use Rattle.ktm_world.specs.Laws.{FirstOpensLieWithin}
use Rattle.ktm_world.specs.Outcome.{Outcome, is_forgotten}
use Rattle.ktm_world.specs.Present.{Present}
use Rattle.ktm_world.specs.Tree.{bytes_of, content_of, is_file}
use Rattle.ktm_world.specs.World.{World, OpenedAfter, committed, first_open_now, opened_after, present, extend}
use Rattle.txf_laws.specs.Elements.{IsIn}
use Rattle.ktm_laws.specs.Running.{is_last_since}
use Rattle.txf_laws.specs.SoundFiles.{IsSoundFiles}
use Rattle.txf_laws.proofs.offered.ChangeTests.{Applies-from, Fits-from}
use Rattle.txf_laws.proofs.offered.Diamonds.{IsIn-map}
use Rattle.txf_laws.proofs.offered.Elements.{IsIn-filter, list_all-at, list_all-from}
use Rattle.txf_laws.proofs.offered.Lists.{IsIn-cases, IsIn-unmap}
use Rattle.ktm_world.proofs.offered.Lookups.{node_at-there}
use Rattle.txf_laws.proofs.offered.CommitsOfOthers.{All-in}
use Rattle.txf_laws.proofs.offered.Versions.{FitVersions, fit-after, Shows, shows-after, shows-all, version_of-raised}
use Rattle.ktm_laws.proofs.Written.{IsWritten}

-- ---- lists

drop-append-le : {X : Type 0} (n : ℕ) (xs ys : List X) → n ≤ length xs → drop n (xs ++ ys) ≡ drop n xs ++ ys
drop-append-le zero xs ys few = refl
drop-append-le (suc n) [] ys few = absurd (omega (arith, few))
drop-append-le (suc n) (x ∷ xs) ys few = drop-append-le n xs ys (omega (arith, few))

drop-whole : {X : Type 0} (xs : List X) → drop (length xs) xs ≡ []
drop-whole [] = refl
drop-whole (x ∷ xs) = drop-whole xs

none-append : {X : Type 0} (p : X → Bool) (xs ys : List X) → list_any p xs ≡ false → list_any p ys ≡ false → list_any p (xs ++ ys) ≡ false
none-append p [] ys first second = second
none-append p (x ∷ xs) ys first second = elim (cases_Bool (p x)) [
  | inl is ↦ absurd (true≢false (sym (rw is refl) ∙ first))
  | inr not' ↦ or_from _ _ not' (none-append p xs ys (rw not' at first) second)
]

-- ---- one version

-- does the change end the version of the file
abbrev ends : ℕ → Change → Bool
ends file change = node_of change == file && (changes_bytes change || is_drop change)

-- what a first open shows of a file now
shows-now : (c : Committed) (o : FirstOpen) → o.version ≡ version_of c.versions o.file → o.bytes ≡ bytes_of c.tree o.file → Shows c.tree c.versions o
shows-now c o version bytes = record { was = λ file. omega (arith, version); bytes = λ file last. bytes }

-- a file that is not there is there after no changes that do not make it
file-before : (cs : List Change) (c : Committed) (o : FirstOpen) → changes_apply c.tree cs ≡ true → FitVersions c.tree c.versions → ((change : Change) → IsIn change cs → is_make change ≡ true → node_of change ≡ o.file → ⊥)
    → is_file (fold with_change c cs).tree o.file ≡ true → is_file c.tree o.file ≡ true
file-before cs c o all fit fresh after' = elim (cases_Bool (is_file c.tree o.file)) [
  | inl file ↦ file
  | inr none ↦
      let past : FirstOpen = record o { version = version_of (fold with_change c cs).versions o.file + 1 } in
      let shows = shows-all cs c past all fit fresh (record { was = λ file. absurd (true≢false (sym file ∙ none)); bytes = λ file last. absurd (true≢false (sym file ∙ none)) }) in
      absurd (omega (arith, shows.was after'))
]

-- where it is the last one after changes, none of them has ended it
no-end : (cs : List Change) (c : Committed) (o : FirstOpen) → changes_apply c.tree cs ≡ true → FitVersions c.tree c.versions → ((change : Change) → IsIn change cs → is_make change ≡ true → node_of change ≡ o.file → ⊥)
    → Shows c.tree c.versions o → is_file (fold with_change c cs).tree o.file ≡ true → o.version ≡ version_of (fold with_change c cs).versions o.file → list_any (ends o.file) cs ≡ false
no-end [] c o all fit fresh shows file last = refl
no-end (d ∷ ds) c o all fit fresh shows file last =
    let parts = and_parts (applies c.tree d) (changes_apply (changed c.tree d) ds) all in
    let fit' = fit-after c.tree c.versions d parts.0 fit in
    let rest = no-end ds (with_change c d) o parts.1 fit' (λ e there. fresh e (inr there)) (shows-after c.tree c.versions d o parts.0 fit.rise (fresh d (inl refl)) shows) file last in
    let there = file-before ds (with_change c d) o parts.1 fit' (λ e there. fresh e (inr there)) file in
    or_from _ _ (here d refl parts.0 there parts.1 fit') rest
  where
    later : changes_apply (changed c.tree d) ds ≡ true → FitVersions (changed c.tree d) (versions_after c.versions d) → version_of (versions_after c.versions d) o.file ≤ version_of (fold with_change (with_change c d) ds).versions o.file
    later all' fit' =
        let past : FirstOpen = record o { version = version_of (versions_after c.versions d) o.file; bytes = bytes_of (changed c.tree d) o.file } in
        (shows-all ds (with_change c d) past all' fit' (λ change there. fresh change (inr there)) (shows-now (with_change c d) past refl refl)).was file

    -- bytes that are put or cut make one version more
    raised : is_file c.tree o.file ≡ true → versions_after c.versions d ≡ raised_version c.versions o.file → changes_apply (changed c.tree d) ds ≡ true → FitVersions (changed c.tree d) (versions_after c.versions d) → ⊥
    raised before more all' fit' =
        let now = version_of-raised c.versions o.file fit.rise in
        let then = later all' fit' in
        let was = shows.was before in
        let up = ap (λ vs. version_of vs o.file) more in
        omega (arith, now, then, last, was, up)

    at : (e : Change) → d ≡ e → applies c.tree e ≡ true → is_file (changed c.tree e) o.file ≡ true → changes_apply (changed c.tree d) ds ≡ true → FitVersions (changed c.tree d) (versions_after c.versions d) → node_of e ≡ o.file → ends o.file e ≡ false
    at (Make node parent kind name) is does there all' fit' same = and_right (node == o.file) _ refl
    at (Move node parent name) is does there all' fit' same = and_right (node == o.file) _ refl
    at (Put node offset contents) is does there all' fit' same = absurd (raised (subst (λ k. is_file c.tree k ≡ true) same (Applies-from c.tree (Put node offset contents) does).0)
        (ap (versions_after c.versions) is ∙ ap (raised_version c.versions) same) all' fit')
    at (Cut node size pages) is does there all' fit' same = absurd (raised (subst (λ k. is_file c.tree k ≡ true) same (Applies-from c.tree (Cut node size pages) does).0)
        (ap (versions_after c.versions) is ∙ ap (raised_version c.versions) same) all' fit')
    at (Drop node) is does there all' fit' same = absurd (true≢false (sym there ∙ subst (λ k. is_file (changed c.tree (Drop node)) k ≡ false) same
        (ap (λ n. is_some (content_of n)) (node_at-there c.tree (Drop node) (Fits-from c.tree (Drop node) (Applies-from c.tree (Drop node) does))))))

    here : (e : Change) → d ≡ e → applies c.tree e ≡ true → is_file (changed c.tree e) o.file ≡ true → changes_apply (changed c.tree d) ds ≡ true → FitVersions (changed c.tree d) (versions_after c.versions d) → ends o.file e ≡ false
    here e is does there all' fit' = elim (cases_Bool (node_of e == o.file)) [ inr other ↦ rw other refl | inl same ↦ at e is does there all' fit' (eqb-true _ _ same) ]

-- ---- worlds

shown : (x : Present) → IsSoundFiles x → (o : FirstOpen) → IsIn o x.files.first_opens → Shows x.files.tree x.files.versions o
shown x sound o there = record {
  was = λ file. elim (or_cases (not (is_file x.files.tree o.file)) (nat_le o.version (version_of x.files.versions o.file))
      (list_all-at (λ (o : FirstOpen). not (is_file x.files.tree o.file) || nat_le o.version (version_of x.files.versions o.file)) x.files.first_opens sound.first_versions o there)) [
        | inl none ↦ absurd (true≢false (sym file ∙ not-true _ none))
        | inr is ↦ leb-true _ _ is
      ];
  bytes = λ file last. All-in (λ (p : FirstOpen). is_last_version x.files p ≡ true → p.bytes ≡ bytes_of x.files.tree p.file) x.files.first_opens sound.first_bytes o there (and_from _ _ file (eq-eqb _ _ last));
}

versions-fit : (x : Present) → IsSoundFiles x → FitVersions x.files.tree x.files.versions
versions-fit x sound = record {
  rise = sound.versions_rise;
  each = λ v there.
      let parts = and_parts (is_file x.files.tree v.file) (nat_le 1 v.count) (list_all-at (λ (u : Version). is_file x.files.tree u.file && nat_le 1 u.count) x.files.versions sound.versions_there v there) in
      (parts.0, leb-true 1 v.count parts.1);
}

module _ (w : World) (o : Outcome) (within : FirstOpensLieWithin w) (sound : IsSoundFiles (present w)) (written : IsWritten (present w) o) (before : list_all (is_last_since w) w.first_opens ≡ true) where
  -- what was committed once this outcome has come
  abbrev then : Committed
  then = committed_with (committed w) o.works

  is-then : committed (extend w o) ≡ then
  is-then = fold-append with_work w.start w.works o.works

  -- a first open that was there, as it shows now
  abbrev shown-now : OpenedAfter → FirstOpen
  shown-now f = first_open_now w f

  ended-not : (f : OpenedAfter) → IsIn f w.first_opens → is_last_version (present w).files (shown-now f) ≡ true → list_any (λ work. ends_version work f.file) (drop f.works w.works) ≡ false
  ended-not f there last = elim (or_cases _ _ (list_all-at (is_last_since w) w.first_opens before f there)) [
    | inl not' ↦ absurd (true≢false (sym last ∙ not-true _ not'))
    | inr none ↦ not-true _ none
  ]

  -- it was the last one before the outcome, and no work of this ended it
  still : (f : OpenedAfter) → IsIn f w.first_opens → is_file then.tree f.file ≡ true → (shown-now f).version ≡ version_of then.versions f.file
      → (is_last_version (present w).files (shown-now f) ≡ true) × (list_any (λ work. ends_version work f.file) o.works ≡ false)
  still f there file last = elim written.works [
    | inl none ↦
        let same : then ≡ committed w = ap (committed_with (committed w)) none in (
          and_from _ _ (subst (λ (c : Committed). is_file c.tree f.file ≡ true) same file) (eq-eqb _ _ (last ∙ ap (λ (c : Committed). version_of c.versions f.file) same)),
          ap (list_any (λ work. ends_version work f.file)) none,
        )
    | inr (work, one, all, makes) ↦
        let there' = IsIn-map (first_open_now w) f w.first_opens there in
        let is : then ≡ with_work (committed w) work = ap (committed_with (committed w)) one in
        let fit = versions-fit (present w) sound in
        let fresh = λ (c : Change) (in_work : IsIn c work.changes). makes.none (shown-now f) there' c in_work in
        let shows = shown (present w) sound (shown-now f) there' in
        let file' : is_file (fold with_change (committed w) work.changes).tree f.file ≡ true = subst (λ (c : Committed). is_file c.tree f.file ≡ true) is file in
        let last' : (shown-now f).version ≡ version_of (fold with_change (committed w) work.changes).versions f.file = last ∙ ap (λ (c : Committed). version_of c.versions f.file) is in
        let was = file-before work.changes (committed w) (shown-now f) all fit fresh file' in
        let now = record (shown-now f) { version = version_of (committed w).versions f.file; bytes = bytes_of (committed w).tree f.file } in
        let grows = (shows-all work.changes (committed w) now all fit fresh (shows-now (committed w) now refl refl)).was file' in (
          and_from _ _ was (eq-eqb _ _ (omega (arith, grows, last', shows.was was))),
          ap (list_any (λ work. ends_version work f.file)) one ∙ or_from _ _ (no-end work.changes (committed w) (shown-now f) all fit fresh shows file' last') refl,
        )
  ]

  old : (f : OpenedAfter) → IsIn f w.first_opens → is_last_since (extend w o) f ≡ true
  old f there = elim (cases_Bool (is_last_version (present (extend w o)).files (first_open_now (extend w o) f))) [
    | inr not' ↦ or_left _ _ (not_from_false _ not')
    | inl last ↦
        let few = All-in (λ (f : OpenedAfter). f.works ≤ length w.works) w.first_opens within.works f there in
        let at : first_open_now (extend w o) f ≡ first_open_now w f = ap (λ works. first_open (committed_with w.start works) (record { transaction = f.transaction; file = f.file })) (take-append-le f.works w.works o.works few) in
        let parts = and_parts (is_file (committed (extend w o)).tree f.file) ((first_open_now (extend w o) f).version == version_of (committed (extend w o)).versions f.file) last in
        let is = still f there (subst (λ (c : Committed). is_file c.tree f.file ≡ true) is-then parts.0)
        (sym (ap (λ (p : FirstOpen). p.version) at) ∙ eqb-true _ _ parts.1 ∙ ap (λ (c : Committed). version_of c.versions f.file) is-then) in
        or_right _ _ (not_from_false _ (ap (list_any (λ work. ends_version work f.file)) (drop-append-le f.works w.works o.works few) ∙ none-append (λ work. ends_version work f.file) (drop f.works w.works) o.works (ended-not f there is.0) is.1))
  ]

  new : (f : OpenedAfter) → IsIn f (map (opened_after w) o.openings) → is_last_since (extend w o) f ≡ true
  new f there = elim written.openings [
    | inl none ↦ absurd (subst (λ os. IsIn f (map (opened_after w) os)) none there)
    | inr none ↦
        let from = IsIn-unmap (opened_after w) f o.openings there in
        or_right _ _ (not_from_false _ (subst (λ (g : OpenedAfter). list_any (λ work. ends_version work g.file) (drop g.works (w.works ++ o.works)) ≡ false) from.1
        (ap (list_any (λ work. ends_version work from.0.file)) (drop-append-le (length w.works) w.works o.works (omega arith) ∙ (λ i. drop-whole w.works i ++ none i)))))
  ]

  pub last-extend : list_all (is_last_since (extend w o)) (extend w o).first_opens ≡ true
  last-extend = list_all-from (is_last_since (extend w o)) (extend w o).first_opens (λ f there.
      elim (IsIn-cases f w.first_opens (map (opened_after w) o.openings) (IsIn-filter (λ (f : OpenedAfter). not (is_forgotten o.forgotten f.transaction)) (w.first_opens ++ map (opened_after w) o.openings) f there).0) [
        | inl was ↦ old f was
        | inr made ↦ new f made
      ])
