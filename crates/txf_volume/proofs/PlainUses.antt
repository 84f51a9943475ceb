-- What is in use once a plain change is committed.
use Rattle.std.proofs.Common.{◌≡◌, ℕ, ◌+◌, ◌≤◌, ◌==◌, ◌&&◌, ◌||◌, not, Bool, true, false, cond, is_some, List, [], sum_by, Option, Some, None, refl, sym, ◌∙◌, ap, subst, arith, inl, inr}
use Rattle.std.proofs.lemmas.Bool.{cases_Bool, and_parts, and_from, eqb-true, eqb-false, eq-eqb, ne_eqb, not_from_false, true≢false, false_from_ne_true}
use Rattle.ktm_world.specs.declared.change.Change.{Change}
use Rattle.ktm_world.specs.declared.change.Change.TheVariants.{Make, Put, Cut, Move, Drop}
use Rattle.ktm_world.specs.declared.recorded.Node.{Node}
use Rattle.ktm_world.specs.Changes.{changed, node_of}
use Rattle.ktm_world.specs.Committed.{Version, version_of, versions_after}
use Rattle.ktm_world.specs.Files.{FilesNow, FirstOpen, is_last_version}
use Rattle.ktm_world.specs.FileUses.{same_version}
use Rattle.ktm_world.specs.Tree.{Tree, node_at, content_of, is_file, bytes_of, bytes_or_none, units_of}
use Rattle.txf_calls.specs.Fits.{Suits}
use Rattle.txf_laws.specs.SoundFiles.{files_rise}
use Rattle.txf_volume.specs.Uses.{IsSteady, ends, is_last_opened, kept}
use Rattle.txf_laws.specs.Elements.{IsIn, each_pair}
use Rattle.txf_laws.proofs.offered.Elements.{list_any-from}
use Rattle.txf_laws.proofs.offered.CommitsOfOthers.{All-in}
use Rattle.ktm_world.proofs.offered.Lookups.{map_node, node_at-elsewhere, node_at-there}
use Rattle.txf_laws.proofs.offered.OlderVersions.{list_any-alike, older_units, version_units}
use Rattle.txf_volume.proofs.OlderVersions.{older-alike, older-more}
use Rattle.txf_laws.proofs.offered.Versions.{version_of-raised, version-elsewhere}
use Rattle.txf_laws.proofs.offered.CommittedUnits.{is_older}

-- is it the last version of the file
abbrev pub is_last : List Version → ℕ → FirstOpen → Bool
is_last vs file o = o.file == file && o.version == version_of vs file

module _ (tree : Tree) (vs : List Version) (c : Change) (os : List FirstOpen) (suits : Suits tree os c) (rises : each_pair files_rise vs ≡ true) where
  -- a version that a change ends is older then, and others are as they were
  pub older-after : (o : FirstOpen) → IsIn o os → (is_file tree o.file ≡ true → o.version ≤ version_of vs o.file)
      → is_older (changed tree c) (versions_after vs c) o ≡ (is_older tree vs o || (ends c && is_last vs (node_of c) o))
  older-after o within was = elim (cases_Bool (node_of c == o.file)) [
    | inl here ↦ there c suits (eqb-true _ _ here)
    | inr other ↦
        let file : is_file (changed tree c) o.file ≡ is_file tree o.file = ap (λ n. is_some (content_of n)) (node_at-elsewhere tree c suits.fits o.file (eqb-false _ _ other)) in
        let version = version-elsewhere vs c o.file (eqb-false _ _ other) in
        let differs : (o.file == node_of c) ≡ false = ne_eqb o.file (node_of c) (λ e. eqb-false _ _ other (sym e)) in
        (λ i. not (file i && o.version == version i)) ∙ sym (rw differs (none (is_older tree vs o) (ends c)))
  ]
    where
      none : (b e : Bool) → (b || (e && false)) ≡ b
      none true e = refl
      none false true = refl
      none false false = refl

      -- every version of a file that has one more, or is gone, is older
      all-older : (file last : Bool) → (not (file && last) || last) ≡ true
      all-older true true = refl
      all-older true false = refl
      all-older false true = refl
      all-older false false = refl

      either : (n : ℕ) → n ≡ o.file → (is_older tree vs o || (true && is_last vs n o)) ≡ true
      either n e = subst (λ k. (is_older tree vs o || (true && is_last vs k o)) ≡ true) (sym e) (rw (eq-eqb o.file o.file refl) (all-older (is_file tree o.file) (o.version == version_of vs o.file)))

      raised : (tree' : Tree) (n : ℕ) → n ≡ o.file → is_file tree n ≡ true → is_older tree' (versions_after vs (Cut n 0 [])) o ≡ true
      raised tree' n e file = not_from_false _ (false_from_ne_true _ (λ last.
          let parts = and_parts (is_file tree' o.file) (o.version == version_of (versions_after vs (Cut n 0 [])) o.file) last in
          let before = was (subst (λ k. is_file tree k ≡ true) e file) in
          let now : version_of (versions_after vs (Cut n 0 [])) o.file ≡ version_of vs o.file + 1 = ap (λ k. version_of (versions_after vs (Cut k 0 [])) o.file) e ∙ version_of-raised vs o.file rises in
          let at = eqb-true _ _ parts.1 in
          omega arith))

      moved : (f : Node → Node) → ((n : Node) → (f n).content ≡ n.content) → (n : Option Node) → content_of (map_node f n) ≡ content_of n
      moved f same None = refl
      moved f same (Some n) = same n

      there : (c : Change) → Suits tree os c → node_of c ≡ o.file → is_older (changed tree c) (versions_after vs c) o ≡ (is_older tree vs o || (ends c && is_last vs (node_of c) o))
      there (Make node parent kind name) is e = absurd (true≢false (sym (list_any-from (λ (p : FirstOpen). p.file == node) os o within (eq-eqb _ _ (sym e))) ∙ is.fresh refl))
      there (Put node offset contents) is e = raised (changed tree (Put node offset contents)) node e (is.file refl) ∙ sym (either node e)
      there (Cut node size pages) is e = raised (changed tree (Cut node size pages)) node e (is.file refl) ∙ sym (either node e)
      there (Move node parent name) is e =
          let file : is_file (changed tree (Move node parent name)) o.file ≡ is_file tree o.file = subst (λ k. is_file (changed tree (Move node parent name)) k ≡ is_file tree k) e (ap is_some
          (ap content_of (node_at-there tree (Move node parent name) is.fits) ∙ moved _ (λ n. refl) (node_at tree node))) in
          (λ i. not (file i && o.version == version_of vs o.file)) ∙ sym (none (is_older tree vs o) false)
      there (Drop node) is e =
          let gone : is_file (changed tree (Drop node)) o.file ≡ false = subst (λ k. is_file (changed tree (Drop node)) k ≡ false) e
          (ap (λ n. is_some (content_of n)) (node_at-there tree (Drop node) is.fits)) in
          rw gone (sym (either node e))

pub eqb-turned : (a b : ℕ) → (a == b) ≡ (b == a)
eqb-turned a b = elim (cases_Bool (b == a)) [
  | inl same ↦ eq-eqb a b (sym (eqb-true b a same)) ∙ sym same
  | inr other ↦ ne_eqb a b (λ e. eqb-false b a other (sym e)) ∙ sym other
]

-- a version that ends is older then, and its bytes are kept where it was first opened
module _ (files : FilesNow) (c : Change) (steady : IsSteady files) (suits : Suits files.tree files.first_opens c) where
  abbrev os : List FirstOpen
  os = files.first_opens

  abbrev n : ℕ
  n = node_of c

  -- the last version of the file
  abbrev last : FirstOpen
  last = record { transaction = record { boot = 0; number = 0 }; file = n; version = version_of files.versions n; bytes = bytes_of files.tree n }

  turned : (o : FirstOpen) → same_version last o ≡ is_last files.versions n o
  turned o = λ i. eqb-turned n o.file i && eqb-turned (version_of files.versions n) o.version i

  step : (o : FirstOpen) → IsIn o os → is_older (changed files.tree c) (versions_after files.versions c) o ≡ (is_older files.tree files.versions o || (ends c && is_last files.versions n o))
  step o there = older-after files.tree files.versions c os suits steady.versions o there (All-in (λ (p : FirstOpen). is_file files.tree p.file ≡ true → p.version ≤ version_of files.versions p.file) os steady.first_versions o there)

  -- where nothing becomes older
  same : ((o : FirstOpen) → IsIn o os → is_last files.versions n o ≡ true → ends c ≡ true → is_older files.tree files.versions o ≡ true)
      → older_units (is_older (changed files.tree c) (versions_after files.versions c)) os ≡ older_units (is_older files.tree files.versions) os
  same already = ap (sum_by version_units) (older-alike (is_older (changed files.tree c) (versions_after files.versions c)) (is_older files.tree files.versions) os (λ o there. step o there ∙ go o there (ends c) refl (is_last files.versions n o) refl))
    where
      go : (o : FirstOpen) → IsIn o os → (e : Bool) → ends c ≡ e → (l : Bool) → is_last files.versions n o ≡ l → (is_older files.tree files.versions o || (e && l)) ≡ is_older files.tree files.versions o
      go o there false ends' l last' = or-false (is_older files.tree files.versions o)
        where
          or-false : (b : Bool) → (b || false) ≡ b
          or-false true = refl
          or-false false = refl
      go o there true ends' true last' = rw (already o there last' ends') refl
      go o there true ends' false last' = or-false (is_older files.tree files.versions o)
        where
          or-false : (b : Bool) → (b || false) ≡ b
          or-false true = refl
          or-false false = refl

  -- where the last version of a file ends
  ended : ends c ≡ true → is_file files.tree n ≡ true
      → older_units (is_older (changed files.tree c) (versions_after files.versions c)) os
      ≡ older_units (is_older files.tree files.versions) os + cond (is_last_opened files n) (units_of (bytes_of files.tree n)) 0
  ended ends' file =
      older-more (is_older files.tree files.versions) (is_older (changed files.tree c) (versions_after files.versions c)) last os
      (λ o there. step o there ∙ (λ i. is_older files.tree files.versions o || (ends' i && sym (turned o) i)))
      (λ o there is.
      let parts = and_parts (n == o.file) (version_of files.versions n == o.version) is in
      let here : n ≡ o.file = eqb-true _ _ parts.0 in
      let of_last : is_last_version files o ≡ true = and_from _ _ (subst (λ k. is_file files.tree k ≡ true) here file) (eq-eqb _ _ (sym (eqb-true _ _ parts.1) ∙ ap (version_of files.versions) here)) in
      (rw of_last refl, ap units_of (All-in (λ (p : FirstOpen). is_last_version files p ≡ true → p.bytes ≡ bytes_of files.tree p.file) os steady.first_bytes o there of_last ∙ ap (bytes_of files.tree) (sym here))))
      ∙ ap (λ b. older_units (is_older files.tree files.versions) os + cond b (units_of (bytes_of files.tree n)) 0) (list_any-alike (same_version last) (is_last files.versions n) os (λ o there. turned o))

  pub older-then : older_units (is_older (changed files.tree c) (versions_after files.versions c)) os ≡ older_units (is_older files.tree files.versions) os + kept files c
  older-then = elim (cases_Bool (ends c)) [
    | inr stays ↦ same (λ o there of_last is. absurd (true≢false (sym is ∙ stays))) ∙ sym (rw stays (nothing (is_last_opened files n) (older_units (is_older files.tree files.versions) os)))
    | inl is ↦ elim (cases_Bool (is_file files.tree n)) [
      | inl file ↦ ended is file ∙ rw is refl
      | inr none ↦
          same (λ o there of_last is'. rw (ap (is_file files.tree) (eqb-true _ _ (and_parts (o.file == n) _ of_last).0) ∙ none) refl)
          ∙ sym (ap (λ u. older_units (is_older files.tree files.versions) os + cond (is_last_opened files n) (cond (ends c) u 0) 0) (no-units (content_of (node_at files.tree n)) none) ∙ rw is (nothing (is_last_opened files n) (older_units (is_older files.tree files.versions) os)))
    ]
  ]
    where
      nothing : (b : Bool) (k : ℕ) → k + cond b 0 0 ≡ k
      nothing true k = omega arith
      nothing false k = omega arith

      no-units : (o : Option (List ℕ)) → is_some o ≡ false → units_of (bytes_or_none o) ≡ 0
      no-units None none = refl
      no-units (Some bytes) none = absurd (true≢false none)
