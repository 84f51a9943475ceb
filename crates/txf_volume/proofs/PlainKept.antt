-- The versions that were first opened, once a plain change is made, and the bytes that it ends are kept.
use Rattle.std.proofs.Common.{◌≡◌, ℕ, ◌+◌, ◌≤◌, ◌==◌, ◌&&◌, ◌||◌, not, Bool, true, false, if◌then◌else◌, find, map, is_some, List, [], ◌∷◌, Option, Some, None, All, refl, sym, ◌∙◌, ap, subst, arith, inl, inr}
use Rattle.std.proofs.lemmas.Bool.{cases_Bool, false_from_ne_true, and_parts, and_from, eqb-true, eqb-false, eq-eqb, true≢false}
use Rattle.std.proofs.Math.Bool.{and-false}
use Rattle.std.proofs.lemmas.Option.{same_Some, none-some}
use Rattle.std.specs.List.{list_any}
use Rattle.std.specs.Option.{option_map, option_or}
use Rattle.ktm_world.specs.declared.change.Change.{Change}
use Rattle.ktm_world.specs.declared.change.Change.TheVariants.{Make, Put, Cut, Move, Drop}
use Rattle.ktm_world.specs.declared.recorded.Node.{Node}
use Rattle.ktm_world.specs.Changes.{applies, changed, is_empty_list, is_whole, node_of}
use Rattle.ktm_world.specs.Committed.{Version, version_of, versions_after}
use Rattle.ktm_world.specs.Files.{FirstOpen}
use Rattle.ktm_world.specs.Tree.{Tree, bytes_of, bytes_or_none, content_of, is_file, node_at}
use Rattle.txf_overlay.specs.Written.{bytes_or}
use Rattle.txf_tree.specs.TreeState.{TreeState, dropped, tree_of, versions_of}
use Rattle.txf_versions.specs.VersionsState.{VersionsState, fixes, is_pinned, is_version}
use Rattle.txf_versions.specs.declared.kept.Older.{Older}
use Rattle.txf_versions.specs.declared.opened.Opened.{Opened}
use Rattle.txf_volume.specs.Held.{first_held, version_bytes}
use Rattle.txf_volume.specs.Making.{IsEnded}
use Rattle.txf_volume.specs.Plain.{KeepsEnded, copied_for, is_ended, is_last_pinned, opened_bytes}
use Rattle.txf_volume.specs.Ties.{IsKeptOpen, is_last}
use Rattle.txf_calls.specs.Fits.{Suits}
use Rattle.txf_laws.specs.SoundFiles.{files_rise}
use Rattle.txf_volume.specs.Uses.{ends}
use Rattle.txf_laws.specs.Elements.{IsIn, each_pair}
use Rattle.txf_laws.proofs.offered.Elements.{list_any-at, list_any-from}
use Rattle.txf_laws.proofs.offered.CommitsOfOthers.{All-by, All-in}
use Rattle.ktm_world.proofs.offered.Lookups.{map_node, node_at-elsewhere, node_at-there}
use Rattle.txf_laws.proofs.offered.CommittedUnits.{is_older}
use Rattle.txf_volume.proofs.PlainUses.{older-after}
use Rattle.txf_laws.proofs.offered.Versions.{version_of-raised, version-elsewhere}

-- ---- lists and options

pub IsIn-map : {X Y : Type 0} (f : X → Y) (xs : List X) (x : X) → IsIn x xs → IsIn (f x) (map f xs)
IsIn-map f [] x there = absurd there
IsIn-map f (y ∷ ys) x (inl e) = inl (ap f e)
IsIn-map f (y ∷ ys) x (inr there) = inr (IsIn-map f ys x there)

none-found : {X : Type 0} (o : Option X) → is_some o ≡ false → o ≡ None
none-found None e = refl
none-found (Some x) e = absurd (true≢false e)

-- ---- what a change leaves of a file

module _ (tree : Tree) (vs : List Version) (os : List FirstOpen) (o : FirstOpen) (within : IsIn o os) where
  -- a node that is made has no first open
  unmade : (n : ℕ) → list_any (λ (p : FirstOpen). p.file == n) os ≡ false → n ≡ o.file → ⊥
  unmade n fresh e = true≢false (sym (list_any-from (λ (p : FirstOpen). p.file == n) os o within (eq-eqb _ _ (sym e))) ∙ fresh)

  moved : (f : Node → Node) → ((n : Node) → (f n).content ≡ n.content) → (n : Option Node) → content_of (map_node f n) ≡ content_of n
  moved f same None = refl
  moved f same (Some n) = same n

  -- a change that ends nothing of a file that was first opened leaves its content
  content-kept : (c : Change) → Suits tree os c → (ends c && o.file == node_of c) ≡ false → content_of (node_at (changed tree c) o.file) ≡ content_of (node_at tree o.file)
  content-kept c suits stays = elim (cases_Bool (node_of c == o.file)) [
    | inr other ↦ ap content_of (node_at-elsewhere tree c suits.fits o.file (eqb-false _ _ other))
    | inl here ↦ there c suits (eqb-true _ _ here) stays
  ]
    where
      there : (c : Change) → Suits tree os c → node_of c ≡ o.file → (ends c && o.file == node_of c) ≡ false → content_of (node_at (changed tree c) o.file) ≡ content_of (node_at tree o.file)
      there (Make node parent kind name) suits e stays = absurd (unmade node (suits.fresh refl) e)
      there (Put node offset contents) suits e stays = absurd (true≢false (sym (eq-eqb o.file node (sym e)) ∙ stays))
      there (Cut node size pages) suits e stays = absurd (true≢false (sym (eq-eqb o.file node (sym e)) ∙ stays))
      there (Move node parent name) suits e stays =
          subst (λ k. content_of (node_at (changed tree (Move node parent name)) k) ≡ content_of (node_at tree k)) e
          (ap content_of (node_at-there tree (Move node parent name) suits.fits) ∙ moved _ (λ n. refl) (node_at tree node))
      there (Drop node) suits e stays = absurd (true≢false (sym (eq-eqb o.file node (sym e)) ∙ stays))

  -- versions do not go back
  version-grows : (c : Change) → Suits tree os c → each_pair files_rise vs ≡ true → (is_file tree o.file ≡ true → o.version ≤ version_of vs o.file)
      → is_file (changed tree c) o.file ≡ true → o.version ≤ version_of (versions_after vs c) o.file
  version-grows c suits rises was file = elim (cases_Bool (node_of c == o.file)) [
    | inr other ↦
        let same : is_file (changed tree c) o.file ≡ is_file tree o.file = ap (λ n. is_some (content_of n)) (node_at-elsewhere tree c suits.fits o.file (eqb-false _ _ other)) in
        let before = was (sym same ∙ file) in
        let version = version-elsewhere vs c o.file (eqb-false _ _ other) in
        omega arith
    | inl here ↦ there c suits (eqb-true _ _ here) file
  ]
    where
      raised : (n : ℕ) → n ≡ o.file → is_file tree n ≡ true → o.version ≤ version_of (versions_after vs (Cut n 0 [])) o.file
      raised n e file =
          let before = was (subst (λ k. is_file tree k ≡ true) e file) in
          let now : version_of (versions_after vs (Cut n 0 [])) o.file ≡ version_of vs o.file + 1 = ap (λ k. version_of (versions_after vs (Cut k 0 [])) o.file) e ∙ version_of-raised vs o.file rises in
          omega arith

      there : (c : Change) → Suits tree os c → node_of c ≡ o.file → is_file (changed tree c) o.file ≡ true → o.version ≤ version_of (versions_after vs c) o.file
      there (Make node parent kind name) suits e file = absurd (unmade node (suits.fresh refl) e)
      there (Put node offset contents) suits e file = raised node e (suits.file refl)
      there (Cut node size pages) suits e file = raised node e (suits.file refl)
      there (Move node parent name) suits e file = was (sym (ap is_some (content-kept (Move node parent name) suits refl)) ∙ file)
      there (Drop node) suits e file =
          absurd (true≢false (sym file ∙ subst (λ k. is_file (changed tree (Drop node)) k ≡ false) e (ap (λ n. is_some (content_of n)) (node_at-there tree (Drop node) suits.fits))))

-- ---- first opens

module _ (tree tree' : TreeState) (c : Change) (opens : List Opened) (older older' : List Older) (made : tree_of tree' ≡ changed (tree_of tree) c) (raised : versions_of tree' ≡ versions_after (versions_of tree) c)
    (suits : Suits (tree_of tree) (map (first_held (tree_of tree) older) opens) c) (rises : each_pair files_rise (versions_of tree) ≡ true) (kept : All (IsKeptOpen tree older) opens) (keeps : KeepsEnded tree c opens older older')
  where
    abbrev first : Opened → FirstOpen
    first = first_held (tree_of tree) older

    was : (o : Opened) → IsIn o opens → IsKeptOpen tree older o
    was o there = All-in (IsKeptOpen tree older) opens kept o there

    found : (o : Opened) → IsIn o opens → find (is_version o.file o.version) older' ≡ (if is_ended tree c o then Some (opened_bytes tree o) else find (is_version o.file o.version) older)
    found o there = All-in (λ (o : Opened). find (is_version o.file o.version) older' ≡ (if is_ended tree c o then Some (opened_bytes tree o) else find (is_version o.file o.version) older)) opens keeps o there

    some-or : (b : Bool) (v : Older) (before : Option Older) → is_some (if b then Some v else before) ≡ (b || is_some before)
    some-or true v before = refl
    some-or false v before = refl

    -- a version is older then if the change ended it, or if it was older
    step : (o : Opened) → (is_ended tree c o || not (is_last tree o)) ≡ (not (is_last tree o) || (ends c && (o.file == node_of c && o.version == version_of (versions_of tree) (node_of c))))
    step o = elim (cases_Bool (o.file == node_of c)) [
      | inr other ↦ rw other (elsewhere (ends c) (is_last tree o))
      | inl here ↦
          let e = eqb-true _ _ here in
          rw here (subst (λ n. ((ends c && true && (is_file (tree_of tree) o.file && o.version == version_of (versions_of tree) o.file)) || not (is_file (tree_of tree) o.file && o.version == version_of (versions_of tree) o.file))
          ≡ (not (is_file (tree_of tree) o.file && o.version == version_of (versions_of tree) o.file) || (ends c && (true && o.version == version_of (versions_of tree) n)))) e
          (there (ends c) (is_file (tree_of tree) o.file) (o.version == version_of (versions_of tree) o.file)))
    ]
      where
        elsewhere : (e l : Bool) → ((e && false && l) || not l) ≡ (not l || (e && false))
        elsewhere true true = refl
        elsewhere true false = refl
        elsewhere false true = refl
        elsewhere false false = refl

        there : (e f v : Bool) → ((e && true && (f && v)) || not (f && v)) ≡ (not (f && v) || (e && (true && v)))
        there true true true = refl
        there true true false = refl
        there true false true = refl
        there true false false = refl
        there false true true = refl
        there false true false = refl
        there false false true = refl
        there false false false = refl

    kept-then : (o : Opened) → IsIn o opens → IsKeptOpen tree' older' o
    kept-then o there = record {
      was = λ file. rw raised (version-grows (tree_of tree) (versions_of tree) (map first opens) (first o) (IsIn-map first opens o there) c suits rises (was o there).was (rw made at file));
      kept =
          ap is_some (found o there) ∙ some-or (is_ended tree c o) (opened_bytes tree o) (find (is_version o.file o.version) older) ∙ ap (λ b. is_ended tree c o || b) (was o there).kept ∙ step o
          ∙ sym (older-after (tree_of tree) (versions_of tree) c (map first opens) suits rises (first o) (IsIn-map first opens o there) (was o there).was)
          ∙ (λ i. is_older (sym made i) (sym raised i) (first o));
    }

    pub opened-then : All (IsKeptOpen tree' older') opens
    opened-then = All-by (IsKeptOpen tree' older') opens kept-then

    not-false : (b : Bool) → false ≡ not b → b ≡ true
    not-false true e = refl
    not-false false e = absurd (true≢false (sym e))

    -- a version that was first opened has the bytes that it had
    bytes-then : (o : Opened) → IsIn o opens → version_bytes (tree_of tree') older' o.file o.version ≡ version_bytes (tree_of tree) older o.file o.version
    bytes-then o there = (λ i. bytes_or (bytes_of (made i) o.file) (option_map (λ (v : Older). v.bytes) (found o there i))) ∙ elim (cases_Bool (is_ended tree c o)) [
      | inl ended ↦
          let last = (and_parts (ends c && o.file == node_of c) (is_last tree o) ended).1 in
          let none = none-found (find (is_version o.file o.version) older) ((was o there).kept ∙ rw last refl) in
          rw (ended, none) refl
      | inr stays ↦ rw stays (unended stays (find (is_version o.file o.version) older) refl)
    ]
      where
        unended : is_ended tree c o ≡ false → (v : Option Older) → find (is_version o.file o.version) older ≡ v
            → bytes_or (bytes_of (changed (tree_of tree) c) o.file) (option_map (λ (v : Older). v.bytes) v) ≡ bytes_or (bytes_of (tree_of tree) o.file) (option_map (λ (v : Older). v.bytes) v)
        unended stays (Some v) is = refl
        unended stays None is =
            let last = not-false (is_last tree o) (sym (ap is_some is) ∙ (was o there).kept) in
            ap bytes_or_none (content-kept (tree_of tree) (versions_of tree) (map first opens) (first o) (IsIn-map first opens o there) c suits (left-false (ends c && o.file == node_of c) (is_last tree o) stays last))
          where
            left-false : (a b : Bool) → (a && b) ≡ false → b ≡ true → a ≡ false
            left-false false b e is = refl
            left-false true b e is = absurd (true≢false (sym is ∙ e))

    pub firsts-then : map (first_held (tree_of tree') older') opens ≡ map (first_held (tree_of tree) older) opens
    firsts-then = map-same opens (λ o there. there)
      where
        map-same : (os : List Opened) → ((o : Opened) → IsIn o os → IsIn o opens) → map (first_held (tree_of tree') older') os ≡ map (first_held (tree_of tree) older) os
        map-same [] within = refl
        map-same (o ∷ os) within = λ i. record { transaction = o.transaction; file = o.file; version = o.version; bytes = bytes-then o (within o (inl refl)) i } ∷ map-same os (λ p there. within p (inr there)) i

-- ---- what is kept

-- the change ends these bytes of a file
pub record EndsThese (tree : TreeState) (c : Change) (bytes : List ℕ) : Type 0 where
  pub ends_it : ends c ≡ true
  pub file : is_file (tree_of tree) (node_of c) ≡ true
  pub bytes_are : bytes ≡ bytes_of (tree_of tree) (node_of c)

copied-bytes : (tree : TreeState) (file : ℕ) (pinned : Bool) (bytes : List ℕ) → option_or (if pinned then Some (bytes_of (tree_of tree) file) else None) None ≡ Some bytes → bytes ≡ bytes_of (tree_of tree) file
copied-bytes tree file true bytes is = sym (same_Some (bytes_of (tree_of tree) file) bytes is)
copied-bytes tree file false bytes is = absurd (none-some bytes is)

-- what is copied, or else dropped, is what the change ends
pub ends-these : (tree : TreeState) (opens : List Opened) (c : Change) (bytes : List ℕ) → applies (tree_of tree) c ≡ true → option_or (copied_for tree opens c) (dropped (tree_of tree) c) ≡ Some bytes → EndsThese tree c bytes
ends-these tree opens (Make node parent kind name) bytes does is = absurd (none-some bytes is)
ends-these tree opens (Put node offset contents) bytes does is = record {
  ends_it = refl;
  file = (and_parts (is_file (tree_of tree) node) (is_whole contents) does).0;
  bytes_are = copied-bytes tree node (is_last_pinned tree opens node) bytes is;
}
ends-these tree opens (Cut node size pages) bytes does is = record {
  ends_it = refl;
  file = (and_parts (is_file (tree_of tree) node) (is_empty_list pages) does).0;
  bytes_are = copied-bytes tree node (is_last_pinned tree opens node) bytes is;
}
ends-these tree opens (Move node parent name) bytes does is = absurd (none-some bytes is)
ends-these tree opens (Drop node) bytes does is = record { ends_it = refl; file = ap is_some is; bytes_are = sym (ap bytes_or_none is) }

-- of the last version nothing is kept yet
pub last-absent : (tree : TreeState) (opens : List Opened) (older : List Older) (file version : ℕ) → All (IsKeptOpen tree older) opens → is_file (tree_of tree) file ≡ true → version ≡ version_of (versions_of tree) file
    → is_pinned opens file version ≡ true → find (is_version file version) older ≡ None
last-absent tree opens older file version kept is last pinned =
    let o = list_any-at (fixes file version) opens pinned in
    let parts = and_parts (o.0.file == file) (o.0.version == version) o.2 in
    let f = eqb-true _ _ parts.0 in
    let v = eqb-true _ _ parts.1 in
    let of_last : is_last tree o.0 ≡ true = and_from _ _ (ap (is_file (tree_of tree)) f ∙ is) (eq-eqb _ _ (v ∙ last ∙ ap (version_of (versions_of tree)) (sym f))) in
    none-found (find (is_version file version) older)
    ((λ i. is_some (find (is_version (sym f i) (sym v i)) older)) ∙ (All-in (IsKeptOpen tree older) opens kept o.0 o.1).kept ∙ rw of_last refl)

-- the version that ends is kept, and so is what was kept before
pub keeps-ended : (tree : TreeState) (c : Change) (versions versions' : VersionsState) (file version : ℕ) (bytes : List ℕ) → EndsThese tree c bytes → file ≡ node_of c → version ≡ version_of (versions_of tree) file
    → IsEnded versions versions' file version bytes → KeepsEnded tree c versions.opens versions.older versions'.older
keeps-ended tree c versions versions' file version bytes these file_is version_is it =
    All-by (λ (o : Opened). find (is_version o.file o.version) versions'.older ≡ (if is_ended tree c o then Some (opened_bytes tree o) else find (is_version o.file o.version) versions.older)) versions.opens (λ o there. it.found o.file o.version ∙ each o there)
  where
    each : (o : Opened) → IsIn o versions.opens
        → (if is_pinned versions.opens file version && (file == o.file && version == o.version) then Some (record { file = file; version = version; bytes = bytes }) else find (is_version o.file o.version) versions.older)
        ≡ (if is_ended tree c o then Some (opened_bytes tree o) else find (is_version o.file o.version) versions.older)
    each o there = elim (cases_Bool (file == o.file)) [
      | inr other ↦
          let elsewhere : (o.file == node_of c) ≡ false = false_from_ne_true _ (λ same. true≢false (sym (eq-eqb file o.file (file_is ∙ sym (eqb-true _ _ same))) ∙ other)) in
          rw (other, elsewhere, and-false (is_pinned versions.opens file version), and-false (ends c)) refl
      | inl here ↦
          let e = eqb-true file o.file here in
          let at : (o.file == node_of c) ≡ true = eq-eqb _ _ (sym e ∙ file_is) in
          elim (cases_Bool (version == o.version)) [
            | inr other ↦
                let earlier : is_last tree o ≡ false = false_from_ne_true _ (λ last. true≢false (sym (eq-eqb version o.version (version_is ∙ ap (version_of (versions_of tree)) e ∙ sym (eqb-true _ _ (and_parts (is_file (tree_of tree) o.file) _ last).1))) ∙ other)) in
                let stays : (is_pinned versions.opens file version && (file == o.file && version == o.version)) ≡ false = rw (here, other) (and-false (is_pinned versions.opens file version)) in
                ap (λ b. if b then Some (record { file = file; version = version; bytes = bytes }) else find (is_version o.file o.version) versions.older) stays
                ∙ ap (λ b. if b then Some (opened_bytes tree o) else find (is_version o.file o.version) versions.older) (sym (ap (λ b. ends c && o.file == node_of c && b) earlier ∙ and-false (ends c && o.file == node_of c)))
            | inl same ↦
                let f = eqb-true version o.version same in
                let pinned : is_pinned versions.opens file version ≡ true = list_any-from (fixes file version) versions.opens o there (and_from _ _ (eq-eqb _ _ (sym e)) (eq-eqb _ _ (sym f))) in
                let last : is_last tree o ≡ true = and_from _ _ (ap (is_file (tree_of tree)) (sym e ∙ file_is) ∙ these.file) (eq-eqb _ _ (sym f ∙ version_is ∙ ap (version_of (versions_of tree)) e)) in
                ap (λ b. if b then Some (record { file = file; version = version; bytes = bytes }) else find (is_version o.file o.version) versions.older) (and_from _ _ pinned (and_from _ _ here same))
                ∙ (λ i. Some (record { file = e i; version = f i; bytes = (these.bytes_are ∙ ap (bytes_of (tree_of tree)) (sym file_is ∙ e)) i }))
                ∙ ap (λ b. if b then Some (opened_bytes tree o) else find (is_version o.file o.version) versions.older) (sym (and_from _ _ (and_from _ _ these.ends_it at) last))
          ]
    ]
