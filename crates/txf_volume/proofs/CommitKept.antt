-- What first opens show, and how many units older versions have, where a file changes or is gone.
use Rattle.std.proofs.Common.{◌≡◌, ℕ, ◌+◌, ◌<◌, ◌≤◌, ◌==◌, ◌&&◌, ◌||◌, not, true, false, cond, find, is_some, map, List, [], ◌∷◌, sum_by, Option, Some, None, All, refl, sym, ◌∙◌, ap, subst, arith, inl, inr}
use Rattle.std.proofs.lemmas.Bool.{cases_Bool, and_from, and_parts, eq-eqb, eqb-false, eqb-true, ne_eqb, true≢false}
use Rattle.std.proofs.Math.Bool.{and-false, or-false, or-true}
use Rattle.std.specs.List.{list_any}
use Rattle.std.specs.Option.{option_map}
use Rattle.ktm_world.specs.Committed.{Version, version_of}
use Rattle.ktm_world.specs.Files.{FirstOpen}
use Rattle.ktm_world.specs.FileUses.{same_version}
use Rattle.ktm_world.specs.Tree.{Tree, bytes_of, bytes_or_none, content_of, is_file, node_at, units_of}
use Rattle.txf_overlay.specs.Written.{bytes_or}
use Rattle.txf_tree.specs.TreeState.{TreeState, tree_of, versions_of}
use Rattle.txf_versions.specs.VersionsState.{VersionsState, fixes, is_pinned, is_version}
use Rattle.txf_versions.specs.declared.kept.Older.{Older}
use Rattle.txf_versions.specs.declared.opened.Opened.{Opened}
use Rattle.txf_volume.specs.Making.{files_only, units_older, IsEnded}
use Rattle.txf_volume.specs.Held.{first_held, version_bytes}
use Rattle.txf_volume.specs.Ties.{IsKeptOpen, is_last}
use Rattle.txf_laws.specs.Elements.{IsIn}
use Rattle.txf_laws.proofs.offered.Elements.{list_any-from}
use Rattle.txf_laws.proofs.offered.CommitsOfOthers.{All-by, All-in}
use Rattle.txf_volume.proofs.Elements.{each-mapped}
use Rattle.txf_laws.proofs.offered.OlderVersions.{older-is, older_units, version_units}
use Rattle.txf_volume.proofs.OlderVersions.{older-alike, older-more}
use Rattle.txf_laws.proofs.offered.CommittedUnits.{is_older}
use Rattle.txf_volume.proofs.PlainUses.{eqb-turned}

-- the units of older versions, by a test
pub older-of : (tree : Tree) (vs : List Version) (os : List FirstOpen) → units_older tree vs os ≡ older_units (is_older tree vs) os
older-of tree vs os = ap (sum_by version_units) (older-is (files_only tree vs os) os)

map-same : {X Y : Type 0} (f g : X → Y) (xs : List X) → ((x : X) → IsIn x xs → f x ≡ g x) → map f xs ≡ map g xs
map-same f g [] same = refl
map-same f g (x ∷ xs) same = λ i. same x (inl refl) i ∷ map-same f g xs (λ y there. same y (inr there)) i

none-found : {X : Type 0} (o : Option X) → is_some o ≡ false → o ≡ None
none-found None e = refl
none-found (Some x) e = absurd (true≢false e)

-- bytes that were kept are shown whatever is committed
kept-shown : (a b : List ℕ) (o : Option Older) → is_some o ≡ true → bytes_or a (option_map (λ v. v.bytes) o) ≡ bytes_or b (option_map (λ v. v.bytes) o)
kept-shown a b None some = absurd (true≢false (sym some))
kept-shown a b (Some v) some = refl

module _ (tree tree' : TreeState) where
  abbrev t : Tree
  t = tree_of tree

  abbrev t' : Tree
  t' = tree_of tree'

  abbrev vs : List Version
  vs = versions_of tree

  abbrev vs' : List Version
  vs' = versions_of tree'

  -- there is the content that was there, in the version that it had
  pub record IsStill (file : ℕ) : Type 0 where
    pub content : content_of (node_at t' file) ≡ content_of (node_at t file)
    pub version : is_file t file ≡ true → version_of vs' file ≡ version_of vs file

  last-still : (o : Opened) → IsStill o.file → is_last tree' o ≡ is_last tree o
  last-still o still = elim (cases_Bool (is_file t o.file)) [
    | inl file ↦ λ i. is_some (still.content i) && o.version == still.version file i
    | inr none ↦ ap (λ b. b && o.version == version_of vs' o.file) (ap is_some still.content ∙ none) ∙ sym (ap (λ b. b && o.version == version_of vs o.file) none)
  ]

  -- what is so of a first open, and what it shows then
  record IsAfter (older older' : List Older) (o : Opened) : Type 0 where
    kept : IsKeptOpen tree' older' o
    shows : first_held t' older' o ≡ first_held t older o

  shown : (older older' : List Older) (o : Opened) → version_bytes t' older' o.file o.version ≡ version_bytes t older o.file o.version → first_held t' older' o ≡ first_held t older o
  shown older older' o same = λ i. record { transaction = o.transaction; file = o.file; version = o.version; bytes = same i }

  -- of a file that is as it was
  still-after : (older older' : List Older) (o : Opened) → IsStill o.file → find (is_version o.file o.version) older' ≡ find (is_version o.file o.version) older → IsKeptOpen tree older o → IsAfter older older' o
  still-after older older' o still same kept = record {
    kept = record {
      was = λ file'. let file = ap is_some (sym still.content) ∙ file' in subst (λ v. o.version ≤ v) (sym (still.version file)) (kept.was file);
      kept = ap is_some same ∙ kept.kept ∙ ap not (sym (last-still o still));
    };
    shows = shown older older' o (λ i. bytes_or (bytes_or_none (still.content i)) (option_map (λ (v : Older). v.bytes) (same i)));
  }

  -- where every file that was first opened is as it was
  module _ (older : List Older) (opens : List Opened) (still : (o : Opened) → IsIn o opens → IsStill o.file) where
    pub still-opened : All (IsKeptOpen tree older) opens → All (IsKeptOpen tree' older) opens
    still-opened opened = All-by (IsKeptOpen tree' older) opens (λ o there. (still-after older older o (still o there) refl (All-in (IsKeptOpen tree older) opens opened o there)).kept)

    pub still-firsts : map (first_held t' older) opens ≡ map (first_held t older) opens
    still-firsts = map-same (first_held t' older) (first_held t older) opens (λ o there. shown older older o (ap (λ c. bytes_or (bytes_or_none c) (option_map (λ (v : Older). v.bytes) (find (is_version o.file o.version) older))) (still o there).content))

    pub still-units : units_older t' vs' (map (first_held t older) opens) ≡ units_older t vs (map (first_held t older) opens)
    still-units =
        older-of t' vs' (map (first_held t older) opens)
        ∙ ap (sum_by version_units) (older-alike (is_older t' vs') (is_older t vs) (map (first_held t older) opens)
        (each-mapped (λ (o : FirstOpen). is_older t' vs' o ≡ is_older t vs o) (first_held t older) opens (λ o there. ap not (last-still o (still o there)))))
        ∙ sym (older-of t vs (map (first_held t older) opens))

  -- where the last version of a file ends
  module _ (n : ℕ) (older : List Older) (opens : List Opened) (file : is_file t n ≡ true)
      (grown : is_file t' n ≡ true → version_of vs n < version_of vs' n)
      (still : (o : Opened) → IsIn o opens → (o.file ≡ n → ⊥) → IsStill o.file)
      (opened : All (IsKeptOpen tree older) opens) where
    kept-at : (o : Opened) → IsIn o opens → IsKeptOpen tree older o
    kept-at o there = All-in (IsKeptOpen tree older) opens opened o there

    was-at : (o : Opened) → IsIn o opens → o.file ≡ n → o.version ≤ version_of vs n
    was-at o there e = subst (λ m. o.version ≤ version_of vs m) e ((kept-at o there).was (subst (λ m. is_file t m ≡ true) (sym e) file))

    -- an earlier version is not the last one then
    gone : (v : ℕ) → v ≤ version_of vs n → (is_file t' n && v == version_of vs' n) ≡ false
    gone v low = elim (cases_Bool (is_file t' n)) [
      | inl file' ↦ rw file' (ne_eqb v (version_of vs' n) (λ e. omega (arith, grown file', low, e)))
      | inr none ↦ rw none refl
    ]

    -- no first open of it is of the last version then
    gone-at : (o : Opened) → IsIn o opens → o.file ≡ n → is_last tree' o ≡ false
    gone-at o there e = subst (λ m. (is_file t' m && o.version == version_of vs' m) ≡ false) (sym e) (gone o.version (was-at o there e))

    last-at : (o : Opened) → o.file ≡ n → o.version ≡ version_of vs n → is_last tree o ≡ true
    last-at o e f = and_from _ _ (subst (λ m. is_file t m ≡ true) (sym e) file) (eq-eqb _ _ (f ∙ ap (version_of vs) (sym e)))

    earlier-at : (o : Opened) → o.file ≡ n → (o.version ≡ version_of vs n → ⊥) → is_last tree o ≡ false
    earlier-at o e other = (λ i. is_file t o.file && ne_eqb o.version (version_of vs o.file) (λ f. other (f ∙ ap (version_of vs) e)) i) ∙ and-false (is_file t o.file)

    pinned-at : (o : Opened) → IsIn o opens → o.file ≡ n → o.version ≡ version_of vs n → is_pinned opens n (version_of vs n) ≡ true
    pinned-at o there e f = list_any-from (fixes n (version_of vs n)) opens o there (and_from _ _ (eq-eqb _ _ e) (eq-eqb _ _ f))

    -- its bytes were not kept before
    pub absent : is_pinned opens n (version_of vs n) ≡ true → find (is_version n (version_of vs n)) older ≡ None
    absent pinned = go opens (λ o there. there) pinned
      where
        go : (os : List Opened) → ((o : Opened) → IsIn o os → IsIn o opens) → is_pinned os n (version_of vs n) ≡ true → find (is_version n (version_of vs n)) older ≡ None
        go [] within pinned = absurd (true≢false (sym pinned))
        go (o ∷ os) within pinned = elim (cases_Bool (fixes n (version_of vs n) o)) [
          | inl it ↦
              let parts = and_parts (o.file == n) (o.version == version_of vs n) it in
              let e = eqb-true _ _ parts.0 in
              let f = eqb-true _ _ parts.1 in
              (λ i. find (is_version (sym e i) (sym f i)) older) ∙ none-found _ ((kept-at o (within o (inl refl))).kept ∙ ap not (last-at o e f))
          | inr other ↦ go os (λ p there. within p (inr there)) (rw other at pinned)
        ]

    -- the version that ends
    abbrev ended : FirstOpen
    ended = record { transaction = record { boot = 0; number = 0 }; file = n; version = version_of vs n; bytes = bytes_of t n }

    abbrev firsts : List FirstOpen
    firsts = map (first_held t older) opens

    turned : (o : Opened) → same_version ended (first_held t older o) ≡ fixes n (version_of vs n) o
    turned o = λ i. eqb-turned n o.file i && eqb-turned (version_of vs n) o.version i

    grows : (o : Opened) → IsIn o opens → is_older t' vs' (first_held t older o) ≡ (is_older t vs (first_held t older o) || same_version ended (first_held t older o))
    grows o there = elim (cases_Bool (o.file == n)) [
      | inl here ↦
          let e = eqb-true _ _ here in
          ap not (gone-at o there e) ∙ elim (cases_Bool (o.version == version_of vs n)) [
            | inl last ↦ sym ((λ i. is_older t vs (first_held t older o) || (turned o ∙ and_from _ _ here last) i) ∙ or-true (is_older t vs (first_held t older o)))
            | inr earlier ↦ sym (ap (λ b. not b || same_version ended (first_held t older o)) (earlier-at o e (eqb-false _ _ earlier)))
          ]
      | inr other ↦
          let differs : same_version ended (first_held t older o) ≡ false = turned o ∙ rw other refl in
          ap not (last-still o (still o there (eqb-false _ _ other))) ∙ sym (ap (λ b. is_older t vs (first_held t older o) || b) differs ∙ or-false (is_older t vs (first_held t older o)))
    ]

    of-ended : (o : Opened) → IsIn o opens → same_version ended (first_held t older o) ≡ true → (is_older t vs (first_held t older o) ≡ false) × (version_units (first_held t older o) ≡ version_units ended)
    of-ended o there same =
        let parts = and_parts (o.file == n) (o.version == version_of vs n) (sym (turned o) ∙ same) in
        let e = eqb-true _ _ parts.0 in
        let f = eqb-true _ _ parts.1 in
        let none = none-found _ ((kept-at o there).kept ∙ ap not (last-at o e f)) in
        (ap not (last-at o e f), (λ i. units_of (bytes_or (bytes_of t o.file) (option_map (λ (v : Older). v.bytes) (none i)))) ∙ ap (λ m. units_of (bytes_of t m)) e)

    pinned-is : (os : List Opened) → list_any (same_version ended) (map (first_held t older) os) ≡ is_pinned os n (version_of vs n)
    pinned-is [] = refl
    pinned-is (o ∷ os) = λ i. turned o i || pinned-is os i

    pub ended-units : units_older t' vs' firsts ≡ units_older t vs firsts + cond (is_pinned opens n (version_of vs n)) (units_of (bytes_of t n)) 0
    ended-units =
        older-of t' vs' firsts
        ∙ older-more (is_older t vs) (is_older t' vs') ended firsts
        (each-mapped (λ (o : FirstOpen). is_older t' vs' o ≡ (is_older t vs o || same_version ended o)) (first_held t older) opens grows)
        (each-mapped (λ (o : FirstOpen). same_version ended o ≡ true → (is_older t vs o ≡ false) × (version_units o ≡ version_units ended)) (first_held t older) opens of-ended)
        ∙ (λ i. sym (older-of t vs firsts) i + cond (pinned-is opens i) (units_of (bytes_of t n)) 0)

    -- ---- its bytes are kept from now on

    module _ (versions versions' : VersionsState) (opens_is : versions.opens ≡ opens) (older_is : versions.older ≡ older) (it : IsEnded versions versions' n (version_of vs n) (bytes_of t n)) where
      abbrev older' : List Older
      older' = versions'.older

      others : (o : Opened) → (n == o.file && version_of vs n == o.version) ≡ false → find (is_version o.file o.version) older' ≡ find (is_version o.file o.version) older
      others o other = it.found o.file o.version ∙ rw (ap (λ b. is_pinned versions.opens n (version_of vs n) && b) other ∙ and-false (is_pinned versions.opens n (version_of vs n))) (ap (find (is_version o.file o.version)) older_is)

      found : (o : Opened) → IsIn o opens → o.file ≡ n → o.version ≡ version_of vs n → find (is_version o.file o.version) older' ≡ Some (record { file = n; version = version_of vs n; bytes = bytes_of t n })
      found o there e f =
          it.found o.file o.version
          ∙ rw (and_from _ _ ((λ i. is_pinned (opens_is i) n (version_of vs n)) ∙ pinned-at o there e f) (and_from _ _ (eq-eqb n o.file (sym e)) (eq-eqb (version_of vs n) o.version (sym f)))) refl

      was' : (o : Opened) → IsIn o opens → o.file ≡ n → is_file t' o.file ≡ true → o.version ≤ version_of vs' o.file
      was' o there e file' =
          let low = was-at o there e in
          let high = grown (subst (λ m. is_file t' m ≡ true) e file') in
          subst (λ m. o.version ≤ version_of vs' m) (sym e) (omega arith)

      kept-after : (o : Opened) → IsIn o opens → IsAfter older older' o
      kept-after o there = elim (cases_Bool (o.file == n)) [
        | inl here ↦
            let e = eqb-true _ _ here in
            elim (cases_Bool (o.version == version_of vs n)) [
              | inl last ↦
                  let f = eqb-true _ _ last in
                  let none = none-found _ ((kept-at o there).kept ∙ ap not (last-at o e f)) in
                  record {
                    kept = record { was = was' o there e; kept = ap is_some (found o there e f) ∙ ap not (sym (gone-at o there e)) };
                    shows = shown older older' o (
                        (λ i. bytes_or (bytes_of t' o.file) (option_map (λ (v : Older). v.bytes) (found o there e f i)))
                        ∙ ap (bytes_of t) (sym e) ∙ (λ i. bytes_or (bytes_of t o.file) (option_map (λ (v : Older). v.bytes) (sym none i))));
                  }
              | inr earlier ↦
                  let differs : (n == o.file && version_of vs n == o.version) ≡ false = (λ i. eqb-turned n o.file i && eqb-turned (version_of vs n) o.version i) ∙ rw earlier (and-false (o.file == n)) in
                  let same = others o differs in
                  let some : is_some (find (is_version o.file o.version) older) ≡ true = (kept-at o there).kept ∙ ap not (earlier-at o e (eqb-false _ _ earlier)) in
                  record {
                    kept = record { was = was' o there e; kept = ap is_some same ∙ some ∙ ap not (sym (gone-at o there e)) };
                    shows = shown older older' o (
                        ap (λ f. bytes_or (bytes_of t' o.file) (option_map (λ (v : Older). v.bytes) f)) same
                        ∙ kept-shown (bytes_of t' o.file) (bytes_of t o.file) (find (is_version o.file o.version) older) some);
                  }
            ]
        | inr other ↦
            let differs : (n == o.file && version_of vs n == o.version) ≡ false = (λ i. eqb-turned n o.file i && version_of vs n == o.version) ∙ rw other refl in
            still-after older older' o (still o there (eqb-false _ _ other)) (others o differs) (kept-at o there)
      ]

      pub ended-opened : All (IsKeptOpen tree' older') versions'.opens
      ended-opened = subst (All (IsKeptOpen tree' older')) (sym (it.opens ∙ opens_is)) (All-by (IsKeptOpen tree' older') opens (λ o there. (kept-after o there).kept))

      pub ended-firsts : map (first_held t' older') versions'.opens ≡ firsts
      ended-firsts = ap (map (first_held t' older')) (it.opens ∙ opens_is) ∙ map-same (first_held t' older') (first_held t older) opens (λ o there. (kept-after o there).shows)
