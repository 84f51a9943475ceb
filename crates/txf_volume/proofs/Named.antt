-- The contents that the files in memory name, and those that their parts have.
use Rattle.std.proofs.Common.{◌≡◌, ℕ, suc, ◌==◌, true, find, map, List, [], ◌∷◌, ◌++◌, Option, Some, None, refl, sym, ◌∙◌, ap, subst, arith, inl, inr}
use Rattle.std.proofs.lemmas.Bool.{and_parts, and_from, cases_Bool, eq-eqb, eqb-true, true≢false}
use Rattle.std.proofs.lemmas.List.Concat.{flat_map-append}
use Rattle.std.specs.List.{flat_map, list_all}
use Rattle.std.specs.Option.{option_map}
use Rattle.std.specs.Prelude.{◌⊎◌, Contains}
use Rattle.ktm_store.proofs.offered.HoldingContents.{AreAmong}
use Rattle.ktm_world.specs.declared.change.Change.{Change}
use Rattle.ktm_world.specs.declared.change.Change.TheVariants.{Make, Put, Cut, Move, Drop}
use Rattle.ktm_world.specs.Committed.{final_bytes}
use Rattle.ktm_world.specs.Files.{FirstOpen, OwnChanges}
use Rattle.ktm_world.specs.Tree.{Tree, bytes_of, bytes_or_none, has_number}
use Rattle.txf_laws.specs.Elements.{IsIn}
use Rattle.txf_laws.proofs.offered.CommitsOfOthers.{All-by}
use Rattle.txf_laws.proofs.offered.Diamonds.{IsIn-map, IsIn-right}
use Rattle.txf_laws.proofs.offered.Elements.{IsIn-flat_map, IsIn-unflat, find-in, list_any-at, list_any-from}
use Rattle.txf_overlay.specs.Laws.{IsOwn}
use Rattle.txf_overlay.specs.OverlayState.{OverlayState, Written, final_of, is_of_names, own_of}
use Rattle.txf_overlay.specs.Written.{bytes_or}
use Rattle.txf_tree.specs.TreeState.{tree_of}
use Rattle.txf_versions.specs.VersionsState.{AreAllHeld, AreApart, AreHeld, fixes, is_pinned, is_version, older_contents}
use Rattle.txf_versions.specs.declared.kept.Older.{Older}
use Rattle.txf_versions.specs.declared.opened.Opened.{Opened}
use Rattle.txf_volume.specs.Held.{FilesHeld, OwnHeld, changes_held, files_of, first_held, own_held}
use Rattle.txf_volume.specs.Pages.{all_written, first_contents, named_contents, own_contents, put_contents, tree_contents, written_contents}

-- ---- lists

IsIn-left : {X : Type 0} (x : X) (xs ys : List X) → IsIn x xs → IsIn x (xs ++ ys)
IsIn-left x [] ys there = absurd there
IsIn-left x (z ∷ xs) ys (inl is) = inl is
IsIn-left x (z ∷ xs) ys (inr there) = inr (IsIn-left x xs ys there)

IsIn-either : {X : Type 0} (x : X) (xs ys : List X) → IsIn x (xs ++ ys) → IsIn x xs ⊎ IsIn x ys
IsIn-either x [] ys there = inr there
IsIn-either x (z ∷ xs) ys (inl is) = inl (inl is)
IsIn-either x (z ∷ xs) ys (inr there) = elim (IsIn-either x xs ys there) [ inl here ↦ inl (inr here) | inr behind ↦ inr behind ]

IsIn-unmap : {X Y : Type 0} (f : X → Y) (y : Y) (xs : List X) → IsIn y (map f xs) → (x : X) × IsIn x xs × (f x ≡ y)
IsIn-unmap f y [] there = absurd there
IsIn-unmap f y (x ∷ xs) (inl is) = (x, inl refl, is)
IsIn-unmap f y (x ∷ xs) (inr there) = let rest = IsIn-unmap f y xs there in (rest.0, inr rest.1, rest.2)

Contains-in : {X : Type 0} (x : X) (xs : List X) → IsIn x xs → Contains xs x
Contains-in x [] there = absurd there
Contains-in x (y ∷ ys) (inl is) = (0, omega arith, is)
Contains-in x (y ∷ ys) (inr there) = let rest = Contains-in x ys there in (suc rest.0, omega (arith, rest.1), rest.2)

-- it is among these, or has no bytes
abbrev Among : List (List ℕ) → List ℕ → Type 0
Among others places = (places ≡ []) ⊎ IsIn places others

among-all : (contents others : List (List ℕ)) → ((places : List ℕ) → IsIn places contents → Among others places) → AreAmong contents others
among-all contents others each =
    All-by (λ (places : List ℕ). (places ≡ []) ⊎ Contains others places) contents
    (λ places there. elim (each places there) [ inl none ↦ inl none | inr has ↦ inr (Contains-in places others has) ])

-- ---- versions

-- the bytes of a file of the tree
among-more : (first : List ℕ) (others : List (List ℕ)) (places : List ℕ) → Among others places → Among (first ∷ others) places
among-more first others places (inl none) = inl none
among-more first others places (inr there) = inr (inr there)

bytes-in : (tree : Tree) (file : ℕ) → Among (tree_contents tree) (bytes_of tree file)
bytes-in [] file = inl refl
bytes-in (n ∷ ns) file = elim (cases_Bool (has_number file n)) [
  | inl this ↦ let same : bytes_of (n ∷ ns) file ≡ bytes_or_none n.content = rw this refl in inr (inl (sym same))
  | inr other ↦
      let same : bytes_of (n ∷ ns) file ≡ bytes_of ns file = rw other refl in
      subst (Among (tree_contents (n ∷ ns))) (sym same) (among-more (bytes_or_none n.content) (tree_contents ns) (bytes_of ns file) (bytes-in ns file))
]

module _ (tree : Tree) (older : List Older) (more : List (List ℕ)) (o : Opened) where
  first-in : Among (tree_contents tree ++ (older_contents older ++ more)) (first_held tree older o).bytes
  first-in = go (find (is_version o.file o.version) older) refl
    where
      go : (found : Option Older) → find (is_version o.file o.version) older ≡ found → Among (tree_contents tree ++ (older_contents older ++ more)) (bytes_or (bytes_of tree o.file) (option_map (λ (v : Older). v.bytes) found))
      go None is = elim (bytes-in tree o.file) [ inl none ↦ inl none | inr there ↦ inr (IsIn-left (bytes_of tree o.file) (tree_contents tree) (older_contents older ++ more) there) ]
      go (Some v) is =
          let there : IsIn v.bytes (older_contents older) = IsIn-map (λ (w : Older). w.bytes) v older (find-in (is_version o.file o.version) older v is).0 in
          inr (IsIn-right v.bytes (tree_contents tree) (older_contents older ++ more) (IsIn-left v.bytes (older_contents older) more there))

-- a version that is kept is found
find-itself : (older : List Older) (v : Older) → AreApart older → IsIn v older → find (is_version v.file v.version) older ≡ Some v
find-itself [] v apart there = absurd there
find-itself (w ∷ ws) v apart (inl is) = subst (λ (u : Older). find (is_version u.file u.version) (w ∷ ws) ≡ Some u) is (rw (eq-eqb w.file w.file refl, eq-eqb w.version w.version refl) refl)
find-itself (w ∷ ws) v apart (inr there) = elim (cases_Bool (is_version v.file v.version w)) [
  | inl same ↦
      let parts = and_parts (w.file == v.file) (w.version == v.version) same in
      let twin : is_version w.file w.version v ≡ true = and_from _ _ (eq-eqb v.file w.file (sym (eqb-true w.file v.file parts.0))) (eq-eqb v.version w.version (sym (eqb-true w.version v.version parts.1))) in
      absurd (true≢false (sym (list_any-from (is_version w.file w.version) ws v there twin) ∙ apart.0))
  | inr other ↦ rw other (find-itself ws v apart.1 there)
]

held-in : (opens : List Opened) (older : List Older) → AreAllHeld opens older → (v : Older) → IsIn v older → is_pinned opens v.file v.version ≡ true
held-in opens [] held v there = absurd there
held-in opens (w ∷ ws) held v (inl is) = subst (λ (u : Older). is_pinned opens u.file u.version ≡ true) is held.0
held-in opens (w ∷ ws) held v (inr there) = held-in opens ws held.1 v there

-- some first open shows it
kept-in : (tree : Tree) (opens : List Opened) (older : List Older) → AreHeld opens older → (v : Older) → IsIn v older → IsIn v.bytes (first_contents (map (first_held tree older) opens))
kept-in tree opens older held v there =
    let found = list_any-at (fixes v.file v.version) opens (held-in opens older held.held v there) in
    let o = found.0 in
    let parts = and_parts (o.file == v.file) (o.version == v.version) found.2 in
    let same : find (is_version o.file o.version) older ≡ Some v =
    (λ i. find (is_version (eqb-true o.file v.file parts.0 i) (eqb-true o.version v.version parts.1 i)) older) ∙ find-itself older v held.apart there in
    let bytes : (first_held tree older o).bytes ≡ v.bytes = ap (λ f. bytes_or (bytes_of tree o.file) (option_map (λ (w : Older). w.bytes) f)) same in
    subst (λ bs. IsIn bs (first_contents (map (first_held tree older) opens))) bytes
    (IsIn-map (λ (f : FirstOpen). f.bytes) (first_held tree older o) (map (first_held tree older) opens) (IsIn-map (first_held tree older) o opens found.1))

-- ---- what transactions wrote

names-put : (cs : List Change) → list_all is_of_names cs ≡ true → flat_map put_contents cs ≡ []
names-put [] only = refl
names-put (c ∷ cs) only =
    let parts = and_parts (is_of_names c) (list_all is_of_names cs) only in
    (λ i. one c parts.0 i ++ names-put cs parts.1 i)
  where
    one : (c : Change) → is_of_names c ≡ true → put_contents c ≡ []
    one (Make node parent kind name) names = refl
    one (Put node offset contents) names = absurd (true≢false (sym names))
    one (Cut node size pages) names = refl
    one (Move node parent name) names = refl
    one (Drop node) names = refl

-- the contents that the final bytes of a file put
puts-final : (file : ℕ) (bytes : List ℕ) → (places : List ℕ) → IsIn places (flat_map put_contents (final_bytes file bytes)) → bytes ≡ places
puts-final file [] places there = absurd there
puts-final file (b ∷ bytes) places (inl is) = is
puts-final file (b ∷ bytes) places (inr none) = absurd none

final-puts : (file : ℕ) (bytes : List ℕ) → Among (flat_map put_contents (final_bytes file bytes)) bytes
final-puts file [] = inl refl
final-puts file (b ∷ bytes) = inr (inl refl)

own-puts : (o : OverlayState) → IsOwn o → flat_map put_contents (own_of o) ≡ flat_map put_contents (flat_map final_of o.written)
own-puts o own = flat_map-append put_contents o.names (flat_map final_of o.written) ∙ ap (λ cs. cs ++ flat_map put_contents (flat_map final_of o.written)) (names-put o.names own.only)

own-in : (o : OverlayState) → IsOwn o → (places : List ℕ) → IsIn places (flat_map put_contents (own_of o)) → IsIn places (written_contents o.written)
own-in o own places there = go o.written (subst (IsIn places) (own-puts o own) there)
  where
    go : (ws : List Written) → IsIn places (flat_map put_contents (flat_map final_of ws)) → IsIn places (written_contents ws)
    go [] there = absurd there
    go (w ∷ ws) there =
        elim (IsIn-either places (flat_map put_contents (final_of w)) (flat_map put_contents (flat_map final_of ws)) (subst (IsIn places) (flat_map-append put_contents (final_of w) (flat_map final_of ws)) there)) [
          | inl here ↦ inl (puts-final w.file w.bytes places here)
          | inr later ↦ inr (go ws later)
        ]

in-own : (o : OverlayState) → IsOwn o → (places : List ℕ) → IsIn places (written_contents o.written) → Among (flat_map put_contents (own_of o)) places
in-own o own places there = elim (go o.written there) [ inl none ↦ inl none | inr has ↦ inr (subst (IsIn places) (sym (own-puts o own)) has) ]
  where
    go : (ws : List Written) → IsIn places (written_contents ws) → Among (flat_map put_contents (flat_map final_of ws)) places
    go [] there = absurd there
    go (w ∷ ws) (inl is) =
        subst (Among (flat_map put_contents (flat_map final_of (w ∷ ws)))) is
        (elim (final-puts w.file w.bytes) [
          | inl none ↦ inl none
          | inr has ↦ inr (subst (IsIn w.bytes) (sym (flat_map-append put_contents (final_of w) (flat_map final_of ws))) (IsIn-left w.bytes (flat_map put_contents (final_of w)) (flat_map put_contents (flat_map final_of ws)) has))
        ])
    go (w ∷ ws) (inr later) = elim (go ws later) [
      | inl none ↦ inl none
      | inr has ↦ inr (subst (IsIn places) (sym (flat_map-append put_contents (final_of w) (flat_map final_of ws))) (IsIn-right places (flat_map put_contents (final_of w)) (flat_map put_contents (flat_map final_of ws)) has))
    ]

-- ---- all of it

module _ (h : FilesHeld) where
  -- the contents that the parts have
  abbrev pub held_contents : List (List ℕ)
  held_contents = tree_contents (tree_of h.tree) ++ (older_contents h.versions.older ++ all_written h.overlays)

  abbrev first : Opened → FirstOpen
  first o = first_held (tree_of h.tree) h.versions.older o

  -- the contents that first opens show, and those that changes put
  abbrev firsts : List (List ℕ)
  firsts = first_contents (map first h.versions.opens)

  abbrev puts : List (List ℕ)
  puts = flat_map own_contents (own_held h.overlays)

module _ (h : FilesHeld) (held : AreHeld h.versions.opens h.versions.older) (owns : (o : OwnHeld) → IsIn o h.overlays → IsOwn o.overlay) where
  abbrev trees : List (List ℕ)
  trees = tree_contents (tree_of h.tree)

  abbrev older : List (List ℕ)
  older = older_contents h.versions.older

  abbrev written : List (List ℕ)
  written = all_written h.overlays

  pub named-among : AreAmong (named_contents (files_of h)) (held_contents h)
  unfolding named_contents
  named-among = among-all (trees ++ (firsts h ++ puts h)) (trees ++ (older ++ written)) each
    where
      of_first : (places : List ℕ) → IsIn places (firsts h) → Among (trees ++ (older ++ written)) places
      of_first places there =
          let shown = IsIn-unmap (λ (f : FirstOpen). f.bytes) places (map (first h) h.versions.opens) there in
          let opened = IsIn-unmap (first h) shown.0 h.versions.opens shown.1 in
          subst (Among (trees ++ (older ++ written))) (ap (λ (f : FirstOpen). f.bytes) opened.2 ∙ shown.2) (first-in (tree_of h.tree) h.versions.older written opened.0)

      of_put : (places : List ℕ) → IsIn places (puts h) → IsIn places written
      of_put places there =
          let changes = IsIn-unflat own_contents (own_held h.overlays) places there in
          let own = IsIn-unmap changes_held changes.0 h.overlays changes.1 in
          IsIn-flat_map (λ (o : OwnHeld). written_contents o.overlay.written) h.overlays own.0 places own.1
          (own-in own.0.overlay (owns own.0 own.1) places (subst (λ (c : OwnChanges). IsIn places (own_contents c)) (sym own.2) changes.2))

      each : (places : List ℕ) → IsIn places (trees ++ (firsts h ++ puts h)) → Among (trees ++ (older ++ written)) places
      each places there = elim (IsIn-either places trees (firsts h ++ puts h) there) [
        | inl here ↦ inr (IsIn-left places trees (older ++ written) here)
        | inr behind ↦ elim (IsIn-either places (firsts h) (puts h) behind) [
          | inl shown ↦ of_first places shown
          | inr put ↦ inr (IsIn-right places trees (older ++ written) (IsIn-right places older written (of_put places put)))
        ]
      ]

  pub held-among : AreAmong (held_contents h) (named_contents (files_of h))
  unfolding named_contents
  held-among = among-all (trees ++ (older ++ written)) (trees ++ (firsts h ++ puts h)) each
    where
      of_older : (places : List ℕ) → IsIn places older → IsIn places (firsts h)
      of_older places there =
          let kept = IsIn-unmap (λ (v : Older). v.bytes) places h.versions.older there in
          subst (λ (bytes : List ℕ). IsIn bytes (firsts h)) kept.2 (kept-in (tree_of h.tree) h.versions.opens h.versions.older held kept.0 kept.1)

      of_written : (places : List ℕ) → IsIn places written → Among (puts h) places
      of_written places there =
          let own = IsIn-unflat (λ (o : OwnHeld). written_contents o.overlay.written) h.overlays places there in
          elim (in-own own.0.overlay (owns own.0 own.1) places own.2) [
            | inl none ↦ inl none
            | inr has ↦ inr (IsIn-flat_map own_contents (own_held h.overlays) (changes_held own.0) places (IsIn-map changes_held own.0 h.overlays own.1) has)
          ]

      each : (places : List ℕ) → IsIn places (trees ++ (older ++ written)) → Among (trees ++ (firsts h ++ puts h)) places
      each places there = elim (IsIn-either places trees (older ++ written) there) [
        | inl here ↦ inr (IsIn-left places trees (firsts h ++ puts h) here)
        | inr behind ↦ elim (IsIn-either places older written behind) [
          | inl kept ↦ inr (IsIn-right places trees (firsts h ++ puts h) (IsIn-left places (firsts h) (puts h) (of_older places kept)))
          | inr own ↦ elim (of_written places own) [
            | inl none ↦ inl none
            | inr put ↦ inr (IsIn-right places trees (firsts h ++ puts h) (IsIn-right places (firsts h) (puts h) put))
          ]
        ]
      ]
