-- What the model sees of the files in memory.
use Rattle.std.proofs.Common.{◌≡◌, ℕ, ◌==◌, ◌&&◌, ◌||◌, not, Bool, true, false, if◌then◌else◌, filter, find, is_some, map, List, [], ◌∷◌, ◌++◌, Option, Some, None, All, refl, sym, ◌∙◌, ap, subst, arith, inl, inr}
use Rattle.std.proofs.lemmas.Bool.{cases_Bool, and_parts, eqb-true, ne_eqb}
use Rattle.std.proofs.lemmas.List.{append-nil}
use Rattle.std.proofs.lemmas.Option.{same_Some, none-some}
use Rattle.std.specs.List.{flat_map, list_all}
use Rattle.std.specs.Option.{option_map}
use Rattle.ktm_base.specs.declared.id.Id.{Id}
use Rattle.ktm_world.specs.declared.change.Change.{Change}
use Rattle.ktm_world.specs.Changes.{changed_all, changes_bytes, has_made, is_make, node_of}
use Rattle.ktm_world.specs.Files.{own_changes, bytes_after, bytes_seen, first_bytes, first_open_of, fixed_bytes}
use Rattle.ktm_world.specs.Committed.{final_bytes, version_of}
use Rattle.ktm_world.specs.Conflicts.{is_outdated}
use Rattle.ktm_world.specs.Transactions.{same_id}
use Rattle.ktm_world.specs.Tree.{Tree, bytes_of, is_file}
use Rattle.txf_overlay.specs.Written.{AreOver, AreFilesRising}
use Rattle.txf_overlay.specs.OverlayState.{is_of_names}
use Rattle.txf_overlay.specs.Laws.{IsOwn}
use Rattle.txf_overlay.specs.OverlayState.{OverlayState, Written, final_of, own_of}
use Rattle.txf_overlay.specs.Written.{bytes_at, bytes_or}
use Rattle.txf_versions.specs.VersionsState.{is_open_of}
use Rattle.txf_versions.specs.declared.kept.Older.{Older}
use Rattle.txf_versions.specs.declared.opened.Opened.{Opened}
use Rattle.txf_volume.specs.Held.{FilesHeld, OwnHeld, files_of, first_held, overlay_in, own_held, version_bytes}
use Rattle.txf_volume.specs.OwnParts.{or_unchanged}
use Rattle.txf_volume.specs.Ties.{IsOver}
use Rattle.std.proofs.lemmas.List.Elements.{All-head, All-tail}
use Rattle.txf_laws.proofs.offered.NormalForms.{is_of_file, final-bytes}
use Rattle.txf_laws.proofs.offered.NormalForms.{filter-append}
use Rattle.txf_volume.proofs.OwnBytes.{one-bytes}

-- ---- own changes

-- the changes of what a transaction changed, if it changed anything
abbrev pub changes_in : Option OverlayState → List Change
changes_in None = []
changes_in (Some o) = own_of o

pub changes-own : (now : Option OverlayState) → changes_in now ≡ own_of (or_unchanged now)
changes-own None = refl
changes-own (Some o) = refl

pub own_changes-held : (overlays : List OwnHeld) (id : Id) → own_changes (own_held overlays) id ≡ changes_in (overlay_in overlays id)
own_changes-held [] id = refl
own_changes-held (o ∷ os) id = elim (cases_Bool (same_id o.transaction id)) [
  | inl same ↦ rw same refl
  | inr other ↦ rw other (own_changes-held os id)
]

-- what a transaction changed is over the tree
pub over-in : (tree : Tree) (overlays : List OwnHeld) (id : Id) (o : OverlayState) → All (λ own. IsOver tree own.overlay) overlays → overlay_in overlays id ≡ Some o → IsOver tree o
over-in tree [] id o all there = absurd (none-some o there)
over-in tree (p ∷ ps) id o all there = elim (cases_Bool (same_id p.transaction id)) [
  | inl same ↦ subst (IsOver tree) (same_Some p.overlay o (rw same at there)) (All-head (λ (own : OwnHeld). IsOver tree own.overlay) p ps all)
  | inr other ↦ over-in tree ps id o (All-tail (λ (own : OwnHeld). IsOver tree own.overlay) p ps all) (rw other at there)
]

-- ---- first opens

pub first_open-held : (tree : Tree) (older : List Older) (opens : List Opened) (id : Id) (file : ℕ) → first_open_of (map (first_held tree older) opens) id file ≡ option_map (first_held tree older) (find (is_open_of id file) opens)
first_open-held tree older [] id file = refl
first_open-held tree older (o ∷ os) id file = elim (cases_Bool (is_open_of id file o)) [
  | inl it ↦ rw it refl
  | inr other ↦ rw other (first_open-held tree older os id file)
]

-- ---- bytes

-- the changes of the bytes of a file that has these now
abbrev changes_at : ℕ → Option (List ℕ) → List Change
changes_at file None = []
changes_at file (Some bytes) = final_bytes file bytes

none-over : (ws : List Written) (n f : ℕ) → n ≡ f → AreOver n ws → bytes_at ws f ≡ None
none-over [] n f e over = refl
none-over (w ∷ ws) n f e over = rw (ne_eqb w.file f (λ same. omega (arith, over.0, e, same))) (none-over ws n f e over.1)

filter-final : (ws : List Written) (f : ℕ) → AreFilesRising ws → filter (is_of_file f) (flat_map final_of ws) ≡ changes_at f (bytes_at ws f)
filter-final [] f rises = refl
filter-final (w ∷ ws) f rises =
    let rest = filter-final ws f rises.1 in
    filter-append (is_of_file f) (final_of w) (flat_map final_of ws) ∙ elim (cases_Bool (w.file == f)) [
      | inl here ↦
          let e = eqb-true w.file f here in
          let none : filter (is_of_file f) (flat_map final_of ws) ≡ [] = rest ∙ ap (changes_at f) (none-over ws w.file f e rises.0) in
          (λ i. mine here w.bytes i ++ none i) ∙ append-nil (final_bytes w.file w.bytes) ∙ ap (λ n. final_bytes n w.bytes) e ∙ sym (rw here refl)
      | inr other ↦ (λ i. theirs other w.bytes i ++ rest i) ∙ sym (rw other refl)
    ]
  where
    mine : (w.file == f) ≡ true → (bs : List ℕ) → filter (is_of_file f) (final_bytes w.file bs) ≡ final_bytes w.file bs
    mine same [] = rw same refl
    mine same (b ∷ bs) = rw same refl

    theirs : (w.file == f) ≡ false → (bs : List ℕ) → filter (is_of_file f) (final_bytes w.file bs) ≡ []
    theirs other [] = rw other refl
    theirs other (b ∷ bs) = rw other refl

filter-names : (cs : List Change) (f : ℕ) → list_all is_of_names cs ≡ true → filter (is_of_file f) cs ≡ []
filter-names [] f only = refl
filter-names (c ∷ cs) f only =
    let parts = and_parts (is_of_names c) (list_all is_of_names cs) only in
    let bytes : changes_bytes c ≡ false = not-not (changes_bytes c) parts.0 in
    rw bytes (filter-names cs f parts.1)
  where
    not-not : (b : Bool) → not b ≡ true → b ≡ false
    not-not true e = sym e
    not-not false e = refl

-- what a transaction wrote of a file takes the place of what was there
pub bytes_after-own : (o : OverlayState) → IsOwn o → (before : List ℕ) (f : ℕ) → bytes_after before f (own_of o) ≡ bytes_or before (bytes_at o.written f)
bytes_after-own o own before f = go (bytes_at o.written f) refl
  where
    its : filter (is_of_file f) (own_of o) ≡ changes_at f (bytes_at o.written f)
    its = filter-append (is_of_file f) o.names (flat_map final_of o.written) ∙ (λ i. filter-names o.names f own.only i ++ filter-final o.written f own.rise i)

    go : (now : Option (List ℕ)) → bytes_at o.written f ≡ now → bytes_after before f (own_of o) ≡ bytes_or before now
    go None is = ap (λ ds. bytes_of (changed_all (record { number = f; parent = 1; name = []; content = Some before } ∷ []) ds) f) (its ∙ ap (changes_at f) is) ∙ one-bytes f before
    go (Some bytes) is = final-bytes before f bytes (own_of o) (its ∙ ap (changes_at f) is)

-- changes of bytes make no node
final-makes : (ws : List Written) (n : ℕ) → has_made (flat_map final_of ws) n ≡ false
final-makes [] n = refl
final-makes (w ∷ ws) n = go w.bytes (final-makes ws n)
  where
    go : (bs : List ℕ) → has_made (flat_map final_of ws) n ≡ false → has_made (final_bytes w.file bs ++ flat_map final_of ws) n ≡ false
    go [] rest = rest
    go (b ∷ bs) rest = rest

pub made-append : (cs ds : List Change) (n : ℕ) → has_made ds n ≡ false → has_made (cs ++ ds) n ≡ has_made cs n
made-append [] ds n none = none
made-append (c ∷ cs) ds n none = ap (λ b. (is_make c && node_of c == n) || b) (made-append cs ds n none)

pub has_made-own : (o : OverlayState) (n : ℕ) → has_made (own_of o) n ≡ has_made o.names n
has_made-own o n = made-append o.names (flat_map final_of o.written) n (final-makes o.written n)

module _ (h : FilesHeld) (id : Id) (f : ℕ) where
  -- the bytes that are fixed for the transaction
  abbrev pub fixed : List ℕ
  fixed = fixed_bytes (files_of h) f (first_open_of (files_of h).first_opens id f)

  pub seen-none : overlay_in h.overlays id ≡ None → bytes_seen (files_of h) (Some id) f ≡ fixed_bytes (files_of h) f (first_open_of (files_of h).first_opens id f)
  seen-none none =
      let own : own_changes (own_held h.overlays) id ≡ [] = own_changes-held h.overlays id ∙ ap changes_in none in
      ap (λ cs. bytes_after (first_bytes (files_of h) id cs f) f cs) own ∙ one-bytes f fixed

  pub seen-some : (o : OverlayState) → overlay_in h.overlays id ≡ Some o → IsOwn o
      → bytes_seen (files_of h) (Some id) f ≡ bytes_or (if has_made o.names f then [] else fixed_bytes (files_of h) f (first_open_of (files_of h).first_opens id f)) (bytes_at o.written f)
  seen-some o there own =
      let is : own_changes (own_held h.overlays) id ≡ own_of o = own_changes-held h.overlays id ∙ ap changes_in there in
      ap (λ cs. bytes_after (first_bytes (files_of h) id cs f) f cs) is ∙ bytes_after-own o own (first_bytes (files_of h) id (own_of o) f) f
      ∙ ap (λ b. bytes_or (if b then [] else fixed) (bytes_at o.written f)) (has_made-own o f)

  pub fixed-none : find (is_open_of id f) h.versions.opens ≡ None → fixed_bytes (files_of h) f (first_open_of (files_of h).first_opens id f) ≡ bytes_of (files_of h).tree f
  fixed-none none = ap (fixed_bytes (files_of h) f) (first_open-held (files_of h).tree h.versions.older h.versions.opens id f ∙ ap (option_map (first_held (files_of h).tree h.versions.older)) none)

  pub fixed-some : (o : Opened) → find (is_open_of id f) h.versions.opens ≡ Some o → fixed_bytes (files_of h) f (first_open_of (files_of h).first_opens id f) ≡ version_bytes (files_of h).tree h.versions.older o.file o.version
  fixed-some o there = ap (fixed_bytes (files_of h) f) (first_open-held (files_of h).tree h.versions.older h.versions.opens id f ∙ ap (option_map (first_held (files_of h).tree h.versions.older)) there)

  pub found-open : (opens : List Opened) (o : Opened) → find (is_open_of id f) opens ≡ Some o → o.file ≡ f
  found-open [] o found = absurd (none-some o found)
  found-open (p ∷ ps) o found = elim (cases_Bool (is_open_of id f p)) [
    | inl it ↦ ap (λ (q : Opened). q.file) (sym (same_Some p o (rw it at found))) ∙ eqb-true _ _ (and_parts (same_id p.transaction id) (p.file == f) it).1
    | inr other ↦ found-open ps o (rw other at found)
  ]

  -- by the version that was fixed
  pub fixed-version : (version : Option ℕ) → version ≡ option_map (λ o. o.version) (find (is_open_of id f) h.versions.opens)
      → fixed_bytes (files_of h) f (first_open_of (files_of h).first_opens id f) ≡ (elim version as (λ _. List ℕ) [ None ↦ bytes_of (files_of h).tree f | Some v ↦ version_bytes (files_of h).tree h.versions.older f v ])
  fixed-version version is = go (find (is_open_of id f) h.versions.opens) refl ∙ sym (ap bytes is)
    where
      bytes : Option ℕ → List ℕ
      bytes None = bytes_of (files_of h).tree f
      bytes (Some v) = version_bytes (files_of h).tree h.versions.older f v

      go : (found : Option Opened) → find (is_open_of id f) h.versions.opens ≡ found → fixed_bytes (files_of h) f (first_open_of (files_of h).first_opens id f) ≡ bytes (option_map (λ o. o.version) found)
      go None none = fixed-none none
      go (Some o) there = fixed-some o there ∙ ap (λ n. version_bytes (files_of h).tree h.versions.older n o.version) (found-open h.versions.opens o there)

  -- what the transaction made and opened
  pub made-none : overlay_in h.overlays id ≡ None → has_made (own_changes (own_held h.overlays) id) f ≡ false
  made-none none = ap (λ cs. has_made cs f) (own_changes-held h.overlays id ∙ ap changes_in none)

  pub made-some : (o : OverlayState) → overlay_in h.overlays id ≡ Some o → has_made (own_changes (own_held h.overlays) id) f ≡ has_made o.names f
  made-some o there = ap (λ cs. has_made cs f) (own_changes-held h.overlays id ∙ ap changes_in there) ∙ has_made-own o f

  pub opened-is : (version : Option ℕ) → version ≡ option_map (λ o. o.version) (find (is_open_of id f) h.versions.opens) → is_some (first_open_of (files_of h).first_opens id f) ≡ is_some version
  opened-is version is = ap is_some (first_open-held (files_of h).tree h.versions.older h.versions.opens id f) ∙ go (find (is_open_of id f) h.versions.opens) ∙ sym (ap is_some is)
    where
      go : (found : Option Opened) → is_some (option_map (first_held (files_of h).tree h.versions.older) found) ≡ is_some (option_map (λ o. o.version) found)
      go None = refl
      go (Some o) = refl

  -- is the version that it fixed no longer the last one
  pub outdated-is : (version : Option ℕ) → version ≡ option_map (λ o. o.version) (find (is_open_of id f) h.versions.opens)
      → is_outdated (files_of h) (first_open_of (files_of h).first_opens id f) ≡ (elim version as (λ _. Bool) [ None ↦ false | Some v ↦ not (is_file (files_of h).tree f && v == version_of (files_of h).versions f) ])
  outdated-is version is =
      ap (is_outdated (files_of h)) (first_open-held (files_of h).tree h.versions.older h.versions.opens id f) ∙ go (find (is_open_of id f) h.versions.opens) refl ∙ sym (ap outdated is)
    where
      outdated : Option ℕ → Bool
      outdated None = false
      outdated (Some v) = not (is_file (files_of h).tree f && v == version_of (files_of h).versions f)

      go : (found : Option Opened) → find (is_open_of id f) h.versions.opens ≡ found
          → is_outdated (files_of h) (option_map (first_held (files_of h).tree h.versions.older) (find (is_open_of id f) h.versions.opens)) ≡ outdated (option_map (λ o. o.version) (find (is_open_of id f) h.versions.opens))
      go None none = ap (λ (o : Option Opened). is_outdated (files_of h) (option_map (first_held (files_of h).tree h.versions.older) o)) none ∙ sym (ap (λ (o : Option Opened). outdated (option_map (λ o. o.version) o)) none)
      go (Some o) there =
          ap (λ (o : Option Opened). is_outdated (files_of h) (option_map (first_held (files_of h).tree h.versions.older) o)) there
          ∙ (λ i. not (is_file (files_of h).tree (found-open h.versions.opens o there i) && o.version == version_of (files_of h).versions (found-open h.versions.opens o there i)))
          ∙ sym (ap (λ (o : Option Opened). outdated (option_map (λ o. o.version) o)) there)
