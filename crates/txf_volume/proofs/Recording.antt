-- What a transaction changed, as it is recorded.
use Rattle.std.proofs.Common.{◌≡◌, ℕ, ◌<◌, ◌^◌, not, Bool, true, false, filter, map, List, [], ◌∷◌, Some, None, All, refl, sym, ◌∙◌, ap, subst}
use Rattle.std.proofs.lemmas.Bool.{and_parts, ltb-true, true≢false}
use Rattle.std.proofs.lemmas.List.Elements.{All-cons, All-nil}
use Rattle.std.specs.List.{flat_map, list_all}
use Rattle.std.specs.Prelude.{nat_le, nat_lt}
use Rattle.ktm_world.specs.declared.change.Change.{Change}
use Rattle.ktm_world.specs.declared.change.Change.TheVariants.{Make, Put, Cut, Move, Drop}
use Rattle.ktm_base.specs.declared.id.Id.{Id}
use Rattle.ktm_world.specs.Changes.{applies, changes_apply, changed, has_changes, is_make, next_after, node_of}
use Rattle.ktm_world.specs.Durable.{next_after_all}
use Rattle.ktm_world.specs.Files.{own_changes}
use Rattle.ktm_world.specs.Tree.{Tree}
use Rattle.txf_laws.proofs.offered.ChangeTests.{Applies-from}
use Rattle.txf_overlay.specs.Laws.{IsOwn}
use Rattle.txf_overlay.specs.OverlayState.{OverlayState, Written, final_of, is_of_names, own_of}
use Rattle.txf_overlay.specs.Pages.{LieOnPages}
use Rattle.txf_volume.specs.Held.{FilesHeld, overlay_in, own_held}
use Rattle.ktm_event.specs.OnPages.{AreEach, IsRecordedChange}
use Rattle.ktm_event.specs.Work.{FinalFile, changes_of, changes_of_file}
use Rattle.ktm_event.proofs.offered.Recorded.{each-both}
use Rattle.txf_volume.specs.Shown.{recorded_file, recorded_files, shown}
use Rattle.txf_volume.proofs.FilesShown.{files-recorded, recorded-rise, shown-all}
use Rattle.txf_volume.proofs.Seen.{changes_in, own_changes-held}
use Rattle.txf_volume.proofs.Steady.{names-own}

-- ---- the number of the next node

-- numbers that are made are below 2^63
pub made-low : (tree : Tree) (cs : List Change) → changes_apply tree cs ≡ true → All (λ (c : Change). is_make c ≡ true → node_of c < 2 ^ 63) cs
made-low tree [] all = All-nil (λ (c : Change). is_make c ≡ true → node_of c < 2 ^ 63)
made-low tree (c ∷ cs) all =
    let parts = and_parts (applies tree c) (changes_apply (changed tree c) cs) all in
    All-cons (λ (c : Change). is_make c ≡ true → node_of c < 2 ^ 63) c cs (low c parts.0) (made-low (changed tree c) cs parts.1)
  where
    low : (c : Change) → applies tree c ≡ true → is_make c ≡ true → node_of c < 2 ^ 63
    low (Make node parent kind name) applies makes =
        ltb-true node (2 ^ 63) (and_parts (nat_le 2 node) (nat_lt node (2 ^ 63)) (Applies-from tree (Make node parent kind name) applies).0).1
    low (Put node offset contents) applies makes = absurd (true≢false (sym makes))
    low (Cut node size pages) applies makes = absurd (true≢false (sym makes))
    low (Move node parent name) applies makes = absurd (true≢false (sym makes))
    low (Drop node) applies makes = absurd (true≢false (sym makes))

-- changes of bytes make no node
pub next-names : (cs : List Change) (next : ℕ) → next_after_all next (filter is_of_names cs) ≡ next_after_all next cs
next-names [] next = refl
next-names (Make node parent kind name ∷ cs) next = next-names cs (next_after next (Make node parent kind name))
next-names (Put node offset contents ∷ cs) next = next-names cs next
next-names (Cut node size pages ∷ cs) next = next-names cs next
next-names (Move node parent name ∷ cs) next = next-names cs next
next-names (Drop node ∷ cs) next = next-names cs next

-- ---- changes of names as they are recorded

names-recorded : (cs : List Change) → list_all is_of_names cs ≡ true → AreEach IsRecordedChange cs cs
names-recorded [] only = tt
names-recorded (c ∷ cs) only =
    let parts = and_parts (is_of_names c) (list_all is_of_names cs) only in
    (same c parts.0, names-recorded cs parts.1)
  where
    same : (c : Change) → is_of_names c ≡ true → IsRecordedChange c c
    same (Make node parent kind name) names = refl
    same (Put node offset contents) names = absurd (true≢false (sym names))
    same (Cut node size pages) names = refl
    same (Move node parent name) names = refl
    same (Drop node) names = refl

-- ---- what the model has

module _ (h : FilesHeld) (id : Id) where
  -- the changes, where there is nothing
  pub own-none : overlay_in h.overlays id ≡ None → own_changes (own_held h.overlays) id ≡ []
  own-none none = own_changes-held h.overlays id ∙ ap changes_in none

  pub own-some : (o : OverlayState) → overlay_in h.overlays id ≡ Some o → own_changes (own_held h.overlays) id ≡ own_of o
  own-some o there = own_changes-held h.overlays id ∙ ap changes_in there

  pub names-some : (o : OverlayState) → overlay_in h.overlays id ≡ Some o → IsOwn o → filter is_of_names (own_changes (own_held h.overlays) id) ≡ o.names
  names-some o there own = ap (filter is_of_names) (own-some o there) ∙ names-own o own

  pub changes-some : (o : OverlayState) (empty : Bool) → overlay_in h.overlays id ≡ Some o → empty ≡ not (has_changes (own_of o)) → not empty ≡ has_changes (own_changes (own_held h.overlays) id)
  changes-some o empty there is = ap not is ∙ not-not (has_changes (own_of o)) ∙ sym (ap has_changes (own-some o there))
    where
      not-not : (b : Bool) → not (not b) ≡ b
      not-not true = refl
      not-not false = refl

  -- with its names the files are its changes as they are recorded
  abbrev pub AreItsChanges : List FinalFile → Type 0
  AreItsChanges files = AreEach IsRecordedChange (own_changes (own_held h.overlays) id) (changes_of (filter is_of_names (own_changes (own_held h.overlays) id)) (shown files))

  pub written-none : (files : List FinalFile) → overlay_in h.overlays id ≡ None → shown files ≡ [] → AreItsChanges files
  written-none files none empty =
      subst (λ (cs : List Change). AreEach IsRecordedChange cs (changes_of (filter is_of_names cs) (shown files))) (sym (own-none none))
      (subst (λ (fs : List FinalFile). AreEach IsRecordedChange [] (flat_map changes_of_file fs)) (sym empty) tt)

  pub written-some : (o : OverlayState) → overlay_in h.overlays id ≡ Some o → IsOwn o → All (λ (w : Written). LieOnPages w.bytes) o.written → AreItsChanges (recorded_files (Some o))
  written-some o there own on =
      let files = map recorded_file o.written in
      let recorded : AreEach IsRecordedChange (own_of o) (changes_of o.names files) =
      each-both IsRecordedChange o.names o.names (flat_map final_of o.written) (flat_map changes_of_file files) (names-recorded o.names own.only) (files-recorded o.written on) in
      let is : changes_of (filter is_of_names (own_changes (own_held h.overlays) id)) (shown files) ≡ changes_of o.names files =
      (λ i. changes_of (names-some o there own i) (shown-all files (recorded-rise o.written own.rise) i)) in
      subst (λ (cs : List Change). AreEach IsRecordedChange cs (changes_of (filter is_of_names (own_changes (own_held h.overlays) id)) (shown files))) (sym (own-some o there))
      (subst (AreEach IsRecordedChange (own_of o)) (sym is) recorded)

  pub next-none : (next : ℕ) → overlay_in h.overlays id ≡ None → next ≡ next_after_all next (own_changes (own_held h.overlays) id)
  next-none next none = sym (ap (next_after_all next) (own-none none))

  pub next-some : (o : OverlayState) (next : ℕ) → overlay_in h.overlays id ≡ Some o → IsOwn o → next_after_all next o.names ≡ next_after_all next (own_changes (own_held h.overlays) id)
  next-some o next there own = sym (ap (next_after_all next) (names-some o there own)) ∙ next-names (own_changes (own_held h.overlays) id) next
