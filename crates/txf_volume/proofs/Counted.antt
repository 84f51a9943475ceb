-- What is in use once a call has settled, of the files in memory.
use Rattle.std.proofs.Common.{◌≡◌, ℕ, ◌+◌, ◌-◌, ◌≤◌, ◌==◌, ◌&&◌, ◌||◌, Bool, true, if◌then◌else◌, map, is_some, List, [], ◌∷◌, Option, Some, None, refl, sym, ◌∙◌, ap, arith, inl, inr}
use Rattle.std.proofs.lemmas.Bool.{cases_Bool}
use Rattle.std.specs.List.{list_any}
use Rattle.ktm_base.specs.declared.id.Id.{Id}
use Rattle.ktm_world.specs.declared.change.Change.{Change}
use Rattle.ktm_world.specs.Changes.{has_made}
use Rattle.ktm_world.specs.Committed.{version_of, written_files}
use Rattle.ktm_world.specs.Files.{bytes_seen}
use Rattle.ktm_world.specs.Holds.{is_in}
use Rattle.txf_overlay.specs.Laws.{IsOwn, number_of}
use Rattle.txf_overlay.specs.OverlayState.{OverlayState, Written}
use Rattle.txf_overlay.specs.Written.{bytes_at, bytes_or}
use Rattle.txf_tree.specs.TreeState.{tree_of, versions_of}
use Rattle.txf_versions.specs.VersionsState.{fixes, is_pinned}
use Rattle.txf_versions.specs.declared.opened.Opened.{Opened}
use Rattle.txf_volume.specs.Held.{FilesHeld, files_of, first_held, overlay_in}
use Rattle.ktm_world.specs.Changes.{node_of}
use Rattle.ktm_world.specs.FileOutcome.{FileOutcome, files_after}
use Rattle.ktm_world.specs.FileUses.{file_changes_waiting, units_used}
use Rattle.ktm_world.specs.Tree.{bytes_of}
use Rattle.txf_calls.specs.Fits.{Suits, opens_file}
use Rattle.txf_volume.specs.Uses.{IsSteady, gain, is_last_opened, kept, loss, names_added, own_bytes}
use Rattle.txf_volume.proofs.OwnUses.{uses_law}
use Rattle.txf_volume.proofs.Seen.{changes_in, own_changes-held, seen-some, fixed}

-- ---- versions

pub pinned-last : (h : FilesHeld) (file : ℕ) → is_last_opened (files_of h) file ≡ is_pinned h.versions.opens file (version_of (versions_of h.tree) file)
pinned-last h file = go h.versions.opens
  where
    go : (os : List Opened) → list_any (λ o. o.file == file && o.version == version_of (versions_of h.tree) file) (map (first_held (tree_of h.tree) h.versions.older) os) ≡ is_pinned os file (version_of (versions_of h.tree) file)
    go [] = refl
    go (o ∷ os) = ap (λ b. fixes file (version_of (versions_of h.tree) file) o || b) (go os)

-- ---- own bytes

is_in-written : (ws : List Written) (f : ℕ) → is_in (map number_of ws) f ≡ is_some (bytes_at ws f)
is_in-written [] f = refl
is_in-written (w ∷ ws) f = elim (cases_Bool (w.file == f)) [ inl here ↦ rw here refl | inr other ↦ rw other (is_in-written ws f) ]

pub own_bytes-none : (h : FilesHeld) (id : Id) (f : ℕ) → overlay_in h.overlays id ≡ None → own_bytes (files_of h) id f ≡ []
own_bytes-none h id f none = ap (λ cs. if is_in (written_files cs) f then bytes_seen (files_of h) (Some id) f else []) (own_changes-held h.overlays id ∙ ap changes_in none)

pub own_bytes-some : (h : FilesHeld) (id : Id) (f : ℕ) (o : OverlayState) → overlay_in h.overlays id ≡ Some o → IsOwn o → own_bytes (files_of h) id f ≡ bytes_or [] (bytes_at o.written f)
own_bytes-some h id f o there own =
    ap (λ cs. if is_in (written_files cs) f then bytes_seen (files_of h) (Some id) f else []) (own_changes-held h.overlays id ∙ ap changes_in there)
    ∙ (λ i. if is_in (own.files i) f then seen-some h id f o there own i else [])
    ∙ ap (λ b. if b then bytes_or (if has_made o.names f then [] else fixed h id f) (bytes_at o.written f) else []) (is_in-written o.written f) ∙ go (bytes_at o.written f)
  where
    go : (now : Option (List ℕ)) → (if is_some now then bytes_or (if has_made o.names f then [] else fixed h id f) now else []) ≡ bytes_or [] now
    go None = refl
    go (Some bytes) = refl

-- ---- what is counted for a call

pub kept-is : (h : FilesHeld) (c : Change) (file version : ℕ) → file ≡ node_of c → version ≡ version_of (versions_of h.tree) file → (b : Bool) → b ≡ is_pinned h.versions.opens file version
    → kept (files_of h) c ≡ (if b then loss (bytes_of (tree_of h.tree) file) c else 0)
kept-is h c file version file_is version_is b is =
    ap (λ n. if is_last_opened (files_of h) n then loss (bytes_of (tree_of h.tree) n) c else 0) (sym file_is)
    ∙ ap (λ last. if last then loss (bytes_of (tree_of h.tree) file) c else 0) (pinned-last h file ∙ ap (is_pinned h.versions.opens file) (sym version_is) ∙ sym is)

-- what is used, with what a plain change adds, and without what it takes
pub plain-sum : (h : FilesHeld) (o : FileOutcome) (c : Change) (was : List ℕ) (used added more lost : ℕ) → IsSteady (files_of h) → o.change ≡ Some c → Suits (tree_of h.tree) (files_of h).first_opens c
    → was ≡ bytes_of (tree_of h.tree) (node_of c) → used ≡ units_used (files_of h) → added ≡ gain was c → more ≡ kept (files_of h) c → lost ≡ loss was c
    → (lost ≤ used + added + more) × (used + added + more - lost ≡ units_used (files_after (files_of h) None o))
plain-sum h o c was used added more lost steady is suits was_is used_is added_is more_is lost_is =
    let law = (uses_law.plain (files_of h) o c steady is suits).units in
    let a : added ≡ gain (bytes_of (tree_of h.tree) (node_of c)) c = added_is ∙ ap (λ b. gain b c) was_is in
    let l : lost ≡ loss (bytes_of (tree_of h.tree) (node_of c)) c = lost_is ∙ ap (λ b. loss b c) was_is in
    (omega (arith, law, a, l, used_is, more_is), omega (arith, law, a, l, used_is, more_is))

-- what is used, with what a change of a transaction adds, and without what it takes
pub own-sum : (h : FilesHeld) (id : Id) (o : FileOutcome) (c : Change) (file used added lost : ℕ) (seen own : List ℕ) → IsSteady (files_of h) → o.change ≡ Some c → opens_file (tree_of h.tree) o.first ≡ true
    → file ≡ node_of c → seen ≡ bytes_seen (files_of h) (Some id) file → own ≡ own_bytes (files_of h) id file → used ≡ units_used (files_of h) → added ≡ gain seen c → lost ≡ loss own c
    → (lost ≤ used + added) × (used + added - lost ≡ units_used (files_after (files_of h) (Some id) o))
own-sum h id o c file used added lost seen own steady is opens file_is seen_is own_is used_is added_is lost_is =
    let law = (uses_law.own (files_of h) id o c steady is opens).units in
    let a : added ≡ gain (bytes_seen (files_of h) (Some id) (node_of c)) c = added_is ∙ ap (λ b. gain b c) (seen_is ∙ ap (bytes_seen (files_of h) (Some id)) file_is) in
    let l : lost ≡ loss (own_bytes (files_of h) id (node_of c)) c = lost_is ∙ ap (λ b. loss b c) (own_is ∙ ap (own_bytes (files_of h) id) file_is) in
    (omega (arith, law, a, l, used_is), omega (arith, law, a, l, used_is))

-- the changes that wait, with what the call adds
pub waiting-sum : (h : FilesHeld) (who : Option Id) (o : FileOutcome) (waiting added : ℕ) → IsSteady (files_of h) → waiting ≡ file_changes_waiting (files_of h) → names_added who o.change ≡ added
    → waiting + added ≡ file_changes_waiting (files_after (files_of h) who o)
waiting-sum h who o waiting added steady waiting_is added_is = let law = uses_law.waiting (files_of h) who o steady in omega (arith, law, waiting_is, added_is)

pub waiting-same : (h : FilesHeld) (who : Option Id) (o : FileOutcome) (waiting : ℕ) → IsSteady (files_of h) → waiting ≡ file_changes_waiting (files_of h) → names_added who o.change ≡ 0
    → waiting ≡ file_changes_waiting (files_after (files_of h) who o)
waiting-same h who o waiting steady waiting_is none = let law = uses_law.waiting (files_of h) who o steady in omega (arith, law, waiting_is, none)

pub none-added : (who : Option Id) → names_added who None ≡ 0
none-added None = refl
none-added (Some id) = refl
