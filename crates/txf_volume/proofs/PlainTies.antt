-- The parts of the files in memory go together, once a plain change is made.
use Rattle.std.proofs.Common.{◌≡◌, ℕ, ◌+◌, ◌-◌, ◌<◌, ◌≤◌, ◌^◌, ◌==◌, ◌&&◌, ◌||◌, not, Bool, true, false, map, is_some, sum_by, List, [], ◌∷◌, ◌++◌, Option, Some, None, All, refl, sym, ◌∙◌, ap, subst, arith, inl, inr}
use Rattle.std.proofs.lemmas.Bool.{cases_Bool, and_parts, and_from, true≢false}
use Rattle.std.proofs.lemmas.List.{append-nil}
use Rattle.std.proofs.lemmas.List.Elements.{All-head, All-tail}
use Rattle.std.specs.List.{flat_map, list_any}
use Rattle.ktm_base.specs.declared.id.Id.{Id}
use Rattle.ktm_world.specs.declared.change.Change.{Change}
use Rattle.ktm_world.specs.declared.change.Change.TheVariants.{Make, Put, Cut, Move, Drop}
use Rattle.ktm_world.specs.declared.change.Contents.TheVariants.{Whole}
use Rattle.txf_laws.specs.Formed.{FormedLaw}
use Rattle.txf_laws.specs.Reservations.{IsLeft}
use Rattle.ktm_world.specs.Changes.{applies, changes_apply, changed, changed_all, changes_bytes, is_free, is_make, is_node_number, is_whole, is_empty_list, next_after, node_of}
use Rattle.ktm_world.specs.Committed.{committed_with, final_bytes, versions_after}
use Rattle.ktm_world.specs.FileOutcome.{FileOutcome, changing, files_after, next_node_after, with_open, works_of}
use Rattle.ktm_world.specs.Files.{FilesNow, FirstOpen, OwnChanges, committed_files, files_with, own_changes}
use Rattle.ktm_world.specs.FileUses.{units_used}
use Rattle.ktm_world.specs.Holds.{Holds, directories_of, dropped_directory, each_change, holds_by, moved_directory, places_of}
use Rattle.ktm_world.specs.Paths.{is_name}
use Rattle.ktm_world.specs.Transactions.{same_id}
use Rattle.ktm_world.specs.Tree.{Tree, IsWellFormed, numbers_rise, is_directory, is_file, is_there, node_at, root, bytes_of, units_of}
use Rattle.txf_overlay.specs.Laws.{OtherTreeLaw}
use Rattle.txf_overlay.specs.OverlayState.{OverlayState, Written, final_of, own_of}
use Rattle.txf_reserve.specs.ReserveState.{IsSameHold, holds_in}
use Rattle.txf_tree.specs.TreeState.{TreeState, takes, tree_of, versions_of}
use Rattle.txf_versions.specs.VersionsState.{AreHeld, VersionsState, older_units}
use Rattle.txf_volume.specs.Held.{FilesHeld, OwnHeld, changes_held, files_of, first_held, names_held, own_held, tree_units}
use Rattle.txf_volume.specs.declared.counts.Counts.{Counts}
use Rattle.txf_laws.specs.FileEffects.{IsPlainChange, LeavesOwn}
use Rattle.txf_volume.specs.Plain.{CanBeKept, IsLeftOver, KeepsEnded}
use Rattle.txf_volume.specs.Ties.{AreTied, IsKeptOpen, IsOver}
use Rattle.txf_calls.specs.Fits.{Suits}
use Rattle.txf_volume.specs.Uses.{gain, kept, loss}
use Rattle.txf_volume.proofs.Counted.{pinned-last}
use Rattle.txf_laws.specs.Elements.{IsIn}
use Rattle.txf_laws.proofs.offered.CommitsOfOthers.{All-by, All-in}
use Rattle.ktm_world.proofs.offered.Lookups.{Rises-from}
use Rattle.txf_volume.proofs.OwnUses.{uses_law}
use Rattle.txf_volume.proofs.PlainKept.{IsIn-map, firsts-then, opened-then}
use Rattle.txf_volume.proofs.Seen.{changes_in, own_changes-held}
use Rattle.txf_volume.proofs.Steady.{overlay-at, steady, units-now}
use Rattle.txf_volume.proofs.TreeUnits.{units-changed}

-- ---- what transactions changed

final-places : (tree : Tree) (f : ℕ) (bs : List ℕ) (rest : List Change) → ((t : Tree) → each_change places_of t rest ≡ []) → each_change places_of tree (final_bytes f bs ++ rest) ≡ []
final-places tree f [] rest none = none (changed tree (Cut f 0 []))
final-places tree f (b ∷ bs) rest none = none (changed (changed tree (Cut f 0 [])) (Put f 0 (Whole (b ∷ bs))))

finals-places : (ws : List Written) (tree : Tree) → each_change places_of tree (flat_map final_of ws) ≡ []
finals-places [] tree = refl
finals-places (w ∷ ws) tree = final-places tree w.file w.bytes (flat_map final_of ws) (finals-places ws)

front-places : (tree : Tree) (cs ds : List Change) → each_change places_of (changed_all tree cs) ds ≡ [] → each_change places_of tree (cs ++ ds) ≡ each_change places_of tree cs
front-places tree [] ds none = none
front-places tree (c ∷ cs) ds none = ap (λ ps. places_of tree c ++ ps) (front-places (changed tree c) cs ds none)

-- changes of bytes hold no places
own-places : (tree : Tree) (o : OverlayState) → each_change places_of tree (own_of o) ≡ each_change places_of tree o.names
own-places tree o = front-places tree o.names (flat_map final_of o.written) (finals-places o.written (changed_all tree o.names))

apply-front : (tree : Tree) (cs ds : List Change) → changes_apply tree (cs ++ ds) ≡ true → changes_apply tree cs ≡ true
apply-front tree [] ds all = refl
apply-front tree (c ∷ cs) ds all = let parts = and_parts (applies tree c) (changes_apply (changed tree c) (cs ++ ds)) all in and_from _ _ parts.0 (apply-front (changed tree c) cs ds parts.1)

over-then : FormedLaw → OtherTreeLaw → (tree : Tree) (c : Change) (o : OverlayState) → IsWellFormed (changed tree c) → IsOver tree o → IsLeftOver tree c o → IsOver (changed tree c) o
over-then forms others tree c o formed over left =
    let names = apply-front (changed tree c) o.names (flat_map final_of o.written) left.apply in
    record {
      stands = others o tree (changed tree c) over.stands formed (forms.1 (changed tree c) o.names formed names) names (sym (own-places (changed tree c) o) ∙ ap (λ (h : Holds). h.places) left.holds ∙ own-places tree o);
      own = over.own;
    }

holds-then : (tree : Tree) (c : Change) (os : List OwnHeld) (id : Id) → All (λ (own : OwnHeld). IsLeftOver tree c own.overlay) os
    → holds_by (changed tree c) (own_changes (own_held os) id) [] ≡ holds_by tree (own_changes (own_held os) id) []
holds-then tree c [] id left = refl
holds-then tree c (o ∷ os) id left = elim (cases_Bool (same_id o.transaction id)) [
  | inl it ↦ rw it (All-head (λ (own : OwnHeld). IsLeftOver tree c own.overlay) o os left).holds
  | inr other ↦ rw other (holds-then tree c os id (All-tail (λ (own : OwnHeld). IsLeftOver tree c own.overlay) o os left))
]

-- ---- what a plain change is

none-there : {X : Type 0} (o : Option X) (b : Bool) → not (b || is_some o) ≡ true → o ≡ None
none-there None b e = refl
none-there (Some x) true e = absurd (true≢false (sym e))
none-there (Some x) false e = absurd (true≢false (sym e))

pub suits-from : (tree : Tree) (os : List FirstOpen) (c : Change) → applies tree c ≡ true → (is_make c ≡ true → list_any (λ o. o.file == node_of c) os ≡ false) → Suits tree os c
suits-from tree os c does fresh = record { fits = fits c does; fresh = fresh; file = file c does }
  where
    fits : (c : Change) → applies tree c ≡ true → is_make c ≡ true → node_at tree (node_of c) ≡ None
    fits (Make node parent kind name) does make =
        let free = and_parts (is_node_number node && not (is_there tree node) && is_directory tree parent && is_name name) (is_free tree parent name) does in
        let named = and_parts (is_node_number node && not (is_there tree node) && is_directory tree parent) (is_name name) free.0 in
        let under = and_parts (is_node_number node && not (is_there tree node)) (is_directory tree parent) named.0 in
        none-there (node_at tree node) (node == root) (and_parts (is_node_number node) (not (is_there tree node)) under.0).1
    fits (Put node offset contents) does make = absurd (true≢false (sym make))
    fits (Cut node size pages) does make = absurd (true≢false (sym make))
    fits (Move node parent name) does make = absurd (true≢false (sym make))
    fits (Drop node) does make = absurd (true≢false (sym make))

    file : (c : Change) → applies tree c ≡ true → changes_bytes c ≡ true → is_file tree (node_of c) ≡ true
    file (Make node parent kind name) does bytes = absurd (true≢false (sym bytes))
    file (Put node offset contents) does bytes = (and_parts (is_file tree node) (is_whole contents) does).0
    file (Cut node size pages) does bytes = (and_parts (is_file tree node) (is_empty_list pages) does).0
    file (Move node parent name) does bytes = absurd (true≢false (sym bytes))
    file (Drop node) does bytes = absurd (true≢false (sym bytes))

-- ---- what a plain call makes of the model

-- with a change
abbrev with_plain : FilesNow → Option Change → FilesNow
with_plain files None = files
with_plain files (Some c) = record files { tree = changed files.tree c; versions = versions_after files.versions c; table = record files.table { next_node = next_after files.table.next_node c } }

-- and an open file
pub plainly : (files : FilesNow) (o : FileOutcome) → files_after files None o ≡ record (with_plain files o.change) { table = with_open (with_plain files o.change).table o.opened }
plainly files o = go o.change
  where
    go : (c : Option Change) → files_with (committed_with (committed_files files []) (works_of None c)) (files.first_opens ++ []) (with_open (record files.table { next_node = next_node_after files.table.next_node c }) o.opened)
        ≡ record (with_plain files c) { table = with_open (with_plain files c).table o.opened }
    go None = λ i. record files { first_opens = append-nil files.first_opens i; table = with_open files.table o.opened }
    go (Some c) = λ i. record (with_plain files (Some c)) { first_opens = append-nil files.first_opens i; table = with_open (with_plain files (Some c)).table o.opened }

-- ---- the parts once the change is made

module _ (h : FilesHeld) (units : ℕ) (counts : Counts) (tied : AreTied h units counts) (c : Change) (plain : IsPlainChange (files_of h) c) where
  abbrev tree : Tree
  tree = tree_of h.tree

  pub suits : Suits tree (files_of h).first_opens c
  suits = suits-from tree (files_of h).first_opens c plain.does_apply plain.fresh

  -- what a transaction holds is left, whatever else the call does
  pub left-over : (o : FileOutcome) → o.change ≡ Some c → LeavesOwn (files_of h) (files_after (files_of h) None o) → All (λ (own : OwnHeld). IsLeftOver tree c own.overlay) h.overlays
  left-over o is left = All-by (λ (own : OwnHeld). IsLeftOver tree c own.overlay) h.overlays one
    where
      one : (own : OwnHeld) → IsIn own h.overlays → IsLeftOver tree c own.overlay
      one own there =
          let its = All-in (λ (p : OwnChanges). IsLeft (files_of h) (files_after (files_of h) None o) p.transaction) (own_held h.overlays) left (changes_held own) (IsIn-map changes_held h.overlays own there) in
          let now : own_changes (own_held h.overlays) own.transaction ≡ own_of own.overlay = own_changes-held h.overlays own.transaction ∙ ap changes_in (overlay-at h.overlays tied.once own there) in
          let then : own_changes (files_after (files_of h) None o).table.own own.transaction ≡ own_of own.overlay = its.own ∙ now in
          let made : (files_after (files_of h) None o).tree ≡ changed tree c = ap (λ (d : Option Change). (committed_with (committed_files (files_of h) []) (works_of None d)).tree) is in
          record {
            apply = (λ i. changes_apply (sym made i) (sym then i)) ∙ its.applies;
            holds = λ i. record {
              nodes = map node_of (own_of own.overlay) ++ [];
              places = ((λ j. each_change places_of (sym made j) (sym then j)) ∙ ap (λ (h : Holds). h.places) its.holds ∙ ap (each_change places_of tree) now) i;
              uses = ((λ j. directories_of (each_change places_of (sym made j) (sym then j))) ∙ ap (λ (h : Holds). h.uses) its.holds ∙ ap (λ cs. directories_of (each_change places_of tree cs)) now) i;
              dropped = ((λ j. each_change dropped_directory (sym made j) (sym then j)) ∙ ap (λ (h : Holds). h.dropped) its.holds ∙ ap (each_change dropped_directory tree) now) i;
              moves = ((λ j. list_any (λ node. true) (each_change moved_directory (sym made j) (sym then j))) ∙ ap (λ (h : Holds). h.moves) its.holds ∙ ap (λ cs. list_any (λ node. true) (each_change moved_directory tree cs)) now) i;
            };
          }

  module _ (tree' : TreeState) (versions' : VersionsState) (next' : ℕ) (made : tree_of tree' ≡ changed (tree_of h.tree) c) (raised : versions_of tree' ≡ versions_after (versions_of h.tree) c)
      (opens : versions'.opens ≡ h.versions.opens) (older : KeepsEnded h.tree c h.versions.opens h.versions.older versions'.older)
    where
      pub files-then : next' ≡ next_after h.next_node c → files_of (record h { tree = tree'; versions = versions'; next_node = next' }) ≡ files_after (files_of h) None (changing c)
      files-then next =
          (λ i. record {
            tree = made i;
            versions = raised i;
            first_opens = (ap (map (first_held (tree_of tree') versions'.older)) opens
                ∙ firsts-then h.tree tree' c h.versions.opens h.versions.older versions'.older made raised suits (steady h units counts tied).versions tied.opened older) i;
            table = record (files_of h).table { next_node = next i };
          })
          ∙ sym (plainly (files_of h) (changing c))

      pub tied-then : FormedLaw → OtherTreeLaw → All (λ (own : OwnHeld). IsLeftOver tree c own.overlay) h.overlays → (units' : ℕ) → units' ≡ tree_units (changed (tree_of h.tree) c)
          → h.tree.spare ≤ tree'.spare + takes c → sum_by names_held h.overlays + takes c ≤ h.tree.spare → AreTied (record h { tree = tree'; versions = versions'; next_node = next' }) units' counts
      tied-then forms others left units' sum spare room =
          let formed = forms.0 tree c tied.formed plain.does_apply in
          record {
            formed = subst IsWellFormed (sym made) formed;
            once = tied.once;
            over = subst (λ (t : Tree). All (λ (own : OwnHeld). IsOver t own.overlay) h.overlays) (sym made)
                (All-by (λ (own : OwnHeld). IsOver (changed tree c) own.overlay) h.overlays (λ own there.
                over-then forms others tree c own.overlay formed (All-in (λ (p : OwnHeld). IsOver tree p.overlay) h.overlays tied.over own there) (All-in (λ (p : OwnHeld). IsLeftOver tree c p.overlay) h.overlays left own there)));
            opened = subst (λ os. All (IsKeptOpen tree' versions'.older) os) (sym opens)
                (opened-then h.tree tree' c h.versions.opens h.versions.older versions'.older made raised suits (steady h units counts tied).versions tied.opened older);
            keeps = λ id. subst (λ (t : Tree). IsSameHold (holds_in h.reserve id) (holds_by t (own_changes (own_held h.overlays) id) [])) (sym made)
                (subst (IsSameHold (holds_in h.reserve id)) (sym (holds-then tree c h.overlays id left)) (tied.keeps id));
            sum = sum ∙ sym (ap tree_units made);
            counted = tied.counted;
            few = tied.few;
            room = omega (arith, spare, room);
          }

  -- ---- what is counted

  -- all units in use, by those of what is committed and of what is kept
  counted : AreHeld h.versions.opens h.versions.older → (o : FileOutcome) → o.change ≡ Some c → units_used (files_after (files_of h) None o) < 2 ^ 63
      → (tree_units (changed tree c) < 2 ^ 64) × (older_units h.versions.older + kept (files_of h) c < 2 ^ 64)
  counted held o is few =
      let law = (uses_law.plain (files_of h) o c (steady h units counts tied) is suits).units in
      let now = units-now h units counts tied held in
      let change = units-changed tree c suits.file (Rises-from tree tied.formed.rise) in
      let sum = tied.sum in
      (omega arith, omega arith)

  pub few-units : AreHeld h.versions.opens h.versions.older → (o : FileOutcome) → o.change ≡ Some c → units_used (files_after (files_of h) None o) < 2 ^ 63 → tree_units (changed tree c) < 2 ^ 64
  few-units held o is few = (counted held o is few).0

  pub few-kept : AreHeld h.versions.opens h.versions.older → (o : FileOutcome) → o.change ≡ Some c → units_used (files_after (files_of h) None o) < 2 ^ 63 → CanBeKept h.tree c h.versions
  few-kept held o is few = λ ended pinned.
      let all = (counted held o is few).1 in
      let more : kept (files_of h) c ≡ units_of (bytes_of tree (node_of c)) = rw (pinned-last h (node_of c), pinned, ended) refl in
      omega arith

-- ---- units

-- the units of what is committed, with what the change adds, and without what it takes
pub units-sum : (tree : Tree) (c : Change) (was : List ℕ) (units added lost : ℕ) → numbers_rise tree ≡ true → (changes_bytes c ≡ true → is_file tree (node_of c) ≡ true) → was ≡ bytes_of tree (node_of c) → units ≡ tree_units tree
    → added ≡ gain was c → lost ≡ loss was c → (lost ≤ units + added) × (units + added - lost ≡ tree_units (changed tree c))
units-sum tree c was units added lost rise file was_is sum added_is lost_is =
    let all = units-changed tree c file (Rises-from tree rise) in
    let a : added ≡ gain (bytes_of tree (node_of c)) c = added_is ∙ ap (λ b. gain b c) was_is in
    let l : lost ≡ loss (bytes_of tree (node_of c)) c = lost_is ∙ ap (λ b. loss b c) was_is in
    (omega arith, omega arith)
