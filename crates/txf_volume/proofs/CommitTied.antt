-- How the parts of the files in memory go together once a transaction has committed.
use Rattle.std.proofs.Common.{◌≡◌, ℕ, ◌<◌, ◌≤◌, ◌^◌, ◌==◌, ◌&&◌, ◌||◌, not, Bool, true, false, filter, find, fold, is_some, length, map, List, [], ◌∷◌, ◌++◌, sum_by, Option, Some, None, MatchOption, IfSome, refl, sym, ◌∙◌, ap, subst, arith, inl, inr}
use Rattle.std.proofs.lemmas.Bool.{cases_Bool, and_from, and_parts, eq-eqb, eqb-true, false_from_ne_true, not_from_false, not-true, true≢false}
use Rattle.std.specs.List.{flat_map, list_all, list_any}
use Rattle.std.specs.Option.{option_map}
use Rattle.ktm_base.specs.declared.id.Id.{Id}
use Rattle.txf_laws.proofs.offered.CommitsOfOthers.{changes_apply-first, All-by, All-in, own_changes-of}
use Rattle.txf_laws.proofs.offered.Reservations.{tree-of}
use Rattle.txf_laws.proofs.offered.Sums.{sum-filter-less}
use Rattle.std.proofs.Math.Bool.{and-false, and-true}
use Rattle.txf_laws.specs.Formed.{FormedLaw}
use Rattle.txf_laws.specs.Reservations.{files_committed, IsLeft}
use Rattle.ktm_world.specs.declared.change.Change.{Change}
use Rattle.ktm_world.specs.declared.change.Change.TheVariants.{Make, Put, Cut, Move, Drop}
use Rattle.ktm_world.specs.Changes.{changes_apply, changed, changed_all, changes_bytes, has_made, is_make, node_of}
use Rattle.ktm_world.specs.Committed.{Committed, versions_after, with_change}
use Rattle.ktm_world.specs.Files.{FilesNow, FirstOpen, OwnChanges, own_changes}
use Rattle.ktm_world.specs.FileUses.{units_used}
use Rattle.ktm_world.specs.Holds.{Holds, directories_of, dropped_directory, each_change, is_in, is_place_in, moved_directory, places_of, Place}
use Rattle.ktm_world.specs.Transactions.{same_id}
use Rattle.ktm_world.specs.Tree.{Tree, IsWellFormed, bytes_of}
use Rattle.txf_opens.specs.OpensState.{is_not_of}
use Rattle.txf_overlay.specs.Laws.{OtherTreeLaw}
use Rattle.txf_overlay.specs.OverlayState.{OverlayState, final_of, own_of}
use Rattle.txf_overlay.specs.Written.{bytes_or, total_units}
use Rattle.txf_reserve.specs.ReserveState.{Keeps, ReserveState, holds_in}
use Rattle.txf_tree.specs.TreeState.{takes, tree_of, versions_of}
use Rattle.txf_versions.specs.VersionsState.{VersionsState, AreHeld, fixes, is_pinned, is_version, without_transaction}
use Rattle.txf_versions.specs.declared.kept.Older.{Older}
use Rattle.txf_versions.specs.declared.opened.Opened.{Opened}
use Rattle.txf_volume.specs.Making.{firsts_of, is_fresh, parts, units_older, AreMade, AreRight, CanTake}
use Rattle.txf_volume.specs.Commit.{MayCommit}
use Rattle.txf_volume.specs.Held.{FilesHeld, OwnHeld, changes_held, files_of, first_held, names_held, overlay_in, own_held, without_own, tree_units}
use Rattle.txf_volume.specs.OwnParts.{or_unchanged}
use Rattle.txf_volume.specs.Ties.{AreCounts, AreTied, IsKeptOpen, IsOver, held_by_two, nodes_held, units_held}
use Rattle.txf_volume.specs.declared.counts.Counts.{Counts}
use Rattle.txf_laws.specs.SoundFiles.{changed_by_two}
use Rattle.txf_volume.proofs.CommitKept.{older-of}
use Rattle.txf_laws.specs.Elements.{IsIn, each_pair}
use Rattle.txf_laws.proofs.offered.Elements.{IsIn-filter, list_all-from, list_any-at, list_any-from}
use Rattle.txf_laws.proofs.offered.Elements.{each_pair-filter}
use Rattle.txf_laws.proofs.offered.NormalForms.{AllBytes}
use Rattle.txf_volume.proofs.OlderKept.{older-kept}
use Rattle.txf_laws.proofs.offered.OlderVersions.{older-is, version_units}
use Rattle.txf_laws.proofs.offered.Tables.{same_id-equal}
use Rattle.txf_volume.proofs.OwnCounts.{sum-in, sum-without, takes-own}
use Rattle.txf_volume.proofs.OwnTables.{own_changes-none}
use Rattle.txf_laws.proofs.offered.CommittedUnits.{is_older}
use Rattle.txf_volume.proofs.Seen.{changes_in, changes-own, over-in, own_changes-held}
use Rattle.txf_volume.proofs.Steady.{finals-bytes, steady}

-- ---- lists

map-filter : {X Y : Type 0} (f g : X → Y) (keep : X → Bool) (keep' : Y → Bool) (xs : List X) → ((x : X) → keep' (g x) ≡ keep x) → ((x : X) → IsIn x (filter keep xs) → f x ≡ g x) → map f (filter keep xs) ≡ filter keep' (map g xs)
map-filter f g keep keep' [] same each = refl
map-filter {X = X} f g keep keep' (x ∷ xs) same each = elim (cases_Bool (keep x)) [
  | inl is ↦
      let kept : filter keep (x ∷ xs) ≡ x ∷ filter keep xs = rw is refl in
      let each' = subst (λ ys. (y : X) → IsIn y ys → f y ≡ g y) kept each in
      ap (map f) kept ∙ (λ i. each' x (inl refl) i ∷ map-filter f g keep keep' xs same (λ y there. each' y (inr there)) i) ∙ sym (rw (same x ∙ is) refl)
  | inr not' ↦
      let left : filter keep (x ∷ xs) ≡ filter keep xs = rw not' refl in
      ap (map f) left ∙ map-filter f g keep keep' xs same (subst (λ ys. (y : X) → IsIn y ys → f y ≡ g y) left each) ∙ sym (rw (same x ∙ not') refl)
]

IsIn-map : {X Y : Type 0} (f : X → Y) (xs : List X) (x : X) → IsIn x xs → IsIn (f x) (map f xs)
IsIn-map f [] x there = absurd there
IsIn-map f (y ∷ ys) x (inl e) = inl (ap f e)
IsIn-map f (y ∷ ys) x (inr there) = inr (IsIn-map f ys x there)

-- ---- what is in use

used-parts : (files : FilesNow) → units_used files < 2 ^ 63 → (tree_units files.tree < 2 ^ 63) × (units_older files.tree files.versions files.first_opens < 2 ^ 63)
unfolding units_used
used-parts files few =
    let here = ap (sum_by version_units) (older-is files files.first_opens) in
    let there = older-of files.tree files.versions files.first_opens in
    (omega arith, omega arith)

versions-of : (cs : List Change) (c : Committed) → (fold with_change c cs).versions ≡ fold versions_after c.versions cs
versions-of [] c = refl
versions-of (d ∷ cs) c = versions-of cs (with_change c d)

-- ---- holds

bytes-places : (cs : List Change) (tree : Tree) → AllBytes cs → each_change places_of tree cs ≡ []
bytes-places [] tree all = refl
bytes-places (c ∷ cs) tree all =
    let parts = and_parts (changes_bytes c) (list_all changes_bytes cs) all in
    (λ i. none c parts.0 i ++ bytes-places cs (changed tree c) parts.1 i)
  where
    none : (c : Change) → changes_bytes c ≡ true → places_of tree c ≡ []
    none (Make node parent kind name) bytes = absurd (true≢false (sym bytes))
    none (Put node offset contents) bytes = refl
    none (Cut node size pages) bytes = refl
    none (Move node parent name) bytes = absurd (true≢false (sym bytes))
    none (Drop node) bytes = absurd (true≢false (sym bytes))

names-places : (cs ds : List Change) (tree : Tree) → AllBytes ds → each_change places_of tree (cs ++ ds) ≡ each_change places_of tree cs
names-places [] ds tree all = bytes-places ds tree all
names-places (c ∷ cs) ds tree all = ap (λ ps. places_of tree c ++ ps) (names-places cs ds (changed tree c) all)

-- these changes hold the same in both trees
record HoldSame (tree tree' : Tree) (cs : List Change) : Type 0 where
  places : each_change places_of tree' cs ≡ each_change places_of tree cs
  dropped : each_change dropped_directory tree' cs ≡ each_change dropped_directory tree cs
  moves : list_any (λ (n : ℕ). true) (each_change moved_directory tree' cs) ≡ list_any (λ (n : ℕ). true) (each_change moved_directory tree cs)

-- ---- a transaction has committed

-- the parts before, and then
pub record Commits (h h' : FilesHeld) (units units' : ℕ) (id : Id) (v : VersionsState) : Type 0 where
  pub opens : v.opens ≡ without_transaction h.versions.opens id
  pub held : (f w : ℕ) → is_pinned v.opens f w ≡ true → find (is_version f w) v.older ≡ find (is_version f w) h.versions.older
  pub are : AreHeld v.opens v.older
  pub own : MatchOption (overlay_in h.overlays id) (AreMade (parts h.tree v units) (parts h'.tree h'.versions units') []) (λ o. AreMade (parts h.tree v units) (parts h'.tree h'.versions units') (own_of o))
  pub left : h'.overlays ≡ without_own h.overlays id
  pub files : h'.opens.opens ≡ filter (is_not_of id) h.opens.opens
  pub last : h'.opens.last ≡ h.opens.last
  pub next : h'.next_node ≡ h.next_node

-- the transaction holds nothing more
pub record Releases (r r' : ReserveState) (id : Id) : Type 0 where
  pub nodes : (i : Id) (n : ℕ) → is_in (holds_in r' i).nodes n ≡ (is_in (holds_in r i).nodes n && not (same_id i id))
  pub places : (i : Id) (p : Place) → is_place_in (holds_in r' i).places p ≡ (is_place_in (holds_in r i).places p && not (same_id i id))
  pub uses : (i : Id) (n : ℕ) → is_in (holds_in r' i).uses n ≡ (is_in (holds_in r i).uses n && not (same_id i id))
  pub dropped : (i : Id) (n : ℕ) → is_in (holds_in r' i).dropped n ≡ (is_in (holds_in r i).dropped n && not (same_id i id))
  pub moves : (i : Id) → (holds_in r' i).moves ≡ ((holds_in r i).moves && not (same_id i id))

module _ (h : FilesHeld) (units : ℕ) (counts : Counts) (id : Id) (tied : AreTied h units counts) where
  abbrev t : Tree
  t = tree_of h.tree

  abbrev cs : List Change
  cs = own_changes (own_held h.overlays) id

  abbrev other : OwnHeld → Bool
  other o = not (same_id o.transaction id)

  -- first opens of others, once those of the transaction have ended
  module _ (v : VersionsState) (opens : v.opens ≡ without_transaction h.versions.opens id)
      (held : (f w : ℕ) → is_pinned v.opens f w ≡ true → find (is_version f w) v.older ≡ find (is_version f w) h.versions.older) where
    was-open : (o : Opened) → IsIn o v.opens → IsIn o h.versions.opens
    was-open o there = (IsIn-filter (λ (p : Opened). not (same_id p.transaction id)) h.versions.opens o (subst (IsIn o) opens there)).0

    found-still : (o : Opened) → IsIn o v.opens → find (is_version o.file o.version) v.older ≡ find (is_version o.file o.version) h.versions.older
    found-still o there = held o.file o.version (list_any-from (fixes o.file o.version) v.opens o there (and_from _ _ (eq-eqb o.file o.file refl) (eq-eqb o.version o.version refl)))

    kept-still : (o : Opened) → IsIn o v.opens → IsKeptOpen h.tree v.older o
    kept-still o there =
        let kept = All-in (IsKeptOpen h.tree h.versions.older) h.versions.opens tied.opened o (was-open o there) in
        record { was = kept.was; kept = ap is_some (found-still o there) ∙ kept.kept }

    pub right : AreHeld v.opens v.older → AreRight (parts h.tree v units)
    right are = record {
      rise = tied.formed.rise;
      opened = All-by (IsKeptOpen h.tree v.older) v.opens kept-still;
      older = sym (older-kept (first_held t v.older) (λ o. refl) (λ o. refl) (is_older t (versions_of h.tree)) v.opens v.older are
          (λ o there. record { kept = (kept-still o there).kept; bytes = λ w found. ap (λ f. bytes_or (bytes_of t o.file) (option_map (λ (w : Older). w.bytes) f)) found })) ∙ sym (older-of t (versions_of h.tree) (map (first_held t v.older) v.opens));
      units = tied.sum;
    }

    firsts-left : firsts_of (parts h.tree v units) ≡ filter (λ f. not (same_id f.transaction id)) (files_of h).first_opens
    firsts-left =
        ap (map (first_held t v.older)) opens
        ∙ map-filter (first_held t v.older) (first_held t h.versions.older) (λ (o : Opened). not (same_id o.transaction id)) (λ (f : FirstOpen). not (same_id f.transaction id)) h.versions.opens (λ o. refl)
        (λ o there i. record { transaction = o.transaction; file = o.file; version = o.version; bytes = bytes_or (bytes_of t o.file) (option_map (λ (w : Older). w.bytes) (found-still o (subst (IsIn o) (sym opens) there) i)) })

    -- what the transaction changed can be committed
    module _ (can : MayCommit (files_of h) id) (are : AreHeld v.opens v.older) (few : units < 2 ^ 64) where
      tree-is : (files_committed (files_of h) id).tree ≡ changed_all t cs
      tree-is = tree-of cs (record { tree = t; versions = versions_of h.tree; store = [] })

      versions-are : (files_committed (files_of h) id).versions ≡ fold versions_after (versions_of h.tree) cs
      versions-are = versions-of cs (record { tree = t; versions = versions_of h.tree; store = [] })

      used : (tree_units (changed_all t cs) < 2 ^ 63) × (units_older (changed_all t cs) (fold versions_after (versions_of h.tree) cs) (firsts_of (parts h.tree v units)) < 2 ^ 63)
      used =
          let all = used-parts (files_committed (files_of h) id) can.counted.units in (
            subst (λ u. tree_units u < 2 ^ 63) tree-is all.0,
            subst (λ n. n < 2 ^ 63) (λ i. units_older (tree-is i) (versions-are i) (sym firsts-left i)) all.1,
          )

      unopened-in : (qs : List Opened) → list_all (λ (f : FirstOpen). not (has_made cs f.file)) (map (first_held t h.versions.older) qs) ≡ true → (q : Opened) → IsIn q qs → not (has_made cs q.file) ≡ true
      unopened-in [] all q there = absurd there
      unopened-in (p ∷ ps) all q (inl e) = subst (λ (p : Opened). not (has_made cs p.file) ≡ true) e (and_parts _ _ all).0
      unopened-in (p ∷ ps) all q (inr there) = unopened-in ps (and_parts _ _ all).1 q there

      made-none : (o : OverlayState) → overlay_in h.overlays id ≡ Some o → (q : Opened) → IsIn q h.versions.opens → has_made (own_of o) q.file ≡ false
      made-none o there q is = subst (λ ds. has_made ds q.file ≡ false) (own_changes-held h.overlays id ∙ ap changes_in there) (not-true _ (unopened-in h.versions.opens can.unopened q is))

      fresh-own : (o : OverlayState) → overlay_in h.overlays id ≡ Some o → list_all (is_fresh v.opens) (own_of o) ≡ true
      fresh-own o there = list_all-from (is_fresh v.opens) (own_of o) (λ c has. not_from_false _ (false_from_ne_true _ (λ both.
          let parts = and_parts (is_make c) (list_any (λ (q : Opened). q.file == node_of c) v.opens) both in
          let at = list_any-at (λ (q : Opened). q.file == node_of c) v.opens parts.1 in
          let q = at.0 in
          let none = made-none o there q (was-open q at.1) in
          true≢false (sym (list_any-from (λ (d : Change). is_make d && node_of d == q.file) (own_of o) c has (and_from _ _ parts.0 (eq-eqb _ _ (sym (eqb-true _ _ at.2))))) ∙ none))))

      pub can-own : (now : Option OverlayState) → now ≡ overlay_in h.overlays id → IfSome now (CanTake (parts h.tree v units))
      can-own None is = tt
      can-own (Some o) is =
          let there = sym is in
          let over = over-in t h.overlays id o tied.over there in
          let own : cs ≡ own_of o = own_changes-held h.overlays id ∙ ap changes_in there in
          record {
            can = record {
              right = right are;
              applies = subst (λ ds. changes_apply t ds ≡ true) own can.applies;
              fresh = fresh-own o there;
              few = subst (λ ds. units_older (changed_all t ds) (fold versions_after (versions_of h.tree) ds) (firsts_of (parts h.tree v units)) < 2 ^ 64) own (let low = used.1 in omega arith);
            };
            only = over.own.only;
            rise = over.own.rise;
            spare = let mine = sum-in (λ o. length o.names) h.overlays id o there in let all = tied.room in omega arith;
            few = can.few;
            units = let mine = sum-in (λ o. total_units o.written) h.overlays id o there in let all = tied.few.units in omega arith;
            sum = subst (λ ds. tree_units (changed_all t ds) < 2 ^ 64) own (let low = used.0 in omega arith);
          }

  -- ---- behind it

  module _ (h' : FilesHeld) (units' : ℕ) (v : VersionsState) (can : MayCommit (files_of h) id) (commits : Commits h h' units units' id v) where
    made-own : (now : Option OverlayState) → overlay_in h.overlays id ≡ now → MatchOption now (AreMade (parts h.tree v units) (parts h'.tree h'.versions units') []) (λ o. AreMade (parts h.tree v units) (parts h'.tree h'.versions units') (own_of o))
        → AreMade (parts h.tree v units) (parts h'.tree h'.versions units') cs
    made-own None is own = subst (AreMade (parts h.tree v units) (parts h'.tree h'.versions units')) (sym (own_changes-held h.overlays id ∙ ap changes_in is)) own
    made-own (Some o) is own = subst (AreMade (parts h.tree v units) (parts h'.tree h'.versions units')) (sym (own_changes-held h.overlays id ∙ ap changes_in is)) own

    made : AreMade (parts h.tree v units) (parts h'.tree h'.versions units') cs
    made = made-own (overlay_in h.overlays id) refl commits.own

    abbrev after : FilesNow
    after = files_committed (files_of h) id

    own-left : own_held h'.overlays ≡ filter (λ o. not (same_id o.transaction id)) (own_held h.overlays)
    own-left = ap own_held commits.left ∙ map-filter changes_held changes_held other (λ (o : OwnChanges). not (same_id o.transaction id)) h.overlays (λ o. refl) (λ o there. refl)

    tree-after : after.tree ≡ tree_of h'.tree
    tree-after = tree-of cs (record { tree = t; versions = versions_of h.tree; store = [] }) ∙ sym made.tree

    pub files-are : files_of h' ≡ files_committed (files_of h) id
    files-are = λ i. record {
      tree = sym tree-after i;
      versions = (made.versions ∙ sym (versions-of cs (record { tree = t; versions = versions_of h.tree; store = [] }))) i;
      first_opens = (made.firsts ∙ firsts-left v commits.opens commits.held) i;
      table = record { own = own-left i; opens = commits.files i; last_open = commits.last i; next_node = commits.next i };
    }

    -- ---- others

    own-apart : each_pair changed_by_two (own_held h.overlays) ≡ true
    own-apart = (steady h units counts tied).once

    left-of : (o : OwnHeld) → IsIn o h.overlays → same_id o.transaction id ≡ false → IsLeft (files_of h) after o.transaction
    left-of o there apart = All-in (λ (p : OwnChanges). same_id p.transaction id ≡ false → IsLeft (files_of h) after p.transaction) (own_held h.overlays) can.left (changes_held o) (IsIn-map changes_held h.overlays o there) apart

    own-of : (o : OwnHeld) → IsIn o h.overlays → own_changes (own_held h.overlays) o.transaction ≡ own_of o.overlay
    own-of o there = own_changes-of (own_held h.overlays) own-apart (changes_held o) (IsIn-map changes_held h.overlays o there)

    -- each of them holds what it held
    same-holds : (i : Id) → IsLeft (files_of h) after i → HoldSame t (tree_of h'.tree) (own_changes (own_held h.overlays) i)
    same-holds i left = record {
      places = (λ j. each_change places_of (sym tree-after j) (sym left.own j)) ∙ ap (λ (s : Holds). s.places) left.holds;
      dropped = (λ j. each_change dropped_directory (sym tree-after j) (sym left.own j)) ∙ ap (λ (s : Holds). s.dropped) left.holds;
      moves = (λ j. list_any (λ (n : ℕ). true) (each_change moved_directory (sym tree-after j) (sym left.own j))) ∙ ap (λ (s : Holds). s.moves) left.holds;
    }

    module _ (forms : FormedLaw) (stands : OtherTreeLaw) where
      formed : IsWellFormed (tree_of h'.tree)
      formed = subst IsWellFormed (sym made.tree) (forms.1 t cs tied.formed can.applies)

      over-then : (o : OwnHeld) → IsIn o h.overlays → same_id o.transaction id ≡ false → IsOver (tree_of h'.tree) o.overlay
      over-then o there apart =
          let was = All-in (λ (p : OwnHeld). IsOver t p.overlay) h.overlays tied.over o there in
          let left = left-of o there apart in
          let own = own-of o there in
          let finals = flat_map final_of o.overlay.written in
          let all : changes_apply (tree_of h'.tree) (own_of o.overlay) ≡ true = (λ j. changes_apply (sym tree-after j) (sym (left.own ∙ own) j)) ∙ left.applies in
          let names = changes_apply-first (tree_of h'.tree) o.overlay.names finals all in
          let bytes = finals-bytes o.overlay.written in
          let places : each_change places_of (tree_of h'.tree) o.overlay.names ≡ each_change places_of t o.overlay.names =
          sym (names-places o.overlay.names finals (tree_of h'.tree) bytes)
          ∙ (λ j. each_change places_of (tree_of h'.tree) (sym own j)) ∙ (same-holds o.transaction left).places ∙ (λ j. each_change places_of t (own j))
          ∙ names-places o.overlay.names finals t bytes in
          record { stands = stands o.overlay t (tree_of h'.tree) was.stands formed (forms.1 (tree_of h'.tree) o.overlay.names formed names) names places; own = was.own }

      own-gone : (own : List OwnChanges) (i : Id) → same_id i id ≡ true → own_changes (filter (λ o. not (same_id o.transaction id)) own) i ≡ []
      own-gone [] i same = refl
      own-gone (o ∷ os) i same = elim (cases_Bool (same_id o.transaction id)) [
        | inl its ↦ rw its (own-gone os i same)
        | inr theirs ↦
            let differs : same_id o.transaction i ≡ false = subst (λ j. same_id o.transaction j ≡ false) (sym (same_id-equal i id same)) theirs in
            rw (theirs, differs) (own-gone os i same)
      ]

      own-kept : (own : List OwnChanges) (i : Id) → same_id i id ≡ false → own_changes (filter (λ o. not (same_id o.transaction id)) own) i ≡ own_changes own i
      own-kept [] i apart = refl
      own-kept (o ∷ os) i apart = elim (cases_Bool (same_id o.transaction id)) [
        | inl its ↦
            let differs : same_id o.transaction i ≡ false = false_from_ne_true _ (λ same. true≢false (sym its ∙ ap (λ j. same_id j id) (same_id-equal o.transaction i same) ∙ apart)) in
            rw (its, differs) (own-kept os i apart)
        | inr theirs ↦ elim (cases_Bool (same_id o.transaction i)) [
          | inl here ↦ rw (theirs, here) refl
          | inr later ↦ rw (theirs, later) (own-kept os i apart)
        ]
      ]

      same-held : (i : Id) → same_id i id ≡ false → HoldSame t (tree_of h'.tree) (own_changes (own_held h.overlays) i)
      same-held i apart = elim (cases_Bool (list_any (λ (o : OwnHeld). same_id o.transaction i) h.overlays)) [
        | inl has ↦
            let at = list_any-at (λ (o : OwnHeld). same_id o.transaction i) h.overlays has in
            let o = at.0 in
            let e = same_id-equal o.transaction i at.2 in
            subst (λ j. HoldSame t (tree_of h'.tree) (own_changes (own_held h.overlays) j)) e (same-holds o.transaction (left-of o at.1 (subst (λ j. same_id j id ≡ false) (sym e) apart)))
        | inr none ↦
            let no = own_changes-none (own_held h.overlays) i (any-held h.overlays ∙ none) in
            subst (HoldSame t (tree_of h'.tree)) (sym no) (record { places = refl; dropped = refl; moves = refl })
      ]
        where
          any-held : (os : List OwnHeld) → list_any (λ (o : OwnChanges). same_id o.transaction i) (own_held os) ≡ list_any (λ (o : OwnHeld). same_id o.transaction i) os
          any-held [] = refl
          any-held (o ∷ os) = ap (λ b. same_id o.transaction i || b) (any-held os)

      keeps-then : Releases h.reserve h'.reserve id → Keeps h'.reserve (files_of h')
      keeps-then gone i = elim (cases_Bool (same_id i id)) [
        | inl its ↦
            let none : own_changes (own_held h'.overlays) i ≡ [] = ap (λ own. own_changes own i) own-left ∙ own-gone (own_held h.overlays) i its in
            record {
              nodes = λ n. gone.nodes i n ∙ (λ j. is_in (holds_in h.reserve i).nodes n && not (its j)) ∙ and-false (is_in (holds_in h.reserve i).nodes n) ∙ sym (ap (λ ds. is_in (map node_of ds ++ []) n) none);
              places = λ p. gone.places i p ∙ (λ j. is_place_in (holds_in h.reserve i).places p && not (its j)) ∙ and-false (is_place_in (holds_in h.reserve i).places p) ∙ sym (ap (λ ds. is_place_in (each_change places_of (tree_of h'.tree) ds) p) none);
              uses = λ n. gone.uses i n ∙ (λ j. is_in (holds_in h.reserve i).uses n && not (its j)) ∙ and-false (is_in (holds_in h.reserve i).uses n) ∙ sym (ap (λ ds. is_in (directories_of (each_change places_of (tree_of h'.tree) ds)) n) none);
              dropped = λ n. gone.dropped i n ∙ (λ j. is_in (holds_in h.reserve i).dropped n && not (its j)) ∙ and-false (is_in (holds_in h.reserve i).dropped n) ∙ sym (ap (λ ds. is_in (each_change dropped_directory (tree_of h'.tree) ds) n) none);
              moves = gone.moves i ∙ (λ j. (holds_in h.reserve i).moves && not (its j)) ∙ and-false (holds_in h.reserve i).moves ∙ sym (ap (λ ds. list_any (λ (n : ℕ). true) (each_change moved_directory (tree_of h'.tree) ds)) none);
            }
        | inr theirs ↦
            let own : own_changes (own_held h'.overlays) i ≡ own_changes (own_held h.overlays) i = ap (λ own. own_changes own i) own-left ∙ own-kept (own_held h.overlays) i theirs in
            let same = same-held i theirs in
            let was = tied.keeps i in
            record {
              nodes = λ n. gone.nodes i n ∙ (λ j. is_in (holds_in h.reserve i).nodes n && not (theirs j)) ∙ and-true (is_in (holds_in h.reserve i).nodes n) ∙ was.nodes n ∙ sym (ap (λ ds. is_in (map node_of ds ++ []) n) own);
              places = λ p. gone.places i p ∙ (λ j. is_place_in (holds_in h.reserve i).places p && not (theirs j)) ∙ and-true (is_place_in (holds_in h.reserve i).places p) ∙ was.places p
                  ∙ sym (ap (λ ds. is_place_in (each_change places_of (tree_of h'.tree) ds) p) own ∙ ap (λ ps. is_place_in ps p) same.places);
              uses = λ n. gone.uses i n ∙ (λ j. is_in (holds_in h.reserve i).uses n && not (theirs j)) ∙ and-true (is_in (holds_in h.reserve i).uses n) ∙ was.uses n
                  ∙ sym (ap (λ ds. is_in (directories_of (each_change places_of (tree_of h'.tree) ds)) n) own ∙ ap (λ ps. is_in (directories_of ps) n) same.places);
              dropped = λ n. gone.dropped i n ∙ (λ j. is_in (holds_in h.reserve i).dropped n && not (theirs j)) ∙ and-true (is_in (holds_in h.reserve i).dropped n) ∙ was.dropped n
                  ∙ sym (ap (λ ds. is_in (each_change dropped_directory (tree_of h'.tree) ds) n) own ∙ ap (λ ns. is_in ns n) same.dropped);
              moves = gone.moves i ∙ (λ j. (holds_in h.reserve i).moves && not (theirs j)) ∙ and-true (holds_in h.reserve i).moves ∙ was.moves
                  ∙ sym (ap (λ ds. list_any (λ (n : ℕ). true) (each_change moved_directory (tree_of h'.tree) ds)) own ∙ same.moves);
            }
      ]

      few-then : (f : OwnHeld → ℕ) → sum_by f h.overlays < 2 ^ 63 → sum_by f h'.overlays < 2 ^ 63
      few-then f few = let less = sum-filter-less f other h.overlays in let e = ap (sum_by f) commits.left in omega arith

      -- the commit takes no room of the others
      room-then : sum_by names_held h'.overlays ≤ h'.tree.spare
      room-then =
          let own = ap (sum_by takes) (own_changes-held h.overlays id ∙ changes-own (overlay_in h.overlays id)) in
          let took = takes-own (or_unchanged (overlay_in h.overlays id)) in
          let gone = sum-without (λ o. length o.names) refl h.overlays id tied.once in
          let left = ap (sum_by names_held) commits.left in
          let spare = made.spare in
          omega (arith, own, took, gone, left, spare, tied.room)

      pub tied-then : (counts' : Counts) → AreCounts h'.overlays counts' → Releases h.reserve h'.reserve id → AreTied h' units' counts'
      tied-then counts' counted gone = record {
        formed = formed;
        once = ap (each_pair held_by_two) commits.left ∙ each_pair-filter held_by_two other h.overlays tied.once;
        over = All-by (λ (o : OwnHeld). IsOver (tree_of h'.tree) o.overlay) h'.overlays (λ o there.
            let was = IsIn-filter other h.overlays o (subst (IsIn o) commits.left there) in
            over-then o was.0 (not-true _ was.1));
        opened = made.right.opened;
        keeps = keeps-then gone;
        sum = made.right.units;
        counted = counted;
        few = record { units = few-then units_held tied.few.units; nodes = few-then nodes_held tied.few.nodes; names = few-then names_held tied.few.names };
        room = room-then;
      }
