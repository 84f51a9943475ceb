-- The files in memory once a transaction has made one change more.
use Rattle.std.proofs.Common.{◌≡◌, ℕ, ◌+◌, ◌<◌, ◌≤◌, ◌^◌, ◌==◌, ◌&&◌, ◌||◌, Bool, true, false, if◌then◌else◌, filter, length, map, List, [], ◌∷◌, ◌++◌, sum_by, Option, Some, None, refl, sym, ◌∙◌, ap, subst, arith, length-append, inl, inr}
use Rattle.std.proofs.lemmas.Bool.{cases_Bool, and_parts, and_from, eq-eqb, eqb-true, true≢false}
use Rattle.std.proofs.lemmas.List.{append-nil, map-append}
use Rattle.std.proofs.lemmas.List.Folds.{list_all-append, list_any-append}
use Rattle.std.specs.List.{flat_map, list_all, list_any}
use Rattle.std.specs.Prelude.{nat_lt}
use Rattle.ktm_base.specs.declared.id.Id.{Id}
use Rattle.txf_laws.specs.OwnChange.{owned}
use Rattle.txf_laws.proofs.offered.NormalForms.{Silent, each_change-append, silent-dropped, silent-moved, silent-places}
use Rattle.ktm_world.specs.declared.change.Change.{Change}
use Rattle.ktm_world.specs.declared.change.Change.TheVariants.{Make, Put, Cut, Move, Drop}
use Rattle.ktm_world.specs.declared.change.Contents.TheVariants.{Whole}
use Rattle.ktm_world.specs.declared.change.NodeKind.TheVariants.{File, Directory}
use Rattle.ktm_world.specs.Changes.{bytes_in, changed, changed_all, changes_bytes, has_made, is_make, next_after, node_of}
use Rattle.ktm_world.specs.Committed.{changes_to_commit, final_bytes, written_files}
use Rattle.ktm_world.specs.Files.{bytes_after, bytes_seen, bytes_with, changes_with, first_bytes, first_open_of, fixed_bytes, own_changes, tree_seen, with_own_changes}
use Rattle.ktm_world.specs.Holds.{Place, directories_of, dropped_directory, each_change, holds_by, is_in, is_place_in, moved_directory, places_of, same_place}
use Rattle.ktm_world.specs.Transactions.{same_id}
use Rattle.ktm_world.specs.Tree.{Tree, cut_to, put_over}
use Rattle.txf_overlay.specs.Laws.{IsNext, IsOwn, OwnFormLaw, number_of, written_with}
use Rattle.txf_overlay.specs.OverlayState.{OverlayState, Written, final_of, is_of_names, own_of, seen}
use Rattle.txf_overlay.specs.Written.{AreFilesRising, bytes_at, bytes_or, total_units, with_bytes, without_file}
use Rattle.txf_overlay.proofs.FilesMap.{AreFilesRising-with, AreFilesRising-without}
use Rattle.txf_reserve.specs.ReserveState.{IsSameHold, Keeps, ReserveState, holds_in}
use Rattle.txf_tree.specs.TreeState.{tree_of, versions_of}
use Rattle.txf_tree.specs.UnitChanges.{CanBeMadeOver}
use Rattle.ktm_content.specs.Places.{CanBePut}
use Rattle.txf_volume.specs.Held.{FilesHeld, OwnHeld, files_of, names_held, overlay_in, own_held}
use Rattle.txf_volume.specs.OwnParts.{HoldsChange, IsChangedIn, IsCounted, bytes_over, counts_of, or_unchanged, starts, unchanged, with_overlay, written_next}
use Rattle.txf_volume.specs.Ties.{AreCounts, AreFew, AreTied, IsOver, held_by_two}
use Rattle.txf_volume.specs.Transacted.{HasTreeRoom}
use Rattle.txf_volume.specs.declared.counts.Counted.{Counted}
use Rattle.txf_volume.specs.declared.counts.Counts.{Counts}
use Rattle.txf_laws.specs.FileEffects.{CanBeCounted}
use Rattle.txf_laws.specs.Elements.{IsIn, each_pair}
use Rattle.txf_laws.proofs.offered.CommitsOfOthers.{All-by, All-in}
use Rattle.txf_laws.proofs.offered.NormalForms.{written-final}
use Rattle.txf_laws.specs.FinalChanges.{names_of}
use Rattle.txf_laws.proofs.offered.Tables.{same_id-equal, same_id-sym}
use Rattle.txf_volume.proofs.OwnCounts.{counts-with, sum-in, sum-with}
use Rattle.txf_volume.proofs.OwnTables.{own_changes-new, own_changes-other}
use Rattle.txf_volume.proofs.Seen.{changes-own, has_made-own, made-append, over-in, own_changes-held, seen-none, seen-some}
use Rattle.txf_volume.proofs.Steady.{few-counted, names-own}
use Rattle.txf_volume.proofs.TransactedParts.{overlay-with}

-- ---- the list of what transactions changed

held-with : (os : List OwnHeld) (id : Id) (o : OverlayState) → own_held (with_overlay os id o) ≡ with_own_changes (own_held os) id (own_of o)
held-with [] id o = refl
held-with (p ∷ ps) id o = elim (cases_Bool (same_id p.transaction id)) [
  | inl same ↦ rw same refl
  | inr other ↦ rw other (ap (λ cs. record { transaction = p.transaction; changes = own_of p.overlay } ∷ cs) (held-with ps id o))
]

-- what is so of each entry, and of what the transaction changed, is so then
with-each : (P : OverlayState → Type 0) (os : List OwnHeld) (id : Id) (o : OverlayState) → ((p : OwnHeld) → IsIn p os → P p.overlay) → P o → (p : OwnHeld) → IsIn p (with_overlay os id o) → P p.overlay
with-each P [] id o each it p (inl e) = subst P (ap (λ (q : OwnHeld). q.overlay) e) it
with-each P [] id o each it p (inr none) = absurd none
with-each P (q ∷ qs) id o each it p there = elim (cases_Bool (same_id q.transaction id)) [
  | inl same ↦
      let there' : IsIn p (record q { overlay = o } ∷ qs) = rw same at there in
      elim there' [ inl e ↦ subst P (ap (λ (r : OwnHeld). r.overlay) e) it | inr later ↦ each p (inr later) ]
  | inr other ↦
      let there' : IsIn p (q ∷ with_overlay qs id o) = rw other at there in
      elim there' [ inl e ↦ subst P (ap (λ (r : OwnHeld). r.overlay) e) (each q (inl refl)) | inr later ↦ with-each P qs id o (λ r has. each r (inr has)) it p later ]
]

all-with : (q : OwnHeld) (os : List OwnHeld) (id : Id) (o : OverlayState) → same_id q.transaction id ≡ false → list_all (held_by_two q) os ≡ true → list_all (held_by_two q) (with_overlay os id o) ≡ true
all-with q [] id o other all = rw other refl
all-with q (p ∷ ps) id o other all =
    let parts = and_parts (held_by_two q p) (list_all (held_by_two q) ps) all in
    elim (cases_Bool (same_id p.transaction id)) [
      | inl same ↦ rw same all
      | inr apart ↦ rw apart (and_from _ _ parts.0 (all-with q ps id o other parts.1))
    ]

once-with : (os : List OwnHeld) (id : Id) (o : OverlayState) → each_pair held_by_two os ≡ true → each_pair held_by_two (with_overlay os id o) ≡ true
once-with [] id o once = refl
once-with (p ∷ ps) id o once =
    let parts = and_parts (list_all (held_by_two p) ps) (each_pair held_by_two ps) once in
    elim (cases_Bool (same_id p.transaction id)) [
      | inl same ↦ rw same once
      | inr other ↦ rw other (and_from _ _ (all-with p ps id o other parts.0) (once-with ps id o parts.1))
    ]

-- ---- what changes hold

is_in-append : (ms ns : List ℕ) (n : ℕ) → is_in (ms ++ ns) n ≡ (is_in ms n || is_in ns n)
is_in-append ms ns n = list_any-append (λ m. m == n) ms ns

-- the nodes of the final bytes are the files
finals-in : (ws : List Written) (n : ℕ) → is_in (map node_of (flat_map final_of ws)) n ≡ is_in (map number_of ws) n
finals-in [] n = refl
finals-in (w ∷ ws) n = go w.bytes (finals-in ws n)
  where
    go : (bs : List ℕ) → is_in (map node_of (flat_map final_of ws)) n ≡ is_in (map number_of ws) n → is_in (map node_of (final_bytes w.file bs ++ flat_map final_of ws)) n ≡ ((w.file == n) || is_in (map number_of ws) n)
    go [] rest = ap (λ b. (w.file == n) || b) rest
    go (b ∷ bs) rest = elim (cases_Bool (w.file == n)) [ inl here ↦ rw here refl | inr other ↦ rw other rest ]

nodes-own : (o : OverlayState) (n : ℕ) → is_in (map node_of (own_of o) ++ []) n ≡ (is_in (map node_of o.names) n || is_in (map number_of o.written) n)
nodes-own o n =
    ap (λ ms. is_in ms n) (append-nil (map node_of (own_of o)) ∙ map-append node_of o.names (flat_map final_of o.written))
    ∙ is_in-append (map node_of o.names) (map node_of (flat_map final_of o.written)) n
    ∙ ap (λ b. is_in (map node_of o.names) n || b) (finals-in o.written n)

or-false : (b : Bool) → (b || false) ≡ b
or-false true = refl
or-false false = refl

numbers-with : (ws : List Written) (f : ℕ) (bs : List ℕ) (n : ℕ) → is_in (map number_of (with_bytes ws f bs)) n ≡ (is_in (map number_of ws) n || (f == n))
numbers-with [] f bs n = or-false (f == n)
numbers-with (w ∷ ws) f bs n = elim (cases_Bool (w.file == f)) [
  | inl same ↦ rw same (first (f == n) (w.file == n) (is_in (map number_of ws) n) (ap (λ k. k == n) (sym (eqb-true w.file f same))))
  | inr other ↦ elim (cases_Bool (nat_lt f w.file)) [
    | inl before ↦ rw (other, before) (swap (f == n) ((w.file == n) || is_in (map number_of ws) n))
    | inr behind ↦ rw (other, behind) (ap (λ b. (w.file == n) || b) (numbers-with ws f bs n) ∙ grouped (w.file == n) (is_in (map number_of ws) n) (f == n))
  ]
]
  where
    first : (a b i : Bool) → a ≡ b → (a || i) ≡ ((b || i) || a)
    first true true i e = refl
    first true false i e = absurd (true≢false e)
    first false true i e = absurd (true≢false (sym e))
    first false false i e = sym (or-false i)

    swap : (a b : Bool) → (a || b) ≡ (b || a)
    swap true true = refl
    swap true false = refl
    swap false true = refl
    swap false false = refl

    grouped : (a b c : Bool) → (a || (b || c)) ≡ ((a || b) || c)
    grouped true b c = refl
    grouped false b c = refl

numbers-without : (ws : List Written) (f n : ℕ) → (is_in (map number_of (without_file ws f)) n || (f == n)) ≡ (is_in (map number_of ws) n || (f == n))
numbers-without [] f n = refl
numbers-without (w ∷ ws) f n = elim (cases_Bool (w.file == f)) [
  | inl same ↦ rw same (numbers-without ws f n ∙ first (f == n) (w.file == n) (is_in (map number_of ws) n) (ap (λ k. k == n) (sym (eqb-true w.file f same))))
  | inr other ↦ rw other (behind (w.file == n) _ _ (f == n) (numbers-without ws f n))
]
  where
    first : (a b i : Bool) → a ≡ b → (i || a) ≡ ((b || i) || a)
    first true true true e = refl
    first true true false e = refl
    first true false i e = absurd (true≢false e)
    first false true i e = absurd (true≢false (sym e))
    first false false i e = refl

    behind : (a b c d : Bool) → (b || d) ≡ (c || d) → ((a || b) || d) ≡ ((a || c) || d)
    behind true b c d e = refl
    behind false b c d e = e

-- the nodes that are held once a change is made
module _ (first : ℕ → List ℕ) (ws : List Written) (ns : List Change) (n : ℕ) where
  named : (c : Change) → is_in (map node_of (ns ++ c ∷ [])) n ≡ (is_in (map node_of ns) n || is_in (node_of c ∷ []) n)
  named c = ap (λ ms. is_in ms n) (map-append node_of ns (c ∷ [])) ∙ is_in-append (map node_of ns) (node_of c ∷ []) n

  abbrev Nodes : Change → Type 0
  Nodes c = (is_in (map node_of (ns ++ filter is_of_names (c ∷ []))) n || is_in (map number_of (written_with first ws c)) n) ≡ ((is_in (map node_of ns) n || is_in (map number_of ws) n) || is_in (node_of c ∷ []) n)

  of_name : (a w m : Bool) → ((a || m) || w) ≡ ((a || w) || m)
  of_name true w m = refl
  of_name false true true = refl
  of_name false true false = refl
  of_name false false true = refl
  of_name false false false = refl

  of_file : (a w m : Bool) → ((a || (m || false)) || (w || m)) ≡ ((a || w) || (m || false))
  of_file true w m = refl
  of_file false true true = refl
  of_file false true false = refl
  of_file false false true = refl
  of_file false false false = refl

  of_bytes : (a w m : Bool) → (a || (w || m)) ≡ ((a || w) || (m || false))
  of_bytes true w m = refl
  of_bytes false true m = refl
  of_bytes false false true = refl
  of_bytes false false false = refl

  of_drop : (a w w' m : Bool) → (w' || m) ≡ (w || m) → ((a || (m || false)) || w') ≡ ((a || w) || (m || false))
  of_drop true w w' m e = refl
  of_drop false true true true e = refl
  of_drop false true true false e = refl
  of_drop false true false true e = refl
  of_drop false true false false e = e
  of_drop false false true true e = refl
  of_drop false false true false e = e
  of_drop false false false true e = refl
  of_drop false false false false e = refl

  nodes-with : (c : Change) → Nodes c
  nodes-with (Make node parent File name) =
      (λ i. named (Make node parent File name) i || numbers-with ws node (bytes_or [] (bytes_at ws node)) n i) ∙ of_file (is_in (map node_of ns) n) (is_in (map number_of ws) n) (node == n)
  nodes-with (Make node parent Directory name) =
      (λ i. named (Make node parent Directory name) i || is_in (map number_of ws) n) ∙ of_name (is_in (map node_of ns) n) (is_in (map number_of ws) n) (is_in (node ∷ []) n)
  nodes-with (Put node offset contents) =
      (λ i. is_in (map node_of (append-nil ns i)) n || numbers-with ws node (put_over (bytes_or (first node) (bytes_at ws node)) offset (bytes_in contents)) n i) ∙ of_bytes (is_in (map node_of ns) n) (is_in (map number_of ws) n) (node == n)
  nodes-with (Cut node size pages) =
      (λ i. is_in (map node_of (append-nil ns i)) n || numbers-with ws node (cut_to (bytes_or (first node) (bytes_at ws node)) size) n i) ∙ of_bytes (is_in (map node_of ns) n) (is_in (map number_of ws) n) (node == n)
  nodes-with (Move node parent name) =
      (λ i. named (Move node parent name) i || is_in (map number_of ws) n) ∙ of_name (is_in (map node_of ns) n) (is_in (map number_of ws) n) (is_in (node ∷ []) n)
  nodes-with (Drop node) =
      (λ i. named (Drop node) i || is_in (map number_of (without_file ws node)) n)
      ∙ of_drop (is_in (map node_of ns) n) (is_in (map number_of ws) n) (is_in (map number_of (without_file ws node)) n) (node == n) (numbers-without ws node n)

-- where no cut and no put lists anything, final bytes list nothing
finals-silent : {X : Type 0} (f : Tree → Change → List X) → Silent f → (ws : List Written) (tree : Tree) → each_change f tree (flat_map final_of ws) ≡ []
finals-silent f silent [] tree = refl
finals-silent f silent (w ∷ ws) tree = go w.bytes (finals-silent f silent ws)
  where
    go : (bs : List ℕ) → ((t : Tree) → each_change f t (flat_map final_of ws) ≡ []) → each_change f tree (final_bytes w.file bs ++ flat_map final_of ws) ≡ []
    go [] rest = λ i. silent tree (Cut w.file 0 []) refl i ++ rest (changed tree (Cut w.file 0 [])) i
    go (b ∷ bs) rest =
        let cut = changed tree (Cut w.file 0 []) in
        λ i. silent tree (Cut w.file 0 []) refl i ++ (silent cut (Put w.file 0 (Whole (b ∷ bs))) refl i ++ rest (changed cut (Put w.file 0 (Whole (b ∷ bs)))) i)

each-own : {X : Type 0} (f : Tree → Change → List X) → Silent f → (tree : Tree) (o : OverlayState) → each_change f tree (own_of o) ≡ each_change f tree o.names
each-own f silent tree o =
    each_change-append f tree o.names (flat_map final_of o.written) ∙ ap (λ xs. each_change f tree o.names ++ xs) (finals-silent f silent o.written (changed_all tree o.names)) ∙ append-nil (each_change f tree o.names)

each-next : {X : Type 0} (f : Tree → Change → List X) → Silent f → (tree : Tree) (o o' : OverlayState) (c : Change) → o'.names ≡ o.names ++ filter is_of_names (c ∷ [])
    → each_change f tree (own_of o') ≡ each_change f tree (own_of o) ++ f (seen tree o) c
each-next f silent tree o o' c names =
    each-own f silent tree o' ∙ ap (each_change f tree) names ∙ each_change-append f tree o.names (filter is_of_names (c ∷ []))
    ∙ (λ i. sym (each-own f silent tree o) i ++ last i)
  where
    last : each_change f (seen tree o) (filter is_of_names (c ∷ [])) ≡ f (seen tree o) c
    last = elim (cases_Bool (changes_bytes c)) [
      | inl bytes ↦ rw bytes (sym (silent (seen tree o) c bytes))
      | inr of_names ↦ rw of_names (append-nil (f (seen tree o) c))
    ]

-- a change of names counts, and one of bytes does not
name-count : (c : Change) → changes_bytes c ≡ false → length (filter is_of_names (c ∷ [])) ≡ 1
name-count c of_names = rw of_names refl

bytes-count : (c : Change) → changes_bytes c ≡ true → length (filter is_of_names (c ∷ [])) ≡ 0
bytes-count c bytes = rw bytes refl

-- ---- the form of what a transaction changed

IsOwn-unchanged : IsOwn unchanged
IsOwn-unchanged = record { only = refl; rise = tt; files = refl }

-- names are made, moved and dropped alone
only-next : (ns : List Change) (c : Change) → list_all is_of_names ns ≡ true → list_all is_of_names (ns ++ filter is_of_names (c ∷ [])) ≡ true
only-next ns c only = list_all-append is_of_names ns (filter is_of_names (c ∷ [])) ∙ and_from _ _ only (elim (cases_Bool (changes_bytes c)) [ inl bytes ↦ rw bytes refl | inr of_names ↦ rw (of_names, of_names) refl ])

rising-next : (first : ℕ → List ℕ) (ws : List Written) (c : Change) → AreFilesRising ws → AreFilesRising (written_with first ws c)
rising-next first ws (Make node parent File name) rise = AreFilesRising-with ws node _ rise
rising-next first ws (Make node parent Directory name) rise = rise
rising-next first ws (Put node offset contents) rise = AreFilesRising-with ws node _ rise
rising-next first ws (Cut node size pages) rise = AreFilesRising-with ws node _ rise
rising-next first ws (Move node parent name) rise = rise
rising-next first ws (Drop node) rise = AreFilesRising-without ws node rise

-- the files that are written look at the first bytes of the change's file alone
written-at : (first first' : ℕ → List ℕ) (ws : List Written) (c : Change) → (changes_bytes c ≡ true → first (node_of c) ≡ first' (node_of c)) → written_with first ws c ≡ written_with first' ws c
written-at first first' ws (Make node parent kind name) same = refl
written-at first first' ws (Put node offset contents) same = ap (λ bs. with_bytes ws node (put_over (bytes_or bs (bytes_at ws node)) offset (bytes_in contents))) (same refl)
written-at first first' ws (Cut node size pages) same = ap (λ bs. with_bytes ws node (cut_to (bytes_or bs (bytes_at ws node)) size)) (same refl)
written-at first first' ws (Move node parent name) same = refl
written-at first first' ws (Drop node) same = refl

bytes-make : (c : Change) → changes_bytes c ≡ true → is_make c ≡ false
bytes-make (Make node parent kind name) bytes = absurd (true≢false (sym bytes))
bytes-make (Put node offset contents) bytes = refl
bytes-make (Cut node size pages) bytes = refl
bytes-make (Move node parent name) bytes = refl
bytes-make (Drop node) bytes = refl

made-there : (cs : List Change) (c : Change) → is_make c ≡ true → has_made (cs ++ c ∷ []) (node_of c) ≡ true
made-there [] c make = rw (make, eq-eqb (node_of c) (node_of c) refl) refl
made-there (d ∷ cs) c make = ap (λ b. (is_make d && node_of d == node_of c) || b) (made-there cs c make) ∙ or-true (is_make d && node_of d == node_of c)
  where
    or-true : (b : Bool) → (b || true) ≡ true
    or-true true = refl
    or-true false = refl

-- a change can be made over the same bytes of its file
over-same : (old new : ℕ → List ℕ) (c : Change) → old (node_of c) ≡ new (node_of c) → CanBeMadeOver old c → CanBeMadeOver new c
over-same old new (Make node parent kind name) same can = tt
over-same old new (Put node offset contents) same can = subst (λ bs. CanBePut bs offset (bytes_in contents)) same can
over-same old new (Cut node size pages) same can = subst (λ (bs : List ℕ). size ≤ length bs) same can
over-same old new (Move node parent name) same can = tt
over-same old new (Drop node) same can = tt

-- ---- the files

module _ (h : FilesHeld) (units : ℕ) (counts : Counts) (tied : AreTied h units counts) (law : OwnFormLaw) (id : Id) (c : Change) (fixed : List ℕ) (file : ℕ) (of_it : file ≡ node_of c)
    (fixes : (k : FilesHeld) → k.tree ≡ h.tree → k.versions ≡ h.versions → fixed ≡ fixed_bytes (files_of k) file (first_open_of (files_of k).first_opens id file)) where
  fixed_is : fixed ≡ fixed_bytes (files_of h) (node_of c) (first_open_of (files_of h).first_opens id (node_of c))
  fixed_is = fixes h refl refl ∙ ap (λ n. fixed_bytes (files_of h) n (first_open_of (files_of h).first_opens id n)) of_it

  -- what the transaction changed before
  abbrev old : OverlayState
  old = or_unchanged (overlay_in h.overlays id)

  old-own : IsOwn old
  old-own = go (overlay_in h.overlays id) refl
    where
      go : (now : Option OverlayState) → overlay_in h.overlays id ≡ now → IsOwn (or_unchanged now)
      go None is = IsOwn-unchanged
      go (Some o) is = (over-in (tree_of h.tree) h.overlays id o tied.over is).own

  old-is : own_changes (own_held h.overlays) id ≡ own_of old
  old-is = own_changes-held h.overlays id ∙ changes-own (overlay_in h.overlays id)

  pub seen-is : tree_seen (files_of h) (Some id) ≡ seen (tree_of h.tree) old
  seen-is = ap (λ cs. changed_all (tree_of h.tree) (names_of cs)) old-is ∙ ap (changed_all (tree_of h.tree)) (names-own old old-own)

  -- what the transaction sees of the file
  seen-over : bytes_seen (files_of h) (Some id) (node_of c) ≡ bytes_over old fixed (node_of c)
  seen-over = go (overlay_in h.overlays id) refl
    where
      go : (now : Option OverlayState) → overlay_in h.overlays id ≡ now → bytes_seen (files_of h) (Some id) (node_of c) ≡ bytes_over (or_unchanged now) fixed (node_of c)
      go None is = seen-none h id (node_of c) is ∙ sym fixed_is
      go (Some o) is =
          seen-some h id (node_of c) o is (over-in (tree_of h.tree) h.overlays id o tied.over is).own
          ∙ ap (λ bs. bytes_or (if has_made o.names (node_of c) then [] else bs) (bytes_at o.written (node_of c))) (sym fixed_is)

  pub units-over : CanBeMadeOver (bytes_seen (files_of h) (Some id)) c → CanBeMadeOver (bytes_over old fixed) c
  units-over can = over-same (bytes_seen (files_of h) (Some id)) (bytes_over old fixed) c seen-over can

  -- the bytes from which files start
  abbrev first : ℕ → List ℕ
  first file = first_bytes (files_of h) id (own_of old ++ c ∷ []) file

  first-at : changes_bytes c ≡ true → starts old fixed (node_of c) ≡ first (node_of c)
  first-at bytes =
      let made : has_made (own_of old ++ c ∷ []) (node_of c) ≡ has_made old.names (node_of c) = made-append (own_of old) (c ∷ []) (node_of c) (rw (bytes-make c bytes) refl) ∙ has_made-own old (node_of c) in
      λ i. if sym made i then [] else fixed_is i

  -- the files once this is what the transaction changed
  module _ (new : OverlayState) (names : new.names ≡ old.names ++ filter is_of_names (c ∷ [])) (written : new.written ≡ written_next old fixed c) where
    next : IsNext old new first c
    next = record {
      names = names;
      written = written ∙ written-at (starts old fixed) first old.written c first-at;
      empty = λ make. ap (λ b. if b then [] else fixed_bytes (files_of h) (node_of c) (first_open_of (files_of h).first_opens id (node_of c))) (made-there (own_of old) c make);
    }

    form : own_of new ≡ changes_with (files_of h) id c
    form = (law old new first c old-own next).form ∙ sym (ap (λ cs. changes_to_commit (cs ++ c ∷ []) (bytes_with (files_of h) id (cs ++ c ∷ []))) old-is)

    new-own : IsOwn new
    new-own =
        let is = law old new first c old-own next in
        record {
          only = ap (list_all is_of_names) names ∙ only-next old.names c old-own.only;
          rise = subst AreFilesRising (sym written) (rising-next (starts old fixed) old.written c old-own.rise);
          files = ap written_files is.form ∙ written-final (own_of old ++ c ∷ []) (λ file. bytes_after (first file) file (own_of old ++ c ∷ [])) ∙ is.files;
        }

    abbrev then' : List OwnHeld
    then' = with_overlay h.overlays id new

    own-then : own_held then' ≡ with_own_changes (own_held h.overlays) id (changes_with (files_of h) id c)
    own-then = held-with h.overlays id new ∙ ap (with_own_changes (own_held h.overlays) id) form

    abbrev after : ReserveState → FilesHeld
    after r' = record h { overlays = then'; reserve = r'; next_node = next_after h.next_node c }

    files-then : (r' : ReserveState) → files_of (after r') ≡ owned (files_of h) id c
    files-then r' = λ i. record {
      tree = tree_of h.tree;
      versions = versions_of h.tree;
      first_opens = (files_of h).first_opens;
      table = record { own = own-then i; opens = h.opens.opens; last_open = h.opens.last; next_node = next_after h.next_node c };
    }

    owns-then : (p : OwnHeld) → IsIn p then' → IsOwn p.overlay
    owns-then = with-each IsOwn h.overlays id new (λ p there. (All-in (λ (q : OwnHeld). IsOver (tree_of h.tree) q.overlay) h.overlays tied.over p there).own) new-own

    few-then : CanBeCounted (owned (files_of h) id c) → AreFew then'
    few-then counted = few-counted (after h.reserve) (once-with h.overlays id new tied.once) owns-then (subst CanBeCounted (sym (files-then h.reserve)) counted)

    -- what it holds
    keeps-then : (r' : ReserveState) → HoldsChange (seen (tree_of h.tree) old) c id h.reserve r'
        → Keeps r' (files_of (after r'))
    keeps-then r' holds who = elim (cases_Bool (same_id who id)) [
      | inl same ↦
          let e : who ≡ id = same_id-equal who id same in
          let now : own_changes (own_held then') who ≡ own_of new = (λ i. own_changes (own_then_is i) (e i)) ∙ own_changes-new (own_held h.overlays) id (own_of new) in
          let was : own_changes (own_held h.overlays) who ≡ own_of old = ap (own_changes (own_held h.overlays)) e ∙ old-is in
          let before : IsSameHold (holds_in h.reserve who) (holds_by (tree_of h.tree) (own_of old) []) = subst (λ cs. IsSameHold (holds_in h.reserve who) (holds_by (tree_of h.tree) cs [])) was (tied.keeps who) in
          subst (λ cs. IsSameHold (holds_in r' who) (holds_by (tree_of h.tree) cs [])) (sym now) (record {
            nodes = λ n. holds.nodes who n ∙ (λ i. before.nodes n i || (same i && is_in (node_of c ∷ []) n)) ∙ sym (nodes-then n);
            places = λ p. holds.names who p ∙ (λ i. before.places p i || (same i && is_place_in (places_of (seen (tree_of h.tree) old) c) p)) ∙ sym (places-then p);
            uses = λ n. holds.uses who n ∙ (λ i. before.uses n i || (same i && is_in (directories_of (places_of (seen (tree_of h.tree) old) c)) n)) ∙ sym (uses-then n);
            dropped = λ n. holds.drops who n ∙ (λ i. before.dropped n i || (same i && is_in (dropped_directory (seen (tree_of h.tree) old) c) n)) ∙ sym (dropped-then n);
            moves = holds.right who ∙ (λ i. before.moves i || (same i && list_any (λ node. true) (moved_directory (seen (tree_of h.tree) old) c))) ∙ sym moves-then;
          })
      | inr other ↦
          let now : own_changes (own_held then') who ≡ own_changes (own_held h.overlays) who = ap (λ os. own_changes os who) own_then_is ∙ own_changes-other (own_held h.overlays) id who (own_of new) (same_id-sym who id other) in
          let before = tied.keeps who in
          subst (λ cs. IsSameHold (holds_in r' who) (holds_by (tree_of h.tree) cs [])) (sym now) (record {
            nodes = λ n. holds.nodes who n ∙ apart _ _ _ other ∙ before.nodes n;
            places = λ p. holds.names who p ∙ apart _ _ _ other ∙ before.places p;
            uses = λ n. holds.uses who n ∙ apart _ _ _ other ∙ before.uses n;
            dropped = λ n. holds.drops who n ∙ apart _ _ _ other ∙ before.dropped n;
            moves = holds.right who ∙ apart _ _ _ other ∙ before.moves;
          })
    ]
      where
        own_then_is : own_held then' ≡ with_own_changes (own_held h.overlays) id (own_of new)
        own_then_is = held-with h.overlays id new

        apart : (b s x : Bool) → s ≡ false → (b || (s && x)) ≡ b
        apart true s x other = refl
        apart false true x other = absurd (true≢false other)
        apart false false x other = refl

        nodes-then : (n : ℕ) → is_in (map node_of (own_of new) ++ []) n ≡ (is_in (map node_of (own_of old) ++ []) n || is_in (node_of c ∷ []) n)
        nodes-then n =
            nodes-own new n ∙ (λ i. is_in (map node_of (names i)) n || is_in (map number_of (written i)) n) ∙ nodes-with (starts old fixed) old.written old.names n c
            ∙ ap (λ b. b || is_in (node_of c ∷ []) n) (sym (nodes-own old n))

        places-then : (p : Place) → is_place_in (each_change places_of (tree_of h.tree) (own_of new)) p ≡ (is_place_in (each_change places_of (tree_of h.tree) (own_of old)) p || is_place_in (places_of (seen (tree_of h.tree) old) c) p)
        places-then p =
            ap (λ ps. is_place_in ps p) (each-next places_of silent-places (tree_of h.tree) old new c names)
            ∙ list_any-append (same_place p) (each_change places_of (tree_of h.tree) (own_of old)) (places_of (seen (tree_of h.tree) old) c)

        uses-then : (n : ℕ) → is_in (directories_of (each_change places_of (tree_of h.tree) (own_of new))) n ≡ (is_in (directories_of (each_change places_of (tree_of h.tree) (own_of old))) n || is_in (directories_of (places_of (seen (tree_of h.tree) old) c)) n)
        uses-then n =
            ap (λ ps. is_in (directories_of ps) n) (each-next places_of silent-places (tree_of h.tree) old new c names)
            ∙ ap (λ ms. is_in ms n) (map-append (λ (p : Place). p.directory) (each_change places_of (tree_of h.tree) (own_of old)) (places_of (seen (tree_of h.tree) old) c))
            ∙ is_in-append (directories_of (each_change places_of (tree_of h.tree) (own_of old))) (directories_of (places_of (seen (tree_of h.tree) old) c)) n

        dropped-then : (n : ℕ) → is_in (each_change dropped_directory (tree_of h.tree) (own_of new)) n ≡ (is_in (each_change dropped_directory (tree_of h.tree) (own_of old)) n || is_in (dropped_directory (seen (tree_of h.tree) old) c) n)
        dropped-then n =
            ap (λ ms. is_in ms n) (each-next dropped_directory silent-dropped (tree_of h.tree) old new c names)
            ∙ is_in-append (each_change dropped_directory (tree_of h.tree) (own_of old)) (dropped_directory (seen (tree_of h.tree) old) c) n

        moves-then : list_any (λ node. true) (each_change moved_directory (tree_of h.tree) (own_of new)) ≡ (list_any (λ node. true) (each_change moved_directory (tree_of h.tree) (own_of old)) || list_any (λ node. true) (moved_directory (seen (tree_of h.tree) old) c))
        moves-then =
            ap (list_any (λ node. true)) (each-next moved_directory silent-moved (tree_of h.tree) old new c names)
            ∙ list_any-append (λ node. true) (each_change moved_directory (tree_of h.tree) (own_of old)) (moved_directory (seen (tree_of h.tree) old) c)

  -- there is room for the units that it writes
  pub units-few : CanBeCounted (owned (files_of h) id c) → total_units (written_next old fixed c) < 2 ^ 64
  units-few counted =
      let new : OverlayState = record { names = old.names ++ filter is_of_names (c ∷ []); held = []; written = written_next old fixed c; spare = 0 } in
      let few = (few-then new refl refl counted).units in
      let it = sum-in (λ o. total_units o.written) (with_overlay h.overlays id new) id new (overlay-with h.overlays id new) in
      omega arith

  -- the change is made
  module _ (os' : List OwnHeld) (r' : ReserveState) (is : IsChangedIn (tree_of h.tree) fixed id c h.overlays os' h.reserve r') (counted : CanBeCounted (owned (files_of h) id c)) where
    abbrev made : FilesHeld
    made = record h { overlays = os'; reserve = r'; next_node = next_after h.next_node c }

    pub made-files : files_of made ≡ owned (files_of h) id c
    made-files = ap (λ os. files_of (record h { overlays = os; reserve = r'; next_node = next_after h.next_node c })) is.list ∙ files-then is.overlay is.is.names is.is.written r'

    room-then : HasTreeRoom h (Some c) → sum_by names_held (with_overlay h.overlays id is.overlay) ≤ h.tree.spare
    room-then room =
        let all = sum-with (λ o. length o.names) refl h.overlays id is.overlay in
        let more = ap length is.is.names ∙ length-append old.names (filter is_of_names (c ∷ [])) in
        elim (cases_Bool (changes_bytes c)) [
          | inl bytes ↦ let none = bytes-count c bytes in omega (arith, all, more, none, tied.room)
          | inr of_names ↦ let one = name-count c of_names in let beside = room of_names in omega (arith, all, more, one, beside)
        ]

    pub made-tied : (counts' : Counts) → AreCounts os' counts' → HasTreeRoom h (Some c) → AreTied made units counts'
    made-tied counts' counted' room = subst (λ os. AreTied (record h { overlays = os; reserve = r'; next_node = next_after h.next_node c }) units counts') (sym is.list) (record {
      formed = tied.formed;
      once = once-with h.overlays id is.overlay tied.once;
      over = All-by (λ (p : OwnHeld). IsOver (tree_of h.tree) p.overlay) (with_overlay h.overlays id is.overlay)
          (with-each (IsOver (tree_of h.tree)) h.overlays id is.overlay (λ p there. All-in (λ (q : OwnHeld). IsOver (tree_of h.tree) q.overlay) h.overlays tied.over p there) (record { stands = is.is.stands; own = new-own is.overlay is.is.names is.is.written }));
      opened = tied.opened;
      keeps = keeps-then is.overlay is.is.names is.is.written r' is.is.holds;
      sum = tied.sum;
      counted = subst (λ os. AreCounts os counts') is.list counted';
      few = few-then is.overlay is.is.names is.is.written counted;
      room = room-then room;
    })

    -- what is counted
    module _ (it : Counted) (is_counted : IsCounted h.overlays os' id it) (left : Counts) (units_left : left.units + it.before.units ≡ counts.units) (nodes_left : left.nodes + it.before.nodes ≡ counts.nodes)
        (names_left : left.names + it.before.names ≡ counts.names)
      where
        counts-now : AreCounts (with_overlay h.overlays id is.overlay) (record { units = left.units + it.after.units; nodes = left.nodes + it.after.nodes; names = left.names + it.after.names })
        counts-now =
            counts-with h.overlays id counts tied.counted it.before is_counted.before left units_left nodes_left names_left is.overlay it.after
            (is_counted.after ∙ (λ i. counts_of (or_unchanged (overlay_in (is.list i) id))) ∙ ap (λ now. counts_of (or_unchanged now)) (overlay-with h.overlays id is.overlay))

        few-now : AreFew (with_overlay h.overlays id is.overlay)
        few-now = few-then is.overlay is.is.names is.is.written counted

        pub counts-fit : (left.units + it.after.units < 2 ^ 64) × (left.nodes + it.after.nodes < 2 ^ 64) × (left.names + it.after.names < 2 ^ 64)
        counts-fit = (omega (arith, counts-now.units, few-now.units), omega (arith, counts-now.nodes, few-now.nodes), omega (arith, counts-now.names, few-now.names))

        pub counted-then : (counts' : Counts) → counts'.units ≡ left.units + it.after.units → counts'.nodes ≡ left.nodes + it.after.nodes → counts'.names ≡ left.names + it.after.names → AreCounts os' counts'
        counted-then counts' more_units more_nodes more_names = subst (λ os. AreCounts os counts') (sym is.list) (record {
          units = more_units ∙ counts-now.units;
          nodes = more_nodes ∙ counts-now.nodes;
          names = more_names ∙ counts-now.names;
        })
