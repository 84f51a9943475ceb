-- What a transaction owns and holds stays while others commit and plain calls change files.
use Rattle.std.proofs.Common.{Bool, ◌≡◌, ℕ, ◌==◌, ◌&&◌, ◌||◌, not, true, false, is_none, is_some, filter, List, [], ◌∷◌, ◌++◌, map, fold, Option, Some, None, refl, sym, ◌∙◌, ap, subst, arith, inl, inr, ◌⊎◌}
use Rattle.std.proofs.lemmas.Bool.{cases_Bool, eqb-true, eqb-false, ne_eqb, or_from, and_parts, and_from, or_parts, or_cases, not-true, not_from_false, true≢false, false_from_ne_true}
use Rattle.std.proofs.lemmas.List.{append-nil}
use Rattle.std.specs.List.{list_all, list_any}
use Rattle.std.specs.Prelude.{nat_le}
use Rattle.std.proofs.lemmas.Bool.{ltb-true}
use Rattle.ktm_base.specs.declared.id.Id.{Id}
use Rattle.ktm_world.specs.declared.change.Change.{Change}
use Rattle.ktm_world.specs.declared.change.Change.TheVariants.{Make, Put, Cut, Move, Drop}
use Rattle.ktm_world.specs.declared.object.Transaction.{Transaction}
use Rattle.ktm_world.specs.Changes.{changed_all, applies, changes_apply, changes_bytes, is_make, node_of, has_made}
use Rattle.ktm_world.specs.Committed.{Committed, with_change}
use Rattle.ktm_world.specs.Conflicts.{changes_outdated, touches_plain_writer, overwrites_opened, conflicts, meets_other, holds_now, written_by, users, writes}
use Rattle.ktm_world.specs.Durable.{acts_of}
use Rattle.ktm_world.specs.FileOutcome.{changing, files_after}
use Rattle.ktm_world.specs.Files.{FilesNow, FirstOpen, OpenFile, OwnChanges, own_changes, first_open_of, fixed_bytes, first_bytes, bytes_after, committed_files}
use Rattle.ktm_world.specs.Holds.{Act, Holds, holds_by, directories_of, each_change, places_of, dropped_directory, moved_directory, is_place_in, is_in, meet_in, meets}
use Rattle.ktm_world.specs.Lawful.{are_apart, is_alone, is_touched_by, others_undecided, undecided}
use Rattle.ktm_world.specs.Present.{Present}
use Rattle.ktm_world.specs.Transactions.{is_of, is_undecided, same_id}
use Rattle.ktm_world.specs.Tree.{Tree, IsWellFormed, bytes_of, bytes_or_none, content_of}
use Rattle.txf_laws.specs.Elements.{IsIn}
use Rattle.txf_laws.specs.Footprint.{Footprint, footprint, AreFootprintsApart, ListsLaw, Stays}
use Rattle.txf_laws.specs.Reservations.{files_committed, IsLeft, ReservationsLaw}
use Rattle.txf_laws.specs.SoundFiles.{IsSoundFiles, files_apart, is_drawn_node, made_or_opened, numbers_made}
use Rattle.txf_laws.proofs.offered.ChangeTests.{node-elsewhere}
use Rattle.txf_laws.proofs.offered.Diamonds.{IsIn-map, no_test, none-from, meets-not}
use Rattle.txf_laws.proofs.offered.Elements.{IsIn-filter, IsIn-kept, IsIn-flat_map, list_all-at, list_any-at}
use Rattle.txf_laws.proofs.offered.Lists.{IsIn-left, IsIn-cases, AreFootprintsApart-sym, apart-from-none}
use Rattle.txf_laws.proofs.offered.Holds.{meeting_law, are_apart-to}
use Rattle.txf_laws.proofs.offered.Tables.{same_id-equal, same_id-sym}
use Rattle.ktm_world.specs.declared.object.Object.{Object}
use Rattle.ktm_world.specs.HandleCalls.{has_handle}

-- ---- entries

-- the first entry of a transaction
pub own_changes-found : (own : List OwnChanges) (id : Id) → (own_changes own id ≡ []) ⊎ ((o : OwnChanges) × IsIn o own × (o.transaction ≡ id) × (o.changes ≡ own_changes own id))
own_changes-found [] id = inl refl
own_changes-found (o ∷ os) id = elim (cases_Bool (same_id o.transaction id)) [
  | inl same ↦ inr (o, inl refl, same_id-equal o.transaction id same, rw same refl)
  | inr other ↦ elim (own_changes-found os id) [
    | inl none ↦ inl (rw other none)
    | inr (found, there, is, changes) ↦ inr (found, inr there, is, rw other changes)
  ]
]

-- what is so of the changes of each entry, and of none, is so of those of each transaction
pub own_changes-by : (P : List Change → Type 0) (own : List OwnChanges) (id : Id) → P [] → ((o : OwnChanges) → IsIn o own → o.transaction ≡ id → P o.changes) → P (own_changes own id)
own_changes-by P own id none each = elim (own_changes-found own id) [
  | inl e ↦ subst P (sym e) none
  | inr (o, there, is, changes) ↦ subst P changes (each o there is)
]

-- other entries are gone
pub own_changes-left : (keep : OwnChanges → Bool) (own : List OwnChanges) (id : Id) → ((o : OwnChanges) → same_id o.transaction id ≡ true → keep o ≡ true) → own_changes (filter keep own) id ≡ own_changes own id
own_changes-left keep [] id kept = refl
own_changes-left keep (o ∷ os) id kept = elim (cases_Bool (same_id o.transaction id)) [
  | inl here ↦ rw (kept o here, here) refl
  | inr later ↦ elim (cases_Bool (keep o)) [
    | inl stays ↦ rw (stays, later) (own_changes-left keep os id kept)
    | inr gone ↦ rw (gone, later) (own_changes-left keep os id kept)
  ]
]

pub first_open_of-left : (keep : FirstOpen → Bool) (fs : List FirstOpen) (id : Id) (file : ℕ) → ((f : FirstOpen) → same_id f.transaction id ≡ true → keep f ≡ true)
    → first_open_of (filter keep fs) id file ≡ first_open_of fs id file
first_open_of-left keep [] id file kept = refl
first_open_of-left keep (f ∷ fs) id file kept = elim (cases_Bool (same_id f.transaction id && f.file == file)) [
  | inl here ↦ rw (kept f (and_parts (same_id f.transaction id) (f.file == file) here).0, here) refl
  | inr later ↦ elim (cases_Bool (keep f)) [
    | inl stays ↦ rw (stays, later) (first_open_of-left keep fs id file kept)
    | inr gone ↦ rw (gone, later) (first_open_of-left keep fs id file kept)
  ]
]

pub written_by-left : (keep : OpenFile → Bool) (opens : List OpenFile) (id : Id) → ((o : OpenFile) → is_of id o.transaction ≡ true → keep o ≡ true) → written_by (filter keep opens) id ≡ written_by opens id
written_by-left keep [] id kept = refl
written_by-left keep (o ∷ os) id kept = elim (cases_Bool (is_of id o.transaction && writes o.access)) [
  | inl here ↦ rw (kept o (and_parts (is_of id o.transaction) (writes o.access) here).0, here) (ap (λ ns. o.node ∷ ns) (written_by-left keep os id kept))
  | inr not' ↦ elim (cases_Bool (keep o)) [
    | inl stays ↦ rw (stays, not') (written_by-left keep os id kept)
    | inr gone ↦ rw (gone, not') (written_by-left keep os id kept)
  ]
]

-- what is of one transaction is not of another
pub of_other : (gone id i : Id) → same_id gone id ≡ false → same_id i id ≡ true → not (same_id i gone) ≡ true
of_other gone id i other same = not_from_false _ (subst (λ (j : Id). same_id j gone ≡ false) (sym (same_id-equal i id same)) (same_id-sym gone id other))

pub of_other-open : (gone id : Id) (t : Option Id) → same_id gone id ≡ false → is_of id t ≡ true → not (is_of gone t) ≡ true
of_other-open gone id None other of = refl
of_other-open gone id (Some i) other of = not_from_false _ (subst (λ (j : Id). same_id gone j ≡ false) (same_id-equal id i of) other)

-- ---- what holds come to

-- what is held, by a footprint
abbrev held : Footprint → List ℕ → Holds
held f writes = record { nodes = f.nodes ++ writes; places = f.places; uses = directories_of f.places; dropped = f.dropped; moves = list_any (λ node. true) f.moved }

-- the tree after the changes of a work
pub tree-of : (cs : List Change) (c : Committed) → (fold with_change c cs).tree ≡ changed_all c.tree cs
tree-of [] c = refl
tree-of (change ∷ cs) c = tree-of cs (with_change c change)

-- ---- what each two undecided transactions hold

pub own-apply : (x : Present) → IsSoundFiles x → (id : Id) → changes_apply x.files.tree (own_changes x.files.table.own id) ≡ true
own-apply x sound id = own_changes-by (λ cs. changes_apply x.files.tree cs ≡ true) x.files.table.own id refl (λ o there is.
    list_all-at (λ (o : OwnChanges). changes_apply x.files.tree o.changes) x.files.table.own sound.own_apply o there)

-- an undecided transaction is one of the others
pub in_others : (x : Present) (t u : Transaction) → IsIn u (undecided x) → same_id u.id t.id ≡ false → IsIn u (others_undecided x.transactions.items (Some t.id))
in_others x t u there other =
    let kept = IsIn-filter (λ (v : Transaction). is_undecided v && not (is_of v.id None)) x.transactions.items u there in
    IsIn-kept (λ (v : Transaction). is_undecided v && not (is_of v.id (Some t.id))) x.transactions.items u kept.0
    (and_from _ _ (and_parts (is_undecided u) (not (is_of u.id None)) kept.1).0 (not_from_false _ other))

pub holds-apart : (x : Present) → IsSoundFiles x → (t u : Transaction) → IsIn t (undecided x) → IsIn u (undecided x) → same_id t.id u.id ≡ false → are_apart (holds_now x.files t.id) (holds_now x.files u.id) ≡ true
holds-apart x sound t u there there' other =
    list_all-at (files_apart x t) (others_undecided x.transactions.items (Some t.id))
    (list_all-at (λ (v : Transaction). list_all (files_apart x v) (others_undecided x.transactions.items (Some v.id))) (undecided x) sound.apart t there) u
    (in_others x t u there' (same_id-sym t.id u.id other))

-- what two transactions hold is apart also without the files that they have open
bare-apart : (tree : Tree) (bs cs : List Change) (ws vs : List ℕ) → are_apart (holds_by tree bs ws) (holds_by tree cs vs) ≡ true → are_apart (holds_by tree bs []) (holds_by tree cs []) ≡ true
bare-apart tree bs cs ws vs apart =
    let d = and_parts _ (not (list_any (λ (n : ℕ). true) (each_change moved_directory tree bs) && list_any (λ (n : ℕ). true) (each_change moved_directory tree cs))) apart in
    let c = and_parts _ (not (meet_in (each_change dropped_directory tree bs) (directories_of (each_change places_of tree cs)))) d.0 in
    let b = and_parts (not (meet_in (map node_of bs ++ ws) (map node_of cs ++ vs))) (not (list_any (is_place_in (each_change places_of tree cs)) (each_change places_of tree bs))) c.0 in
    and_from _ _ (and_from _ _ (and_from _ _ (not_from_false _ (none-from (is_in (map node_of cs ++ [])) (map node_of bs ++ []) (λ n there. none-from (λ m. m == n) (map node_of cs ++ []) (λ m there'. ne_eqb m n (λ e.
    meets-not (map node_of bs ++ ws) (map node_of cs ++ vs) (not-true _ b.0) n (plain (map node_of bs) ws n there) (subst (λ k. IsIn k (map node_of cs ++ vs)) e (plain (map node_of cs) vs m there'))))))) b.1) c.1) d.1
  where
    plain : (ns ks : List ℕ) (n : ℕ) → IsIn n (ns ++ []) → IsIn n (ns ++ ks)
    plain ns ks n there = elim (IsIn-cases n ns [] there) [ inl here ↦ IsIn-left n ns ks here | inr none ↦ absurd none ]

pub own-apart : (x : Present) → IsSoundFiles x → (t u : Transaction) → IsIn t (undecided x) → IsIn u (undecided x) → same_id t.id u.id ≡ false
    → AreFootprintsApart (footprint x.files.tree (own_changes x.files.table.own t.id)) (footprint x.files.tree (own_changes x.files.table.own u.id))
own-apart x sound t u there there' other =
    let cs = own_changes x.files.table.own in
    are_apart-to x.files.tree (cs t.id) (cs u.id)
    (bare-apart x.files.tree (cs t.id) (cs u.id) _ _ (holds-apart x sound t u there there' other))
    (bare-apart x.files.tree (cs u.id) (cs t.id) _ _ (holds-apart x sound u t there' there (same_id-sym t.id u.id other)))

-- ---- what a plain call leaves

-- no undecided transaction has made a node with the next number
pub not-made : (x : Present) → IsSoundFiles x → (id : Id) (node : ℕ) → node ≡ x.files.table.next_node → has_made (own_changes x.files.table.own id) node ≡ false
not-made x sound id node next = false_from_ne_true _ (λ made.
    let cs = own_changes x.files.table.own id in
    let found = list_any-at (λ change. is_make change && node_of change == node) cs made in
    let is = and_parts (is_make found.0) (node_of found.0 == node) found.2 in
    let drawn : list_all (is_drawn_node x.files) (numbers_made cs) ≡ true = own_changes-by (λ ds. list_all (is_drawn_node x.files) (numbers_made ds) ≡ true) x.files.table.own id refl (λ o there e.
    list_all-at (λ (o : OwnChanges). list_all (is_drawn_node x.files) (numbers_made o.changes)) x.files.table.own sound.own_drawn o there) in
    let there = IsIn-flat_map (λ change. filter (λ n. is_make change) (node_of change ∷ [])) cs found.0 (node_of found.0) found.1 (IsIn-kept (λ n. is_make found.0) (node_of found.0 ∷ []) (node_of found.0) (inl refl) is.0) in
    let below = ltb-true (node_of found.0) x.files.table.next_node (and_parts (nat_le 2 (node_of found.0)) _ (list_all-at (is_drawn_node x.files) (numbers_made cs) drawn (node_of found.0) there)).1 in
    omega (arith, below, eqb-true _ _ is.1, next))

-- what a call does meets nothing that another transaction holds
pub misses : (files : FilesNow) (who : Option Id) (act : Act) → conflicts files who act ≡ false → (id : Id) → IsIn id (users files.table) → is_of id who ≡ false → meets (holds_now files id) act ≡ false
unfolding conflicts
misses files who act none id there other =
    let meet = or_parts (meets_other files who act) (changes_outdated files who act) (or_parts _ (touches_plain_writer files who act) (or_parts _ (overwrites_opened files who act) none).0).0 in
    rw other at (no_test (λ id. not (is_of id who) && meets (holds_now files id) act) id (users files.table) meet.0 there)

-- a call of a transaction, or a plain one, that meets nothing is apart from the changes of another one
pub call-apart : (x : Present) → IsSoundFiles x → (who : Option Id) (change : Change) (act : Act) (id : Id) → is_of id who ≡ false → applies x.files.tree change ≡ true → (is_make change ≡ true → node_of change ≡ x.files.table.next_node)
    → acts_of x.files.tree change ≡ act ∷ [] → conflicts x.files who act ≡ false
    → AreFootprintsApart (footprint x.files.tree (change ∷ [])) (footprint x.files.tree (own_changes x.files.table.own id))
call-apart x sound who change act id other applies fresh acts none = elim (own_changes-found x.files.table.own id) [
  | inl e ↦ subst (λ cs. AreFootprintsApart (footprint x.files.tree (change ∷ [])) (footprint x.files.tree cs)) (sym e) (AreFootprintsApart-sym (footprint x.files.tree []) (footprint x.files.tree (change ∷ [])) (apart-from-none x.files.tree (change ∷ [])))
  | inr (o, there, is, changes) ↦
      let mine = own_changes x.files.table.own id in
      let user : IsIn id (users x.files.table) = IsIn-left id (map (λ (o : OwnChanges). o.transaction) x.files.table.own) _ (subst (λ i. IsIn i (map (λ (o : OwnChanges). o.transaction) x.files.table.own)) is (IsIn-map (λ (o : OwnChanges). o.transaction) o x.files.table.own there)) in
      AreFootprintsApart-sym (footprint x.files.tree mine) (footprint x.files.tree (change ∷ []))
      (meeting_law x.files.tree mine (change ∷ []) (written_by x.files.table.opens id) (own-apply x sound id) (and_from _ _ applies refl)
      (subst (λ calls. list_any (meets (holds_now x.files id)) (calls ++ []) ≡ false) (sym acts) (or_from _ _ (misses x.files who act none id user other) refl))
      (or_from _ _ (false_from_ne_true _ (λ both.
      let parts = and_parts (is_make change) (has_made mine (node_of change)) both in
      true≢false (sym parts.1 ∙ not-made x sound id (node_of change) (fresh parts.0)))) refl))
]

-- a plain handle that may write has no undecided transaction on its file
pub writer-alone : (x : Present) → IsSoundFiles x → (o : OpenFile) (u : Transaction) → IsIn o x.files.table.opens → is_none o.transaction ≡ true → writes o.access ≡ true → IsIn u (undecided x)
    → is_touched_by x o.node u ≡ false
writer-alone x sound o u there plain may_write there' = elim (or_cases (not (is_none o.transaction && writes o.access)) _ (list_all-at (is_alone x) x.files.table.opens sound.writers o there)) [
  | inl none ↦ absurd (true≢false (sym (and_from _ _ plain may_write) ∙ not-true _ none))
  | inr none ↦ no_test (is_touched_by x o.node) u (undecided x) (not-true _ none) there'
]

written-apart : (tree : Tree) (change : Change) (cs : List Change) → changes_bytes change ≡ true → (IsIn (node_of change) (map node_of cs) → ⊥) → AreFootprintsApart (footprint tree (change ∷ [])) (footprint tree cs)
written-apart tree (Put node offset contents) cs bytes other = record {
  nodes = λ n there there'. elim there [ inl e ↦ other (subst (λ m. IsIn m (map node_of cs)) (sym e) there') | inr none ↦ absurd none ];
  places = λ p q none. absurd none;
  left_stays = λ n p none. absurd none;
  right_stays = λ n p there none. absurd none;
  moves = λ n m none. absurd none;
}
written-apart tree (Cut node size pages) cs bytes other = record {
  nodes = λ n there there'. elim there [ inl e ↦ other (subst (λ m. IsIn m (map node_of cs)) (sym e) there') | inr none ↦ absurd none ];
  places = λ p q none. absurd none;
  left_stays = λ n p none. absurd none;
  right_stays = λ n p there none. absurd none;
  moves = λ n m none. absurd none;
}
written-apart tree (Make node parent kind name) cs bytes other = absurd (true≢false (sym bytes))
written-apart tree (Move node parent name) cs bytes other = absurd (true≢false (sym bytes))
written-apart tree (Drop node) cs bytes other = absurd (true≢false (sym bytes))

pub write-apart : (x : Present) → IsSoundFiles x → (change : Change) (o : OpenFile) (u : Transaction) → IsIn u (undecided x) → changes_bytes change ≡ true → IsIn o x.files.table.opens
    → is_none o.transaction ≡ true → writes o.access ≡ true → node_of change ≡ o.node
    → AreFootprintsApart (footprint x.files.tree (change ∷ [])) (footprint x.files.tree (own_changes x.files.table.own u.id))
write-apart x sound change o u there' bytes there plain may_write node =
    let mine = own_changes x.files.table.own u.id in
    let alone = or_parts (is_in (holds_now x.files u.id).nodes o.node) (list_any (λ (p : OpenFile). is_of u.id p.transaction && p.node == o.node) x.files.table.opens) (writer-alone x sound o u there plain may_write there') in
    written-apart x.files.tree change mine bytes (λ here.
    let here' : IsIn o.node (map node_of mine ++ written_by x.files.table.opens u.id) = IsIn-left o.node (map node_of mine) _ (subst (λ m. IsIn m (map node_of mine)) node here) in
    eqb-false o.node o.node (no_test (λ m. m == o.node) o.node (holds_now x.files u.id).nodes alone.0 here') refl)

module _ (lists : ListsLaw) where
  -- changes that are apart from those of a transaction leave it what it has
  pub left-by : (files after : FilesNow) (cs : List Change) (id : Id) → IsWellFormed files.tree → changes_apply files.tree cs ≡ true → changes_apply files.tree (own_changes files.table.own id) ≡ true
      → AreFootprintsApart (footprint files.tree cs) (footprint files.tree (own_changes files.table.own id))
      → after.tree ≡ changed_all files.tree cs → own_changes after.table.own id ≡ own_changes files.table.own id
      → ((file : ℕ) → first_open_of after.first_opens id file ≡ first_open_of files.first_opens id file) → written_by after.table.opens id ≡ written_by files.table.opens id → IsLeft files after id
  left-by files after cs id formed all all' apart tree own first written = record {
    own = own;
    applies = subst (λ t. changes_apply t (own_changes after.table.own id) ≡ true) (sym tree) (subst (λ ds. changes_apply (changed_all files.tree cs) ds ≡ true) (sym own) square.applies);
    holds = ap (λ ds. holds_by after.tree ds (written_by after.table.opens id)) own ∙ ap (λ ws. holds_by after.tree mine ws) written
        ∙ ap (λ t. holds_by t mine (written_by files.table.opens id)) tree ∙ ap (λ f. held f (written_by files.table.opens id)) square.footprint;
    bytes = λ file is. ap (λ ds. bytes_after (first_bytes after id ds file) file ds) own ∙ ap (λ bs. bytes_after bs file mine) (starts file is);
  }
    where
      mine : List Change
      mine = own_changes files.table.own id

      square : Stays files.tree cs mine
      square = (lists files.tree cs mine formed all all' apart).0

      kept : (file : ℕ) → IsIn file (map node_of mine) → bytes_of after.tree file ≡ bytes_of files.tree file
      kept file there = ap (λ t. bytes_of t file) tree ∙ ap (λ n. bytes_or_none (content_of n)) (node-elsewhere cs files.tree file all (λ there'. apart.nodes file there' there))

      fixed : (file : ℕ) (o : Option FirstOpen) → (is_some o || is_in (map node_of mine) file) ≡ true → fixed_bytes after file o ≡ fixed_bytes files file o
      fixed file (Some o) is = refl
      fixed file None is = let found = list_any-at (λ (m : ℕ). m == file) (map node_of mine) is in kept file (subst (λ m. IsIn m (map node_of mine)) (eqb-true _ _ found.2) found.1)

      starts : (file : ℕ) → (made_or_opened files id file || is_in (map node_of mine) file) ≡ true → first_bytes after id mine file ≡ first_bytes files id mine file
      starts file is = elim (cases_Bool (has_made mine file)) [
        | inl made ↦ rw made refl
        | inr not_made ↦ rw not_made (ap (fixed_bytes after file) (first file) ∙ fixed file (first_open_of files.first_opens id file) (rw not_made at is))
      ]

  -- another transaction commits
  commit-leaves : (x : Present) (t u : Transaction) → IsSoundFiles x → IsIn t (undecided x) → IsIn u (undecided x) → same_id t.id u.id ≡ false → IsLeft x.files (files_committed x.files t.id) u.id
  commit-leaves x t u sound there there' other =
      left-by x.files (files_committed x.files t.id) (own_changes x.files.table.own t.id) u.id sound.formed (own-apply x sound t.id) (own-apply x sound u.id) (own-apart x sound t u there there' other)
      (tree-of (own_changes x.files.table.own t.id) (committed_files x.files []))
      (own_changes-left (λ o. not (same_id o.transaction t.id)) x.files.table.own u.id (λ o. of_other t.id u.id o.transaction other))
      (λ file. first_open_of-left (λ f. not (same_id f.transaction t.id)) x.files.first_opens u.id file (λ f. of_other t.id u.id f.transaction other))
      (written_by-left (λ o. not (is_of t.id o.transaction)) x.files.table.opens u.id (λ o. of_other-open t.id u.id o.transaction other))

  -- a plain call changes the tree
  plain-leaves : (x : Present) (change : Change) (u : Transaction) → IsSoundFiles x → applies x.files.tree change ≡ true
      → AreFootprintsApart (footprint x.files.tree (change ∷ [])) (footprint x.files.tree (own_changes x.files.table.own u.id)) → IsLeft x.files (files_after x.files None (changing change)) u.id
  plain-leaves x change u sound applies apart =
      left-by x.files (files_after x.files None (changing change)) (change ∷ []) u.id sound.formed (and_from _ _ applies refl) (own-apply x sound u.id) apart
      refl refl (λ file. ap (λ fs. first_open_of fs u.id file) (append-nil x.files.first_opens)) refl

  pub reservations_law : ReservationsLaw
  reservations_law = (
    commit-leaves,
    λ x change act u sound there applies fresh acts none. plain-leaves x change u sound applies (call-apart x sound None change act u.id refl applies fresh acts none),
    λ x change o u sound there applies bytes open' plain may_write node. plain-leaves x change u sound applies (write-apart x sound change o u there bytes open' plain may_write node),
  )

-- an open file has a handle
pub named : (x : Present) → IsSoundFiles x → (o : OpenFile) → IsIn o x.files.table.opens → has_handle x.handles (Object.File o.number) ≡ true
named x sound o there = list_all-at (λ (p : OpenFile). has_handle x.handles (Object.File p.number)) x.files.table.opens sound.opens_named o there
