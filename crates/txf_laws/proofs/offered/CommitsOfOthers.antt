-- What undecided transactions own stays sound while changes of others are committed.
use Rattle.std.proofs.Common.{◌≡◌, ℕ, ◌+◌, ◌≤◌, ◌<◌, ◌^◌, ◌==◌, ◌&&◌, ◌||◌, not, Bool, true, false, is_none, is_some, All, cond, if◌then◌else◌, filter, fold, max, List, [], ◌∷◌, ◌++◌, map, Option, Some, None, refl, sym, ◌∙◌, ap, subst, arith, inl, inr, ◌⊎◌}
use Rattle.std.proofs.lemmas.Bool.{cases_Bool, eq-eqb, eqb-true, ltb-true, leb-true, le-leb, lt-ltb, and_parts, and_from, or_cases, or_left, or_right, or_parts, or_from, not-true, not_from_false, true≢false, eqb-false, false_from_ne_true, ne_eqb}
use Rattle.std.proofs.lemmas.List.Elements.{All-head, All-tail, All-cons, All-nil}
use Rattle.std.specs.List.{list_all, list_any, flat_map}
use Rattle.std.specs.Prelude.{nat_lt, nat_le}
use Rattle.ktm_base.specs.declared.id.Id.{Id}
use Rattle.ktm_world.specs.declared.change.Change.{Change}
use Rattle.ktm_world.specs.declared.change.Change.TheVariants.{Make, Put, Cut, Move, Drop}
use Rattle.ktm_world.specs.declared.recorded.Node.{Node}
use Rattle.ktm_world.specs.declared.object.Object.{Object}
use Rattle.ktm_world.specs.declared.object.Transaction.{Transaction}
use Rattle.ktm_world.specs.Changes.{changed, changed_all, applies, changes_apply, changes_bytes, is_make, is_make_of_file, is_drop, node_of, has_changes, has_made}
use Rattle.ktm_world.specs.Committed.{Version, version_of, with_change, changes_to_commit, written_files, written_after, with_number, without_number, final_bytes}
use Rattle.ktm_world.specs.Conflicts.{holds_now, written_by, writes}
use Rattle.ktm_world.specs.Durable.{next_after_all}
use Rattle.ktm_world.specs.Files.{FilesNow, FirstOpen, OpenFile, OwnChanges, own_changes, first_open_of, is_last_version, tree_of, tree_seen, bytes_seen, committed_files}
use Rattle.ktm_world.specs.HandleCalls.{has_handle}
use Rattle.ktm_world.specs.Holds.{is_in}
use Rattle.ktm_world.specs.Lawful.{are_apart, is_alone, is_touched_by, others_undecided, undecided}
use Rattle.ktm_world.specs.Present.{Present}
use Rattle.ktm_world.specs.Transactions.{is_of, is_undecided, same_id}
use Rattle.ktm_world.specs.Tree.{Tree, IsWellFormed, root, has_number, bytes_of, content_of, is_directory, is_file, node_at, is_there}
use Rattle.txf_laws.specs.Elements.{IsIn, each_pair}
use Rattle.txf_laws.specs.Footprint.{footprint, AreFootprintsApart, ListsLaw}
use Rattle.txf_laws.specs.Formed.{FormedLaw}
use Rattle.txf_laws.specs.Contents.{puts_some}
use Rattle.txf_laws.specs.Reservations.{IsLeft}
use Rattle.txf_laws.specs.SoundFiles.{IsSoundFiles, is_undecided_in, changed_by_two, make_apart, opened_apart, opens_rise, numbers_made, is_drawn_node, made_or_opened, is_change_of_opened, has_dropped, is_open_last, is_plain_well, is_own_well, files_apart, all_files_apart, may_use, is_gone, is_no_directory, opens_no_directory}
use Rattle.txf_laws.proofs.offered.ChangeTests.{node-elsewhere, Applies-from, Fits-from}
use Rattle.txf_laws.proofs.offered.NodeNumbers.{next-rises, below-changed_all}
use Rattle.txf_laws.proofs.offered.Diamonds.{IsIn-right, IsIn-map, no_test, none-from}
use Rattle.txf_laws.proofs.offered.Elements.{find-in, IsIn-filter, IsIn-kept, IsIn-flat_map, IsIn-unflat, list_all-at, list_all-from, list_any-at, list_any-from, each_pair-filter}
use Rattle.txf_laws.proofs.offered.Holds.{found-or-made}
use Rattle.txf_laws.proofs.offered.NodeKinds.{MakesNot, is_directory_at, directories-were}
use Rattle.txf_laws.proofs.offered.Lists.{IsIn-left, IsIn-unmap, apart-from-none}
use Rattle.ktm_world.proofs.offered.Lookups.{remade, node_at-changed}
use Rattle.txf_laws.proofs.offered.Reservations.{own_changes-by, own_changes-left, first_open_of-left, written_by-left, own-apply, holds-apart, tree-of, left-by}
use Rattle.txf_laws.proofs.offered.Tables.{same_id-equal, same_id-from, same_id-sym}
use Rattle.txf_laws.proofs.offered.Versions.{FitVersions, fit-all, Shows, shows-all, version-all}

-- ---- facts of each

pub All-in : {X : Type 0} (P : X → Type 0) (xs : List X) → All P xs → (x : X) → IsIn x xs → P x
All-in P [] all x there = absurd there
All-in P (y ∷ ys) all x (inl e) = subst P e (All-head P y ys all)
All-in P (y ∷ ys) all x (inr there) = All-in P ys (All-tail P y ys all) x there

pub All-by : {X : Type 0} (P : X → Type 0) (xs : List X) → ((x : X) → IsIn x xs → P x) → All P xs
All-by P [] each = All-nil P
All-by P (y ∷ ys) each = All-cons P y ys (each y (inl refl)) (All-by P ys (λ x there. each x (inr there)))

pub list_all-left : {X : Type 0} (test keep : X → Bool) (xs : List X) → list_all test xs ≡ true → list_all test (filter keep xs) ≡ true
list_all-left test keep xs all = list_all-from test (filter keep xs) (λ x there. list_all-at test xs all x (IsIn-filter keep xs x there).0)

-- ---- undecided transactions

pub undecided-entry : (ts : List Transaction) (id : Id) → is_undecided_in ts id ≡ true → (v : Transaction) × IsIn v (others_undecided ts None) × (v.id ≡ id)
undecided-entry [] id is = absurd (true≢false (sym is))
undecided-entry (t ∷ ts) id is = elim (cases_Bool (same_id t.id id)) [
  | inl same ↦ (t, IsIn-kept (λ (v : Transaction). is_undecided v && not (is_of v.id None)) (t ∷ ts) t (inl refl) (and_from _ _ (rw same at is) refl), same_id-equal t.id id same)
  | inr other ↦
      let rest = undecided-entry ts id (rw other at is) in
      let kept = IsIn-filter (λ (v : Transaction). is_undecided v && not (is_of v.id None)) ts rest.0 rest.1 in
      (rest.0, IsIn-kept (λ (v : Transaction). is_undecided v && not (is_of v.id None)) (t ∷ ts) rest.0 (inr kept.0) kept.1, rest.2)
]

-- ---- own changes

-- the changes of an entry are those of its transaction
pub own_changes-of : (own : List OwnChanges) → each_pair changed_by_two own ≡ true → (o : OwnChanges) → IsIn o own → own_changes own o.transaction ≡ o.changes
own_changes-of [] once o there = absurd there
own_changes-of (p ∷ ps) once o (inl e) = rw (same_id-from p.transaction o.transaction (ap (λ (q : OwnChanges). q.transaction) e)) (ap (λ (q : OwnChanges). q.changes) e)
own_changes-of (p ∷ ps) once o (inr there) =
    let parts = and_parts (list_all (changed_by_two p) ps) (each_pair changed_by_two ps) once in
    rw (not-true _ (list_all-at (changed_by_two p) ps parts.0 o there)) (own_changes-of ps parts.1 o there)

-- a number that changes make is the node of one of them that makes it
pub made-by : (cs : List Change) (n : ℕ) → IsIn n (numbers_made cs) → (c : Change) × IsIn c cs × (is_make c ≡ true) × (node_of c ≡ n)
made-by cs n there =
    let from = IsIn-unflat (λ change. filter (λ n. is_make change) (node_of change ∷ [])) cs n there in
    let kept = IsIn-filter (λ n. is_make from.0) (node_of from.0 ∷ []) n from.2 in
    elim kept.0 [ inl e ↦ (from.0, from.1, kept.1, e) | inr none ↦ absurd none ]

pub made-node : (cs : List Change) (n : ℕ) → IsIn n (numbers_made cs) → IsIn n (map node_of cs)
made-node cs n there = let by = made-by cs n there in subst (λ m. IsIn m (map node_of cs)) by.3 (IsIn-map node_of by.0 cs by.1)

pub IsIn-with_number : (ms : List ℕ) (n m : ℕ) → IsIn m (with_number ms n) → IsIn m ms ⊎ (n ≡ m)
IsIn-with_number [] n m (inl e) = inr e
IsIn-with_number [] n m (inr none) = absurd none
IsIn-with_number (k ∷ ks) n m there = elim (cases_Bool (k == n)) [
  | inl same ↦ inl (rw same at there)
  | inr other ↦ elim (cases_Bool (nat_lt n k)) [
    | inl before ↦
        let there' : IsIn m (n ∷ k ∷ ks) = rw (other, before) at there in
        elim there' [ inl e ↦ inr e | inr later ↦ inl later ]
    | inr behind ↦
        let there' : IsIn m (k ∷ with_number ks n) = rw (other, behind) at there in
        elim there' [ inl e ↦ inl (inl e) | inr later ↦ elim (IsIn-with_number ks n m later) [ inl old ↦ inl (inr old) | inr e ↦ inr e ] ]
  ]
]

pub written_after-node : (files : List ℕ) (c : Change) (m : ℕ) → IsIn m (written_after files c) → IsIn m files ⊎ (node_of c ≡ m)
written_after-node files c m = go (changes_bytes c || is_make_of_file c) (is_drop c)
  where
    go : (b d : Bool) → IsIn m (if b then with_number files (node_of c) else (if d then without_number files (node_of c) else files)) → IsIn m files ⊎ (node_of c ≡ m)
    go true d = λ there. IsIn-with_number files (node_of c) m there
    go false true = λ there. inl (IsIn-filter (λ k. not (k == node_of c)) files m there).0
    go false false = λ there. inl there

written-from : (cs : List Change) (files : List ℕ) (m : ℕ) → IsIn m (fold written_after files cs) → IsIn m files ⊎ IsIn m (map node_of cs)
written-from [] files m there = inl there
written-from (c ∷ cs) files m there = elim (written-from cs (written_after files c) m there) [
  | inl before ↦ elim (written_after-node files c m before) [ inl old ↦ inl old | inr e ↦ inr (inl e) ]
  | inr later ↦ inr (inr later)
]

-- a file with bytes of a transaction is the node of one of its changes
pub written-node : (cs : List Change) (m : ℕ) → IsIn m (written_files cs) → IsIn m (map node_of cs)
written-node cs m there = elim (written-from cs [] m there) [ inl none ↦ absurd none | inr is ↦ is ]

pub flat_map-same : (f g : ℕ → List Change) (ns : List ℕ) → ((n : ℕ) → IsIn n ns → f n ≡ g n) → flat_map f ns ≡ flat_map g ns
flat_map-same f g [] same = refl
flat_map-same f g (n ∷ ns) same = ap (λ cs. cs ++ flat_map f ns) (same n (inl refl)) ∙ ap (λ cs. g n ++ cs) (flat_map-same f g ns (λ m there. same m (inr there)))

-- what is committed depends on the bytes of the files with bytes alone
pub to_commit-same : (cs : List Change) (by by' : ℕ → List ℕ) → ((n : ℕ) → IsIn n (written_files cs) → by n ≡ by' n) → changes_to_commit cs by ≡ changes_to_commit cs by'
to_commit-same cs by by' same =
    ap (λ ds. filter (λ change. not (changes_bytes change)) cs ++ ds) (flat_map-same (λ file. final_bytes file (by file)) (λ file. final_bytes file (by' file)) (written_files cs) (λ n there. ap (final_bytes n) (same n there)))

-- ---- what a transaction sees of a node depends on that node alone

pub changes_apply-first : (tree : Tree) (as' bs : List Change) → changes_apply tree (as' ++ bs) ≡ true → changes_apply tree as' ≡ true
changes_apply-first tree [] bs all = refl
changes_apply-first tree (c ∷ cs) bs all =
    let parts = and_parts (applies tree c) (changes_apply (changed tree c) (cs ++ bs)) all in and_from _ _ parts.0 (changes_apply-first (changed tree c) cs bs parts.1)

pub node_at-changed_all : (ds : List Change) (tree tree' : Tree) (n : ℕ) → changes_apply tree ds ≡ true → changes_apply tree' ds ≡ true → node_at tree' n ≡ node_at tree n → node_at (changed_all tree' ds) n ≡ node_at (changed_all tree ds) n
node_at-changed_all [] tree tree' n all all' same = same
node_at-changed_all (d ∷ ds) tree tree' n all all' same =
    let parts = and_parts (applies tree d) (changes_apply (changed tree d) ds) all in
    let parts' = and_parts (applies tree' d) (changes_apply (changed tree' d) ds) all' in
    node_at-changed_all ds (changed tree d) (changed tree' d) n parts.1 parts'.1
    (node_at-changed tree' d (Fits-from tree' d (Applies-from tree' d parts'.0)) n ∙ ap (λ o. cond (node_of d == n) (remade d o) o) same ∙ sym (node_at-changed tree d (Fits-from tree d (Applies-from tree d parts.0)) n))

-- names that were changed apply before the bytes do
pub names-apply : (tree : Tree) (cs : List Change) (by : ℕ → List ℕ) → changes_to_commit cs by ≡ cs → changes_apply tree cs ≡ true → changes_apply tree (filter (λ change. not (changes_bytes change)) cs) ≡ true
names-apply tree cs by final all =
    changes_apply-first tree (filter (λ change. not (changes_bytes change)) cs) (flat_map (λ file. final_bytes file (by file)) (written_files cs)) (subst (λ ds. changes_apply tree ds ≡ true) (sym final) all)

-- what each transaction changed is in the form in which it is committed
pub own-final : (x : Present) → IsSoundFiles x → (id : Id) → changes_to_commit (own_changes x.files.table.own id) (bytes_seen x.files (Some id)) ≡ own_changes x.files.table.own id
own-final x sound id = own_changes-by (λ ds. changes_to_commit ds (bytes_seen x.files (Some id)) ≡ ds) x.files.table.own id refl (λ o there is.
    subst (λ i. changes_to_commit o.changes (bytes_seen x.files (Some i)) ≡ o.changes) is
    (All-in (λ (p : OwnChanges). changes_to_commit p.changes (bytes_seen x.files (Some p.transaction)) ≡ p.changes) x.files.table.own sound.own_final o there))

-- a number that a transaction made was drawn
pub drawn-made : (x : Present) → IsSoundFiles x → (id : Id) (n : ℕ) → IsIn n (numbers_made (own_changes x.files.table.own id)) → is_drawn_node x.files n ≡ true
drawn-made x sound id n there =
    let cs = own_changes x.files.table.own id in
    list_all-at (is_drawn_node x.files) (numbers_made cs) (own_changes-by (λ ds. list_all (is_drawn_node x.files) (numbers_made ds) ≡ true) x.files.table.own id refl (λ o has e.
    list_all-at (λ (o : OwnChanges). list_all (is_drawn_node x.files) (numbers_made o.changes)) x.files.table.own sound.own_drawn o has)) n there

pub made-in : (cs : List Change) (n : ℕ) → has_made cs n ≡ true → IsIn n (numbers_made cs)
made-in cs n made =
    let found = list_any-at (λ change. is_make change && node_of change == n) cs made in
    let is = and_parts (is_make found.0) (node_of found.0 == n) found.2 in
    subst (λ m. IsIn m (numbers_made cs)) (eqb-true _ _ is.1) (IsIn-flat_map (λ change. filter (λ n. is_make change) (node_of change ∷ [])) cs found.0 (node_of found.0) found.1
    (IsIn-kept (λ n. is_make found.0) (node_of found.0 ∷ []) (node_of found.0) (inl refl) is.0))

-- a change makes its node
pub made-number : (cs : List Change) (c : Change) → IsIn c cs → is_make c ≡ true → IsIn (node_of c) (numbers_made cs)
made-number cs c there make = made-in cs (node_of c) (list_any-from (λ change. is_make change && node_of change == node_of c) cs c there (and_from _ _ make (eq-eqb (node_of c) (node_of c) refl)))

-- the first open of a file that a transaction has
pub first_open-found : (fs : List FirstOpen) (id : Id) (file : ℕ) → is_some (first_open_of fs id file) ≡ true → (f : FirstOpen) × IsIn f fs × (f.transaction ≡ id) × (f.file ≡ file) × (first_open_of fs id file ≡ Some f)
first_open-found [] id file some = absurd (true≢false (sym some))
first_open-found (f ∷ fs) id file some = elim (cases_Bool (same_id f.transaction id && f.file == file)) [
  | inl here ↦ let parts = and_parts (same_id f.transaction id) (f.file == file) here in (f, inl refl, same_id-equal f.transaction id parts.0, eqb-true _ _ parts.1, rw here refl)
  | inr later ↦ let rest = first_open-found fs id file (rw later at some) in (rest.0, inr rest.1, rest.2, rest.3, rw later rest.4)
]

-- a file that a transaction made or first opened was drawn
pub drawn-node : (x : Present) → IsSoundFiles x → (id : Id) (n : ℕ) → made_or_opened x.files id n ≡ true → is_drawn_node x.files n ≡ true
drawn-node x sound id n is = elim (or_cases (has_made (own_changes x.files.table.own id) n) _ is) [
  | inl made ↦ drawn-made x sound id n (made-in (own_changes x.files.table.own id) n made)
  | inr opened ↦
      let f = first_open-found x.files.first_opens id n opened in
      subst (λ m. is_drawn_node x.files m ≡ true) f.3 (list_all-at (λ (p : FirstOpen). is_drawn_node x.files p.file) x.files.first_opens sound.first_drawn f.0 f.1)
]

-- ---- numbers

-- a node that is there, or that a transaction changed, has a number that was drawn
pub in-tree-drawn : (x : Present) → IsSoundFiles x → (n : ℕ) → is_some (node_at x.files.tree n) ≡ true → is_drawn_node x.files n ≡ true
in-tree-drawn x sound n some = go (node_at x.files.tree n) refl some
  where
    go : (o : Option Node) → node_at x.files.tree n ≡ o → is_some o ≡ true → is_drawn_node x.files n ≡ true
    go None found some = absurd (true≢false (sym some))
    go (Some node) found some =
        let at = find-in (has_number n) x.files.tree node found in
        subst (λ m. is_drawn_node x.files m ≡ true) (eqb-true _ _ at.1) (list_all-at (λ (k : Node). is_drawn_node x.files k.number) x.files.tree sound.tree_drawn node at.0)

pub own-drawn : (x : Present) → IsSoundFiles x → (id : Id) (n : ℕ) → IsIn n (map node_of (own_changes x.files.table.own id)) → is_drawn_node x.files n ≡ true
own-drawn x sound id n there = let mine = own_changes x.files.table.own id in elim (found-or-made mine x.files.tree (own-apply x sound id) n there) [
  | inl found ↦ in-tree-drawn x sound n found
  | inr (c, in_mine, make, at) ↦ drawn-made x sound id n (subst (λ m. IsIn m (numbers_made mine)) at (made-number mine c in_mine make))
]

pub next-enough : (cs : List Change) (next : ℕ) → ((n : ℕ) → IsIn n (numbers_made cs) → n < next) → next_after_all next cs ≤ next
next-enough [] next below = omega arith
next-enough (Make node parent kind name ∷ cs) next below =
    let e : max next (node + 1) ≡ next = omega (arith, below node (inl refl)) in
    subst (λ m. next_after_all m cs ≤ next) (sym e) (next-enough cs next (λ n there. below n (inr there)))
next-enough (Put node offset contents ∷ cs) next below = next-enough cs next below
next-enough (Cut node size pages ∷ cs) next below = next-enough cs next below
next-enough (Move node parent name ∷ cs) next below = next-enough cs next below
next-enough (Drop node ∷ cs) next below = next-enough cs next below

-- ---- changes of others are committed

-- the files after changes are committed, with what is kept of own changes, first opens and open files
abbrev pub passed : FilesNow → List Change → (Option Id → Bool) → ℕ → FilesNow
passed files cs keep next = record {
  tree = (fold with_change (committed_files files []) cs).tree;
  versions = (fold with_change (committed_files files []) cs).versions;
  first_opens = filter (λ f. keep (Some f.transaction)) files.first_opens;
  table = record files.table { own = filter (λ o. keep (Some o.transaction)) files.table.own; opens = filter (λ o. keep o.transaction) files.table.opens; next_node = next };
}

-- changes that hold nothing that the undecided transactions hold that are kept, nor a file that a plain handle may write
pub record Spares (x : Present) (cs : List Change) (keep : Option Id → Bool) (last : ℕ) : Type 0 where
  pub all : changes_apply x.files.tree cs ≡ true
  pub apart : (v : Transaction) → IsIn v (others_undecided x.transactions.items None) → keep (Some v.id) ≡ true → AreFootprintsApart (footprint x.files.tree cs) (footprint x.files.tree (own_changes x.files.table.own v.id))
  pub clear : (v : Transaction) → IsIn v (others_undecided x.transactions.items None) → keep (Some v.id) ≡ true → (n : ℕ) → is_drawn_node x.files n ≡ true → IsIn n (map node_of cs) → is_in (holds_now x.files v.id).nodes n ≡ true → ⊥
  pub fresh : (o : FirstOpen) → IsIn o x.files.first_opens → keep (Some o.transaction) ≡ true → (c : Change) → IsIn c cs → is_make c ≡ true → node_of c ≡ o.file → ⊥
  pub plain : (o : OpenFile) → IsIn o x.files.table.opens → is_none o.transaction ≡ true → writes o.access ≡ true → is_file (changed_all x.files.tree cs) o.node ≡ true
  pub next : next_after_all x.files.table.next_node cs ≤ last
  pub next_to : last ≤ 2 ^ 63

-- changes have been committed, and the transactions that are kept are those that are undecided still
pub record Passes (x y : Present) (cs : List Change) (keep : Option Id → Bool) (last : ℕ) : Type 0 where
  pub files : y.files ≡ passed x.files cs keep last
  pub boots : y.recorded.boots ≡ x.recorded.boots
  pub handles : (o : OpenFile) → IsIn o x.files.table.opens → keep o.transaction ≡ true → has_handle y.handles (Object.File o.number) ≡ true
  pub undecided : (id : Id) → keep (Some id) ≡ true → is_undecided_in x.transactions.items id ≡ true → is_undecided_in y.transactions.items id ≡ true
  pub those : (u : Transaction) → IsIn u (others_undecided y.transactions.items None) → (v : Transaction) × IsIn v (others_undecided x.transactions.items None) × (v.id ≡ u.id) × (keep (Some u.id) ≡ true)

module _ (lists : ListsLaw) (formed : FormedLaw) (x y : Present) (cs : List Change) (keep : Option Id → Bool) (next : ℕ) (sound : IsSoundFiles x) (spares : Spares x cs keep next) (step : Passes x y cs keep next) where
  abbrev z : Present
  z = record y { files = passed x.files cs keep next }

  abbrev Kept : Id → Type 0
  Kept id = (keep (Some id) ≡ true) × ((v : Transaction) × IsIn v (others_undecided x.transactions.items None) × (v.id ≡ id))

  tree-is : z.files.tree ≡ changed_all x.files.tree cs
  tree-is = tree-of cs (committed_files x.files [])

  more : x.files.table.next_node ≤ next
  more = omega (arith, next-rises cs x.files.table.next_node, spares.next)

  apart-of : (id : Id) → Kept id → AreFootprintsApart (footprint x.files.tree cs) (footprint x.files.tree (own_changes x.files.table.own id))
  apart-of id kept =
      let v = kept.1 in
      subst (λ i. AreFootprintsApart (footprint x.files.tree cs) (footprint x.files.tree (own_changes x.files.table.own i))) v.2 (spares.apart v.0 v.1 (subst (λ i. keep (Some i) ≡ true) (sym v.2) kept.0))

  clear-of : (id : Id) → Kept id → (n : ℕ) → is_drawn_node x.files n ≡ true → is_in (holds_now x.files id).nodes n ≡ true → IsIn n (map node_of cs) → ⊥
  clear-of id kept n drawn held there =
      let v = kept.1 in
      spares.clear v.0 v.1 (subst (λ i. keep (Some i) ≡ true) (sym v.2) kept.0) n drawn there (subst (λ i. is_in (holds_now x.files i).nodes n ≡ true) (sym v.2) held)

  own-left : (id : Id) → keep (Some id) ≡ true → own_changes z.files.table.own id ≡ own_changes x.files.table.own id
  own-left id kept = own_changes-left (λ o. keep (Some o.transaction)) x.files.table.own id (λ o same. subst (λ i. keep (Some i) ≡ true) (sym (same_id-equal o.transaction id same)) kept)

  first-left : (id : Id) → keep (Some id) ≡ true → (file : ℕ) → first_open_of z.files.first_opens id file ≡ first_open_of x.files.first_opens id file
  first-left id kept file = first_open_of-left (λ f. keep (Some f.transaction)) x.files.first_opens id file (λ f same. subst (λ i. keep (Some i) ≡ true) (sym (same_id-equal f.transaction id same)) kept)

  written-left : (id : Id) → keep (Some id) ≡ true → written_by z.files.table.opens id ≡ written_by x.files.table.opens id
  written-left id kept = written_by-left (λ o. keep o.transaction) x.files.table.opens id (λ o of. go o.transaction of)
    where
      go : (t : Option Id) → is_of id t ≡ true → keep t ≡ true
      go None of = absurd (true≢false (sym of))
      go (Some i) of = subst (λ j. keep (Some j) ≡ true) (same_id-equal id i of) kept

  left : (id : Id) → Kept id → IsLeft x.files z.files id
  left id kept = left-by lists x.files z.files cs id sound.formed spares.all (own-apply x sound id) (apart-of id kept) tree-is (own-left id kept.0) (first-left id kept.0) (written-left id kept.0)

  -- ---- entries that are kept

  own-kept : (o : OwnChanges) → IsIn o z.files.table.own → IsIn o x.files.table.own × Kept o.transaction
  own-kept o there =
      let kept = IsIn-filter (λ (p : OwnChanges). keep (Some p.transaction)) x.files.table.own o there in
      (kept.0, (kept.1, undecided-entry x.transactions.items o.transaction (list_all-at (λ (p : OwnChanges). is_undecided_in x.transactions.items p.transaction) x.files.table.own sound.own_undecided o kept.0)))

  first-kept : (o : FirstOpen) → IsIn o z.files.first_opens → IsIn o x.files.first_opens × Kept o.transaction
  first-kept o there =
      let kept = IsIn-filter (λ (p : FirstOpen). keep (Some p.transaction)) x.files.first_opens o there in
      (kept.0, (kept.1, undecided-entry x.transactions.items o.transaction (and_parts _ (o.transaction.boot == x.recorded.boots) (list_all-at (λ (p : FirstOpen). is_undecided_in x.transactions.items p.transaction && p.transaction.boot == x.recorded.boots) x.files.first_opens sound.first_undecided o kept.0)).0))

  open-kept : (o : OpenFile) → IsIn o z.files.table.opens → IsIn o x.files.table.opens × (keep o.transaction ≡ true)
  open-kept o there = IsIn-filter (λ (p : OpenFile). keep p.transaction) x.files.table.opens o there

  changes-of : (o : OwnChanges) → IsIn o x.files.table.own → own_changes x.files.table.own o.transaction ≡ o.changes
  changes-of o there = own_changes-of x.files.table.own sound.own_once o there

  final : All (λ o. changes_to_commit o.changes (bytes_seen z.files (Some o.transaction)) ≡ o.changes) z.files.table.own
  final = All-by _ z.files.table.own (λ o there.
      let kept = own-kept o there in
      to_commit-same o.changes (bytes_seen z.files (Some o.transaction)) (bytes_seen x.files (Some o.transaction)) (λ n written. (left o.transaction kept.1).bytes n (or_right _ _
      (subst (λ ds. is_in (map node_of ds) n ≡ true) (sym (changes-of o kept.0)) (list_any-from (λ m. m == n) (map node_of o.changes) n (written-node o.changes n written) (eq-eqb n n refl)))))
      ∙ All-in (λ (p : OwnChanges). changes_to_commit p.changes (bytes_seen x.files (Some p.transaction)) ≡ p.changes) x.files.table.own sound.own_final o kept.0)

  made-same : (id : Id) → keep (Some id) ≡ true → (n : ℕ) → made_or_opened z.files id n ≡ made_or_opened x.files id n
  made-same id kept n = ap (λ ds. has_made ds n || is_some (first_open_of z.files.first_opens id n)) (own-left id kept) ∙ ap (λ f. has_made (own_changes x.files.table.own id) n || is_some f) (first-left id kept n)

  opened : (o : OwnChanges) → IsIn o z.files.table.own → list_all (is_change_of_opened z o.transaction) o.changes ≡ true
  opened o there =
      let kept = own-kept o there in
      list_all-from (is_change_of_opened z o.transaction) o.changes (λ c has.
      ap (λ m. not (changes_bytes c) || not (o.transaction.boot == z.recorded.boots) || m) (made-same o.transaction kept.1.0 (node_of c))
      ∙ ap (λ b. not (changes_bytes c) || not (o.transaction.boot == b) || made_or_opened x.files o.transaction (node_of c)) step.boots
      ∙ list_all-at (is_change_of_opened x o.transaction) o.changes (list_all-at (λ (p : OwnChanges). list_all (is_change_of_opened x p.transaction) p.changes) x.files.table.own sound.own_opened o kept.0) c has)

  drawn-more : (n : ℕ) → is_drawn_node x.files n ≡ true → is_drawn_node z.files n ≡ true
  drawn-more n drawn = let parts = and_parts (nat_le 2 n) (nat_lt n x.files.table.next_node) drawn in and_from _ _ parts.0 (lt-ltb n next (omega (arith, more, ltb-true n x.files.table.next_node parts.1)))

  new : (o : OwnChanges) → IsIn o z.files.table.own → list_all (λ n. is_none (node_at z.files.tree n)) (numbers_made o.changes) ≡ true
  new o there =
      let kept = own-kept o there in
      list_all-from _ (numbers_made o.changes) (λ n made.
      let mine : IsIn n (map node_of (own_changes x.files.table.own o.transaction)) = subst (λ ds. IsIn n (map node_of ds)) (sym (changes-of o kept.0)) (made-node o.changes n made) in
      ap is_none (ap (λ t. node_at t n) tree-is ∙ node-elsewhere cs x.files.tree n spares.all (λ there'. (apart-of o.transaction kept.1).nodes n there' mine))
      ∙ list_all-at (λ n. is_none (node_at x.files.tree n)) (numbers_made o.changes)
      (list_all-at (λ (p : OwnChanges). list_all (λ n. is_none (node_at x.files.tree n)) (numbers_made p.changes)) x.files.table.own sound.own_new o kept.0) n made)

  -- ---- first opens

  shown : (o : FirstOpen) → IsIn o x.files.first_opens → Shows x.files.tree x.files.versions o
  shown o there = record {
    was = λ file. elim (or_cases (not (is_file x.files.tree o.file)) _ (list_all-at (λ (p : FirstOpen). not (is_file x.files.tree p.file) || nat_le p.version (version_of x.files.versions p.file)) x.files.first_opens sound.first_versions o there)) [
      | inl none ↦ absurd (true≢false (sym file ∙ not-true _ none))
      | inr is ↦ leb-true _ _ is
    ];
    bytes = λ file last. All-in (λ (p : FirstOpen). is_last_version x.files p ≡ true → p.bytes ≡ bytes_of x.files.tree p.file) x.files.first_opens sound.first_bytes o there (and_from _ _ file (eq-eqb _ _ last));
  }

  versions-fit : FitVersions x.files.tree x.files.versions
  versions-fit = record {
    rise = sound.versions_rise;
    each = λ v there. let parts = and_parts (is_file x.files.tree v.file) (nat_le 1 v.count) (list_all-at (λ (u : Version). is_file x.files.tree u.file && nat_le 1 u.count) x.files.versions sound.versions_there v there) in (parts.0, leb-true 1 v.count parts.1);
  }

  fit-now : FitVersions z.files.tree z.files.versions
  fit-now = fit-all cs (committed_files x.files []) spares.all versions-fit

  shows-now : (o : FirstOpen) → IsIn o z.files.first_opens → Shows z.files.tree z.files.versions o
  shows-now o there =
      let kept = first-kept o there in
      shows-all cs (committed_files x.files []) o spares.all versions-fit (spares.fresh o kept.0 kept.1.0) (shown o kept.0)

  first-last : (o : FirstOpen) → IsIn o z.files.first_opens → is_open_last z.files o ≡ true
  first-last o there =
      let kept = first-kept o there in
      let t = o.transaction in
      ap (λ h. not (is_in h.nodes o.file) || is_last_version z.files o) (left t kept.1).holds
      ∙ go (cases_Bool (is_in (holds_now x.files t).nodes o.file)) kept (list_all-at (is_open_last x.files) x.files.first_opens sound.first_last o kept.0)
    where
      last-same : (IsIn o.file (map node_of cs) → ⊥) → is_last_version z.files o ≡ is_last_version x.files o
      last-same other = ap (λ n. is_some (content_of n) && o.version == version_of z.files.versions o.file) (ap (λ t. node_at t o.file) tree-is ∙ node-elsewhere cs x.files.tree o.file spares.all other)
          ∙ ap (λ v. is_file x.files.tree o.file && o.version == v) (version-all cs (committed_files x.files []) o.file other)

      go : (is_in (holds_now x.files o.transaction).nodes o.file ≡ true) ⊎ (is_in (holds_now x.files o.transaction).nodes o.file ≡ false) → IsIn o x.files.first_opens × Kept o.transaction → is_open_last x.files o ≡ true
          → (not (is_in (holds_now x.files o.transaction).nodes o.file) || is_last_version z.files o) ≡ true
      go (inr free) kept was = or_left _ _ (not_from_false _ free)
      go (inl held) kept was =
          ap (λ b. not (is_in (holds_now x.files o.transaction).nodes o.file) || b) (last-same (clear-of o.transaction kept.1 o.file (list_all-at (λ (p : FirstOpen). is_drawn_node x.files p.file) x.files.first_opens sound.first_drawn o kept.0) held)) ∙ was

  -- ---- the tree

  numbers-drawn : (node : Node) → IsIn node z.files.tree → is_drawn_node z.files node.number ≡ true
  numbers-drawn node there =
      let there' : IsIn node (changed_all x.files.tree cs) = subst (IsIn node) tree-is there in
      let well : IsWellFormed (changed_all x.files.tree cs) = formed.1 x.files.tree cs sound.formed spares.all in
      let below = list_all-at (λ (n : Node). nat_lt n.number (next_after_all x.files.table.next_node cs)) (changed_all x.files.tree cs) (below-changed_all cs x.files.table.next_node x.files.tree
      (list_all-from _ x.files.tree (λ n has. (and_parts (nat_le 2 n.number) _ (list_all-at (λ (n : Node). is_drawn_node x.files n.number) x.files.tree sound.tree_drawn n has)).1))) node there' in
      and_from _ _ (le-leb 2 node.number (All-in (λ (n : Node). 2 ≤ n.number) (changed_all x.files.tree cs) well.numbers node there'))
      (lt-ltb node.number next (omega (arith, spares.next, ltb-true node.number (next_after_all x.files.table.next_node cs) below)))

  -- ---- open files

  plain-well : (o : OpenFile) → IsIn o x.files.table.opens → is_plain_well z.files o ≡ true
  plain-well o there = elim (or_cases (not (is_none o.transaction)) _ (list_all-at (is_plain_well x.files) x.files.table.opens sound.opens_plain o there)) [
    | inl own ↦ or_left _ _ own
    | inr both ↦
        let parts = and_parts (is_drawn_node x.files o.node) (not (writes o.access) || is_file x.files.tree o.node) both in
        go (is_none o.transaction) (writes o.access) refl refl (drawn-more o.node parts.0)
  ]
    where
      go : (p w : Bool) → is_none o.transaction ≡ p → writes o.access ≡ w → is_drawn_node z.files o.node ≡ true → (not (is_none o.transaction) || (is_drawn_node z.files o.node && (not (writes o.access) || is_file z.files.tree o.node))) ≡ true
      go false w plain may drawn = or_left _ _ (not_from_false _ plain)
      go true false plain may drawn = or_right _ _ (and_from _ _ drawn (or_left _ _ (not_from_false _ may)))
      go true true plain may drawn = or_right _ _ (and_from _ _ drawn (or_right _ _ (ap (λ t. is_file t o.node) tree-is ∙ spares.plain o there plain may)))

  -- a transaction sees a node that it holds as before
  seen-same : (id : Id) → Kept id → (n : ℕ) → is_drawn_node x.files n ≡ true → is_in (holds_now x.files id).nodes n ≡ true → node_at (tree_seen z.files (Some id)) n ≡ node_at (tree_seen x.files (Some id)) n
  seen-same id kept n drawn held =
      let mine = own_changes x.files.table.own id in
      let names = filter (λ change. not (changes_bytes change)) mine in
      let applies' : changes_apply z.files.tree mine ≡ true = subst (λ ds. changes_apply z.files.tree ds ≡ true) (own-left id kept.0) (left id kept).applies in
      ap (λ ds. node_at (changed_all z.files.tree (filter (λ change. not (changes_bytes change)) ds)) n) (own-left id kept.0)
      ∙ node_at-changed_all names x.files.tree z.files.tree n
      (names-apply x.files.tree mine (bytes_seen x.files (Some id)) (own-final x sound id) (own-apply x sound id))
      (names-apply z.files.tree mine (bytes_seen x.files (Some id)) (own-final x sound id) applies')
      (ap (λ t. node_at t n) tree-is ∙ node-elsewhere cs x.files.tree n spares.all (clear-of id kept n drawn held))

  own-well : (o : OpenFile) → IsIn o x.files.table.opens → keep o.transaction ≡ true → is_own_well z o ≡ true
  own-well o there stays = go o.transaction refl stays (list_all-at (is_own_well x) x.files.table.opens sound.opens_own o there)
    where
      go : (t : Option Id) → o.transaction ≡ t → keep t ≡ true → may_use x o t ≡ true → may_use z o t ≡ true
      go None of kept well = refl
      go (Some id) of kept well =
          let e = and_parts _ (not (writes o.access) || is_file (tree_seen x.files (Some id)) o.node) well in
          let d = and_parts _ (not (has_dropped (own_changes x.files.table.own id) o.node)) e.0 in
          let c = and_parts _ (made_or_opened x.files id o.node) d.0 in
          let b = and_parts (is_undecided_in x.transactions.items id) (id.boot == x.recorded.boots) c.0 in
          let is : Kept id = (kept, undecided-entry x.transactions.items id b.0) in
          let held : writes o.access ≡ true → is_in (holds_now x.files id).nodes o.node ≡ true = λ may.
          list_any-from (λ m. m == o.node) (holds_now x.files id).nodes o.node (IsIn-right o.node (map node_of (own_changes x.files.table.own id)) (written_by x.files.table.opens id)
          (IsIn-map (λ (p : OpenFile). p.node) o (filter (λ p. is_of id p.transaction && writes p.access) x.files.table.opens)
          (IsIn-kept (λ p. is_of id p.transaction && writes p.access) x.files.table.opens o there (and_from _ _ (subst (λ t. is_of id t ≡ true) (sym of) (same_id-from id id refl)) may)))) (eq-eqb o.node o.node refl) in
          and_from _ _ (and_from _ _ (and_from _ _ (and_from _ _ (step.undecided id kept b.0) (ap (λ n. id.boot == n) step.boots ∙ b.1)) (made-same id kept o.node ∙ c.1))
          (ap (λ ds. not (has_dropped ds o.node)) (own-left id kept) ∙ d.1))
          (elim (cases_Bool (writes o.access)) [
            | inl may ↦ ap (λ k. not (writes o.access) || is_some (content_of k)) (seen-same id is o.node (drawn-node x sound id o.node c.1) (held may)) ∙ e.1
            | inr not' ↦ or_left _ _ (not_from_false _ not')
          ])

  held-by : (id : Id) (n : ℕ) → is_in (map node_of (own_changes x.files.table.own id)) n ≡ true → is_in (holds_now x.files id).nodes n ≡ true
  held-by id n has = let mine = map node_of (own_changes x.files.table.own id) in
      let found = list_any-at (λ m. m == n) mine has in list_any-from (λ m. m == n) (holds_now x.files id).nodes found.0 (IsIn-left found.0 mine (written_by x.files.table.opens id) found.1) found.2

  -- a file that a transaction made or first opened becomes no directory in what it sees
  no-directory : (id : Id) → Kept id → (n : ℕ) → is_drawn_node x.files n ≡ true → ((c : Change) → IsIn c cs → (IsIn n (map node_of (own_changes x.files.table.own id)) → ⊥) → MakesNot c n)
      → is_no_directory x.files n id ≡ true → is_no_directory z.files n id ≡ true
  no-directory id kept n drawn others_undecided was =
      let mine = own_changes x.files.table.own id in
      let names = filter (λ change. not (changes_bytes change)) mine in
      let applies : changes_apply x.files.tree names ≡ true = names-apply x.files.tree mine (bytes_seen x.files (Some id)) (own-final x sound id) (own-apply x sound id) in
      let applies' : changes_apply z.files.tree names ≡ true = names-apply z.files.tree mine (bytes_seen x.files (Some id)) (own-final x sound id) (subst (λ ds. changes_apply z.files.tree ds ≡ true) (own-left id kept.0) (left id kept).applies) in
      elim (cases_Bool (is_in (map node_of mine) n)) [
        | inl held ↦ ap (λ o. not (is_directory_at n o)) (seen-same id kept n drawn (held-by id n held)) ∙ was
        | inr free ↦
            let outside : IsIn n (map node_of mine) → ⊥ = λ there. eqb-false n n (no_test (λ m. m == n) n (map node_of mine) free there) refl in
            let beside : IsIn n (map node_of names) → ⊥ = λ there. let from = IsIn-unmap node_of n names there in outside (subst (λ m. IsIn m (map node_of mine)) from.1 (IsIn-map node_of from.0 mine (IsIn-filter (λ change. not (changes_bytes change)) mine from.0 from.2).0)) in
            ap (λ ds. not (is_directory (changed_all z.files.tree (filter (λ change. not (changes_bytes change)) ds)) n)) (own-left id kept.0) ∙ ap (λ o. not (is_directory_at n o)) (node-elsewhere names z.files.tree n applies' beside) ∙ not_from_false _ (false_from_ne_true _ (λ dir.
            true≢false (sym (directories-were cs x.files.tree spares.all n (λ c there. others_undecided c there outside) (subst (λ t. is_directory t n ≡ true) tree-is dir)) ∙ ap (is_directory_at n) (sym (node-elsewhere names x.files.tree n applies beside)) ∙ not-true _ was)))
      ]

  -- a node that a transaction dropped and does not see it does not see then
  still-gone : (o : OwnChanges) → IsIn o x.files.table.own → Kept o.transaction → list_all (is_gone (tree_of x.files o.transaction)) o.changes ≡ true → list_all (is_gone (tree_of z.files o.transaction)) o.changes ≡ true
  still-gone o there kept gone = list_all-from (is_gone (tree_of z.files o.transaction)) o.changes (λ c has.
      let mine : IsIn (node_of c) (map node_of (own_changes x.files.table.own o.transaction)) = subst (λ ds. IsIn (node_of c) (map node_of ds)) (sym (changes-of o there)) (IsIn-map node_of c o.changes has) in
      ap (λ k. not (is_drop c) || not (node_of c == root || is_some k)) (seen-same o.transaction kept (node_of c) (own-drawn x sound o.transaction (node_of c) mine) (held-by o.transaction (node_of c) (list_any-from (λ m. m == node_of c) (map node_of (own_changes x.files.table.own o.transaction)) (node_of c) mine (eq-eqb (node_of c) (node_of c) refl))))
      ∙ list_all-at (is_gone (tree_of x.files o.transaction)) o.changes gone c has)

  -- a file of an open file in a transaction stays no directory there
  opened-file : (o : OpenFile) → IsIn o x.files.table.opens → keep o.transaction ≡ true → opens_no_directory z.files o.node o.transaction ≡ true
  opened-file o there stays = go o.transaction refl stays (list_all-at (λ (p : OpenFile). opens_no_directory x.files p.node p.transaction) x.files.table.opens sound.opens_files o there) (list_all-at (is_own_well x) x.files.table.opens sound.opens_own o there)
    where
      go : (t : Option Id) → o.transaction ≡ t → keep t ≡ true → opens_no_directory x.files o.node t ≡ true → may_use x o t ≡ true → opens_no_directory z.files o.node t ≡ true
      go None of kept was well = refl
      go (Some id) of kept was well =
          let d = and_parts _ (not (writes o.access) || is_file (tree_seen x.files (Some id)) o.node) well in
          let c = and_parts _ (not (has_dropped (own_changes x.files.table.own id) o.node)) d.0 in
          let b = and_parts _ (made_or_opened x.files id o.node) c.0 in
          let a = and_parts (is_undecided_in x.transactions.items id) (id.boot == x.recorded.boots) b.0 in
          no-directory id (kept, undecided-entry x.transactions.items id a.0) o.node (drawn-node x sound id o.node b.1) (λ c' in_cs outside make at.
          elim (or_cases (has_made (own_changes x.files.table.own id) o.node) (is_some (first_open_of x.files.first_opens id o.node)) b.1) [
            | inl made ↦ outside (made-node (own_changes x.files.table.own id) o.node (made-in (own_changes x.files.table.own id) o.node made))
            | inr opened ↦
                let f = first_open-found x.files.first_opens id o.node opened in
                spares.fresh f.0 f.1 (subst (λ i. keep (Some i) ≡ true) (sym f.2) kept) c' in_cs make (at ∙ sym f.3)
          ]) was

  -- ---- all of it

  those-kept : (u : Transaction) → IsIn u (undecided z) → Kept u.id
  those-kept u there = let v = step.those u there in (v.3, (v.0, v.1, v.2))

  apart-now : all_files_apart z ≡ true
  apart-now = list_all-from _ (undecided z) (λ t there. list_all-from (files_apart z t) (others_undecided z.transactions.items (Some t.id)) (λ u there'.
      let filtered = IsIn-filter (λ (v : Transaction). is_undecided v && not (is_of v.id (Some t.id))) z.transactions.items u there' in
      let parts = and_parts (is_undecided u) (not (is_of u.id (Some t.id))) filtered.1 in
      let there'' : IsIn u (undecided z) = IsIn-kept (λ (v : Transaction). is_undecided v && not (is_of v.id None)) z.transactions.items u filtered.0 (and_from _ _ parts.0 refl) in
      let v = step.those t there in
      let w = step.those u there'' in
      let other : same_id v.0.id w.0.id ≡ false = same_id-sym w.0.id v.0.id (subst (λ i. same_id w.0.id i ≡ false) (sym v.2) (subst (λ i. same_id i t.id ≡ false) (sym w.2) (not-true _ parts.1))) in
      ap (λ h. are_apart h (holds_now z.files u.id)) (left t.id (those-kept t there)).holds ∙ ap (λ h. are_apart (holds_now x.files t.id) h) (left u.id (those-kept u there'')).holds
      ∙ subst (λ i. are_apart (holds_now x.files i) (holds_now x.files u.id) ≡ true) v.2 (subst (λ i. are_apart (holds_now x.files v.0.id) (holds_now x.files i) ≡ true) w.2 (holds-apart x sound v.0 w.0 v.1 w.1 other))))

  alone-now : (o : OpenFile) → IsIn o x.files.table.opens → is_alone z o ≡ true
  alone-now o there = elim (or_cases (not (is_none o.transaction && writes o.access)) _ (list_all-at (is_alone x) x.files.table.opens sound.writers o there)) [
    | inl none ↦ or_left _ _ none
    | inr free ↦ or_right _ _ (not_from_false _ (none-from (is_touched_by z o.node) (undecided z) (λ u there'.
        let v = step.those u there' in
        let parts = or_parts (is_in (holds_now x.files v.0.id).nodes o.node) (list_any (λ (p : OpenFile). is_of v.0.id p.transaction && p.node == o.node) x.files.table.opens)
        (no_test (is_touched_by x o.node) v.0 (undecided x) (not-true _ free) v.1) in
        or_from _ _ (ap (λ h. is_in h.nodes o.node) (left u.id (those-kept u there')).holds ∙ subst (λ i. is_in (holds_now x.files i).nodes o.node ≡ false) v.2 parts.0)
        (none-from (λ (p : OpenFile). is_of u.id p.transaction && p.node == o.node) z.files.table.opens (λ p has.
        subst (λ i. (is_of i p.transaction && p.node == o.node) ≡ false) v.2 (no_test (λ (p : OpenFile). is_of v.0.id p.transaction && p.node == o.node) p x.files.table.opens parts.1 (open-kept p has).0))))))
  ]

  sound-now : IsSoundFiles z
  sound-now = record {
    own_undecided = list_all-from _ z.files.table.own (λ o there. let kept = own-kept o there in step.undecided o.transaction kept.1.0 (list_all-at (λ (p : OwnChanges). is_undecided_in x.transactions.items p.transaction) x.files.table.own sound.own_undecided o kept.0));
    own_once = each_pair-filter changed_by_two (λ o. keep (Some o.transaction)) x.files.table.own sound.own_once;
    own_some = list_all-left (λ o. has_changes o.changes) (λ o. keep (Some o.transaction)) x.files.table.own sound.own_some;
    own_final = final;
    own_apply = list_all-from _ z.files.table.own (λ o there.
        let kept = own-kept o there in
        subst (λ ds. changes_apply z.files.tree ds ≡ true) (own-left o.transaction kept.1.0 ∙ changes-of o kept.0) (left o.transaction kept.1).applies);
    own_opened = list_all-from _ z.files.table.own opened;
    own_puts = list_all-left (λ o. list_all puts_some o.changes) (λ o. keep (Some o.transaction)) x.files.table.own sound.own_puts;
    own_drawn = list_all-from _ z.files.table.own (λ o there. list_all-from (is_drawn_node z.files) (numbers_made o.changes) (λ n made.
        drawn-more n (list_all-at (is_drawn_node x.files) (numbers_made o.changes) (list_all-at (λ (p : OwnChanges). list_all (is_drawn_node x.files) (numbers_made p.changes)) x.files.table.own sound.own_drawn o (own-kept o there).0) n made)));
    own_new = list_all-from _ z.files.table.own new;
    own_differ = each_pair-filter make_apart (λ o. keep (Some o.transaction)) x.files.table.own sound.own_differ;
    own_gone = list_all-from _ z.files.table.own (λ o there.
        let kept = own-kept o there in
        elim (or_cases (not (o.transaction.boot == x.recorded.boots)) _ (list_all-at (λ (p : OwnChanges). not (p.transaction.boot == x.recorded.boots) || list_all (is_gone (tree_of x.files p.transaction)) p.changes) x.files.table.own sound.own_gone o kept.0)) [
          | inl back ↦ or_left _ _ (ap (λ b. not (o.transaction.boot == b)) step.boots ∙ back)
          | inr gone ↦ or_right _ _ (still-gone o kept.0 kept.1 gone)
        ]);
    first_once = each_pair-filter opened_apart (λ o. keep (Some o.transaction)) x.files.first_opens sound.first_once;
    first_undecided = list_all-from _ z.files.first_opens (λ o there.
        let kept = first-kept o there in
        let parts = and_parts (is_undecided_in x.transactions.items o.transaction) (o.transaction.boot == x.recorded.boots)
        (list_all-at (λ (p : FirstOpen). is_undecided_in x.transactions.items p.transaction && p.transaction.boot == x.recorded.boots) x.files.first_opens sound.first_undecided o kept.0) in
        and_from _ _ (step.undecided o.transaction kept.1.0 parts.0) (ap (λ n. o.transaction.boot == n) step.boots ∙ parts.1));
    first_not_made = list_all-from _ z.files.first_opens (λ o there. list_all-left (λ (p : OwnChanges). not (is_in (numbers_made p.changes) o.file)) (λ p. keep (Some p.transaction)) x.files.table.own
        (list_all-at (λ (o : FirstOpen). list_all (λ p. not (is_in (numbers_made p.changes) o.file)) x.files.table.own) x.files.first_opens sound.first_not_made o (first-kept o there).0));
    first_drawn = list_all-from _ z.files.first_opens (λ o there. drawn-more o.file (list_all-at (λ (o : FirstOpen). is_drawn_node x.files o.file) x.files.first_opens sound.first_drawn o (first-kept o there).0));
    first_versions = list_all-from _ z.files.first_opens (λ o there. elim (cases_Bool (is_file z.files.tree o.file)) [
      | inl file ↦ or_right _ _ (le-leb _ _ ((shows-now o there).was file))
      | inr none ↦ or_left _ _ (not_from_false _ none)
    ]);
    first_bytes = All-by (λ (o : FirstOpen). is_last_version z.files o ≡ true → o.bytes ≡ bytes_of z.files.tree o.file) z.files.first_opens (λ o there last. let parts = and_parts (is_file z.files.tree o.file) (o.version == version_of z.files.versions o.file) last in (shows-now o there).bytes parts.0 (eqb-true _ _ parts.1));
    first_last = list_all-from _ z.files.first_opens first-last;
    first_files = list_all-from _ z.files.first_opens (λ o there.
        let kept = first-kept o there in
        no-directory o.transaction kept.1 o.file (list_all-at (λ (p : FirstOpen). is_drawn_node x.files p.file) x.files.first_opens sound.first_drawn o kept.0)
        (λ c in_cs outside make at. spares.fresh o kept.0 kept.1.0 c in_cs make at) (list_all-at (λ (p : FirstOpen). is_no_directory x.files p.file p.transaction) x.files.first_opens sound.first_files o kept.0));
    formed = subst IsWellFormed (sym tree-is) (formed.1 x.files.tree cs sound.formed spares.all);
    tree_drawn = list_all-from _ z.files.tree numbers-drawn;
    next_from = omega (arith, sound.next_from, more);
    next_to = spares.next_to;
    versions_rise = fit-now.rise;
    versions_there = list_all-from _ z.files.versions (λ v there. let is = fit-now.each v there in and_from _ _ is.0 (le-leb 1 v.count is.1));
    opens_rise = each_pair-filter opens_rise (λ o. keep o.transaction) x.files.table.opens sound.opens_rise;
    opens_drawn = list_all-left (λ o. nat_le 1 o.number && nat_le o.number x.files.table.last_open) (λ o. keep o.transaction) x.files.table.opens sound.opens_drawn;
    opens_named = list_all-from _ z.files.table.opens (λ o there. let kept = open-kept o there in step.handles o kept.0 kept.1);
    opens_plain = list_all-from _ z.files.table.opens (λ o there. plain-well o (open-kept o there).0);
    opens_own = list_all-from _ z.files.table.opens (λ o there. let kept = open-kept o there in own-well o kept.0 kept.1);
    opens_files = list_all-from _ z.files.table.opens (λ o there. let kept = open-kept o there in opened-file o kept.0 kept.1);
    apart = apart-now;
    writers = list_all-from _ z.files.table.opens (λ o there. alone-now o (open-kept o there).0);
  }

  pub passed-sound : IsSoundFiles y
  passed-sound = subst IsSoundFiles (λ i. record y { files = (sym step.files) i }) sound-now

pub spares-none : (x : Present) (keep : Option Id → Bool) → IsSoundFiles x → Spares x [] keep x.files.table.next_node
spares-none x keep sound = record {
  all = refl;
  apart = λ v there kept. apart-from-none x.files.tree (own_changes x.files.table.own v.id);
  clear = λ v there kept n drawn none. absurd none;
  fresh = λ o there kept c none. absurd none;
  plain = λ o there plain may. plain-file x sound o there plain may;
  next = omega arith;
  next_to = sound.next_to;
}
  where
    plain-file : (x : Present) → IsSoundFiles x → (o : OpenFile) → IsIn o x.files.table.opens → is_none o.transaction ≡ true → writes o.access ≡ true → is_file x.files.tree o.node ≡ true
    plain-file x sound o there plain may = elim (or_cases (not (is_none o.transaction)) _ (list_all-at (is_plain_well x.files) x.files.table.opens sound.opens_plain o there)) [
      | inl own ↦ absurd (true≢false (sym plain ∙ not-true _ own))
      | inr both ↦ elim (or_cases (not (writes o.access)) (is_file x.files.tree o.node) (and_parts (is_drawn_node x.files o.node) _ both).1) [ inl not' ↦ absurd (true≢false (sym may ∙ not-true _ not')) | inr file ↦ file ]
    ]

pub not-root : (number : ℕ) → 2 ≤ number → (number == root) ≡ false
not-root number least = ne_eqb number root (λ e. omega (arith, least, e))

-- the next number is of no node
pub next-free : (x : Present) → IsSoundFiles x → is_there x.files.tree x.files.table.next_node ≡ false
next-free x sound = or_from _ _ (not-root x.files.table.next_node sound.next_from) (go x.files.tree (λ node there. ltb-true node.number x.files.table.next_node (and_parts (nat_le 2 node.number) _ (list_all-at (λ (n : Node). is_drawn_node x.files n.number) x.files.tree sound.tree_drawn node there)).1))
  where
    go : (tree : Tree) → ((node : Node) → IsIn node tree → node.number < x.files.table.next_node) → is_some (node_at tree x.files.table.next_node) ≡ false
    go [] below = refl
    go (n ∷ ns) below = rw (ne_eqb n.number x.files.table.next_node (λ e. omega (arith, below n (inl refl), e))) (go ns (λ node there. below node (inr there)))
