-- What holds of each byte that is seen of the files, and of what calls, commits and ends make of them.
use Rattle.std.proofs.Common.{◌≡◌, ℕ, ◌==◌, ◌&&◌, not, Bool, List, [], ◌∷◌, ◌++◌, map, filter, fold, Option, Some, None, All, IfSome, refl, subst, inl, inr}
use Rattle.std.proofs.lemmas.Bool.{cases_Bool, and_parts, eqb-true}
use Rattle.std.proofs.lemmas.List.Elements.{All-append, All-cons, All-filter, All-head, All-map, All-nil, All-push, All-tail}
use Rattle.ktm_base.specs.declared.id.Id.{Id}
use Rattle.ktm_world.specs.declared.change.Change.{Change}
use Rattle.ktm_world.specs.Changes.{changed_all, changes_bytes, has_made, node_of}
use Rattle.ktm_world.specs.Committed.{Committed, Work, committed_with, with_change, with_work}
use Rattle.ktm_world.specs.FileOutcome.{FileOutcome, files_after, next_node_after, openings_of, own_after, with_open, works_of}
use Rattle.ktm_world.specs.Files.{FilesNow, FileTable, FirstOpen, OpenFile, Opening, OwnChanges, bytes_after, bytes_seen, bytes_with, changes_with, committed_files, first_bytes, first_open, first_open_of, fixed_bytes, own_changes, with_own_changes}
use Rattle.ktm_world.specs.HandleCalls.{closed_file}
use Rattle.ktm_world.specs.Transactions.{same_id}
use Rattle.ktm_world.specs.Tree.{Tree}
use Rattle.txf_laws.specs.FileEffects.{forgotten}
use Rattle.txf_laws.specs.Reservations.{files_committed}
use Rattle.txf_laws.proofs.offered.CommitsOfOthers.{All-by, All-in}
use Rattle.txf_laws.proofs.offered.Elements.{find-in}
use Rattle.ktm_replaced.specs.InPlace.{with_own_behind}
use Rattle.ktm_each.specs.Each.{EachFrom, AreZerosSuch, EachOfNode, EachOfTree, EachOfChange, EachOfChanges, EachOfOwn, EachOfFirst, EachOfFiles}
use Rattle.ktm_each.proofs.offered.Trees.{All-one, bytes_of-each, changed-each, changed_all-each, changes_to_commit-each}

module _ (p : ℕ → ℕ → ℕ → Type 0) where
  -- ---- what transactions changed and opened

  own_changes-each : (own : List OwnChanges) (id : Id) → All (EachOfOwn p) own → EachOfChanges p (own_changes own id)
  own_changes-each [] id all = All-nil (EachOfChange p)
  own_changes-each (o ∷ os) id all = elim (cases_Bool (same_id o.transaction id)) [
    | inl same ↦ rw same (All-head (EachOfOwn p) o os all)
    | inr other ↦ rw other (own_changes-each os id (All-tail (EachOfOwn p) o os all))
  ]

  with_own_changes-each : (own : List OwnChanges) (id : Id) (cs : List Change) → All (EachOfOwn p) own → EachOfChanges p cs → All (EachOfOwn p) (with_own_changes own id cs)
  with_own_changes-each [] id cs all each = All-one (EachOfOwn p) (record { transaction = id; changes = cs }) each
  with_own_changes-each (o ∷ os) id cs all each = elim (cases_Bool (same_id o.transaction id)) [
    | inl same ↦ rw same (All-cons (EachOfOwn p) (record o { changes = cs }) os each (All-tail (EachOfOwn p) o os all))
    | inr other ↦ rw other (All-cons (EachOfOwn p) o (with_own_changes os id cs) (All-head (EachOfOwn p) o os all) (with_own_changes-each os id cs (All-tail (EachOfOwn p) o os all) each))
  ]

  first_open-each : (c : Committed) (o : Opening) → EachOfTree p c.tree → EachOfFirst p (first_open c o)
  first_open-each c o all = bytes_of-each p c.tree o.file all

  with_open-each : (table : FileTable) (o : Option OpenFile) → All (EachOfOwn p) table.own → All (EachOfOwn p) (with_open table o).own
  with_open-each table None all = all
  with_open-each table (Some o) all = all

  -- ---- bytes that are fixed

  fixed_bytes-each : (files : FilesNow) (id : Id) (file : ℕ) (o : Option FirstOpen) → first_open_of files.first_opens id file ≡ o → EachOfFiles p files → EachFrom (p file) 0 (fixed_bytes files file o)
  fixed_bytes-each files id file None found each = bytes_of-each p files.tree file each.tree
  fixed_bytes-each files id file (Some o) found each =
      let there = find-in (λ (x : FirstOpen). same_id x.transaction id && x.file == file) files.first_opens o found in
      subst (λ m. EachFrom (p m) 0 o.bytes) (eqb-true o.file file (and_parts (same_id o.transaction id) (o.file == file) there.1).1)
      (All-in (EachOfFirst p) files.first_opens each.first_opens o there.0)

  first_bytes-each : (files : FilesNow) (id : Id) (cs : List Change) (file : ℕ) → EachOfFiles p files → EachFrom (p file) 0 (first_bytes files id cs file)
  first_bytes-each files id cs file each = elim (cases_Bool (has_made cs file)) [
    | inl made ↦ rw made tt
    | inr other ↦ rw other (fixed_bytes-each files id file (first_open_of files.first_opens id file) refl each)
  ]

  -- ---- ends

  pub forgotten-each : (files : FilesNow) (id : Id) → EachOfFiles p files → EachOfFiles p (forgotten files id)
  forgotten-each files id each = record {
    tree = each.tree;
    own = All-filter (λ o. not (same_id o.transaction id)) (EachOfOwn p) files.table.own each.own;
    first_opens = All-filter (λ o. not (same_id o.transaction id)) (EachOfFirst p) files.first_opens each.first_opens;
  }

  pub closed-each : (files : FilesNow) (number : ℕ) → EachOfFiles p files → EachOfFiles p (record files { table = closed_file files.table number })
  closed-each files number each = record { tree = each.tree; own = each.own; first_opens = each.first_opens }

  pub with_own_behind-each : (files : FilesNow) (id : Id) (cs : List Change) → EachOfFiles p files → EachOfChanges p cs → EachOfFiles p (with_own_behind files id cs)
  with_own_behind-each files id cs each puts = record {
    tree = each.tree;
    own = All-push (EachOfOwn p) files.table.own (record { transaction = id; changes = cs }) each.own puts;
    first_opens = each.first_opens;
  }

-- ---- what is seen, and what is committed

module _ (p : ℕ → ℕ → ℕ → Type 0) (zeros : AreZerosSuch p) where
  bytes_after-each : (bytes : List ℕ) (file : ℕ) (cs : List Change) → EachFrom (p file) 0 bytes → EachOfChanges p cs → EachFrom (p file) 0 (bytes_after bytes file cs)
  bytes_after-each bytes file cs is each =
      bytes_of-each p (changed_all alone (filter its cs)) file
      (changed_all-each p zeros alone (filter its cs) (All-one (EachOfNode p) (record { number = file; parent = 1; name = []; content = Some bytes }) is) (All-filter its (EachOfChange p) cs each))
    where
      alone : Tree
      alone = record { number = file; parent = 1; name = []; content = Some bytes } ∷ []

      its : Change → Bool
      its c = changes_bytes c && node_of c == file

  pub bytes_with-each : (files : FilesNow) (id : Id) (cs : List Change) (file : ℕ) → EachOfFiles p files → EachOfChanges p cs → EachFrom (p file) 0 (bytes_with files id cs file)
  bytes_with-each files id cs file each puts = bytes_after-each (first_bytes files id cs file) file cs (first_bytes-each p files id cs file each) puts

  pub bytes_seen-each : (files : FilesNow) (who : Option Id) (file : ℕ) → EachOfFiles p files → EachFrom (p file) 0 (bytes_seen files who file)
  bytes_seen-each files None file each = bytes_of-each p files.tree file each.tree
  bytes_seen-each files (Some id) file each = bytes_with-each files id (own_changes files.table.own id) file each (own_changes-each p files.table.own id each.own)

  pub changes_with-each : (files : FilesNow) (id : Id) (c : Change) → EachOfFiles p files → EachOfChange p c → EachOfChanges p (changes_with files id c)
  changes_with-each files id c each puts = changes_to_commit-each p cs (bytes_with files id cs) all (λ file. bytes_with-each files id cs file each all)
    where
      cs : List Change
      cs = own_changes files.table.own id ++ c ∷ []

      all : EachOfChanges p cs
      all = All-push (EachOfChange p) (own_changes files.table.own id) c (own_changes-each p files.table.own id each.own) puts

  -- ---- works

  with_changes-each : (c : Committed) (cs : List Change) → EachOfTree p c.tree → EachOfChanges p cs → EachOfTree p (fold with_change c cs).tree
  with_changes-each c [] all each = all
  with_changes-each c (change ∷ cs) all each =
      with_changes-each (with_change c change) cs (changed-each p zeros c.tree change all (All-head (EachOfChange p) change cs each)) (All-tail (EachOfChange p) change cs each)

  committed_with-each : (c : Committed) (works : List Work) → EachOfTree p c.tree → All (λ work. EachOfChanges p work.changes) works → EachOfTree p (committed_with c works).tree
  committed_with-each c [] all each = all
  committed_with-each c (work ∷ works) all each =
      committed_with-each (with_work c work) works (with_changes-each c work.changes all (All-head (λ w. EachOfChanges p w.changes) work works each)) (All-tail (λ w. EachOfChanges p w.changes) work works each)

  works_of-each : (who : Option Id) (change : Option Change) → IfSome change (EachOfChange p) → All (λ work. EachOfChanges p work.changes) (works_of who change)
  works_of-each None None puts = All-nil (λ work. EachOfChanges p work.changes)
  works_of-each None (Some change) puts =
      All-one (λ work. EachOfChanges p work.changes) (record { transaction = None; changes = change ∷ []; settings = [] }) (All-one (EachOfChange p) change puts)
  works_of-each (Some id) None puts = All-nil (λ work. EachOfChanges p work.changes)
  works_of-each (Some id) (Some change) puts = All-nil (λ work. EachOfChanges p work.changes)

  -- ---- the files after a call, and after a commit

  own_after-each : (files : FilesNow) (who : Option Id) (change : Option Change) → EachOfFiles p files → IfSome change (EachOfChange p) → All (EachOfOwn p) (own_after files who change)
  own_after-each files None None each puts = each.own
  own_after-each files None (Some change) each puts = each.own
  own_after-each files (Some id) None each puts = each.own
  own_after-each files (Some id) (Some change) each puts = with_own_changes-each p files.table.own id (changes_with files id change) each.own (changes_with-each files id change each puts)

  pub files_after-each : (files : FilesNow) (who : Option Id) (o : FileOutcome) → EachOfFiles p files → IfSome o.change (EachOfChange p) → EachOfFiles p (files_after files who o)
  files_after-each files who o each puts = record {
    tree = committed_with-each c (works_of who o.change) each.tree (works_of-each who o.change puts);
    own = with_open-each p (record files.table { own = own_after files who o.change; next_node = next_node_after files.table.next_node o.change }) o.opened (own_after-each files who o.change each puts);
    first_opens = All-append (EachOfFirst p) files.first_opens (map (first_open c) (openings_of who o.first)) each.first_opens
        (All-map (EachOfFirst p) (first_open c) (openings_of who o.first) (All-by (λ x. EachOfFirst p (first_open c x)) (openings_of who o.first) (λ x there. first_open-each p c x each.tree)));
  }
    where
      c : Committed
      c = committed_files files []

  pub files_committed-each : (files : FilesNow) (id : Id) → EachOfFiles p files → EachOfFiles p (files_committed files id)
  files_committed-each files id each = record {
    tree = committed_with-each (committed_files files []) (work ∷ []) each.tree (All-one (λ w. EachOfChanges p w.changes) work (own_changes-each p files.table.own id each.own));
    own = ends.own;
    first_opens = ends.first_opens;
  }
    where
      work : Work
      work = record { transaction = Some id; changes = own_changes files.table.own id; settings = [] }

      ends : EachOfFiles p (forgotten files id)
      ends = forgotten-each p files id each
