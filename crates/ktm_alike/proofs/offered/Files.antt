-- What is seen of files with other bytes, and what is committed of them.
use Rattle.std.proofs.Common.{◌≡◌, ℕ, ◌==◌, ◌&&◌, not, Bool, List, [], ◌∷◌, ◌++◌, map, filter, Option, Some, None, refl, sym, ◌∙◌, ap}
use Rattle.std.specs.Prelude.{option_map, if◌then◌else◌}
use Rattle.std.specs.List.{flat_map}
use Rattle.std.proofs.lemmas.List.{map-append}
use Rattle.ktm_base.specs.declared.id.Id.{Id}
use Rattle.ktm_world.specs.declared.change.Change.{Change}
use Rattle.ktm_world.specs.Changes.{changed_all, node_of, changes_bytes, has_made}
use Rattle.ktm_world.specs.Committed.{Committed, Version, Work, version_of, versions_after, with_change, with_work, committed_with, final_bytes, changes_to_commit, written_files, raised_version, without_version}
use Rattle.ktm_world.specs.Files.{OwnChanges, FirstOpen, FilesNow, FileTable, Opening, first_open, own_changes, with_own_changes, without_transaction, first_open_of, is_last_version, tree_of, tree_seen, fixed_bytes, first_bytes, bytes_after, bytes_with, bytes_seen, changes_with}
use Rattle.ktm_world.specs.Transactions.{same_id}
use Rattle.ktm_world.specs.Tree.{Tree, bytes_of, bytes_or_none}
use Rattle.ktm_mapped.specs.Mapped.{IsBlank, mapped_tree, mapped_change}
use Rattle.ktm_mapped.proofs.offered.Lists.{cond-mapped, fold-mapped, find-mapped, filter-mapped}
use Rattle.ktm_mapped.proofs.offered.Trees.{bytes-content, content-there, is_file-mapped, changed-mapped, changed_all-mapped}
use Rattle.ktm_mapped.proofs.offered.Holds.{node_of-mapped, changes_bytes-mapped, is_drop-mapped, has_made-mapped, written_files-mapped}
use Rattle.ktm_alike.specs.Alike.{mapped_own, mapped_first, mapped_table, mapped_files, mapped_committed, mapped_work}

-- the lists of each element, mapped
flat_map-under : {X Z W : Type 0} (of : X → List W) (before : X → List Z) (h : Z → W) → ((x : X) → of x ≡ map h (before x)) → (xs : List X) → flat_map of xs ≡ map h (flat_map before xs)
flat_map-under of before h same [] = refl
flat_map-under of before h same (x ∷ xs) = (λ i. same x i ++ flat_map-under of before h same xs i) ∙ sym (map-append h (before x) (flat_map before xs))

module _ (f : ℕ → ℕ) where
  -- ---- what transactions changed and opened

  pub bytes_of-mapped : (tree : Tree) (file : ℕ) → bytes_of (mapped_tree f tree) file ≡ map f (bytes_of tree file)
  bytes_of-mapped tree file = ap bytes_or_none (content-there f tree file) ∙ bytes-content f _

  pub own_changes-mapped : (own : List OwnChanges) (id : Id) → own_changes (map (mapped_own f) own) id ≡ map (mapped_change f) (own_changes own id)
  own_changes-mapped [] id = refl
  own_changes-mapped (o ∷ os) id =
      (λ i. if same_id o.transaction id then map (mapped_change f) o.changes else own_changes-mapped os id i)
      ∙ cond-mapped (map (mapped_change f)) (same_id o.transaction id) o.changes (own_changes os id)

  pub with_own_changes-mapped : (own : List OwnChanges) (id : Id) (cs : List Change)
      → with_own_changes (map (mapped_own f) own) id (map (mapped_change f) cs) ≡ map (mapped_own f) (with_own_changes own id cs)
  with_own_changes-mapped [] id cs = refl
  with_own_changes-mapped (o ∷ os) id cs =
      (λ i. if same_id o.transaction id then map (mapped_own f) (record o { changes = cs } ∷ os) else mapped_own f o ∷ with_own_changes-mapped os id cs i)
      ∙ cond-mapped (map (mapped_own f)) (same_id o.transaction id) (record o { changes = cs } ∷ os) (o ∷ with_own_changes os id cs)

  pub without_transaction-mapped : (table : FileTable) (id : Id) → without_transaction (mapped_table f table) id ≡ mapped_table f (without_transaction table id)
  without_transaction-mapped table id = λ i. record (without_transaction table id) {
    own = filter-mapped (λ o. not (same_id o.transaction id)) (λ o. not (same_id o.transaction id)) (mapped_own f) (λ o. refl) table.own i;
  }

  pub first_open_of-mapped : (opens : List FirstOpen) (id : Id) (file : ℕ) → first_open_of (map (mapped_first f) opens) id file ≡ option_map (mapped_first f) (first_open_of opens id file)
  first_open_of-mapped opens id file = find-mapped _ _ (mapped_first f) (λ o. refl) opens

  pub is_last_version-mapped : (files : FilesNow) (o : FirstOpen) → is_last_version (mapped_files f files) (mapped_first f o) ≡ is_last_version files o
  is_last_version-mapped files o = λ i. is_file-mapped f files.tree o.file i && o.version == version_of files.versions o.file

  names_only-mapped : (cs : List Change) → filter (λ c. not (changes_bytes c)) (map (mapped_change f) cs) ≡ map (mapped_change f) (filter (λ c. not (changes_bytes c)) cs)
  names_only-mapped cs = filter-mapped _ _ (mapped_change f) (λ c i. not (changes_bytes-mapped f c i)) cs

  -- ---- the form in which changes are committed

  final_bytes-mapped : (file : ℕ) (bytes : List ℕ) → final_bytes file (map f bytes) ≡ map (mapped_change f) (final_bytes file bytes)
  final_bytes-mapped file [] = refl
  final_bytes-mapped file (b ∷ bs) = refl

  pub changes_to_commit-mapped : (cs : List Change) (mapped before : ℕ → List ℕ) → ((file : ℕ) → mapped file ≡ map f (before file))
      → changes_to_commit (map (mapped_change f) cs) mapped ≡ map (mapped_change f) (changes_to_commit cs before)
  changes_to_commit-mapped cs mapped before same =
      (λ i. names_only-mapped cs i ++ flat_map (λ file. final_bytes file (mapped file)) (written_files-mapped f cs i))
      ∙ (λ i. map (mapped_change f) (filter (λ c. not (changes_bytes c)) cs)
      ++ flat_map-under (λ file. final_bytes file (mapped file)) (λ file. final_bytes file (before file)) (mapped_change f)
      (λ file. ap (final_bytes file) (same file) ∙ final_bytes-mapped file (before file)) (written_files cs) i)
      ∙ sym (map-append (mapped_change f) (filter (λ c. not (changes_bytes c)) cs) (flat_map (λ file. final_bytes file (before file)) (written_files cs)))

-- ---- what is seen, and what is committed, where zero stays zero

module _ (f : ℕ → ℕ) (blank : IsBlank f) where
  tree_of-mapped : (files : FilesNow) (id : Id) → tree_of (mapped_files f files) id ≡ mapped_tree f (tree_of files id)
  tree_of-mapped files id =
      (λ i. changed_all (mapped_tree f files.tree) (filter (λ c. not (changes_bytes c)) (own_changes-mapped f files.table.own id i)))
      ∙ (λ i. changed_all (mapped_tree f files.tree) (names_only-mapped f (own_changes files.table.own id) i))
      ∙ changed_all-mapped f blank files.tree (filter (λ c. not (changes_bytes c)) (own_changes files.table.own id))

  pub tree_seen-mapped : (files : FilesNow) (who : Option Id) → tree_seen (mapped_files f files) who ≡ mapped_tree f (tree_seen files who)
  tree_seen-mapped files None = refl
  tree_seen-mapped files (Some id) = tree_of-mapped files id

  fixed_bytes-mapped : (files : FilesNow) (file : ℕ) (o : Option FirstOpen) → fixed_bytes (mapped_files f files) file (option_map (mapped_first f) o) ≡ map f (fixed_bytes files file o)
  fixed_bytes-mapped files file None = bytes_of-mapped f files.tree file
  fixed_bytes-mapped files file (Some o) = refl

  first_bytes-mapped : (files : FilesNow) (id : Id) (cs : List Change) (file : ℕ) → first_bytes (mapped_files f files) id (map (mapped_change f) cs) file ≡ map f (first_bytes files id cs file)
  first_bytes-mapped files id cs file =
      (λ i. if has_made-mapped f cs file i then [] else fixed_bytes (mapped_files f files) file (first_open_of-mapped f files.first_opens id file i))
      ∙ (λ i. if has_made cs file then [] else fixed_bytes-mapped files file (first_open_of files.first_opens id file) i)
      ∙ cond-mapped (map f) (has_made cs file) [] (fixed_bytes files file (first_open_of files.first_opens id file))

  bytes_after-mapped : (bytes : List ℕ) (file : ℕ) (cs : List Change) → bytes_after (map f bytes) file (map (mapped_change f) cs) ≡ map f (bytes_after bytes file cs)
  bytes_after-mapped bytes file cs =
      (λ i. bytes_of (changed_all (mapped_tree f alone) (filter-mapped its its (mapped_change f) (λ c j. changes_bytes-mapped f c j && node_of-mapped f c j == file) cs i)) file)
      ∙ (λ i. bytes_of (changed_all-mapped f blank alone (filter its cs) i) file)
      ∙ bytes_of-mapped f (changed_all alone (filter its cs)) file
    where
      alone : Tree
      alone = record { number = file; parent = 1; name = []; content = Some bytes } ∷ []

      its : Change → Bool
      its c = changes_bytes c && node_of c == file

  pub bytes_with-mapped : (files : FilesNow) (id : Id) (cs : List Change) (file : ℕ) → bytes_with (mapped_files f files) id (map (mapped_change f) cs) file ≡ map f (bytes_with files id cs file)
  bytes_with-mapped files id cs file =
      (λ i. bytes_after (first_bytes-mapped files id cs file i) file (map (mapped_change f) cs)) ∙ bytes_after-mapped (first_bytes files id cs file) file cs

  pub bytes_seen-mapped : (files : FilesNow) (who : Option Id) (file : ℕ) → bytes_seen (mapped_files f files) who file ≡ map f (bytes_seen files who file)
  bytes_seen-mapped files None file = bytes_of-mapped f files.tree file
  bytes_seen-mapped files (Some id) file =
      (λ i. bytes_with (mapped_files f files) id (own_changes-mapped f files.table.own id i) file) ∙ bytes_with-mapped files id (own_changes files.table.own id) file

  pub changes_with-mapped : (files : FilesNow) (id : Id) (c : Change) → changes_with (mapped_files f files) id (mapped_change f c) ≡ map (mapped_change f) (changes_with files id c)
  changes_with-mapped files id c =
      ap (λ cs. changes_to_commit cs (bytes_with (mapped_files f files) id cs)) grown
      ∙ changes_to_commit-mapped f cs (bytes_with (mapped_files f files) id (map (mapped_change f) cs)) (bytes_with files id cs) (bytes_with-mapped files id cs)
    where
      cs : List Change
      cs = own_changes files.table.own id ++ c ∷ []

      grown : own_changes (mapped_files f files).table.own id ++ mapped_change f c ∷ [] ≡ map (mapped_change f) cs
      grown = (λ i. own_changes-mapped f files.table.own id i ++ mapped_change f c ∷ []) ∙ sym (map-append (mapped_change f) (own_changes files.table.own id) (c ∷ []))

  -- ---- works

  versions_after-mapped : (versions : List Version) (c : Change) → versions_after versions (mapped_change f c) ≡ versions_after versions c
  versions_after-mapped versions c = λ i.
      if changes_bytes-mapped f c i then raised_version versions (node_of-mapped f c i) else (if is_drop-mapped f c i then without_version versions (node_of-mapped f c i) else versions)

  with_change-mapped : (c : Committed) (change : Change) → with_change (mapped_committed f c) (mapped_change f change) ≡ mapped_committed f (with_change c change)
  with_change-mapped c change = λ i. record c { tree = changed-mapped f blank c.tree change i; versions = versions_after-mapped c.versions change i }

  with_work-mapped : (c : Committed) (work : Work) → with_work (mapped_committed f c) (mapped_work f work) ≡ mapped_committed f (with_work c work)
  with_work-mapped c work = λ i. record (fold-mapped with_change with_change (mapped_committed f) (mapped_change f) with_change-mapped c work.changes i) { store = (with_work c work).store }

  pub committed_with-mapped : (c : Committed) (works : List Work) → committed_with (mapped_committed f c) (map (mapped_work f) works) ≡ mapped_committed f (committed_with c works)
  committed_with-mapped c works = fold-mapped with_work with_work (mapped_committed f) (mapped_work f) with_work-mapped c works

  pub first_open-mapped : (c : Committed) (o : Opening) → first_open (mapped_committed f c) o ≡ mapped_first f (first_open c o)
  first_open-mapped c o = λ i. record (first_open c o) { bytes = bytes_of-mapped f c.tree o.file i }
