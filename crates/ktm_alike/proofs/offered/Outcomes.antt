-- What is in use of files with other bytes, what a call makes of them, and what it meets.
use Rattle.std.proofs.Common.{◌≡◌, ℕ, ◌+◌, ◌==◌, ◌&&◌, ◌||◌, not, Bool, List, [], ◌∷◌, ◌++◌, map, filter, sum_by, Option, Some, None, is_some, nat_lt, refl, sym, ◌∙◌, ap}
use Rattle.std.specs.Prelude.{option_map}
use Rattle.std.specs.List.{list_any}
use Rattle.std.proofs.lemmas.List.{length-map, map-append}
use Rattle.ktm_base.specs.declared.limits.TheConstants.{MOST_NUMBER, END_OF_NODES}
use Rattle.ktm_base.specs.declared.id.Id.{Id}
use Rattle.ktm_base.specs.declared.refusal.Refusal.TheVariants.{TransactionalConflict}
use Rattle.ktm_world.specs.declared.change.Change.{Change}
use Rattle.ktm_world.specs.Changes.{changes_bytes, nodes_made}
use Rattle.ktm_world.specs.Committed.{Committed, written_files, committed_with}
use Rattle.ktm_world.specs.Conflicts.{holds_now, users, opener, written_by, meets_other, is_outdated, changes_outdated, touches_plain_writer, overwrites_opened, conflicts}
use Rattle.ktm_world.specs.FileCalls.{conflict_test}
use Rattle.ktm_world.specs.FileOutcome.{FileOutcome, FileRoom, works_of, openings_of, own_after, next_node_after, with_open, table_after, files_after, lacks_quota, lacks_disk}
use Rattle.ktm_world.specs.Files.{OwnChanges, OpenFile, FirstOpen, FilesNow, FileTable, Opening, committed_files, files_with, first_open, first_open_of, own_changes, with_own_changes, changes_with, bytes_seen, is_last_version}
use Rattle.ktm_world.specs.FileUses.{own_units, same_version, older_versions, units_used, nodes_used, file_changes_waiting}
use Rattle.ktm_world.specs.Holds.{Act, holds_by, meets, file_changed}
use Rattle.ktm_world.specs.Transactions.{is_of}
use Rattle.ktm_world.specs.Tree.{bytes_or_none, units_of}
use Rattle.std.specs.List.{flat_map}
use Rattle.ktm_mapped.specs.Mapped.{IsBlank, mapped_node, mapped_tree, mapped_change}
use Rattle.ktm_mapped.proofs.offered.Lists.{list_any-mapped, filter-mapped, count_by-mapped, sum_by-mapped, map-same}
use Rattle.ktm_mapped.proofs.offered.Trees.{units_of-mapped, units-content}
use Rattle.ktm_mapped.proofs.offered.Holds.{next_after-mapped, changes_bytes-mapped, nodes_made-mapped, written_files-mapped, holds_by-mapped}
use Rattle.ktm_alike.specs.Alike.{mapped_own, mapped_first, mapped_table, mapped_files, mapped_committed, mapped_work, mapped_file_outcome}
use Rattle.ktm_alike.proofs.offered.Files.{own_changes-mapped, with_own_changes-mapped, first_open_of-mapped, is_last_version-mapped, bytes_seen-mapped, changes_with-mapped, committed_with-mapped, first_open-mapped}

-- lists that two ways come to
pub map-under : {X Y Z : Type 0} (of : X → Z) (before : X → Y) (h : Y → Z) → ((x : X) → of x ≡ h (before x)) → (xs : List X) → map of xs ≡ map h (map before xs)
map-under of before h same [] = refl
map-under of before h same (x ∷ xs) = λ i. same x i ∷ map-under of before h same xs i

module _ (f : ℕ → ℕ) where
  -- ---- what a call on files comes to

  pub works_of-mapped : (who : Option Id) (change : Option Change) → works_of who (option_map (mapped_change f) change) ≡ map (mapped_work f) (works_of who change)
  works_of-mapped None None = refl
  works_of-mapped None (Some change) = refl
  works_of-mapped (Some id) None = refl
  works_of-mapped (Some id) (Some change) = refl

  next_node_after-mapped : (next : ℕ) (change : Option Change) → next_node_after next (option_map (mapped_change f) change) ≡ next_node_after next change
  next_node_after-mapped next None = refl
  next_node_after-mapped next (Some change) = next_after-mapped f next change

  pub with_open-mapped : (table : FileTable) (o : Option OpenFile) → with_open (mapped_table f table) o ≡ mapped_table f (with_open table o)
  with_open-mapped table None = refl
  with_open-mapped table (Some o) = refl

  users-mapped : (table : FileTable) → users (mapped_table f table) ≡ users table
  users-mapped table = λ i. map-same (λ o. o.transaction) (λ o. o.transaction) (mapped_own f) (λ o. refl) table.own i ++ flat_map opener table.opens

  is_outdated-mapped : (files : FilesNow) (o : Option FirstOpen) → is_outdated (mapped_files f files) (option_map (mapped_first f) o) ≡ is_outdated files o
  is_outdated-mapped files None = refl
  is_outdated-mapped files (Some o) = λ i. not (is_last_version-mapped f files o i)

  changes_outdated-mapped : (files : FilesNow) (who : Option Id) (act : Act) → changes_outdated (mapped_files f files) who act ≡ changes_outdated files who act
  changes_outdated-mapped files None act = refl
  changes_outdated-mapped files (Some id) act = λ i.
      list_any (λ file. (ap (is_outdated (mapped_files f files)) (first_open_of-mapped f files.first_opens id file) ∙ is_outdated-mapped files (first_open_of files.first_opens id file)) i) (file_changed act)

  touches_plain_writer-mapped : (files : FilesNow) (who : Option Id) (act : Act) → touches_plain_writer (mapped_files f files) who act ≡ touches_plain_writer files who act
  touches_plain_writer-mapped files None act = refl
  touches_plain_writer-mapped files (Some id) act = refl

  overwrites_opened-mapped : (files : FilesNow) (who : Option Id) (act : Act) → overwrites_opened (mapped_files f files) who act ≡ overwrites_opened files who act
  overwrites_opened-mapped files None act = refl
  overwrites_opened-mapped files (Some id) act = refl

  -- ---- what is in use

  older_versions-mapped : (files : FilesNow) (os : List FirstOpen) → older_versions (mapped_files f files) (map (mapped_first f) os) ≡ map (mapped_first f) (older_versions files os)
  older_versions-mapped files [] = refl
  older_versions-mapped files (o ∷ os) =
      (λ i. filter (is_older (older_versions-mapped files os i)) (mapped_first f o ∷ []) ++ older_versions-mapped files os i)
      ∙ (λ i. filter-mapped (is_older (map (mapped_first f) rest)) was_older (mapped_first f) older-mapped (o ∷ []) i ++ map (mapped_first f) rest)
      ∙ sym (map-append (mapped_first f) (filter was_older (o ∷ [])) rest)
    where
      rest : List FirstOpen
      rest = older_versions files os

      is_older : List FirstOpen → FirstOpen → Bool
      is_older others a = not (is_last_version (mapped_files f files) a) && not (list_any (same_version a) others)

      was_older : FirstOpen → Bool
      was_older a = not (is_last_version files a) && not (list_any (same_version a) rest)

      older-mapped : (a : FirstOpen) → is_older (map (mapped_first f) rest) (mapped_first f a) ≡ was_older a
      older-mapped a = λ i. not (is_last_version-mapped f files a i) && not (list_any-mapped (same_version (mapped_first f a)) (same_version a) (mapped_first f) (λ b. refl) rest i)

  pub nodes_used-mapped : (files : FilesNow) → nodes_used (mapped_files f files) ≡ nodes_used files
  unfolding nodes_used
  nodes_used-mapped files = λ i.
      1 + length-map files.tree (mapped_node f) i + sum_by-mapped (λ o. nodes_made o.changes) (λ o. nodes_made o.changes) (mapped_own f) (λ o. nodes_made-mapped f o.changes) files.table.own i

  pub file_changes_waiting-mapped : (files : FilesNow) → file_changes_waiting (mapped_files f files) ≡ file_changes_waiting files
  unfolding file_changes_waiting
  file_changes_waiting-mapped files =
      sum_by-mapped _ _ (mapped_own f) (λ o. count_by-mapped (λ c. not (changes_bytes c)) (λ c. not (changes_bytes c)) (mapped_change f) (λ c i. not (changes_bytes-mapped f c i)) o.changes) files.table.own

module _ (f : ℕ → ℕ) (blank : IsBlank f) where
  own_units-mapped : (files : FilesNow) (o : OwnChanges) → own_units (mapped_files f files) (mapped_own f o) ≡ own_units files o
  own_units-mapped files o =
      (λ i. sum_by (λ file. units_of (bytes_seen (mapped_files f files) (Some o.transaction) file)) (written_files-mapped f o.changes i))
      ∙ (λ i. sum_by (λ file. (ap units_of (bytes_seen-mapped f blank files (Some o.transaction) file) ∙ units_of-mapped f (bytes_seen files (Some o.transaction) file)) i) (written_files o.changes))

  pub units_used-mapped : (files : FilesNow) → units_used (mapped_files f files) ≡ units_used files
  unfolding units_used
  units_used-mapped files = λ i.
      sum_by-mapped (λ node. units_of (bytes_or_none node.content)) (λ node. units_of (bytes_or_none node.content)) (mapped_node f) (λ node. units-content f node.content) files.tree i
      + sum_by-mapped (own_units (mapped_files f files)) (own_units files) (mapped_own f) (own_units-mapped files) files.table.own i
      + older i
    where
      older : sum_by (λ o. units_of o.bytes) (older_versions (mapped_files f files) (map (mapped_first f) files.first_opens)) ≡ sum_by (λ o. units_of o.bytes) (older_versions files files.first_opens)
      older = ap (sum_by (λ o. units_of o.bytes)) (older_versions-mapped f files files.first_opens)
          ∙ sum_by-mapped (λ o. units_of o.bytes) (λ o. units_of o.bytes) (mapped_first f) (λ o. units_of-mapped f o.bytes) (older_versions files files.first_opens)

  -- ---- conflicts

  pub holds_now-mapped : (files : FilesNow) (id : Id) → holds_now (mapped_files f files) id ≡ holds_now files id
  holds_now-mapped files id =
      (λ i. holds_by (mapped_tree f files.tree) (own_changes-mapped f files.table.own id i) (written_by files.table.opens id))
      ∙ holds_by-mapped f blank files.tree (own_changes files.table.own id) (written_by files.table.opens id)

  meets_other-mapped : (files : FilesNow) (who : Option Id) (act : Act) → meets_other (mapped_files f files) who act ≡ meets_other files who act
  meets_other-mapped files who act = λ i. list_any (λ id. not (is_of id who) && meets (holds_now-mapped files id i) act) (users-mapped f files.table i)

  conflicts-mapped : (files : FilesNow) (who : Option Id) (act : Act) → conflicts (mapped_files f files) who act ≡ conflicts files who act
  unfolding conflicts
  conflicts-mapped files who act = λ i.
      meets_other-mapped files who act i || changes_outdated-mapped f files who act i || touches_plain_writer-mapped f files who act i || overwrites_opened-mapped f files who act i

  pub conflict_test-mapped : (files : FilesNow) (who : Option Id) (act : Option Act) → conflict_test (mapped_files f files) who act ≡ conflict_test files who act
  conflict_test-mapped files who None = refl
  conflict_test-mapped files who (Some act) = λ i. (conflicts-mapped files who act i, TransactionalConflict)

  -- ---- the files after a call

  own_after-mapped : (files : FilesNow) (who : Option Id) (change : Option Change) → own_after (mapped_files f files) who (option_map (mapped_change f) change) ≡ map (mapped_own f) (own_after files who change)
  own_after-mapped files None None = refl
  own_after-mapped files None (Some change) = refl
  own_after-mapped files (Some id) None = refl
  own_after-mapped files (Some id) (Some change) =
      (λ i. with_own_changes (map (mapped_own f) files.table.own) id (changes_with-mapped f blank files id change i)) ∙ with_own_changes-mapped f files.table.own id (changes_with files id change)

  pub table_after-mapped : (files : FilesNow) (who : Option Id) (o : FileOutcome) → table_after (mapped_files f files) who (mapped_file_outcome f o) ≡ mapped_table f (table_after files who o)
  table_after-mapped files who o =
      (λ i. with_open (record (mapped_table f files.table) { own = own_after-mapped files who o.change i; next_node = next_node_after-mapped f files.table.next_node o.change i }) o.opened)
      ∙ with_open-mapped f (record files.table { own = own_after files who o.change; next_node = next_node_after files.table.next_node o.change }) o.opened

  pub first_opens-mapped : (c : Committed) (opens : List FirstOpen) (os : List Opening)
      → map (mapped_first f) opens ++ map (first_open (mapped_committed f c)) os ≡ map (mapped_first f) (opens ++ map (first_open c) os)
  first_opens-mapped c opens os =
      (λ i. map (mapped_first f) opens ++ map-under (first_open (mapped_committed f c)) (first_open c) (mapped_first f) (first_open-mapped f blank c) os i)
      ∙ sym (map-append (mapped_first f) opens (map (first_open c) os))

  files_after-mapped : (files : FilesNow) (who : Option Id) (o : FileOutcome) → files_after (mapped_files f files) who (mapped_file_outcome f o) ≡ mapped_files f (files_after files who o)
  files_after-mapped files who o = λ i. files_with (committed i) (first_opens-mapped c files.first_opens (openings_of who o.first) i) (table_after-mapped files who o i)
    where
      c : Committed
      c = committed_files files []

      committed : committed_with (mapped_committed f c) (works_of who (option_map (mapped_change f) o.change)) ≡ mapped_committed f (committed_with c (works_of who o.change))
      committed = ap (committed_with (mapped_committed f c)) (works_of-mapped f who o.change) ∙ committed_with-mapped f blank c (works_of who o.change)

  pub lacks_quota-mapped : (files : FilesNow) (room : FileRoom) (who : Option Id) (o : FileOutcome) → lacks_quota (mapped_files f files) room who (mapped_file_outcome f o) ≡ lacks_quota files room who o
  unfolding lacks_quota
  lacks_quota-mapped files room who o = ap passes (files_after-mapped files who o)
      ∙ (λ i. nat_lt room.changes (file_changes_waiting-mapped f after i) || (is_some o.opened && room.handles == 0) || nat_lt MOST_NUMBER after.table.last_open || nat_lt END_OF_NODES after.table.next_node)
    where
      after : FilesNow
      after = files_after files who o

      passes : FilesNow → Bool
      passes files = nat_lt room.changes (file_changes_waiting files) || (is_some o.opened && room.handles == 0) || nat_lt MOST_NUMBER files.table.last_open || nat_lt END_OF_NODES files.table.next_node

  pub lacks_disk-mapped : (files : FilesNow) (room : FileRoom) (who : Option Id) (o : FileOutcome) → lacks_disk (mapped_files f files) room who (mapped_file_outcome f o) ≡ lacks_disk files room who o
  unfolding lacks_disk
  lacks_disk-mapped files room who o =
      ap (λ files. nat_lt room.units (units_used files) || nat_lt room.units (nodes_used files)) (files_after-mapped files who o)
      ∙ (λ i. nat_lt room.units (units_used-mapped (files_after files who o) i) || nat_lt room.units (nodes_used-mapped f (files_after files who o) i))
