-- The calls on files with other bytes: their tests, and what they come to.
use Rattle.std.proofs.Common.{◌≡◌, ℕ, ◌==◌, ◌&&◌, ◌||◌, not, Bool, List, [], ◌∷◌, ◌++◌, map, filter, length, take, drop, Option, Some, None, is_some, is_none, nat_lt, refl, ◌∙◌, ap}
use Rattle.std.specs.Prelude.{option_map, if◌then◌else◌}
use Rattle.std.proofs.lemmas.List.{length-map, take-map, drop-map}
use Rattle.ktm_base.specs.Names.{folded, matches, backslash}
use Rattle.ktm_base.specs.declared.id.Id.{Id}
use Rattle.ktm_base.specs.declared.limits.TheConstants.{MOST_AT_ONCE}
use Rattle.ktm_base.specs.declared.refusal.Refusal.{Refusal}
use Rattle.ktm_base.specs.declared.refusal.Refusal.TheVariants.{InvalidParameter, InvalidName, PathNotFound, FileNotFound, FileExists, AlreadyExists, AccessDenied, DirNotEmpty, SharingViolation, NotEnoughQuota, DiskFull}
use Rattle.ktm_world.specs.declared.change.Change.TheVariants.{Cut}
use Rattle.ktm_world.specs.declared.options.Access.{Access}
use Rattle.ktm_world.specs.declared.options.Disposition.{Disposition}
use Rattle.ktm_world.specs.declared.options.ShareMode.{ShareMode}
use Rattle.ktm_world.specs.declared.recorded.Node.{Node}
use Rattle.ktm_world.specs.declared.reply.Reply.TheVariants.{Done, Contents as Bytes, Size, Names}
use Rattle.ktm_keyed.specs.Keyed.{comes_before}
use Rattle.ktm_world.specs.Changes.{has_made}
use Rattle.ktm_world.specs.Conflicts.{is_open_in, writes}
use Rattle.ktm_world.specs.FileCalls.{Whereabouts, no_path, no_way, free, at_root, at_node, reached, entered, walk, whereabouts_of, find_path, is_no_path, is_no_way, is_free_name, is_root, is_taken, is_at_file, is_at_directory, conflict_test, limit_tests, wants_existing, wants_new, is_truncate_existing, empties, create_act, create_violates, new_open, first_opening, create_at, create_file, create_file_tests, read_file, write_file, write_file_tests, write_units_tests, write_access_test, set_end, set_end_tests, get_size, delete_act, is_open_at, drop_at, delete_file, delete_file_tests, make_act, make_at, create_directory, create_directory_tests, remove_act, is_not_empty, remove_directory, remove_directory_tests, move_act, is_into_itself, move_at, move_file, move_file_tests, directory_of, with_entry, in_order, entries, listed, searched_directory, found_entries, is_no_entry, find_files_tests, find_files}
use Rattle.ktm_world.specs.FileOutcome.{FileOutcome, FileRoom, answering, lacks_quota, lacks_disk}
use Rattle.ktm_world.specs.Files.{FilesNow, OpenFile, own_changes, first_open_of, tree_seen, bytes_seen}
use Rattle.ktm_world.specs.Holds.{Act, place, moves_file, moves_directory}
use Rattle.ktm_world.specs.Paths.{Search, path_of, pattern_of}
use Rattle.ktm_world.specs.Tree.{Tree, root, child_of}
use Rattle.ktm_mapped.specs.Mapped.{IsBlank, mapped_node, mapped_tree, mapped_change}
use Rattle.ktm_mapped.proofs.offered.Lists.{cond-mapped, is_some-mapped, filter-mapped, map-same}
use Rattle.ktm_mapped.proofs.offered.Trees.{is_some-content, child_of-mapped, has_entries-mapped, is_at_or_below-mapped}
use Rattle.ktm_mapped.proofs.offered.Holds.{has_made-mapped}
use Rattle.ktm_alike.specs.Alike.{mapped_first, mapped_files, mapped_read, mapped_file_outcome}
use Rattle.ktm_alike.proofs.offered.Files.{own_changes-mapped, first_open_of-mapped, tree_seen-mapped, bytes_seen-mapped}
use Rattle.ktm_alike.proofs.offered.Outcomes.{conflict_test-mapped, lacks_quota-mapped, lacks_disk-mapped}

-- where a text leads, to a node with other bytes
abbrev mapped_where : (ℕ → ℕ) → Whereabouts → Whereabouts
mapped_where f (at_node node) = at_node (mapped_node f node)
mapped_where f there = there

module _ (f : ℕ → ℕ) where
  -- ---- where a text leads

  reached-mapped : (o : Option Node) (directory : ℕ) (name : List ℕ) → reached (option_map (mapped_node f) o) directory name ≡ mapped_where f (reached o directory name)
  reached-mapped None directory name = refl
  reached-mapped (Some node) directory name = refl

  entered-mapped : (o : Option Node) → entered (option_map (mapped_node f) o) ≡ entered o
  entered-mapped None = refl
  entered-mapped (Some node) = λ i. if is_some-content f node.content i then None else Some node.number

  walk-mapped : (tree : Tree) (o : Option ℕ) (names : List (List ℕ)) → walk (mapped_tree f tree) o names ≡ mapped_where f (walk tree o names)
  walk-mapped tree None [] = refl
  walk-mapped tree None (name ∷ []) = refl
  walk-mapped tree None (name ∷ next ∷ names) = refl
  walk-mapped tree (Some directory) [] = refl
  walk-mapped tree (Some directory) (name ∷ []) =
      (λ i. reached (child_of-mapped f tree directory name i) directory name) ∙ reached-mapped (child_of tree directory name) directory name
  walk-mapped tree (Some directory) (name ∷ next ∷ names) =
      ap (λ o. walk (mapped_tree f tree) o (next ∷ names)) (ap entered (child_of-mapped f tree directory name) ∙ entered-mapped (child_of tree directory name))
      ∙ walk-mapped tree (entered (child_of tree directory name)) (next ∷ names)

  whereabouts_of-mapped : (tree : Tree) (names : Option (List (List ℕ))) → whereabouts_of (mapped_tree f tree) names ≡ mapped_where f (whereabouts_of tree names)
  whereabouts_of-mapped tree None = refl
  whereabouts_of-mapped tree (Some names) = walk-mapped tree (Some root) names

  find_path-mapped : (tree : Tree) (text : List ℕ) → find_path (mapped_tree f tree) text ≡ mapped_where f (find_path tree text)
  unfolding find_path
  find_path-mapped tree text = whereabouts_of-mapped tree (path_of text)

  -- ---- tests that look at no byte

  is_no_path-same : (w : Whereabouts) → is_no_path (mapped_where f w) ≡ is_no_path w
  is_no_path-same (at_node node) = refl
  is_no_path-same _ = refl

  is_no_way-same : (w : Whereabouts) → is_no_way (mapped_where f w) ≡ is_no_way w
  is_no_way-same (at_node node) = refl
  is_no_way-same _ = refl

  is_free_name-same : (w : Whereabouts) → is_free_name (mapped_where f w) ≡ is_free_name w
  is_free_name-same (at_node node) = refl
  is_free_name-same _ = refl

  is_root-same : (w : Whereabouts) → is_root (mapped_where f w) ≡ is_root w
  is_root-same (at_node node) = refl
  is_root-same _ = refl

  is_taken-same : (w : Whereabouts) → is_taken (mapped_where f w) ≡ is_taken w
  is_taken-same (at_node node) = refl
  is_taken-same _ = refl

  is_at_file-same : (w : Whereabouts) → is_at_file (mapped_where f w) ≡ is_at_file w
  is_at_file-same (at_node node) = is_some-content f node.content
  is_at_file-same _ = refl

  is_at_directory-same : (w : Whereabouts) → is_at_directory (mapped_where f w) ≡ is_at_directory w
  is_at_directory-same (at_node node) = ap not (is_some-content f node.content)
  is_at_directory-same _ = refl

  create_act-same : (access : Access) (disposition : Disposition) (w : Whereabouts) → create_act (mapped_where f w) access disposition ≡ create_act w access disposition
  create_act-same access disposition (at_node node) = refl
  create_act-same access disposition _ = refl

  delete_act-same : (w : Whereabouts) → delete_act (mapped_where f w) ≡ delete_act w
  delete_act-same (at_node node) = refl
  delete_act-same _ = refl

  make_act-same : (w : Whereabouts) → make_act (mapped_where f w) ≡ make_act w
  make_act-same (at_node node) = refl
  make_act-same _ = refl

  remove_act-same : (w : Whereabouts) → remove_act (mapped_where f w) ≡ remove_act w
  remove_act-same (at_node node) = refl
  remove_act-same _ = refl

  move_act-same : (from to : Whereabouts) → move_act (mapped_where f from) (mapped_where f to) ≡ move_act from to
  move_act-same (at_node node) (free directory name) = λ i.
      Some (if is_some-content f node.content i then moves_file node.number (place node.parent node.name) (place directory name) else moves_directory node.number (place node.parent node.name) (place directory name))
  move_act-same (at_node node) (at_node other) = refl
  move_act-same (at_node node) _ = refl
  move_act-same no_path to = refl
  move_act-same no_way to = refl
  move_act-same (free directory name) to = refl
  move_act-same at_root to = refl

  create_violates-same : (files : FilesNow) (who : Option Id) (access : Access) (mode : ShareMode) (disposition : Disposition) (w : Whereabouts)
      → create_violates (mapped_files f files) who (mapped_where f w) access mode disposition ≡ create_violates files who w access mode disposition
  create_violates-same files who access mode disposition (at_node node) = refl
  create_violates-same files who access mode disposition _ = refl

  is_open_at-same : (files : FilesNow) (who : Option Id) (w : Whereabouts) → is_open_at (mapped_files f files) who (mapped_where f w) ≡ is_open_at files who w
  is_open_at-same files who (at_node node) = λ i. is_some-content f node.content i && is_open_in files.table.opens who node.number
  is_open_at-same files who _ = refl

  is_not_empty-same : (tree : Tree) (w : Whereabouts) → is_not_empty (mapped_tree f tree) (mapped_where f w) ≡ is_not_empty tree w
  is_not_empty-same tree (at_node node) = has_entries-mapped f tree node.number
  is_not_empty-same tree _ = refl

  is_into_itself-same : (tree : Tree) (from to : Whereabouts) → is_into_itself (mapped_tree f tree) (mapped_where f from) (mapped_where f to) ≡ is_into_itself tree from to
  is_into_itself-same tree (at_node node) (free directory name) = is_at_or_below-mapped f tree directory node.number
  is_into_itself-same tree (at_node node) (at_node other) = refl
  is_into_itself-same tree (at_node node) _ = refl
  is_into_itself-same tree no_path to = refl
  is_into_itself-same tree no_way to = refl
  is_into_itself-same tree (free directory name) to = refl
  is_into_itself-same tree at_root to = refl

  -- ---- what calls come to

  first_opening-mapped : (files : FilesNow) (who : Option Id) (file : ℕ) → first_opening (mapped_files f files) who file ≡ first_opening files who file
  first_opening-mapped files None file = refl
  first_opening-mapped files (Some id) file = λ i. if made i || opened i then None else Some file
    where
      made : has_made (own_changes (mapped_files f files).table.own id) file ≡ has_made (own_changes files.table.own id) file
      made = ap (λ cs. has_made cs file) (own_changes-mapped f files.table.own id) ∙ has_made-mapped f (own_changes files.table.own id) file

      opened : is_some (first_open_of (mapped_files f files).first_opens id file) ≡ is_some (first_open_of files.first_opens id file)
      opened = ap is_some (first_open_of-mapped f files.first_opens id file) ∙ is_some-mapped (mapped_first f) (first_open_of files.first_opens id file)

  create_at-mapped : (files : FilesNow) (who : Option Id) (access : Access) (mode : ShareMode) (disposition : Disposition) (w : Whereabouts)
      → create_at (mapped_files f files) who (mapped_where f w) access mode disposition ≡ mapped_file_outcome f (create_at files who w access mode disposition)
  create_at-mapped files who access mode disposition (at_node node) = λ i. record {
    reply = Done;
    change = cond-mapped (option_map (mapped_change f)) (empties disposition) (Some (Cut node.number 0 [])) None i;
    first = first_opening-mapped files who node.number i;
    opened = Some (new_open files who node.number access mode);
  }
  create_at-mapped files who access mode disposition _ = refl

  drop_at-mapped : (w : Whereabouts) → drop_at (mapped_where f w) ≡ mapped_file_outcome f (drop_at w)
  drop_at-mapped (at_node node) = refl
  drop_at-mapped _ = refl

  make_at-mapped : (files : FilesNow) (w : Whereabouts) → make_at (mapped_files f files) (mapped_where f w) ≡ mapped_file_outcome f (make_at files w)
  make_at-mapped files (at_node node) = refl
  make_at-mapped files _ = refl

  move_at-mapped : (from to : Whereabouts) → move_at (mapped_where f from) (mapped_where f to) ≡ mapped_file_outcome f (move_at from to)
  move_at-mapped (at_node node) (at_node other) = refl
  move_at-mapped (at_node node) _ = refl
  move_at-mapped no_path to = refl
  move_at-mapped no_way to = refl
  move_at-mapped (free directory name) to = refl
  move_at-mapped at_root to = refl

  -- ---- FindFiles

  directory_of-same : (w : Whereabouts) → directory_of (mapped_where f w) ≡ directory_of w
  directory_of-same (at_node node) = λ i. if is_some-content f node.content i then None else Some node.number
  directory_of-same _ = refl

  with_entry-mapped : (ns : List Node) (node : Node) → with_entry (map (mapped_node f) ns) (mapped_node f node) ≡ map (mapped_node f) (with_entry ns node)
  with_entry-mapped [] node = refl
  with_entry-mapped (n ∷ ns) node =
      (λ i. if comes_before (folded node.name) (folded n.name) then map (mapped_node f) (node ∷ n ∷ ns) else mapped_node f n ∷ with_entry-mapped ns node i)
      ∙ cond-mapped (map (mapped_node f)) (comes_before (folded node.name) (folded n.name)) (node ∷ n ∷ ns) (n ∷ with_entry ns node)

  in_order-mapped : (ns : List Node) → in_order (map (mapped_node f) ns) ≡ map (mapped_node f) (in_order ns)
  in_order-mapped [] = refl
  in_order-mapped (n ∷ ns) = (λ i. with_entry (in_order-mapped ns i) (mapped_node f n)) ∙ with_entry-mapped (in_order ns) n

  entries-mapped : (tree : Tree) (o : Option ℕ) (last : List ℕ) → entries (mapped_tree f tree) o last ≡ map (mapped_node f) (entries tree o last)
  entries-mapped tree None last = refl
  entries-mapped tree (Some directory) last =
      ap in_order (filter-mapped its its (mapped_node f) (λ node. refl) tree) ∙ in_order-mapped (filter its tree)
    where
      its : Node → Bool
      its node = node.parent == directory && matches last node.name

  searched_directory-mapped : (tree : Tree) (o : Option Search) → searched_directory (mapped_tree f tree) o ≡ searched_directory tree o
  searched_directory-mapped tree None = refl
  searched_directory-mapped tree (Some s) = ap directory_of (walk-mapped tree (Some root) s.directory) ∙ directory_of-same (walk tree (Some root) s.directory)

  found_entries-mapped : (tree : Tree) (o : Option Search) → found_entries (mapped_tree f tree) o ≡ map (mapped_node f) (found_entries tree o)
  found_entries-mapped tree None = refl
  found_entries-mapped tree (Some s) =
      (λ i. entries (mapped_tree f tree) (searched_directory-mapped tree (Some s) i) s.last) ∙ entries-mapped tree (searched_directory tree (Some s)) s.last

  is_no_entry-mapped : (ns : List Node) → is_no_entry (map (mapped_node f) ns) ≡ is_no_entry ns
  is_no_entry-mapped [] = refl
  is_no_entry-mapped (n ∷ ns) = refl

  listed-mapped : (node : Node) → listed (mapped_node f node) ≡ listed node
  listed-mapped node = λ i. if is_some-content f node.content i then node.name else node.name ++ backslash ∷ []

-- ---- each call, by where its path leads

module _ (f : ℕ → ℕ) (blank : IsBlank f) (files : FilesNow) (who : Option Id) where
  -- what is asked of where a path leads
  there-mapped : {T : Type 0} (of before : Whereabouts → T) → ((w : Whereabouts) → of (mapped_where f w) ≡ before w) → (path : List ℕ)
      → of (find_path (tree_seen (mapped_files f files) who) path) ≡ before (find_path (tree_seen files who) path)
  there-mapped of before same path =
      (λ i. of (find_path (tree_seen-mapped f blank files who i) path)) ∙ ap of (find_path-mapped f (tree_seen files who) path) ∙ same (find_path (tree_seen files who) path)

  act-mapped : (of : Whereabouts → Option Act) → ((w : Whereabouts) → of (mapped_where f w) ≡ of w) → (path : List ℕ)
      → conflict_test (mapped_files f files) who (of (find_path (tree_seen (mapped_files f files) who) path)) ≡ conflict_test files who (of (find_path (tree_seen files who) path))
  act-mapped of same path =
      ap (conflict_test (mapped_files f files) who) (there-mapped of of same path) ∙ conflict_test-mapped f blank files who (of (find_path (tree_seen files who) path))

  quota-mapped : (room : FileRoom) (o : FileOutcome) (before : FileOutcome) → o ≡ mapped_file_outcome f before → lacks_quota (mapped_files f files) room who o ≡ lacks_quota files room who before
  quota-mapped room o before same = ap (lacks_quota (mapped_files f files) room who) same ∙ lacks_quota-mapped f blank files room who before

  limits-mapped : (room : FileRoom) (o : FileOutcome) (before : FileOutcome) → o ≡ mapped_file_outcome f before → limit_tests (mapped_files f files) room who o ≡ limit_tests files room who before
  limits-mapped room o before same =
      ap (limit_tests (mapped_files f files) room who) same
      ∙ (λ i. (lacks_quota-mapped f blank files room who before i, NotEnoughQuota) ∷ (lacks_disk-mapped f blank files room who before i, DiskFull) ∷ [])

  pub create_file-mapped : (path : List ℕ) (access : Access) (mode : ShareMode) (disposition : Disposition)
      → create_file (mapped_files f files) who path access mode disposition ≡ mapped_file_outcome f (create_file files who path access mode disposition)
  unfolding create_file
  create_file-mapped path access mode disposition =
      there-mapped (λ w. create_at (mapped_files f files) who w access mode disposition) (λ w. mapped_file_outcome f (create_at files who w access mode disposition)) (create_at-mapped f files who access mode disposition) path

  pub create_file_tests-mapped : (room : FileRoom) (path : List ℕ) (access : Access) (mode : ShareMode) (disposition : Disposition)
      → create_file_tests (mapped_files f files) room who path access mode disposition ≡ create_file_tests files room who path access mode disposition
  unfolding create_file_tests
  create_file_tests-mapped room path access mode disposition = λ i.
      (is_truncate_existing disposition && not (writes access), InvalidParameter)
      ∷ (there-mapped is_no_path is_no_path (is_no_path-same f) path i, InvalidName)
      ∷ (there-mapped is_no_way is_no_way (is_no_way-same f) path i, PathNotFound)
      ∷ (there-mapped is_free_name is_free_name (is_free_name-same f) path i && wants_existing disposition, FileNotFound)
      ∷ (there-mapped is_taken is_taken (is_taken-same f) path i && wants_new disposition, FileExists)
      ∷ (there-mapped is_at_directory is_at_directory (is_at_directory-same f) path i, AccessDenied)
      ∷ act-mapped (λ w. create_act w access disposition) (create_act-same f access disposition) path i
      ∷ (there-mapped (λ w. create_violates (mapped_files f files) who w access mode disposition) (λ w. create_violates files who w access mode disposition) (create_violates-same f files who access mode disposition) path i, SharingViolation)
      ∷ limits-mapped room (create_file (mapped_files f files) who path access mode disposition) (create_file files who path access mode disposition) (create_file-mapped path access mode disposition) i

  pub delete_file-mapped : (path : List ℕ) → delete_file (mapped_files f files) who path ≡ mapped_file_outcome f (delete_file files who path)
  unfolding delete_file
  delete_file-mapped path = there-mapped drop_at (λ w. mapped_file_outcome f (drop_at w)) (drop_at-mapped f) path

  pub delete_file_tests-mapped : (room : FileRoom) (path : List ℕ) → delete_file_tests (mapped_files f files) room who path ≡ delete_file_tests files room who path
  unfolding delete_file_tests
  delete_file_tests-mapped room path = λ i.
      (there-mapped is_no_path is_no_path (is_no_path-same f) path i, InvalidName)
      ∷ (there-mapped is_no_way is_no_way (is_no_way-same f) path i, PathNotFound)
      ∷ (there-mapped is_free_name is_free_name (is_free_name-same f) path i, FileNotFound)
      ∷ (there-mapped is_at_directory is_at_directory (is_at_directory-same f) path i, AccessDenied)
      ∷ act-mapped delete_act (delete_act-same f) path i
      ∷ (there-mapped (is_open_at (mapped_files f files) who) (is_open_at files who) (is_open_at-same f files who) path i, SharingViolation)
      ∷ (quota-mapped room (delete_file (mapped_files f files) who path) (delete_file files who path) (delete_file-mapped path) i, NotEnoughQuota)
      ∷ []

  pub create_directory-mapped : (path : List ℕ) → create_directory (mapped_files f files) who path ≡ mapped_file_outcome f (create_directory files who path)
  unfolding create_directory
  create_directory-mapped path = there-mapped (make_at (mapped_files f files)) (λ w. mapped_file_outcome f (make_at files w)) (make_at-mapped f files) path

  pub create_directory_tests-mapped : (room : FileRoom) (path : List ℕ) → create_directory_tests (mapped_files f files) room who path ≡ create_directory_tests files room who path
  unfolding create_directory_tests
  create_directory_tests-mapped room path = λ i.
      (there-mapped is_no_path is_no_path (is_no_path-same f) path i, InvalidName)
      ∷ (there-mapped is_no_way is_no_way (is_no_way-same f) path i, PathNotFound)
      ∷ (there-mapped is_taken is_taken (is_taken-same f) path i, AlreadyExists)
      ∷ act-mapped make_act (make_act-same f) path i
      ∷ limits-mapped room (create_directory (mapped_files f files) who path) (create_directory files who path) (create_directory-mapped path) i

  pub remove_directory-mapped : (path : List ℕ) → remove_directory (mapped_files f files) who path ≡ mapped_file_outcome f (remove_directory files who path)
  unfolding remove_directory
  remove_directory-mapped path = there-mapped drop_at (λ w. mapped_file_outcome f (drop_at w)) (drop_at-mapped f) path

  is_not_empty-there : (path : List ℕ)
      → is_not_empty (tree_seen (mapped_files f files) who) (find_path (tree_seen (mapped_files f files) who) path) ≡ is_not_empty (tree_seen files who) (find_path (tree_seen files who) path)
  is_not_empty-there path =
      ap (λ tree. is_not_empty tree (find_path tree path)) (tree_seen-mapped f blank files who)
      ∙ ap (is_not_empty (mapped_tree f (tree_seen files who))) (find_path-mapped f (tree_seen files who) path)
      ∙ is_not_empty-same f (tree_seen files who) (find_path (tree_seen files who) path)

  pub remove_directory_tests-mapped : (room : FileRoom) (path : List ℕ) → remove_directory_tests (mapped_files f files) room who path ≡ remove_directory_tests files room who path
  unfolding remove_directory_tests
  remove_directory_tests-mapped room path = λ i.
      (there-mapped is_no_path is_no_path (is_no_path-same f) path i, InvalidName)
      ∷ (there-mapped is_no_way is_no_way (is_no_way-same f) path i, PathNotFound)
      ∷ (there-mapped is_free_name is_free_name (is_free_name-same f) path i, FileNotFound)
      ∷ (there-mapped is_root is_root (is_root-same f) path i, AccessDenied)
      ∷ (there-mapped is_at_file is_at_file (is_at_file-same f) path i, Refusal.Directory)
      ∷ (is_not_empty-there path i, DirNotEmpty)
      ∷ act-mapped remove_act (remove_act-same f) path i
      ∷ (quota-mapped room (remove_directory (mapped_files f files) who path) (remove_directory files who path) (remove_directory-mapped path) i, NotEnoughQuota)
      ∷ []

  -- what is asked of where two paths lead
  both-mapped : {T : Type 0} (of before : Whereabouts → Whereabouts → T) → ((v w : Whereabouts) → of (mapped_where f v) (mapped_where f w) ≡ before v w) → (source target : List ℕ)
      → of (find_path (tree_seen (mapped_files f files) who) source) (find_path (tree_seen (mapped_files f files) who) target) ≡ before (find_path (tree_seen files who) source) (find_path (tree_seen files who) target)
  both-mapped of before same source target =
      (λ i. of (find_path (tree_seen-mapped f blank files who i) source) (find_path (tree_seen-mapped f blank files who i) target))
      ∙ (λ i. of (find_path-mapped f (tree_seen files who) source i) (find_path-mapped f (tree_seen files who) target i))
      ∙ same (find_path (tree_seen files who) source) (find_path (tree_seen files who) target)

  pub move_file-mapped : (source target : List ℕ) → move_file (mapped_files f files) who source target ≡ mapped_file_outcome f (move_file files who source target)
  unfolding move_file
  move_file-mapped source target = both-mapped move_at (λ v w. mapped_file_outcome f (move_at v w)) (move_at-mapped f) source target

  is_into_itself-there : (source target : List ℕ)
      → (let tree = tree_seen (mapped_files f files) who in is_into_itself tree (find_path tree source) (find_path tree target))
      ≡ (let tree = tree_seen files who in is_into_itself tree (find_path tree source) (find_path tree target))
  is_into_itself-there source target =
      ap (λ tree. is_into_itself tree (find_path tree source) (find_path tree target)) (tree_seen-mapped f blank files who)
      ∙ (λ i. is_into_itself (mapped_tree f (tree_seen files who)) (find_path-mapped f (tree_seen files who) source i) (find_path-mapped f (tree_seen files who) target i))
      ∙ is_into_itself-same f (tree_seen files who) (find_path (tree_seen files who) source) (find_path (tree_seen files who) target)

  pub move_file_tests-mapped : (room : FileRoom) (source target : List ℕ) → move_file_tests (mapped_files f files) room who source target ≡ move_file_tests files room who source target
  unfolding move_file_tests
  move_file_tests-mapped room source target = λ i.
      (there-mapped is_no_path is_no_path (is_no_path-same f) source i || there-mapped is_no_path is_no_path (is_no_path-same f) target i, InvalidName)
      ∷ (there-mapped is_no_way is_no_way (is_no_way-same f) source i || there-mapped is_no_way is_no_way (is_no_way-same f) target i, PathNotFound)
      ∷ (there-mapped is_free_name is_free_name (is_free_name-same f) source i, FileNotFound)
      ∷ (there-mapped is_taken is_taken (is_taken-same f) target i, AlreadyExists)
      ∷ (there-mapped is_root is_root (is_root-same f) source i || is_into_itself-there source target i, AccessDenied)
      ∷ acts i
      ∷ (there-mapped (is_open_at (mapped_files f files) who) (is_open_at files who) (is_open_at-same f files who) source i, SharingViolation)
      ∷ (quota-mapped room (move_file (mapped_files f files) who source target) (move_file files who source target) (move_file-mapped source target) i, NotEnoughQuota)
      ∷ []
    where
      acts : conflict_test (mapped_files f files) who (move_act (find_path (tree_seen (mapped_files f files) who) source) (find_path (tree_seen (mapped_files f files) who) target))
          ≡ conflict_test files who (move_act (find_path (tree_seen files who) source) (find_path (tree_seen files who) target))
      acts = ap (conflict_test (mapped_files f files) who) (both-mapped move_act move_act (move_act-same f) source target)
          ∙ conflict_test-mapped f blank files who (move_act (find_path (tree_seen files who) source) (find_path (tree_seen files who) target))

  found-mapped : (pattern_text : List ℕ)
      → found_entries (tree_seen (mapped_files f files) who) (pattern_of pattern_text) ≡ map (mapped_node f) (found_entries (tree_seen files who) (pattern_of pattern_text))
  found-mapped pattern_text =
      ap (λ tree. found_entries tree (pattern_of pattern_text)) (tree_seen-mapped f blank files who) ∙ found_entries-mapped f (tree_seen files who) (pattern_of pattern_text)

  pub find_files-mapped : (pattern_text : List ℕ) → find_files (mapped_files f files) who pattern_text ≡ mapped_file_outcome f (find_files files who pattern_text)
  unfolding find_files
  find_files-mapped pattern_text =
      (λ i. answering (Names (map listed (found-mapped pattern_text i))))
      ∙ (λ i. answering (Names (map-same listed listed (mapped_node f) (listed-mapped f) (found_entries (tree_seen files who) (pattern_of pattern_text)) i)))

  pub find_files_tests-mapped : (pattern_text : List ℕ) → find_files_tests (mapped_files f files) who pattern_text ≡ find_files_tests files who pattern_text
  unfolding find_files_tests
  find_files_tests-mapped pattern_text = λ i.
      (is_none (pattern_of pattern_text), InvalidName)
      ∷ (is_none (searched i), PathNotFound)
      ∷ (none i, FileNotFound)
      ∷ []
    where
      searched : searched_directory (tree_seen (mapped_files f files) who) (pattern_of pattern_text) ≡ searched_directory (tree_seen files who) (pattern_of pattern_text)
      searched = ap (λ tree. searched_directory tree (pattern_of pattern_text)) (tree_seen-mapped f blank files who) ∙ searched_directory-mapped f (tree_seen files who) (pattern_of pattern_text)

      none : is_no_entry (found_entries (tree_seen (mapped_files f files) who) (pattern_of pattern_text)) ≡ is_no_entry (found_entries (tree_seen files who) (pattern_of pattern_text))
      none = ap is_no_entry (found-mapped pattern_text) ∙ is_no_entry-mapped f (found_entries (tree_seen files who) (pattern_of pattern_text))

-- ---- calls on an open file

module _ (f : ℕ → ℕ) (blank : IsBlank f) (files : FilesNow) (o : OpenFile) where
  pub read_file-mapped : (offset many : ℕ)
      → read_file (mapped_files f files) o offset many ≡ record (mapped_file_outcome f (read_file files o offset many)) { reply = mapped_read f (read_file files o offset many).reply }
  unfolding read_file
  read_file-mapped offset many =
      (λ i. answering (Bytes (take many (drop offset (bytes_seen-mapped f blank files o.transaction o.node i)))))
      ∙ (λ i. answering (Bytes (take many (drop-map f offset (bytes_seen files o.transaction o.node) i))))
      ∙ (λ i. answering (Bytes (take-map f many (drop offset (bytes_seen files o.transaction o.node)) i)))

  pub write_file-mapped : (offset : ℕ) (bytes : List ℕ) → write_file o offset (map f bytes) ≡ mapped_file_outcome f (write_file o offset bytes)
  unfolding write_file
  write_file-mapped offset [] = refl
  write_file-mapped offset (b ∷ bs) = refl

  pub write_units_tests-mapped : (room : FileRoom) (start : ℕ) (contents : List ℕ) → write_units_tests (mapped_files f files) room o start (map f contents) ≡ write_units_tests files room o start contents
  unfolding write_units_tests
  write_units_tests-mapped room start contents = λ i.
      write_access_test o
      ∷ ((ap (lacks_disk (mapped_files f files) room o.transaction) (write_file-mapped start contents) ∙ lacks_disk-mapped f blank files room o.transaction (write_file o start contents)) i, DiskFull)
      ∷ []

  pub write_file_tests-mapped : (room : FileRoom) (offset : ℕ) (bytes : List ℕ) → write_file_tests (mapped_files f files) room o offset (map f bytes) ≡ write_file_tests files room o offset bytes
  unfolding write_file_tests
  write_file_tests-mapped room offset bytes = λ i. (nat_lt MOST_AT_ONCE (length-map bytes f i), InvalidParameter) ∷ write_units_tests-mapped room offset bytes i

  pub set_end-mapped : (size : ℕ) → set_end o size ≡ mapped_file_outcome f (set_end o size)
  unfolding set_end
  set_end-mapped size = refl

  pub set_end_tests-mapped : (room : FileRoom) (size : ℕ) → set_end_tests (mapped_files f files) room o size ≡ set_end_tests files room o size
  unfolding set_end_tests
  set_end_tests-mapped room size = λ i.
      write_access_test o
      ∷ ((ap (lacks_disk (mapped_files f files) room o.transaction) (set_end-mapped size) ∙ lacks_disk-mapped f blank files room o.transaction (set_end o size)) i, DiskFull)
      ∷ []

  pub get_size-mapped : get_size (mapped_files f files) o ≡ mapped_file_outcome f (get_size files o)
  unfolding get_size
  get_size-mapped =
      (λ i. answering (Size (length (bytes_seen-mapped f blank files o.transaction o.node i))))
      ∙ (λ i. answering (Size (length-map (bytes_seen files o.transaction o.node) f i)))
