-- How many bytes a call on files records: one change at most, which names no more pages than the image has units.
use Rattle.std.specs.Prelude.{⊤}
use Rattle.std.proofs.Common.{◌≡◌, ℕ, ◌≤◌, true, false, List, [], ◌∷◌, ◌++◌, length, Option, Some, None, refl, arith, ◌*◌, ◌+◌, nat_lt, drop, ◌∙◌, ap, length-append}
use Rattle.std.proofs.lemmas.Bool.{ltb-false, or_parts}
use Rattle.ktm_base.specs.declared.id.Id.{Id}
use Rattle.ktm_world.specs.declared.change.Change.{Change}
use Rattle.ktm_world.specs.declared.change.Change.TheVariants.{Make, Put, Cut, Move, Drop}
use Rattle.ktm_world.specs.declared.event.Event.TheVariants.{Plain}
use Rattle.ktm_world.specs.declared.options.Access.{Access}
use Rattle.ktm_world.specs.declared.options.Disposition.{Disposition}
use Rattle.ktm_world.specs.declared.options.ShareMode.{ShareMode}
use Rattle.ktm_world.specs.Sizes.{change_size}
use Rattle.ktm_world.specs.declared.change.Contents.TheVariants.{Whole}
use Rattle.ktm_world.specs.declared.recorded.Node.{Node}
use Rattle.ktm_world.specs.Changes.{applies, changed}
use Rattle.ktm_world.specs.Decide.{events_of}
use Rattle.ktm_world.specs.FileCalls.{Whereabouts, no_path, no_way, free, at_root, at_node, create_at, create_directory, create_file, delete_file, drop_at, empties, find_files, find_path, get_size, make_at, move_at, move_file, read_file, remove_directory, set_end, write_file}
use Rattle.ktm_world.specs.FileOutcome.{FileOutcome, changing, files_after, lacks_disk}
use Rattle.ktm_world.specs.Files.{FilesNow, OpenFile, tree_seen}
use Rattle.ktm_world.specs.Present.{Present}
use Rattle.ktm_world.specs.Tree.{Tree, bytes_of, bytes_or_none, content_of, cut_to, has_number, node_at, put_over}
use Rattle.ktm_world.specs.Uses.{file_room}
use Rattle.ktm_world.specs.FileUses.{nodes_used, units_used}
use Rattle.ktm_world.proofs.offered.Lookups.{node_at-there, remade}
use Rattle.ktm_records.specs.FileCallsMade.{IsRightCall}
use Rattle.ktm_steps.proofs.offered.Ways.{if_cases}
use Rattle.ktm_room.proofs.offered.ChangeSizes.{name-size}
use Rattle.ktm_room.proofs.offered.CourseSizes.{one-sized, sizes}
use Rattle.txf_laws.proofs.offered.CommittedUnits.{file-found, node_units, suits-applies, tree_units}
use Rattle.txf_laws.proofs.offered.Elements.{find-in}
use Rattle.txf_laws.proofs.offered.Sums.{sum-one}

-- ---- changes

-- a change that puts no bytes, and names no pages
abbrev PutsNone : Change → Type 0
PutsNone (Put node offset contents) = ⊥
PutsNone (Cut node size pages) = pages ≡ []
PutsNone _ = ⊤

-- a change, if there is one, puts none
abbrev pub IsShort : Option Change → Type 0
IsShort None = ⊤
IsShort (Some change) = PutsNone change

change-size : (tree : Tree) (c : Change) → applies tree c ≡ true → PutsNone c → change_size c ≤ 274
change-size tree (Make node parent kind name) is short = let most = name-size tree (Make node parent kind name) is refl in omega (arith, most)
change-size tree (Put node offset contents) is short = absurd short
change-size tree (Cut node size pages) is short = let none = ap length short in omega (arith, none)
change-size tree (Move node parent name) is short = let most = name-size tree (Move node parent name) is refl in omega (arith, most)
change-size tree (Drop node) is short = omega arith

-- what a right call records
pub file-size : (x : Present) (who : Option Id) (o : FileOutcome) → IsRightCall x who o → IsShort o.change → sizes (events_of who o.change) ≤ 275
file-size x who o right short = go who o.change short (λ c is. right.applies c is)
  where
    go : (by : Option Id) (change : Option Change) → IsShort change → ((c : Change) → change ≡ Some c → applies (tree_seen x.files who) c ≡ true) → sizes (events_of by change) ≤ 275
    go None None short applies' = omega arith
    go None (Some c) short applies' = let one = one-sized (Plain c) in let most = change-size (tree_seen x.files who) c (applies' c refl) short in omega (arith, one, most)
    go (Some id) None short applies' = omega arith
    go (Some id) (Some c) short applies' = omega arith

-- ---- calls

module _ (files : FilesNow) where
  pub short-created : (who : Option Id) (path : List ℕ) (access : Access) (mode : ShareMode) (d : Disposition) → IsShort (create_file files who path access mode d).change
  unfolding create_file
  short-created who path access mode d = go (find_path (tree_seen files who) path)
    where
      go : (w : Whereabouts) → IsShort (create_at files who w access mode d).change
      go (free directory name) = tt
      go (at_node node) = if_cases IsShort (empties d) (Some (Cut node.number 0 [])) None (λ is. refl) (λ other. tt)
      go no_path = tt
      go no_way = tt
      go at_root = tt

  short-dropped : (w : Whereabouts) → IsShort (drop_at w).change
  short-dropped (at_node node) = tt
  short-dropped (free directory name) = tt
  short-dropped no_path = tt
  short-dropped no_way = tt
  short-dropped at_root = tt

  pub short-deleted : (who : Option Id) (path : List ℕ) → IsShort (delete_file files who path).change
  unfolding delete_file
  short-deleted who path = short-dropped (find_path (tree_seen files who) path)

  pub short-removed : (who : Option Id) (path : List ℕ) → IsShort (remove_directory files who path).change
  unfolding remove_directory
  short-removed who path = short-dropped (find_path (tree_seen files who) path)

  pub short-directory : (who : Option Id) (path : List ℕ) → IsShort (create_directory files who path).change
  unfolding create_directory
  short-directory who path = go (find_path (tree_seen files who) path)
    where
      go : (w : Whereabouts) → IsShort (make_at files w).change
      go (free directory name) = tt
      go (at_node node) = tt
      go no_path = tt
      go no_way = tt
      go at_root = tt

  pub short-moved : (who : Option Id) (source target : List ℕ) → IsShort (move_file files who source target).change
  unfolding move_file
  short-moved who source target = go (find_path (tree_seen files who) source) (find_path (tree_seen files who) target)
    where
      go : (from to : Whereabouts) → IsShort (move_at from to).change
      go (at_node node) (free directory name) = tt
      go (at_node node) (at_node other) = tt
      go (at_node node) no_path = tt
      go (at_node node) no_way = tt
      go (at_node node) at_root = tt
      go (free directory name) to = tt
      go no_path to = tt
      go no_way to = tt
      go at_root to = tt

  pub short-read : (o : OpenFile) (offset many : ℕ) → IsShort (read_file files o offset many).change
  unfolding read_file
  short-read o offset many = tt

  pub short-sized : (o : OpenFile) → IsShort (get_size files o).change
  unfolding get_size
  short-sized o = tt

  pub short-found : (who : Option Id) (searched : List ℕ) → IsShort (find_files files who searched).change
  unfolding find_files
  short-found who searched = tt

pub short-cut : (o : OpenFile) (size : ℕ) → IsShort (set_end o size).change
unfolding set_end
short-cut o size = refl

-- ---- writing

-- a file has no more bytes than there are units
few-bytes : (tree : Tree) (number : ℕ) → length (bytes_of tree number) ≤ 4096 * tree_units tree
few-bytes tree number = go (node_at tree number) refl
  where
    go : (o : Option Node) → node_at tree number ≡ o → length (bytes_or_none (content_of o)) ≤ 4096 * tree_units tree
    go None found = omega arith
    go (Some node) found = let one = sum-one node_units tree node (find-in (has_number number) tree node found).0 in omega (arith, one)

long-put_over : (old : List ℕ) (offset : ℕ) (new : List ℕ) → length new ≤ length (put_over old offset new)
long-put_over old offset new =
    let front = length-append (cut_to old offset) new in
    let all = length-append (cut_to old offset ++ new) (drop (offset + length new) old) in
    omega (arith, front, all)

-- bytes that are put are in their file then
few-put : (tree : Tree) (node offset : ℕ) (bytes : List ℕ) → applies tree (Put node offset (Whole bytes)) ≡ true → length bytes ≤ 4096 * tree_units (changed tree (Put node offset (Whole bytes)))
few-put tree node offset bytes is =
    let c = Put node offset (Whole bytes) in
    let suits = suits-applies tree c is in
    let found = file-found tree node (suits.file refl) in
    let now : bytes_of (changed tree c) node ≡ put_over (bytes_or_none found.0.content) offset bytes = ap (λ o. bytes_or_none (content_of o)) (node_at-there tree c suits.fits ∙ ap (remade c) found.1) in
    let same = ap length now in
    let most = few-bytes (changed tree c) node in
    let long = long-put_over (bytes_or_none found.0.content) offset bytes in
    omega (arith, same, most, long)

-- what is written takes a page for each unit of the image at most
pub written-size : (x : Present) (o : OpenFile) (offset : ℕ) (bytes : List ℕ) → IsRightCall x o.transaction (write_file o offset bytes) → lacks_disk x.files (file_room x) o.transaction (write_file o offset bytes) ≡ false
    → sizes (events_of o.transaction (write_file o offset bytes).change) ≤ 26 + 4 * x.recorded.units
unfolding write_file lacks_disk file_room units_used
written-size x o offset [] right disk = none o.transaction
  where
    none : (who : Option Id) → sizes (events_of who None) ≤ 26 + 4 * x.recorded.units
    none None = omega arith
    none (Some id) = omega arith
written-size x o offset (b ∷ bs) right disk = go o.transaction right disk
  where
    put : Change
    put = Put o.node offset (Whole (b ∷ bs))

    go : (who : Option Id) → IsRightCall x who (changing put) → lacks_disk x.files (file_room x) who (changing put) ≡ false → sizes (events_of who (Some put)) ≤ 26 + 4 * x.recorded.units
    go (Some id) right' disk' = omega arith
    go None right' disk' =
        let after = files_after x.files None (changing put) in
        let within = or_parts (nat_lt x.recorded.units (units_used after)) (nat_lt x.recorded.units (nodes_used after)) disk' in
        let units = ltb-false _ _ within.0 in
        let few = few-put x.files.tree o.node offset (b ∷ bs) (right'.applies put refl) in
        let one = one-sized (Plain put) in
        omega (arith, one, few, units)
