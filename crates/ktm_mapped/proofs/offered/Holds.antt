-- What changes with other bytes hold, do and record.
use Rattle.std.proofs.Common.{◌≡◌, ℕ, ◌+◌, ◌==◌, ◌&&◌, ◌||◌, not, true, List, [], ◌∷◌, ◌++◌, map, filter, Option, Some, None, nat_le, is_none, refl, ◌∙◌, ap}
use Rattle.std.specs.Prelude.{option_map, if◌then◌else◌}
use Rattle.std.specs.List.{list_any, list_all}
use Rattle.ktm_world.specs.declared.change.Change.{Change}
use Rattle.ktm_world.specs.declared.change.Change.TheVariants.{Make, Put, Cut, Move, Drop}
use Rattle.ktm_world.specs.declared.change.Contents.TheVariants.{Whole, Paged}
use Rattle.ktm_world.specs.declared.recorded.Node.{Node}
use Rattle.ktm_world.specs.Changes.{changed, changes_bytes, has_changes, has_made, is_drop, is_make, is_move, next_after, node_of, nodes_made}
use Rattle.ktm_world.specs.Committed.{written_after, written_files}
use Rattle.ktm_world.specs.Durable.{act_of_node, acts_of, acts_of_all, are_final_bytes, are_recorded_changes, ends_in_bytes, gives_bytes, is_new_in, made_files, next_after_all, was_cut}
use Rattle.ktm_world.specs.Holds.{place, place_of, places_of, each_change, dropped_directory, moved_directory, directories_of, holds_by, deletes, drops_directory, moves_directory, moves_file}
use Rattle.ktm_world.specs.Tree.{Tree, node_at, is_directory}
use Rattle.txf_laws.specs.Contents.{is_made_below, puts_some}
use Rattle.ktm_mapped.specs.Mapped.{IsBlank, mapped_node, mapped_tree, mapped_change}
use Rattle.ktm_mapped.proofs.offered.Lists.{fold-mapped, list_any-mapped, filter-mapped, map-same}
use Rattle.ktm_mapped.proofs.offered.Trees.{is_some-content, node_at-mapped, is_some-node, is_directory-mapped, is_empty-mapped, changed-mapped}

module _ (f : ℕ → ℕ) where
  -- ---- what a change is

  pub node_of-mapped : (c : Change) → node_of (mapped_change f c) ≡ node_of c
  node_of-mapped (Put node offset contents) = refl
  node_of-mapped _ = refl

  pub is_make-mapped : (c : Change) → is_make (mapped_change f c) ≡ is_make c
  is_make-mapped (Put node offset contents) = refl
  is_make-mapped _ = refl

  pub is_drop-mapped : (c : Change) → is_drop (mapped_change f c) ≡ is_drop c
  is_drop-mapped (Put node offset contents) = refl
  is_drop-mapped _ = refl

  pub is_move-mapped : (c : Change) → is_move (mapped_change f c) ≡ is_move c
  is_move-mapped (Put node offset contents) = refl
  is_move-mapped _ = refl

  pub changes_bytes-mapped : (c : Change) → changes_bytes (mapped_change f c) ≡ changes_bytes c
  changes_bytes-mapped (Put node offset contents) = refl
  changes_bytes-mapped _ = refl

  pub next_after-mapped : (next : ℕ) (c : Change) → next_after next (mapped_change f c) ≡ next_after next c
  next_after-mapped next (Put node offset contents) = refl
  next_after-mapped next _ = refl

  pub is_made_below-mapped : (next : ℕ) (c : Change) → is_made_below next (mapped_change f c) ≡ is_made_below next c
  is_made_below-mapped next (Put node offset contents) = refl
  is_made_below-mapped next _ = refl

  pub puts_some-mapped : (c : Change) → puts_some (mapped_change f c) ≡ puts_some c
  puts_some-mapped (Put node offset (Whole bytes)) = λ i. not (is_empty-mapped f bytes i)
  puts_some-mapped (Put node offset (Paged len pages)) = refl
  puts_some-mapped _ = refl

  pub is_new_in-mapped : (tree : Tree) (c : Change) → is_new_in (mapped_tree f tree) (mapped_change f c) ≡ is_new_in tree c
  is_new_in-mapped tree c =
      (λ i. not (is_make-mapped c i) || is_none (node_at (mapped_tree f tree) (node_of-mapped c i))) ∙ (λ i. not (is_make c) || not (is_some-node f tree (node_of c) i))

  -- ---- what changes are

  pub has_changes-mapped : (cs : List Change) → has_changes (map (mapped_change f) cs) ≡ has_changes cs
  has_changes-mapped [] = refl
  has_changes-mapped (c ∷ cs) = refl

  pub has_made-mapped : (cs : List Change) (node : ℕ) → has_made (map (mapped_change f) cs) node ≡ has_made cs node
  has_made-mapped cs node =
      list_any-mapped _ _ (mapped_change f) (λ c i. is_make-mapped c i && node_of-mapped c i == node) cs

  pub nodes_made-mapped : (cs : List Change) → nodes_made (map (mapped_change f) cs) ≡ nodes_made cs
  nodes_made-mapped [] = refl
  nodes_made-mapped (c ∷ cs) = λ i. (if is_make-mapped c i && not (dropped-mapped i) then 1 else 0) + nodes_made-mapped cs i
    where
      dropped-mapped : list_any (λ later. is_drop later && node_of later == node_of (mapped_change f c)) (map (mapped_change f) cs) ≡ list_any (λ later. is_drop later && node_of later == node_of c) cs
      dropped-mapped = list_any-mapped (λ later. is_drop later && node_of later == node_of (mapped_change f c)) (λ later. is_drop later && node_of later == node_of c) (mapped_change f)
          (λ later i. is_drop-mapped later i && node_of-mapped later i == node_of-mapped c i) cs

  pub next_after_all-mapped : (next : ℕ) (cs : List Change) → next_after_all next (map (mapped_change f) cs) ≡ next_after_all next cs
  next_after_all-mapped next cs = fold-mapped next_after next_after (λ (n : ℕ). n) (mapped_change f) next_after-mapped next cs

  written_after-mapped : (files : List ℕ) (c : Change) → written_after files (mapped_change f c) ≡ written_after files c
  written_after-mapped files (Put node offset contents) = refl
  written_after-mapped files _ = refl

  pub written_files-mapped : (cs : List Change) → written_files (map (mapped_change f) cs) ≡ written_files cs
  written_files-mapped cs = fold-mapped written_after written_after (λ (files : List ℕ). files) (mapped_change f) written_after-mapped [] cs

  -- ---- the form in which changes are recorded

  are_final_bytes-mapped : (least : ℕ) (cut : Option ℕ) (cs : List Change) → are_final_bytes least cut (map (mapped_change f) cs) ≡ are_final_bytes least cut cs
  are_final_bytes-mapped least cut [] = refl
  are_final_bytes-mapped least cut (Cut node size pages ∷ cs) = λ i. nat_le least node && size == 0 && are_final_bytes-mapped (node + 1) (Some node) cs i
  are_final_bytes-mapped least cut (Put node offset contents ∷ cs) = λ i. was_cut cut node && offset == 0 && are_final_bytes-mapped least None cs i
  are_final_bytes-mapped least cut (_ ∷ cs) = refl

  ends_in_bytes-mapped : (cs : List Change) → ends_in_bytes (map (mapped_change f) cs) ≡ ends_in_bytes cs
  ends_in_bytes-mapped [] = refl
  ends_in_bytes-mapped (c ∷ cs) = λ i. if changes_bytes-mapped c i then are_final_bytes-mapped 0 None (c ∷ cs) i else ends_in_bytes-mapped cs i

  gives_bytes-mapped : (cs : List Change) (file : ℕ) → gives_bytes (map (mapped_change f) cs) file ≡ gives_bytes cs file
  gives_bytes-mapped cs file =
      list_any-mapped _ _ (mapped_change f) (λ c i. changes_bytes-mapped c i && node_of-mapped c i == file) cs

  made_files-mapped : (cs : List Change) → made_files (map (mapped_change f) cs) ≡ made_files cs
  made_files-mapped cs =
      ap written_files (filter-mapped _ _ (mapped_change f) (λ c i. not (changes_bytes-mapped c i)) cs)
      ∙ written_files-mapped (filter (λ c. not (changes_bytes c)) cs)

  pub are_recorded_changes-mapped : (cs : List Change) → are_recorded_changes (map (mapped_change f) cs) ≡ are_recorded_changes cs
  are_recorded_changes-mapped cs = λ i. has_changes-mapped cs i && ends_in_bytes-mapped cs i && list_all (λ file. gives_bytes-mapped cs file i) (made_files-mapped cs i)

  -- ---- what a change does and holds

  act-mapped : (tree : Tree) (o : Option Node) (c : Change) → act_of_node (mapped_tree f tree) (option_map (mapped_node f) o) (mapped_change f c) ≡ act_of_node tree o c
  act-mapped tree None c = refl
  act-mapped tree (Some node) (Put number offset contents) = refl
  act-mapped tree (Some node) (Cut number size pages) = refl
  act-mapped tree (Some node) (Move number parent name) = λ i.
      (if is_some-content f node.content i then moves_file number (place node.parent node.name) (place parent name) else moves_directory number (place node.parent node.name) (place parent name)) ∷ []
  act-mapped tree (Some node) (Drop number) = λ i.
      (if is_some-content f node.content i then deletes number (place node.parent node.name) else drops_directory number (place node.parent node.name)) ∷ []
  act-mapped tree (Some node) (Make number parent kind name) = refl

  acts_of-mapped : (tree : Tree) (c : Change) → acts_of (mapped_tree f tree) (mapped_change f c) ≡ acts_of tree c
  acts_of-mapped tree (Make number parent kind name) = refl
  acts_of-mapped tree (Put node offset contents) =
      ap (λ o. act_of_node (mapped_tree f tree) o (mapped_change f (Put node offset contents))) (node_at-mapped f tree node) ∙ act-mapped tree (node_at tree node) (Put node offset contents)
  acts_of-mapped tree (Cut node size pages) = ap (λ o. act_of_node (mapped_tree f tree) o (Cut node size pages)) (node_at-mapped f tree node) ∙ act-mapped tree (node_at tree node) (Cut node size pages)
  acts_of-mapped tree (Move node parent name) =
      ap (λ o. act_of_node (mapped_tree f tree) o (Move node parent name)) (node_at-mapped f tree node) ∙ act-mapped tree (node_at tree node) (Move node parent name)
  acts_of-mapped tree (Drop node) = ap (λ o. act_of_node (mapped_tree f tree) o (Drop node)) (node_at-mapped f tree node) ∙ act-mapped tree (node_at tree node) (Drop node)

  place_of-mapped : (o : Option Node) → place_of (option_map (mapped_node f) o) ≡ place_of o
  place_of-mapped None = refl
  place_of-mapped (Some node) = refl

  place-there : (tree : Tree) (number : ℕ) → place_of (node_at (mapped_tree f tree) number) ≡ place_of (node_at tree number)
  place-there tree number = ap place_of (node_at-mapped f tree number) ∙ place_of-mapped (node_at tree number)

  places_of-mapped : (tree : Tree) (c : Change) → places_of (mapped_tree f tree) (mapped_change f c) ≡ places_of tree c
  places_of-mapped tree (Make node parent kind name) = refl
  places_of-mapped tree (Put node offset contents) = refl
  places_of-mapped tree (Cut node size pages) = refl
  places_of-mapped tree (Move node parent name) = λ i. place-there tree node i ++ place parent name ∷ []
  places_of-mapped tree (Drop node) = place-there tree node

  dropped_directory-mapped : (tree : Tree) (c : Change) → dropped_directory (mapped_tree f tree) (mapped_change f c) ≡ dropped_directory tree c
  dropped_directory-mapped tree c =
      (λ i. if is_drop-mapped c i && is_directory (mapped_tree f tree) (node_of-mapped c i) then node_of-mapped c i ∷ [] else [])
      ∙ (λ i. if is_drop c && is_directory-mapped f tree (node_of c) i then node_of c ∷ [] else [])

  moved_directory-mapped : (tree : Tree) (c : Change) → moved_directory (mapped_tree f tree) (mapped_change f c) ≡ moved_directory tree c
  moved_directory-mapped tree c =
      (λ i. if is_move-mapped c i && is_directory (mapped_tree f tree) (node_of-mapped c i) then node_of-mapped c i ∷ [] else [])
      ∙ (λ i. if is_move c && is_directory-mapped f tree (node_of c) i then node_of c ∷ [] else [])

-- ---- what changes do and hold, each on the tree that it finds

module _ (f : ℕ → ℕ) (blank : IsBlank f) where
  pub acts_of_all-mapped : (tree : Tree) (cs : List Change) → acts_of_all (mapped_tree f tree) (map (mapped_change f) cs) ≡ acts_of_all tree cs
  acts_of_all-mapped tree [] = refl
  acts_of_all-mapped tree (c ∷ cs) = λ i.
      acts_of-mapped f tree c i ++ (ap (λ t. acts_of_all t (map (mapped_change f) cs)) (changed-mapped f blank tree c) ∙ acts_of_all-mapped (changed tree c) cs) i

  each_change-mapped : {X : Type 0} (of : Tree → Change → List X) → ((tree : Tree) (c : Change) → of (mapped_tree f tree) (mapped_change f c) ≡ of tree c)
      → (tree : Tree) (cs : List Change) → each_change of (mapped_tree f tree) (map (mapped_change f) cs) ≡ each_change of tree cs
  each_change-mapped of same tree [] = refl
  each_change-mapped of same tree (c ∷ cs) = λ i.
      same tree c i ++ (ap (λ t. each_change of t (map (mapped_change f) cs)) (changed-mapped f blank tree c) ∙ each_change-mapped of same (changed tree c) cs) i

  pub holds_by-mapped : (tree : Tree) (cs : List Change) (writes : List ℕ) → holds_by (mapped_tree f tree) (map (mapped_change f) cs) writes ≡ holds_by tree cs writes
  holds_by-mapped tree cs writes = λ i. record {
    nodes = map-same node_of node_of (mapped_change f) (node_of-mapped f) cs i ++ writes;
    places = each_change-mapped places_of (places_of-mapped f) tree cs i;
    uses = directories_of (each_change-mapped places_of (places_of-mapped f) tree cs i);
    dropped = each_change-mapped dropped_directory (dropped_directory-mapped f) tree cs i;
    moves = list_any (λ node. true) (each_change-mapped moved_directory (moved_directory-mapped f) tree cs i);
  }
