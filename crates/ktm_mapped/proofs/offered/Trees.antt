-- What trees with other bytes have, and what changes with other bytes make of them.
use Rattle.std.proofs.Common.{◌≡◌, ℕ, zero, suc, ◌+◌, ◌-◌, ◌/◌, ◌==◌, ◌&&◌, ◌||◌, not, List, [], ◌∷◌, ◌++◌, map, take, drop, replicate, length, Option, Some, None, is_some, is_none, nat_lt, refl, sym, ◌∙◌, ap}
use Rattle.std.specs.Prelude.{option_map, if◌then◌else◌}
use Rattle.std.specs.List.{list_any}
use Rattle.std.proofs.lemmas.List.{length-map, map-append, take-map, drop-map}
use Rattle.ktm_world.specs.declared.change.Change.{Change}
use Rattle.ktm_world.specs.declared.change.Change.TheVariants.{Make, Put, Cut, Move, Drop}
use Rattle.ktm_world.specs.declared.change.Contents.{Contents}
use Rattle.ktm_world.specs.declared.change.Contents.TheVariants.{Whole, Paged}
use Rattle.ktm_world.specs.declared.change.NodeKind.{NodeKind}
use Rattle.ktm_world.specs.declared.change.NodeKind.TheVariants.{File, Directory}
use Rattle.ktm_world.specs.declared.recorded.Node.{Node}
use Rattle.ktm_world.specs.Changes.{new_content, bytes_in, is_whole, is_empty_list, changed, changed_all, applies, changes_apply, is_free, is_node_number}
use Rattle.ktm_world.specs.Paths.{is_name}
use Rattle.ktm_world.specs.Tree.{Tree, root, has_number, node_at, is_there, content_of, is_file, is_directory, bytes_or_none, units_of, bytes_of, child_of, has_entries, parent_of, way_up, is_at_or_below, with_node, with_changed, without_node, cut_to, put_over}
use Rattle.ktm_mapped.specs.Mapped.{IsBlank, mapped_content, mapped_node, mapped_tree, mapped_contents, mapped_change}
use Rattle.ktm_mapped.proofs.offered.Lists.{cond-mapped, is_some-mapped, fold-mapped, list_any-mapped, find-mapped, filter-mapped}

module _ (f : ℕ → ℕ) where
  -- ---- contents

  pub is_some-content : (content : Option (List ℕ)) → is_some (mapped_content f content) ≡ is_some content
  is_some-content None = refl
  is_some-content (Some bytes) = refl

  pub bytes-content : (content : Option (List ℕ)) → bytes_or_none (mapped_content f content) ≡ map f (bytes_or_none content)
  bytes-content None = refl
  bytes-content (Some bytes) = refl

  pub units_of-mapped : (bytes : List ℕ) → units_of (map f bytes) ≡ units_of bytes
  units_of-mapped bytes = λ i. (length-map bytes f i + 4095) / 4096

  pub units-content : (content : Option (List ℕ)) → units_of (bytes_or_none (mapped_content f content)) ≡ units_of (bytes_or_none content)
  units-content content = ap units_of (bytes-content content) ∙ units_of-mapped (bytes_or_none content)

  -- ---- lookups

  pub node_at-mapped : (tree : Tree) (number : ℕ) → node_at (mapped_tree f tree) number ≡ option_map (mapped_node f) (node_at tree number)
  node_at-mapped tree number = find-mapped _ _ (mapped_node f) (λ node. refl) tree

  pub is_some-node : (tree : Tree) (number : ℕ) → is_some (node_at (mapped_tree f tree) number) ≡ is_some (node_at tree number)
  is_some-node tree number = ap is_some (node_at-mapped tree number) ∙ is_some-mapped (mapped_node f) (node_at tree number)

  pub is_there-mapped : (tree : Tree) (number : ℕ) → is_there (mapped_tree f tree) number ≡ is_there tree number
  is_there-mapped tree number = λ i. number == root || is_some-node tree number i

  pub content_of-mapped : (o : Option Node) → content_of (option_map (mapped_node f) o) ≡ mapped_content f (content_of o)
  content_of-mapped None = refl
  content_of-mapped (Some node) = refl

  pub content-there : (tree : Tree) (number : ℕ) → content_of (node_at (mapped_tree f tree) number) ≡ mapped_content f (content_of (node_at tree number))
  content-there tree number = ap content_of (node_at-mapped tree number) ∙ content_of-mapped (node_at tree number)

  pub is_file-mapped : (tree : Tree) (number : ℕ) → is_file (mapped_tree f tree) number ≡ is_file tree number
  is_file-mapped tree number = ap is_some (content-there tree number) ∙ is_some-content (content_of (node_at tree number))

  pub is_directory-mapped : (tree : Tree) (number : ℕ) → is_directory (mapped_tree f tree) number ≡ is_directory tree number
  is_directory-mapped tree number = λ i. is_there-mapped tree number i && not (is_file-mapped tree number i)

  pub units-there : (tree : Tree) (number : ℕ) → units_of (bytes_of (mapped_tree f tree) number) ≡ units_of (bytes_of tree number)
  units-there tree number = ap (λ c. units_of (bytes_or_none c)) (content-there tree number) ∙ units-content (content_of (node_at tree number))

  pub child_of-mapped : (tree : Tree) (directory : ℕ) (name : List ℕ) → child_of (mapped_tree f tree) directory name ≡ option_map (mapped_node f) (child_of tree directory name)
  child_of-mapped tree directory name = find-mapped _ _ (mapped_node f) (λ node. refl) tree

  is_free-mapped : (tree : Tree) (directory : ℕ) (name : List ℕ) → is_free (mapped_tree f tree) directory name ≡ is_free tree directory name
  is_free-mapped tree directory name = ap is_none (child_of-mapped tree directory name) ∙ ap not (is_some-mapped (mapped_node f) (child_of tree directory name))

  pub has_entries-mapped : (tree : Tree) (directory : ℕ) → has_entries (mapped_tree f tree) directory ≡ has_entries tree directory
  has_entries-mapped tree directory = list_any-mapped _ _ (mapped_node f) (λ node. refl) tree

  pub parent_of-mapped : (o : Option Node) → parent_of (option_map (mapped_node f) o) ≡ parent_of o
  parent_of-mapped None = refl
  parent_of-mapped (Some node) = refl

  pub way_up-mapped : (tree : Tree) (number most : ℕ) → way_up (mapped_tree f tree) number most ≡ way_up tree number most
  way_up-mapped tree number zero = refl
  way_up-mapped tree number (suc most) =
      (λ i. number ∷ way_up (mapped_tree f tree) ((ap parent_of (node_at-mapped tree number) ∙ parent_of-mapped (node_at tree number)) i) most)
      ∙ (λ i. number ∷ way_up-mapped tree (parent_of (node_at tree number)) most i)

  pub is_at_or_below-mapped : (tree : Tree) (number other : ℕ) → is_at_or_below (mapped_tree f tree) number other ≡ is_at_or_below tree number other
  is_at_or_below-mapped tree number other =
      (λ i. list_any (λ n. n == other) (way_up (mapped_tree f tree) number (length-map tree (mapped_node f) i + 1)))
      ∙ (λ i. list_any (λ n. n == other) (way_up-mapped tree number (length tree + 1) i))

  -- ---- nodes that come, change and go

  pub with_node-mapped : (tree : Tree) (node : Node) → with_node (mapped_tree f tree) (mapped_node f node) ≡ mapped_tree f (with_node tree node)
  with_node-mapped [] node = refl
  with_node-mapped (n ∷ ns) node =
      (λ i. if nat_lt node.number n.number then mapped_node f node ∷ mapped_node f n ∷ mapped_tree f ns else mapped_node f n ∷ with_node-mapped ns node i)
      ∙ cond-mapped (mapped_tree f) (nat_lt node.number n.number) (node ∷ n ∷ ns) (n ∷ with_node ns node)

  pub with_changed-mapped : (tree : Tree) (number : ℕ) (g h : Node → Node) → ((node : Node) → g (mapped_node f node) ≡ mapped_node f (h node))
      → with_changed (mapped_tree f tree) number g ≡ mapped_tree f (with_changed tree number h)
  with_changed-mapped [] number g h same = refl
  with_changed-mapped (n ∷ ns) number g h same =
      (λ i. (if has_number number n then same n i else mapped_node f n) ∷ with_changed-mapped ns number g h same i)
      ∙ (λ i. cond-mapped (mapped_node f) (has_number number n) (h n) n i ∷ mapped_tree f (with_changed ns number h))

  pub without_node-mapped : (tree : Tree) (number : ℕ) → without_node (mapped_tree f tree) number ≡ mapped_tree f (without_node tree number)
  without_node-mapped tree number = filter-mapped _ _ (mapped_node f) (λ node. refl) tree

  -- ---- what is put

  pub bytes_in-mapped : (contents : Contents) → bytes_in (mapped_contents f contents) ≡ map f (bytes_in contents)
  bytes_in-mapped (Whole bytes) = refl
  bytes_in-mapped (Paged len pages) = refl

  is_whole-mapped : (contents : Contents) → is_whole (mapped_contents f contents) ≡ is_whole contents
  is_whole-mapped (Whole bytes) = refl
  is_whole-mapped (Paged len pages) = refl

  pub is_empty-mapped : (bytes : List ℕ) → is_empty_list (map f bytes) ≡ is_empty_list bytes
  is_empty-mapped [] = refl
  is_empty-mapped (b ∷ bs) = refl

  new_content-mapped : (kind : NodeKind) → new_content kind ≡ mapped_content f (new_content kind)
  new_content-mapped File = refl
  new_content-mapped Directory = refl

  -- ---- when a change applies

  pub applies-mapped : (tree : Tree) (c : Change) → applies (mapped_tree f tree) (mapped_change f c) ≡ applies tree c
  applies-mapped tree (Make node parent kind name) = λ i.
      is_node_number node && not (is_there-mapped tree node i) && is_directory-mapped tree parent i && is_name name && is_free-mapped tree parent name i
  applies-mapped tree (Put node offset contents) = λ i. is_file-mapped tree node i && is_whole-mapped contents i
  applies-mapped tree (Cut node size pages) = λ i. is_file-mapped tree node i && is_empty_list pages
  applies-mapped tree (Move node parent name) = λ i.
      not (node == root) && is_there-mapped tree node i && is_directory-mapped tree parent i && not (is_at_or_below-mapped tree parent node i) && is_name name
      && is_free-mapped tree parent name i
  applies-mapped tree (Drop node) = λ i. not (node == root) && is_there-mapped tree node i && not (has_entries-mapped tree node i)

-- ---- what changes make, where zero stays zero

module _ (f : ℕ → ℕ) (blank : IsBlank f) where
  zeros-mapped : (many : ℕ) → replicate many 0 ≡ map f (replicate many 0)
  zeros-mapped zero = refl
  zeros-mapped (suc many) = λ i. sym blank i ∷ zeros-mapped many i

  cut_to-mapped : (bytes : List ℕ) (size : ℕ) → cut_to (map f bytes) size ≡ map f (cut_to bytes size)
  cut_to-mapped bytes size =
      (λ i. take-map f size bytes i ++ replicate (size - length-map bytes f i) 0)
      ∙ (λ i. map f (take size bytes) ++ zeros-mapped (size - length bytes) i)
      ∙ sym (map-append f (take size bytes) (replicate (size - length bytes) 0))

  put_over-mapped : (old : List ℕ) (offset : ℕ) (new : List ℕ) → put_over (map f old) offset (map f new) ≡ map f (put_over old offset new)
  put_over-mapped old offset new =
      (λ i. cut_to-mapped old offset i ++ map f new ++ drop (offset + length-map new f i) (map f old))
      ∙ (λ i. map f (cut_to old offset) ++ map f new ++ drop-map f (offset + length new) old i)
      ∙ (λ i. sym (map-append f (cut_to old offset) new) i ++ map f (drop (offset + length new) old))
      ∙ sym (map-append f (cut_to old offset ++ new) (drop (offset + length new) old))

  pub changed-mapped : (tree : Tree) (c : Change) → changed (mapped_tree f tree) (mapped_change f c) ≡ mapped_tree f (changed tree c)
  changed-mapped tree (Make node parent kind name) =
      (λ i. with_node (mapped_tree f tree) (record { number = node; parent = parent; name = name; content = new_content-mapped f kind i }))
      ∙ with_node-mapped f tree (record { number = node; parent = parent; name = name; content = new_content kind })
  changed-mapped tree (Put node offset contents) = with_changed-mapped f tree node _ _ (λ n i. record n {
    content = Some (((λ j. put_over (bytes-content f n.content j) offset (bytes_in-mapped f contents j)) ∙ put_over-mapped (bytes_or_none n.content) offset (bytes_in contents)) i);
  })
  changed-mapped tree (Cut node size pages) = with_changed-mapped f tree node _ _ (λ n i. record n {
    content = Some (((λ j. cut_to (bytes-content f n.content j) size) ∙ cut_to-mapped (bytes_or_none n.content) size) i);
  })
  changed-mapped tree (Move node parent name) = with_changed-mapped f tree node _ _ (λ n. refl)
  changed-mapped tree (Drop node) = without_node-mapped f tree node

  pub changed_all-mapped : (tree : Tree) (cs : List Change) → changed_all (mapped_tree f tree) (map (mapped_change f) cs) ≡ mapped_tree f (changed_all tree cs)
  changed_all-mapped tree cs = fold-mapped changed changed (mapped_tree f) (mapped_change f) changed-mapped tree cs

  pub changes_apply-mapped : (tree : Tree) (cs : List Change) → changes_apply (mapped_tree f tree) (map (mapped_change f) cs) ≡ changes_apply tree cs
  changes_apply-mapped tree [] = refl
  changes_apply-mapped tree (c ∷ cs) = λ i.
      applies-mapped f tree c i && (ap (λ t. changes_apply t (map (mapped_change f) cs)) (changed-mapped tree c) ∙ changes_apply-mapped (changed tree c) cs) i
