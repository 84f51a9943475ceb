-- What holds of each byte of the files holds of the contents that they name.
use Rattle.std.proofs.Common.{ℕ, suc, List, [], ◌∷◌, ◌++◌, map}
use Rattle.std.proofs.lemmas.List.Elements.{All-append, All-cons, All-head, All-nil, All-tail}
use Rattle.std.specs.List.{flat_map}
use Rattle.std.specs.Prelude.{All}
use Rattle.ktm_each.specs.Each.{EachFrom, EachOfChange, EachOfFiles, EachOfFirst, EachOfNode, EachOfOwn}
use Rattle.ktm_store.proofs.offered.HoldingContents.{all-left, all-right}
use Rattle.ktm_world.specs.declared.change.Change.{Change}
use Rattle.ktm_world.specs.declared.change.Change.TheVariants.{Make, Put, Cut, Move, Drop}
use Rattle.ktm_world.specs.declared.recorded.Node.{Node}
use Rattle.ktm_world.specs.Changes.{bytes_in}
use Rattle.ktm_world.specs.Files.{FilesNow, FirstOpen}
use Rattle.ktm_world.specs.Tree.{bytes_or_none}
use Rattle.txf_volume.specs.Pages.{first_contents, named_contents, own_contents, put_contents, tree_contents}

module _ (P : ℕ → Type 0) where
  -- of each byte, whatever its file and its index
  abbrev pub anywhere : ℕ → ℕ → ℕ → Type 0
  anywhere file index place = P place

  all-from : (file from : ℕ) (bytes : List ℕ) → EachFrom (anywhere file) from bytes → All P bytes
  all-from file from [] each = All-nil P
  all-from file from (b ∷ bs) each = All-cons P b bs each.0 (all-from file (suc from) bs each.1)

  from-all : (file from : ℕ) (bytes : List ℕ) → All P bytes → EachFrom (anywhere file) from bytes
  from-all file from [] all = tt
  from-all file from (b ∷ bs) all = (All-head P b bs all, from-all file (suc from) bs (All-tail P b bs all))

  -- ---- lists of which each thing has one content

  module _ {X : Type 0} (bytes : X → List ℕ) (Each : X → Type 0) where
    map-all : ((x : X) → Each x → All P (bytes x)) → (xs : List X) → All Each xs → All (All P) (map bytes xs)
    map-all so [] all = All-nil (All P)
    map-all so (x ∷ xs) all = All-cons (All P) (bytes x) (map bytes xs) (so x (All-head Each x xs all)) (map-all so xs (All-tail Each x xs all))

    all-map : ((x : X) → All P (bytes x) → Each x) → (xs : List X) → All (All P) (map bytes xs) → All Each xs
    all-map so [] all = All-nil Each
    all-map so (x ∷ xs) all = All-cons Each x xs (so x (All-head (All P) (bytes x) (map bytes xs) all)) (all-map so xs (All-tail (All P) (bytes x) (map bytes xs) all))

  -- ---- lists of which each thing has some contents

  module _ {X : Type 0} (contents : X → List (List ℕ)) (Each : X → Type 0) where
    flat-all : ((x : X) → Each x → All (All P) (contents x)) → (xs : List X) → All Each xs → All (All P) (flat_map contents xs)
    flat-all so [] all = All-nil (All P)
    flat-all so (x ∷ xs) all = All-append (All P) (contents x) (flat_map contents xs) (so x (All-head Each x xs all)) (flat-all so xs (All-tail Each x xs all))

    all-flat : ((x : X) → All (All P) (contents x) → Each x) → (xs : List X) → All (All P) (flat_map contents xs) → All Each xs
    all-flat so [] all = All-nil Each
    all-flat so (x ∷ xs) all =
        All-cons Each x xs (so x (all-left (All P) (contents x) (flat_map contents xs) all)) (all-flat so xs (all-right (All P) (contents x) (flat_map contents xs) all))

  -- ---- changes

  change-all : (c : Change) → EachOfChange anywhere c → All (All P) (put_contents c)
  change-all (Make node parent kind name) each = All-nil (All P)
  change-all (Put node offset contents) each = All-cons (All P) (bytes_in contents) [] (all-from node offset (bytes_in contents) each) (All-nil (All P))
  change-all (Cut node size pages) each = All-nil (All P)
  change-all (Move node parent name) each = All-nil (All P)
  change-all (Drop node) each = All-nil (All P)

  all-change : (c : Change) → All (All P) (put_contents c) → EachOfChange anywhere c
  all-change (Make node parent kind name) all = tt
  all-change (Put node offset contents) all = from-all node offset (bytes_in contents) (All-head (All P) (bytes_in contents) [] all)
  all-change (Cut node size pages) all = tt
  all-change (Move node parent name) all = tt
  all-change (Drop node) all = tt

  -- ---- the files

  module _ (files : FilesNow) where
    pub files-all : EachOfFiles anywhere files → All (All P) (named_contents files)
    unfolding named_contents
    files-all each =
        All-append (All P) (tree_contents files.tree) (first_contents files.first_opens ++ flat_map own_contents files.table.own)
        (map-all (λ (node : Node). bytes_or_none node.content) (EachOfNode anywhere) (λ node. all-from node.number 0 (bytes_or_none node.content)) files.tree each.tree)
        (All-append (All P) (first_contents files.first_opens) (flat_map own_contents files.table.own)
        (map-all (λ (o : FirstOpen). o.bytes) (EachOfFirst anywhere) (λ o. all-from o.file 0 o.bytes) files.first_opens each.first_opens)
        (flat-all own_contents (EachOfOwn anywhere) (λ o. flat-all put_contents (EachOfChange anywhere) change-all o.changes) files.table.own each.own))

    pub all-files : All (All P) (named_contents files) → EachOfFiles anywhere files
    unfolding named_contents
    all-files all =
        let rest = all-right (All P) (tree_contents files.tree) (first_contents files.first_opens ++ flat_map own_contents files.table.own) all in
        record {
          tree = all-map (λ (node : Node). bytes_or_none node.content) (EachOfNode anywhere) (λ node. from-all node.number 0 (bytes_or_none node.content)) files.tree
              (all-left (All P) (tree_contents files.tree) (first_contents files.first_opens ++ flat_map own_contents files.table.own) all);
          own = all-flat own_contents (EachOfOwn anywhere) (λ o. all-flat put_contents (EachOfChange anywhere) all-change o.changes) files.table.own
              (all-right (All P) (first_contents files.first_opens) (flat_map own_contents files.table.own) rest);
          first_opens = all-map (λ (o : FirstOpen). o.bytes) (EachOfFirst anywhere) (λ o. from-all o.file 0 o.bytes) files.first_opens
              (all-left (All P) (first_contents files.first_opens) (flat_map own_contents files.table.own) rest);
        }
