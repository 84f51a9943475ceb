-- Laws of what a transaction changed, for those who hold it beside a tree and a model.
use Rattle.std.specs.Prelude.{◌≡◌, ℕ, true, List, [], ◌∷◌, ◌++◌, map, filter}
use Rattle.std.specs.List.{list_all}
use Rattle.ktm_world.specs.declared.change.Change.{Change}
use Rattle.ktm_world.specs.declared.change.Change.TheVariants.{Make, Put, Cut, Move, Drop}
use Rattle.ktm_world.specs.Changes.{changes_apply, bytes_in, is_make, node_of}
use Rattle.ktm_world.specs.Committed.{changes_to_commit, written_files}
use Rattle.ktm_world.specs.Files.{bytes_after}
use Rattle.ktm_world.specs.Holds.{each_change, places_of}
use Rattle.ktm_world.specs.Tree.{Tree, IsWellFormed, cut_to, put_over}
use Rattle.txf_overlay.specs.Written.{AreFilesRising, bytes_at, bytes_or, with_bytes, with_made, without_file}
use Rattle.txf_overlay.specs.OverlayState.{is_of_names, OverlayState, Written, own_of, seen}
use Rattle.txf_overlay.specs.Views.{StandsOver}

-- where another tree takes the same changes, which hold the same places in it, they stand over it too
abbrev pub OtherTreeLaw : Type 0
OtherTreeLaw = (o : OverlayState) (tree other : Tree) → StandsOver tree o → IsWellFormed other → IsWellFormed (seen other o) → changes_apply other o.names ≡ true
    → each_change places_of other o.names ≡ each_change places_of tree o.names → StandsOver other o

-- the number of a file that is written
abbrev pub number_of : Written → ℕ
number_of w = w.file

-- the files that are written once a change is made; one that was not written before starts from its first bytes
abbrev pub written_with : (ℕ → List ℕ) → List Written → Change → List Written
written_with first ws (Make node parent kind name) = with_made ws node kind
written_with first ws (Put node offset contents) = with_bytes ws node (put_over (bytes_or (first node) (bytes_at ws node)) offset (bytes_in contents))
written_with first ws (Cut node size pages) = with_bytes ws node (cut_to (bytes_or (first node) (bytes_at ws node)) size)
written_with first ws (Move node parent name) = ws
written_with first ws (Drop node) = without_file ws node

-- names are made, moved and dropped alone, the files rise, and they are those that the changes write
pub record IsOwn (o : OverlayState) : Type 0 where
  pub only : list_all is_of_names o.names ≡ true
  pub rise : AreFilesRising o.written
  pub files : written_files (own_of o) ≡ map number_of o.written

-- the second has one change more than the first; a file that it makes starts with no bytes
pub record IsNext (o o' : OverlayState) (first : ℕ → List ℕ) (c : Change) : Type 0 where
  pub names : o'.names ≡ o.names ++ filter is_of_names (c ∷ [])
  pub written : o'.written ≡ written_with first o.written c
  pub empty : is_make c ≡ true → first (node_of c) ≡ []

-- its changes are the other's with this one, in the form in which they are committed, and write its files
pub record IsNextForm (o o' : OverlayState) (first : ℕ → List ℕ) (c : Change) : Type 0 where
  pub form : own_of o' ≡ changes_to_commit (own_of o ++ c ∷ []) (λ file. bytes_after (first file) file (own_of o ++ c ∷ []))
  pub files : written_files (own_of o ++ c ∷ []) ≡ map number_of o'.written

-- with one change more the changes are in the form in which they are committed
abbrev pub OwnFormLaw : Type 0
OwnFormLaw = (o o' : OverlayState) (first : ℕ → List ℕ) (c : Change) → IsOwn o → IsNext o o' first c → IsNextForm o o' first c
