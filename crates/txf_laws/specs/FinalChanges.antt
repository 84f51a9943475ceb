-- What a transaction's changes are in the form in which they are committed.
use Rattle.std.specs.Prelude.{◌≡◌, ℕ, not, true, List, [], ◌∷◌, ◌++◌, filter}
use Rattle.ktm_world.specs.declared.change.Change.{Change}
use Rattle.ktm_world.specs.Changes.{changed_all, applies, changes_apply, changes_bytes}
use Rattle.ktm_world.specs.Committed.{changes_to_commit, written_files}
use Rattle.ktm_world.specs.Files.{bytes_after}
use Rattle.ktm_world.specs.Holds.{each_change, places_of, dropped_directory, moved_directory}
use Rattle.ktm_world.specs.Tree.{Tree}
use Rattle.txf_laws.specs.Elements.{IsIn}

-- what changes make, move and drop
abbrev pub names_of : List Change → List Change
names_of changes = filter (λ change. not (changes_bytes change)) changes

-- the form in which changes are committed is its own such form, with the bytes that it gives; it holds the names that the changes hold, drops and moves the same directories, and gives each file its bytes whatever they were
pub record IsFinal (changes : List Change) (bytes : ℕ → List ℕ) : Type 0 where
  pub names : names_of (changes_to_commit changes bytes) ≡ names_of changes
  pub written : written_files (changes_to_commit changes bytes) ≡ written_files changes
  pub gives : (before : List ℕ) (file : ℕ) → IsIn file (written_files changes) → bytes_after before file (changes_to_commit changes bytes) ≡ bytes file
  pub again : (bytes' : ℕ → List ℕ) → ((file : ℕ) → IsIn file (written_files changes) → bytes' file ≡ bytes file) → changes_to_commit (changes_to_commit changes bytes) bytes' ≡ changes_to_commit changes bytes
  pub places : (tree : Tree) → each_change places_of tree (changes_to_commit changes bytes) ≡ each_change places_of tree (names_of changes)
  pub dropped : (tree : Tree) → each_change dropped_directory tree (changes_to_commit changes bytes) ≡ each_change dropped_directory tree (names_of changes)
  pub moved : (tree : Tree) → each_change moved_directory tree (changes_to_commit changes bytes) ≡ each_change moved_directory tree (names_of changes)

-- this form is final, and one change more, which applies to the names that a transaction sees, makes changes of that form that apply
abbrev pub FinalChangesLaw : Type 0
FinalChangesLaw = ((changes : List Change) (bytes : ℕ → List ℕ) → IsFinal changes bytes)
    × ((tree : Tree) (changes : List Change) (change : Change) (bytes bytes' : ℕ → List ℕ) → changes_to_commit changes bytes ≡ changes → changes_apply tree changes ≡ true
    → applies (changed_all tree (names_of changes)) change ≡ true → changes_apply tree (changes_to_commit (changes ++ change ∷ []) bytes') ≡ true)
