-- Changes of the bytes of a file, one where contents are places on a disk and one where they are the bytes there.
use Rattle.std.specs.Prelude.{◌≡◌, ◌⊎◌, ℕ, Bool, true, List, map, Option, Some, None, ⊤}
use Rattle.ktm_base.specs.declared.id.Id.{Id}
use Rattle.ktm_world.specs.declared.change.Change.{Change}
use Rattle.ktm_world.specs.declared.change.Change.TheVariants.{Put, Cut}
use Rattle.ktm_world.specs.Changes.{bytes_in, is_whole, is_empty_list, changes_bytes, node_of}
use Rattle.ktm_world.specs.FileOutcome.{FileOutcome}
use Rattle.ktm_world.specs.Files.{FilesNow, bytes_seen}
use Rattle.ktm_world.specs.Tree.{cut_to, put_over}
use Rattle.ktm_mapped.specs.Mapped.{mapped_change}

-- ---- one change

-- the bytes of a file that had these, once a change of them is made
abbrev pub bytes_made : List ℕ → Change → List ℕ
bytes_made old (Put node offset contents) = put_over old offset (bytes_in contents)
bytes_made old (Cut node size pages) = cut_to old size
bytes_made old _ = old

-- does a change put whole bytes, or cut without pages
abbrev pub takes_no_pages : Change → Bool
takes_no_pages (Put node offset contents) = is_whole contents
takes_no_pages (Cut node size pages) = is_empty_list pages
takes_no_pages _ = true

-- both put or cut bytes of one file without pages, and leave the same bytes replaced, of a file that had these
pub record LeaveAlike (f : ℕ → ℕ) (old : List ℕ) (c d : Change) : Type 0 where
  pub first : changes_bytes c ≡ true
  pub second : changes_bytes d ≡ true
  pub node : node_of c ≡ node_of d
  pub first_whole : takes_no_pages c ≡ true
  pub second_whole : takes_no_pages d ≡ true
  pub result : map f (bytes_made old c) ≡ bytes_made (map f old) d

-- the second change is the first one with its bytes replaced, or both leave alike
abbrev pub AreAlike : (ℕ → ℕ) → List ℕ → Change → Change → Type 0
AreAlike f old c d = (d ≡ mapped_change f c) ⊎ LeaveAlike f old c d

-- ---- a call

-- neither call makes a change, or both make changes that are alike of the bytes that are seen
abbrev pub AreChangesAlike : (ℕ → ℕ) → FilesNow → Option Id → Option Change → Option Change → Type 0
AreChangesAlike f files who None None = ⊤
AreChangesAlike f files who (Some c) (Some d) = AreAlike f (bytes_seen files who (node_of c)) c d
AreChangesAlike f files who _ _ = ⊥

-- what two calls come to is alike, but for their replies
pub record AreOutcomesAlike (f : ℕ → ℕ) (files : FilesNow) (who : Option Id) (o p : FileOutcome) : Type 0 where
  pub change : AreChangesAlike f files who o.change p.change
  pub first : o.first ≡ p.first
  pub opened : o.opened ≡ p.opened
