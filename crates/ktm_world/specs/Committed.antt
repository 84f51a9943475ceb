-- What is committed, and the works that are committed at once.
use Rattle.std.specs.Prelude.{ℕ, ◌+◌, ◌==◌, ◌||◌, not, List, [], ◌∷◌, ◌++◌, filter, nat_lt, Option, fold, if◌then◌else◌}
use Rattle.std.specs.List.{flat_map}
use Rattle.ktm_base.specs.declared.id.Id.{Id}
use Rattle.ktm_world.specs.declared.change.Change.{Change}
use Rattle.ktm_world.specs.declared.change.Change.TheVariants.{Put, Cut}
use Rattle.ktm_world.specs.declared.change.Contents.TheVariants.{Whole}
use Rattle.ktm_world.specs.Keys.{Store, OwnSettings, stored_all}
use Rattle.ktm_world.specs.Changes.{changed, node_of, changes_bytes, is_make_of_file, is_drop}
use Rattle.ktm_world.specs.Tree.{Tree}

-- how many Puts and Cuts of a file that is there were committed since the restart
pub record Version : Type 0 where
  pub file : ℕ
  pub count : ℕ

-- the committed files, by rising number the versions of those whose bytes were changed since the restart, and the committed keys
pub record Committed : Type 0 where
  pub tree : Tree
  pub versions : List Version
  pub store : Store

-- what a transaction, or a plain call, commits at once
pub record Work : Type 0 where
  pub transaction : Option Id
  pub changes : List Change
  pub settings : OwnSettings

-- the version of a file: 0 until its bytes are changed
abbrev pub version_of : List Version → ℕ → ℕ
version_of [] file = 0
version_of (v ∷ vs) file = if v.file == file then v.count else version_of vs file

-- a file has one version more
abbrev pub raised_version : List Version → ℕ → List Version
raised_version [] file = record { file = file; count = 1 } ∷ []
raised_version (v ∷ vs) file =
    if v.file == file then record v { count = v.count + 1 } ∷ vs else
    (if nat_lt file v.file then record { file = file; count = 1 } ∷ v ∷ vs else v ∷ raised_version vs file)

-- the versions but that of this file
abbrev pub without_version : List Version → ℕ → List Version
without_version versions file = filter (λ v. not (v.file == file)) versions

-- the versions after a change: a Put or a Cut raises that of its file, and a file that is dropped has none
abbrev pub versions_after : List Version → Change → List Version
versions_after versions change =
    if changes_bytes change then raised_version versions (node_of change) else
    (if is_drop change then without_version versions (node_of change) else versions)

-- a change is committed
abbrev pub with_change : Committed → Change → Committed
with_change c change = record c { tree = changed c.tree change; versions = versions_after c.versions change }

-- a work is committed: its changes in order, and then its settings
abbrev pub with_work : Committed → Work → Committed
with_work c work = record (fold with_change c work.changes) { store = stored_all c.store work.settings }

-- works are committed in order
abbrev pub committed_with : Committed → List Work → Committed
committed_with c works = fold with_work c works

-- ---- the changes of a transaction as they are committed and recorded

-- a number at its place among rising ones, once
abbrev pub with_number : List ℕ → ℕ → List ℕ
with_number [] n = n ∷ []
with_number (m ∷ ms) n = if m == n then m ∷ ms else (if nat_lt n m then n ∷ m ∷ ms else m ∷ with_number ms n)

-- the numbers but this one
abbrev pub without_number : List ℕ → ℕ → List ℕ
without_number ms n = filter (λ m. not (m == n)) ms

-- the files that are left with bytes of a transaction once it made this change, by rising number
abbrev pub written_after : List ℕ → Change → List ℕ
written_after files change =
    if changes_bytes change || is_make_of_file change then with_number files (node_of change) else
    (if is_drop change then without_number files (node_of change) else files)

-- the files that a transaction made or whose bytes it changed, and that it did not drop, by rising number
abbrev pub written_files : List Change → List ℕ
written_files changes = fold written_after [] changes

-- a cut to nothing, and the bytes where there are any
abbrev pub final_bytes : ℕ → List ℕ → List Change
final_bytes file [] = Cut file 0 [] ∷ []
final_bytes file (b ∷ bs) = Cut file 0 [] ∷ Put file 0 (Whole (b ∷ bs)) ∷ []

-- what a transaction commits of its changes: what it made, moved and dropped in order, and then the final bytes of its files, by rising number
abbrev pub changes_to_commit : List Change → (ℕ → List ℕ) → List Change
changes_to_commit changes bytes = filter (λ change. not (changes_bytes change)) changes ++ flat_map (λ file. final_bytes file (bytes file)) (written_files changes)
