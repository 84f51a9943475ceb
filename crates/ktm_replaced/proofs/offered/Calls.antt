-- What calls that are alike, and commits, make of the files.
use Rattle.std.proofs.Common.{◌≡◌, ℕ, ◌==◌, ◌&&◌, ◌||◌, not, Bool, true, false, List, [], ◌∷◌, ◌++◌, map, filter, fold, Option, Some, None, refl, sym, ◌∙◌, ap, subst, inl, inr}
use Rattle.std.specs.Prelude.{if◌then◌else◌}
use Rattle.std.proofs.lemmas.Bool.{cases_Bool, eq-eqb, eqb-true, true≢false}
use Rattle.std.proofs.lemmas.List.{append-nil, map-append}
use Rattle.std.proofs.lemmas.List.Sums.{fold-append}
use Rattle.ktm_base.specs.declared.id.Id.{Id}
use Rattle.ktm_world.specs.declared.change.Change.{Change}
use Rattle.ktm_world.specs.declared.change.Change.TheVariants.{Make, Put, Cut, Move, Drop}
use Rattle.ktm_world.specs.Changes.{changed, changed_all, changes_bytes, has_made, is_drop, is_make, next_after, node_of}
use Rattle.ktm_world.specs.Committed.{Committed, Version, Work, changes_to_commit, committed_with, versions_after, with_number, written_after, written_files, raised_version, without_version}
use Rattle.ktm_world.specs.FileOutcome.{FileOutcome, files_after, next_node_after, openings_of, own_after, table_after, with_open, works_of}
use Rattle.ktm_world.specs.Files.{FilesNow, FirstOpen, bytes_after, bytes_seen, bytes_with, changes_with, committed_files, files_with, first_bytes, first_open, fixed_bytes, first_open_of, own_changes, with_own_changes}
use Rattle.ktm_world.specs.Transactions.{same_id}
use Rattle.ktm_world.specs.Tree.{Tree, bytes_of, numbers_rise}
use Rattle.txf_laws.specs.FinalChanges.{names_of}
use Rattle.txf_laws.specs.Reservations.{files_committed}
use Rattle.txf_laws.proofs.offered.NormalForms.{ends_of, filter-append}
use Rattle.ktm_mapped.specs.Mapped.{IsBlank, mapped_change}
use Rattle.ktm_mapped.proofs.offered.Lists.{filter-mapped}
use Rattle.ktm_mapped.proofs.offered.Holds.{changes_bytes-mapped, next_after-mapped, node_of-mapped}
use Rattle.ktm_alike.specs.Alike.{mapped_committed, mapped_files, mapped_first, mapped_own, mapped_table}
use Rattle.ktm_alike.proofs.offered.Files.{bytes_with-mapped, changes_to_commit-mapped, changes_with-mapped, committed_with-mapped, own_changes-mapped, with_own_changes-mapped, without_transaction-mapped}
use Rattle.ktm_alike.proofs.offered.Outcomes.{first_opens-mapped, with_open-mapped}
use Rattle.ktm_replaced.specs.InPlace.{with_own_behind}
use Rattle.ktm_replaced.specs.Replaced.{AreAlike, AreChangesAlike, AreOutcomesAlike, LeaveAlike, bytes_made}
use Rattle.ktm_replaced.proofs.offered.Replacing.{changed-alike, makes-none, next-after-bytes}

-- ---- the bytes of one file behind some changes

-- the file alone, with these bytes
abbrev alone : ℕ → List ℕ → Tree
alone file bytes = record { number = file; parent = 1; name = []; content = Some bytes } ∷ []

-- is it a change of the file's bytes
abbrev is_of : ℕ → Change → Bool
is_of file c = changes_bytes c && node_of c == file

-- the bytes once a change is made, if it is of the file
abbrev edited : ℕ → List ℕ → Change → List ℕ
edited file bytes c = if is_of file c then bytes_made bytes c else bytes

one-alone : (file : ℕ) (bytes : List ℕ) (c : Change) → is_of file c ≡ true → changed (alone file bytes) c ≡ alone file (bytes_made bytes c)
one-alone file bytes (Make node parent kind name) its = absurd (true≢false (sym its))
one-alone file bytes (Put node offset contents) its = rw (eq-eqb file node (sym (eqb-true node file its))) refl
one-alone file bytes (Cut node size pages) its = rw (eq-eqb file node (sym (eqb-true node file its))) refl
one-alone file bytes (Move node parent name) its = absurd (true≢false (sym its))
one-alone file bytes (Drop node) its = absurd (true≢false (sym its))

all-alone : (file : ℕ) (bytes : List ℕ) (cs : List Change) → changed_all (alone file bytes) (filter (is_of file) cs) ≡ alone file (fold (edited file) bytes cs)
all-alone file bytes [] = refl
all-alone file bytes (c ∷ cs) = elim (cases_Bool (is_of file c)) [
  | inl its ↦ rw its (ap (λ tree. changed_all tree (filter (is_of file) cs)) (one-alone file bytes c its) ∙ all-alone file (bytes_made bytes c) cs)
  | inr other ↦ rw other (all-alone file bytes cs)
]

bytes-after : (bytes : List ℕ) (file : ℕ) (cs : List Change) → bytes_after bytes file cs ≡ fold (edited file) bytes cs
bytes-after bytes file cs = ap (λ tree. bytes_of tree file) (all-alone file bytes cs) ∙ rw (eq-eqb file file refl) refl

bytes-after-next : (bytes : List ℕ) (file : ℕ) (cs : List Change) (c : Change) → bytes_after bytes file (cs ++ c ∷ []) ≡ edited file (bytes_after bytes file cs) c
bytes-after-next bytes file cs c =
    bytes-after bytes file (cs ++ c ∷ []) ∙ fold-append (edited file) bytes cs (c ∷ []) ∙ sym (ap (λ before. edited file before c) (bytes-after bytes file cs))

-- ---- one change of bytes behind others

has-made-next : (cs : List Change) (c : Change) (file : ℕ) → is_make c ≡ false → has_made (cs ++ c ∷ []) file ≡ has_made cs file
has-made-next [] c file none = rw none refl
has-made-next (b ∷ bs) c file none = λ i. (is_make b && node_of b == file) || has-made-next bs c file none i

bytes-with-next : (files : FilesNow) (id : Id) (cs : List Change) (c : Change) (file : ℕ) → changes_bytes c ≡ true → bytes_with files id (cs ++ c ∷ []) file ≡ edited file (bytes_with files id cs file) c
bytes-with-next files id cs c file bytes =
    (λ i. bytes_after (if has-made-next cs c file (makes-none c bytes) i then [] else fixed_bytes files file (first_open_of files.first_opens id file)) file (cs ++ c ∷ []))
    ∙ bytes-after-next (first_bytes files id cs file) file cs c

-- a change of bytes makes, moves and drops nothing, and its file stands among those that are written
to-commit-next : (cs : List Change) (c : Change) (by : ℕ → List ℕ) → changes_bytes c ≡ true
    → changes_to_commit (cs ++ c ∷ []) by ≡ names_of cs ++ ends_of by (with_number (written_files cs) (node_of c))
to-commit-next cs c by bytes = λ i. names i ++ ends_of by (written i)
  where
    names : names_of (cs ++ c ∷ []) ≡ names_of cs
    names = filter-append (λ e. not (changes_bytes e)) cs (c ∷ []) ∙ rw bytes (append-nil (names_of cs))

    written : written_files (cs ++ c ∷ []) ≡ with_number (written_files cs) (node_of c)
    written = fold-append written_after [] cs (c ∷ []) ∙ rw bytes refl

module _ (f : ℕ → ℕ) (blank : IsBlank f) where
  -- ---- own changes with one more

  module _ (files : FilesNow) (id : Id) (c d : Change) (alike : LeaveAlike f (bytes_seen files (Some id) (node_of c)) c d) where
    abbrev own : List Change
    own = own_changes files.table.own id

    edited-left : (file : ℕ) → edited file (map f (bytes_with files id own file)) d ≡ map f (edited file (bytes_with files id own file) c)
    edited-left file =
        (λ i. if alike.second i && sym alike.node i == file then bytes_made (map f had) d else map f had)
        ∙ go
        ∙ (λ i. map f (if sym alike.first i && node_of c == file then bytes_made had c else had))
      where
        had : List ℕ
        had = bytes_with files id own file

        go : (if node_of c == file then bytes_made (map f had) d else map f had) ≡ map f (if node_of c == file then bytes_made had c else had)
        go = elim (cases_Bool (node_of c == file)) [
          | inl its ↦
              let e : node_of c ≡ file = eqb-true (node_of c) file its in
              rw its (subst (λ n. bytes_made (map f (bytes_with files id own n)) d ≡ map f (bytes_made (bytes_with files id own n) c)) e (sym alike.result))
          | inr other ↦ rw other refl
        ]

    bytes-left : (file : ℕ) → bytes_with (mapped_files f files) id (map (mapped_change f) own ++ d ∷ []) file ≡ map f (bytes_with files id (own ++ c ∷ []) file)
    bytes-left file =
        bytes-with-next (mapped_files f files) id (map (mapped_change f) own) d file alike.second
        ∙ ap (λ bytes. edited file bytes d) (bytes_with-mapped f blank files id own file)
        ∙ edited-left file
        ∙ sym (ap (map f) (bytes-with-next files id own c file alike.first))

    changes_with-left : changes_with (mapped_files f files) id d ≡ map (mapped_change f) (changes_with files id c)
    changes_with-left =
        ap (λ cs. changes_to_commit (cs ++ d ∷ []) (bytes_with (mapped_files f files) id (cs ++ d ∷ []))) (own_changes-mapped f files.table.own id)
        ∙ to-commit-next (map (mapped_change f) own) d by alike.second
        ∙ (λ i. names_of (map (mapped_change f) own) ++ ends_of by (with_number (written_files (map (mapped_change f) own)) ((sym alike.node ∙ sym (node_of-mapped f c)) i)))
        ∙ sym (to-commit-next (map (mapped_change f) own) (mapped_change f c) by (changes_bytes-mapped f c ∙ alike.first))
        ∙ ap (λ cs. changes_to_commit cs by) (sym (map-append (mapped_change f) own (c ∷ [])))
        ∙ changes_to_commit-mapped f (own ++ c ∷ []) by (bytes_with files id (own ++ c ∷ [])) bytes-left
      where
        by : ℕ → List ℕ
        by = bytes_with (mapped_files f files) id (map (mapped_change f) own ++ d ∷ [])

  pub changes_with-alike : (files : FilesNow) (id : Id) (c d : Change) → AreAlike f (bytes_seen files (Some id) (node_of c)) c d → changes_with (mapped_files f files) id d ≡ map (mapped_change f) (changes_with files id c)
  changes_with-alike files id c d (inl same) = ap (changes_with (mapped_files f files) id) same ∙ changes_with-mapped f blank files id c
  changes_with-alike files id c d (inr alike) = changes_with-left files id c d alike

  -- ---- the parts of what a call makes

  next_after-alike : (next : ℕ) (old : List ℕ) (c d : Change) → AreAlike f old c d → next_after next d ≡ next_after next c
  next_after-alike next old c d (inl same) = ap (next_after next) same ∙ next_after-mapped f next c
  next_after-alike next old c d (inr alike) = next-after-bytes next d alike.second ∙ sym (next-after-bytes next c alike.first)

  next_node-alike : (files : FilesNow) (who : Option Id) (next : ℕ) (a b : Option Change) → AreChangesAlike f files who a b → next_node_after next b ≡ next_node_after next a
  next_node-alike files who next None None alike = refl
  next_node-alike files who next None (Some d) alike = absurd alike
  next_node-alike files who next (Some c) None alike = absurd alike
  next_node-alike files who next (Some c) (Some d) alike = next_after-alike next (bytes_seen files who (node_of c)) c d alike

  own_after-alike : (files : FilesNow) (who : Option Id) (a b : Option Change) → AreChangesAlike f files who a b → own_after (mapped_files f files) who b ≡ map (mapped_own f) (own_after files who a)
  own_after-alike files None None None alike = refl
  own_after-alike files None None (Some d) alike = absurd alike
  own_after-alike files None (Some c) None alike = absurd alike
  own_after-alike files None (Some c) (Some d) alike = refl
  own_after-alike files (Some id) None None alike = refl
  own_after-alike files (Some id) None (Some d) alike = absurd alike
  own_after-alike files (Some id) (Some c) None alike = absurd alike
  own_after-alike files (Some id) (Some c) (Some d) alike =
      ap (with_own_changes (map (mapped_own f) files.table.own) id) (changes_with-alike files id c d alike) ∙ with_own_changes-mapped f files.table.own id (changes_with files id c)

  table_after-alike : (files : FilesNow) (who : Option Id) (o p : FileOutcome) → AreOutcomesAlike f files who o p → table_after (mapped_files f files) who p ≡ mapped_table f (table_after files who o)
  table_after-alike files who o p alike =
      (λ i. with_open (record (mapped_table f files.table) {
        own = own_after-alike files who o.change p.change alike.change i;
        next_node = next_node-alike files who files.table.next_node o.change p.change alike.change i;
      }) (sym alike.opened i))
      ∙ with_open-mapped f (record files.table { own = own_after files who o.change; next_node = next_node_after files.table.next_node o.change }) o.opened

  versions_after-left : (old : List ℕ) (c d : Change) → LeaveAlike f old c d → (versions : List Version) → versions_after versions d ≡ versions_after versions c
  versions_after-left old c d alike versions =
      (λ i. if alike.second i then raised_version versions (sym alike.node i) else (if is_drop d then without_version versions (node_of d) else versions))
      ∙ sym (λ i. if alike.first i then raised_version versions (node_of c) else (if is_drop c then without_version versions (node_of c) else versions))

  -- what a plain call commits
  committed-alike : (files : FilesNow) → numbers_rise files.tree ≡ true → (a b : Option Change) → AreChangesAlike f files None a b
      → committed_with (mapped_committed f (committed_files files [])) (works_of None b) ≡ mapped_committed f (committed_with (committed_files files []) (works_of None a))
  committed-alike files rise None None alike = refl
  committed-alike files rise None (Some d) alike = absurd alike
  committed-alike files rise (Some c) None alike = absurd alike
  committed-alike files rise (Some c) (Some d) (inl same) =
      ap (λ e. committed_with (mapped_committed f (committed_files files [])) (works_of None (Some e))) same ∙ committed_with-mapped f blank (committed_files files []) (works_of None (Some c))
  committed-alike files rise (Some c) (Some d) (inr alike) = λ i. record (mapped_committed f (committed_with (committed_files files []) (works_of None (Some c)))) {
    tree = changed-alike f blank files.tree c d rise (inr alike) i;
    versions = versions_after-left (bytes_of files.tree (node_of c)) c d alike files.versions i;
  }

  -- a call of a transaction commits nothing
  works-none : (id : Id) (change : Option Change) → works_of (Some id) change ≡ []
  works-none id None = refl
  works-none id (Some change) = refl

  -- ---- the files after a call

  files-alike : (files : FilesNow) (who : Option Id) (o p : FileOutcome) → AreOutcomesAlike f files who o p
      → committed_with (mapped_committed f (committed_files files [])) (works_of who p.change) ≡ mapped_committed f (committed_with (committed_files files []) (works_of who o.change))
      → files_after (mapped_files f files) who p ≡ mapped_files f (files_after files who o)
  files-alike files who o p alike committed = λ i. files_with (committed i) (opened i) (table_after-alike files who o p alike i)
    where
      c : Committed
      c = committed_files files []

      opened : map (mapped_first f) files.first_opens ++ map (first_open (mapped_committed f c)) (openings_of who p.first) ≡ map (mapped_first f) (files.first_opens ++ map (first_open c) (openings_of who o.first))
      opened =
          ap (λ file. map (mapped_first f) files.first_opens ++ map (first_open (mapped_committed f c)) (openings_of who file)) (sym alike.first)
          ∙ first_opens-mapped f blank c files.first_opens (openings_of who o.first)

  pub plain-alike : (files : FilesNow) (o p : FileOutcome) → numbers_rise files.tree ≡ true → AreOutcomesAlike f files None o p → files_after (mapped_files f files) None p ≡ mapped_files f (files_after files None o)
  plain-alike files o p rise alike = files-alike files None o p alike (committed-alike files rise o.change p.change alike.change)

  pub own-alike : (files : FilesNow) (id : Id) (o p : FileOutcome) → AreOutcomesAlike f files (Some id) o p → files_after (mapped_files f files) (Some id) p ≡ mapped_files f (files_after files (Some id) o)
  own-alike files id o p alike = files-alike files (Some id) o p alike
      (ap (committed_with (mapped_committed f c)) (works-none id p.change) ∙ sym (ap (λ works. mapped_committed f (committed_with c works)) (works-none id o.change)))
    where
      c : Committed
      c = committed_files files []

  -- ---- the files after a commit, and after a restart

  pub files_committed-mapped : (files : FilesNow) (id : Id) → files_committed (mapped_files f files) id ≡ mapped_files f (files_committed files id)
  files_committed-mapped files id = λ i. files_with (committed i) (filter-mapped others others (mapped_first f) (λ o. refl) files.first_opens i) (without_transaction-mapped f files.table id i)
    where
      c : Committed
      c = committed_files files []

      others : FirstOpen → Bool
      others o = not (same_id o.transaction id)

      work : List Change → Work
      work cs = record { transaction = Some id; changes = cs; settings = [] }

      committed : committed_with (mapped_committed f c) (work (own_changes (map (mapped_own f) files.table.own) id) ∷ []) ≡ mapped_committed f (committed_with c (work (own_changes files.table.own id) ∷ []))
      committed =
          ap (λ cs. committed_with (mapped_committed f c) (work cs ∷ [])) (own_changes-mapped f files.table.own id)
          ∙ committed_with-mapped f blank c (work (own_changes files.table.own id) ∷ [])

pub with_own_behind-mapped : (f : ℕ → ℕ) (files : FilesNow) (id : Id) (cs : List Change) → with_own_behind (mapped_files f files) id (map (mapped_change f) cs) ≡ mapped_files f (with_own_behind files id cs)
with_own_behind-mapped f files id cs = λ i. record (mapped_files f files) {
  table = record (mapped_table f files.table) { own = sym (map-append (mapped_own f) files.table.own (record { transaction = id; changes = cs } ∷ [])) i };
}
