-- How far versions are counted: no further than works put and cut the bytes of files, which each does once for each file.
use Rattle.std.proofs.Common.{◌≡◌, ℕ, ◌+◌, ◌≤◌, ◌==◌, nat_lt, false, cond, List, [], ◌∷◌, length, fold, sum_by, count_by, Some, refl, sym, ◌∙◌, ap, subst, arith, inl, inr}
use Rattle.std.proofs.lemmas.Bool.{cases_Bool, eqb-true}
use Rattle.std.proofs.lemmas.List.Sums.{length-filter, sum_by-cons}
use Rattle.ktm_base.specs.declared.id.Id.{Id}
use Rattle.ktm_world.specs.declared.change.Change.{Change}
use Rattle.ktm_world.specs.Changes.{changes_bytes, is_drop, node_of}
use Rattle.ktm_world.specs.Committed.{Committed, Version, Work, changes_to_commit, committed_with, final_bytes, raised_version, version_of, versions_after, with_change, with_work, without_version, written_files}
use Rattle.ktm_world.specs.Files.{OwnChanges, bytes_seen, own_changes}
use Rattle.ktm_world.specs.Present.{Present}
use Rattle.txf_laws.specs.FinalChanges.{names_of}
use Rattle.txf_laws.specs.SoundFiles.{IsSoundFiles}
use Rattle.txf_laws.proofs.offered.CommitsOfOthers.{All-in}
use Rattle.txf_laws.proofs.offered.NormalForms.{RisingNumbers, ends-elsewhere, ends_of, is_of_file, names-of-no-file, rising-written}
use Rattle.txf_laws.proofs.offered.Reservations.{own_changes-by}
use Rattle.txf_laws.proofs.offered.Sums.{count-append, count-cons, one_where}

-- how often changes put or cut bytes of the file
abbrev pub puts_of : ℕ → List Change → ℕ
puts_of file changes = count_by (is_of_file file) changes

-- how often works do
abbrev pub puts_in : ℕ → List Work → ℕ
puts_in file works = sum_by (λ (work : Work). puts_of file work.changes) works

-- ---- versions

raised_by_one : (vs : List Version) (n file : ℕ) → version_of (raised_version vs n) file ≤ version_of vs file + cond (n == file) 1 0
raised_by_one [] n file = elim (cases_Bool (n == file)) [ inl same ↦ rw same (omega arith) | inr other ↦ rw other (omega arith) ]
raised_by_one (v ∷ vs) n file = elim (cases_Bool (v.file == n)) [
  | inl here ↦ let e : v.file ≡ n = eqb-true v.file n here in subst (λ k. version_of (raised_version (v ∷ vs) n) file ≤ version_of (v ∷ vs) file + cond (k == file) 1 0) e
      (rw here (elim (cases_Bool (v.file == file)) [ inl same ↦ rw same (omega arith) | inr other ↦ rw other (omega arith) ]))
  | inr elsewhere ↦ elim (cases_Bool (nat_lt n v.file)) [
    | inl before ↦ rw (elsewhere, before) (elim (cases_Bool (n == file)) [ inl same ↦ rw same (omega arith) | inr other ↦ rw other (omega arith) ])
    | inr behind ↦ rw (elsewhere, behind) (elim (cases_Bool (v.file == file)) [ inl same ↦ rw same (omega arith) | inr other ↦ rw other (raised_by_one vs n file) ])
  ]
]

less_without : (vs : List Version) (n file : ℕ) → version_of (without_version vs n) file ≤ version_of vs file
less_without [] n file = omega arith
less_without (v ∷ vs) n file = elim (cases_Bool (v.file == n)) [
  | inl here ↦ rw here (elim (cases_Bool (v.file == file)) [
    | inl same ↦ rw same (none_without vs n file (sym (eqb-true v.file n here) ∙ eqb-true v.file file same))
    | inr other ↦ rw other (less_without vs n file)
  ])
  | inr kept ↦ rw kept (elim (cases_Bool (v.file == file)) [ inl same ↦ rw same (omega arith) | inr other ↦ rw other (less_without vs n file) ])
]
  where
    none : (vs : List Version) (n : ℕ) → version_of (without_version vs n) n ≡ 0
    none [] n = refl
    none (v ∷ vs) n = elim (cases_Bool (v.file == n)) [ inl here ↦ rw here (none vs n) | inr other ↦ rw (other, other) (none vs n) ]

    none_without : (vs : List Version) (n file : ℕ) → n ≡ file → {count : ℕ} → version_of (without_version vs n) file ≤ count
    none_without vs n file e = let zero = none vs n in let here = ap (λ m. version_of (without_version vs n) m) e in omega (arith, zero, here)

counted_change : (vs : List Version) (change : Change) (file : ℕ) → version_of (versions_after vs change) file ≤ version_of vs file + one_where (is_of_file file) change
counted_change vs change file = elim (cases_Bool (changes_bytes change)) [
  | inl bytes ↦ rw bytes (raised_by_one vs (node_of change) file)
  | inr name ↦ elim (cases_Bool (is_drop change)) [
    | inl drop ↦ let less = less_without vs (node_of change) file in rw (name, drop) (omega (arith, less))
    | inr stays ↦ rw (name, stays) (omega arith)
  ]
]

counted_changes : (changes : List Change) (c : Committed) (file : ℕ) → version_of (fold with_change c changes).versions file ≤ version_of c.versions file + puts_of file changes
counted_changes [] c file = omega arith
counted_changes (change ∷ changes) c file =
    let here = counted_change c.versions change file in
    let rest = counted_changes changes (with_change c change) file in
    let all = count-cons (is_of_file file) change changes in
    omega (arith, here, rest, all)

pub counted_works : (works : List Work) (c : Committed) (file : ℕ) → version_of (committed_with c works).versions file ≤ version_of c.versions file + puts_in file works
counted_works [] c file = omega arith
counted_works (work ∷ works) c file =
    let here = counted_changes work.changes c file in
    let rest = counted_works works (with_work c work) file in
    let all = sum_by-cons (λ (work : Work). puts_of file work.changes) work works in
    omega (arith, here, rest, all)

-- ---- what a transaction changed

ends_few : (by : ℕ → List ℕ) (files : List ℕ) (file : ℕ) → RisingNumbers files → puts_of file (ends_of by files) ≤ 2
ends_few by [] file rises = omega arith
ends_few by (f ∷ fs) file rises =
    let both = count-append (is_of_file file) (final_bytes f (by f)) (ends_of by fs) in
    elim (cases_Bool (f == file)) [
      | inl same ↦
          let e = eqb-true f file same in
          let none = ap length (ends-elsewhere by fs file (λ has. omega (arith, e, rises.0 file has))) in
          let count = length-filter (is_of_file file) (ends_of by fs) in
          let few = mine (by f) in
          omega (arith, both, none, count, few)
      | inr other ↦ let rest = ends_few by fs file rises.1 in let none = theirs other (by f) in omega (arith, both, rest, none)
    ]
  where
    mine : (bs : List ℕ) → puts_of file (final_bytes f bs) ≤ 2
    mine [] = elim (cases_Bool (f == file)) [ inl same ↦ rw same (omega arith) | inr other ↦ rw other (omega arith) ]
    mine (b ∷ bs) = elim (cases_Bool (f == file)) [ inl same ↦ rw same (omega arith) | inr other ↦ rw other (omega arith) ]

    theirs : (f == file) ≡ false → (bs : List ℕ) → puts_of file (final_bytes f bs) ≡ 0
    theirs other [] = rw other refl
    theirs other (b ∷ bs) = rw other refl

-- changes in the form in which they are committed cut a file once, and put its bytes once
final_few : (changes : List Change) (by : ℕ → List ℕ) (file : ℕ) → puts_of file (changes_to_commit changes by) ≤ 2
final_few changes by file =
    let both = count-append (is_of_file file) (names_of changes) (ends_of by (written_files changes)) in
    let none = ap length (names-of-no-file file changes) in
    let count = length-filter (is_of_file file) (names_of changes) in
    let few = ends_few by (written_files changes) file (rising-written changes [] tt) in
    omega (arith, both, none, count, few)

-- the changes of each transaction cut a file once, and put its bytes once
pub own_few : (x : Present) → IsSoundFiles x → (id : Id) (file : ℕ) → puts_of file (own_changes x.files.table.own id) ≤ 2
own_few x sound id file = own_changes-by (λ changes. puts_of file changes ≤ 2) x.files.table.own id (omega arith) (λ o there is.
    subst (λ changes. puts_of file changes ≤ 2) (All-in (λ (p : OwnChanges). changes_to_commit p.changes (bytes_seen x.files (Some p.transaction)) ≡ p.changes) x.files.table.own sound.own_final o there)
    (final_few o.changes (bytes_seen x.files (Some o.transaction)) file))
