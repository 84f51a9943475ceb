-- A put of bytes takes as much of the disk as an end of the file behind them, or where it is.
use Rattle.std.proofs.Common.{◌≡◌, ℕ, zero, suc, ◌+◌, ◌-◌, ◌*◌, ◌<◌, ◌≤◌, ◌||◌, not, cond, max, min, ◌^◌, Bool, true, false, nat_lt, List, [], ◌∷◌, ◌++◌, length, map, take, replicate, Option, Some, None, refl, sym, ◌∙◌, ap, arith, inl, inr}
use Rattle.std.specs.Prelude.{if◌then◌else◌}
use Rattle.std.proofs.Math.Seq.{take-nil}
use Rattle.std.proofs.lemmas.List.{map-append}
use Rattle.std.proofs.lemmas.Bool.{cases_Bool, cases_lt, le-ltb, lt-ltb}
use Rattle.ktm_base.specs.declared.limits.TheConstants.{MOST_AT_ONCE, UNIT_BYTES}
use Rattle.ktm_base.specs.declared.refusal.Refusal.{Refusal}
use Rattle.ktm_base.specs.declared.refusal.Refusal.TheVariants.{AccessDenied, DiskFull, InvalidParameter}
use Rattle.ktm_base.specs.declared.id.Id.{Id}
use Rattle.ktm_world.specs.declared.change.Change.TheVariants.{Put, Cut}
use Rattle.ktm_world.specs.declared.change.Contents.TheVariants.{Whole}
use Rattle.ktm_world.specs.Conflicts.{writes}
use Rattle.ktm_world.specs.FileCalls.{set_end, set_end_tests, write_file, write_file_tests, write_units_tests}
use Rattle.ktm_world.specs.FileOutcome.{FileOutcome, FileRoom, changing, files_after, lacks_disk}
use Rattle.ktm_world.specs.Files.{FilesNow, OpenFile, bytes_seen}
use Rattle.ktm_world.specs.FileUses.{nodes_used, units_used}
use Rattle.ktm_world.specs.Tree.{cut_to, numbers_rise, put_over}
use Rattle.ktm_content.proofs.offered.PutBytes.{length-put_over}
use Rattle.ktm_replaced.specs.Alike.{mapped_files}
use Rattle.ktm_replaced.specs.Outcomes.{nodes_used-mapped, units_used-mapped}
use Rattle.ktm_replaced.specs.Replaced.{AreOutcomesAlike}
use Rattle.ktm_replaced.proofs.offered.Calls.{own-alike, plain-alike}
use Rattle.ktm_world.specs.Outcome.{first_refusal}
use Rattle.txf_calls.specs.Fits.{IsOnFile}
use Rattle.txf_calls.proofs.Filled.{length-cut_to, too-long}

-- no byte is told
abbrev none : ℕ → ℕ
none byte = 0

-- ---- outcomes that are alike

module _ (files : FilesNow) (rise : numbers_rise files.tree ≡ true) where
  alike-after : (who : Option Id) (o p : FileOutcome) → AreOutcomesAlike none files who o p → files_after (mapped_files none files) who p ≡ mapped_files none (files_after files who o)
  alike-after None o p alike = plain-alike none refl files o p rise alike
  alike-after (Some id) o p alike = own-alike none refl files id o p alike

  units-alike : (who : Option Id) (o p : FileOutcome) → AreOutcomesAlike none files who o p → units_used (files_after (mapped_files none files) who p) ≡ units_used (files_after files who o)
  units-alike who o p alike = ap units_used (alike-after who o p alike) ∙ units_used-mapped none refl (files_after files who o)

  nodes-alike : (who : Option Id) (o p : FileOutcome) → AreOutcomesAlike none files who o p → nodes_used (files_after (mapped_files none files) who p) ≡ nodes_used (files_after files who o)
  nodes-alike who o p alike = ap nodes_used (alike-after who o p alike) ∙ nodes_used-mapped none (files_after files who o)

  -- two that are alike a third one take as much of the disk
  pub disk-alike : (room : FileRoom) (who : Option Id) (o p q : FileOutcome) → AreOutcomesAlike none files who o q → AreOutcomesAlike none files who p q → lacks_disk files room who o ≡ lacks_disk files room who p
  unfolding lacks_disk
  disk-alike room who o p q first second =
      ap (λ units. nat_lt room.units units || nat_lt room.units (nodes_used (files_after files who o))) (sym (units-alike who o q first) ∙ units-alike who p q second)
      ∙ ap (λ nodes. nat_lt room.units (units_used (files_after files who p)) || nat_lt room.units nodes) (sym (nodes-alike who o q first) ∙ nodes-alike who p q second)

-- ---- no bytes but zeros

zeros-of : (xs : List ℕ) → map none xs ≡ replicate (length xs) 0
zeros-of [] = refl
zeros-of (x ∷ xs) = ap (λ l. 0 ∷ l) (zeros-of xs)

-- a cut of zeros, or what fills it, is of zeros
zeros-cut : (xs : List ℕ) (size : ℕ) → cut_to (map none xs) size ≡ replicate size 0
zeros-cut xs size = fixed (cut_to (map none xs) size) (zeros xs size) ∙ ap (λ n. replicate n 0) (length-cut_to (map none xs) size)
  where
    zeros-map : (n : ℕ) → map none (replicate n 0) ≡ replicate n 0
    zeros-map zero = refl
    zeros-map (suc n) = ap (λ l. 0 ∷ l) (zeros-map n)

    zeros-take : (ys : List ℕ) (n : ℕ) → map none (take n (map none ys)) ≡ take n (map none ys)
    zeros-take [] n = ap (map none) (take-nil n) ∙ sym (take-nil n)
    zeros-take (y ∷ ys) zero = refl
    zeros-take (y ∷ ys) (suc n) = ap (λ l. 0 ∷ l) (zeros-take ys n)

    zeros : (ys : List ℕ) (n : ℕ) → map none (cut_to (map none ys) n) ≡ cut_to (map none ys) n
    zeros ys n =
        let more = n - length (map none ys) in
        map-append none (take n (map none ys)) (replicate more 0) ∙ (λ i. zeros-take ys n i ++ zeros-map more i)

    fixed : (ys : List ℕ) → map none ys ≡ ys → ys ≡ replicate (length ys) 0
    fixed ys is = sym is ∙ zeros-of ys

-- ---- a write, and an end of the file

pub write-disk : (files : FilesNow) (room : FileRoom) (o : OpenFile) (offset : ℕ) (bytes : List ℕ) → numbers_rise files.tree ≡ true → 1 ≤ length bytes
    → lacks_disk files room o.transaction (write_file o offset bytes) ≡ lacks_disk files room o.transaction (set_end o (max (length (bytes_seen files o.transaction o.node)) (offset + length bytes)))
unfolding write_file set_end
write-disk files room o offset [] rise some = absurd (omega (arith, some))
write-disk files room o offset (b ∷ bs) rise some =
    let old = bytes_seen files o.transaction o.node in
    let size = max (length old) (offset + length (b ∷ bs)) in
    let end = changing (Cut o.node size []) in
    disk-alike files rise room o.transaction (changing (Put o.node offset (Whole (b ∷ bs)))) end end
    (record { change = inr (record { first = refl; second = refl; node = refl; first_whole = refl; second_whole = refl; result = zeros-of (put_over old offset (b ∷ bs)) ∙ ap (λ n. replicate n 0) (length-put_over old offset (b ∷ bs)) ∙ sym (zeros-cut old size) }); first = refl; opened = refl })
    (record { change = inl refl; first = refl; opened = refl })

-- ---- why they are refused

module _ (files : FilesNow) (room : FileRoom) (o : OpenFile) where
  abbrev pub seen : ℕ
  seen = length (bytes_seen files o.transaction o.node)

  pub units-tests : (start : ℕ) (contents : List ℕ) (size : ℕ) → numbers_rise files.tree ≡ true → 1 ≤ length contents → max seen (start + length contents) ≡ size
      → first_refusal (set_end_tests files room o size) ≡ first_refusal (write_units_tests files room o start contents)
  unfolding set_end_tests write_units_tests
  units-tests start contents size rise some is = ap (λ full. cond (not (writes o.access)) (Some AccessDenied) (cond full (Some DiskFull) None)) (sym (write-disk files room o start contents rise some ∙ ap (λ n. lacks_disk files room o.transaction (set_end o n)) is))

  pub small-end : (size : ℕ) (r : Option Refusal) → IsOnFile files o → r ≡ first_refusal (set_end_tests files room o size) → r ≡ None → size ≤ room.units * UNIT_BYTES
  unfolding set_end_tests
  small-end size r on is none = elim (cases_lt (room.units * UNIT_BYTES) size) [
    | inl long ↦ absurd (refused (writes o.access) refl long)
    | inr small ↦ small
  ]
    where
      refused : (may : Bool) → writes o.access ≡ may → room.units * UNIT_BYTES < size → ⊥
      refused true may long = let full = too-long files size room o may on long in absurd (cc)
      refused false may long = absurd (cc)

  long-end : (size : ℕ) → IsOnFile files o → room.units * UNIT_BYTES < size → first_refusal (set_end_tests files room o size) ≡ (if writes o.access then Some DiskFull else Some AccessDenied)
  unfolding set_end_tests
  long-end size on long = elim (cases_Bool (writes o.access)) [
    | inl may ↦ rw may (ap (λ full. cond full (Some DiskFull) None) (too-long files size room o may on long))
    | inr not-so ↦ rw not-so refl
  ]

  -- an end that no number says is as bad as the greatest that one says
  pub end-within : (old end : ℕ) → IsOnFile files o → room.units < 2 ^ 32 → first_refusal (set_end_tests files room o (max old (min end (2 ^ 64 - 1)))) ≡ first_refusal (set_end_tests files room o (max old end))
  end-within old end on few = elim (cases_lt end (2 ^ 64)) [
    | inl within ↦ ap (λ n. first_refusal (set_end_tests files room o n)) (omega (arith, within))
    | inr past ↦ long-end (max old (min end (2 ^ 64 - 1))) on (omega (arith, past, few)) ∙ sym (long-end (max old end) on (omega (arith, past, few)))
  ]

  pub write-tests : (offset : ℕ) (bytes : List ℕ) → numbers_rise files.tree ≡ true → 1 ≤ length bytes → length bytes ≤ MOST_AT_ONCE
      → first_refusal (set_end_tests files room o (max seen (offset + length bytes))) ≡ first_refusal (write_file_tests files room o offset bytes)
  unfolding write_file_tests
  write-tests offset bytes rise some few =
      units-tests offset bytes (max seen (offset + length bytes)) rise some refl
      ∙ ap (λ many. cond many (Some InvalidParameter) (first_refusal (write_units_tests files room o offset bytes))) (sym (le-ltb MOST_AT_ONCE (length bytes) few))

  pub too-many : (offset : ℕ) (bytes : List ℕ) → MOST_AT_ONCE < length bytes → Some InvalidParameter ≡ first_refusal (write_file_tests files room o offset bytes)
  unfolding write_file_tests
  too-many offset bytes many = ap (λ m. cond m (Some InvalidParameter) (first_refusal (write_units_tests files room o offset bytes))) (sym (lt-ltb MOST_AT_ONCE (length bytes) many))
