-- The bytes of a row, and those beside it, as a range of the disk is written.
use Rattle.std.proofs.Common.{◌≡◌, ◌⊎◌, ℕ, ◌+◌, ◌-◌, ◌*◌, ◌<◌, ◌≤◌, false, List, [], ◌∷◌, length, get_or, take, drop, sym, ◌∙◌, ap, inl, inr, arith, length-take, length-drop}
use Rattle.std.specs.Prelude.{slice_range}
use Rattle.std.proofs.lemmas.Bool.{cases_lt}
use Rattle.std.proofs.lemmas.Bool.Decides.{nat_tests}
use Rattle.std.proofs.lemmas.Grind.{common_steps, same_number_lists}
use Rattle.std.proofs.lemmas.List.{get_or-take, get_or-drop, get_or_past}
use Rattle.ktm_base.specs.declared.limits.TheConstants.{UNIT_BYTES}
use Rattle.ktm_base.specs.Bytes.{SameOutside, covers, written}
use Rattle.ktm_base.proofs.offered.Images.{length-written, outside, same_written}
use Rattle.ktm_page.specs.Row.{page_of}
use Rattle.ktm_row.specs.Lengths.{row_long}
use Rattle.ktm_row.specs.Places.{end_of}

pub not-covered : (at len place : ℕ) → (place < at) ⊎ (at + len ≤ place) → covers ((at, len) ∷ []) place ≡ false
not-covered at len place out = grind (arith, nat_tests)

written-inside : (old : List ℕ) (at : ℕ) (bytes : List ℕ) (k : ℕ) → at + length bytes ≤ length old → at ≤ k → k < at + length bytes → get_or (written old at bytes) k 0 ≡ get_or bytes (k - at) 0
written-inside old at bytes k fits low high = grind (arith, common_steps, nat_tests)

-- what is in front of a range, and what is behind it, stays
pub same-front : (old new : List ℕ) (at len n : ℕ) → SameOutside ((at, len) ∷ []) old new → n ≤ at → take n new ≡ take n old
same-front old new at len n same before = same_number_lists _ _ (omega (arith, same.same_length, length-take n new, length-take n old))
    (λ k low.
    let within : k < n = omega (arith, low, length-take n new) in
    get_or-take n new k 0 within ∙ same.others k (not-covered at len k (inl (omega (arith, within, before)))) ∙ sym (get_or-take n old k 0 within))

pub same-behind : (old new : List ℕ) (at len n : ℕ) → SameOutside ((at, len) ∷ []) old new → at + len ≤ n → drop n new ≡ drop n old
same-behind old new at len n same after = same_number_lists _ _ (omega (arith, same.same_length, length-drop n new, length-drop n old))
    (λ k low. get_or-drop n new k 0 ∙ same.others (n + k) (not-covered at len (n + k) (inr (omega (arith, after)))) ∙ sym (get_or-drop n old k 0))

-- a range of the row
module _ (begin pages : ℕ) where
  pub row-at : (seen : List ℕ) (k : ℕ) → k < pages * UNIT_BYTES → get_or (slice_range seen begin (end_of begin pages)) k 0 ≡ get_or seen (begin + k) 0
  row-at seen k within =
      let inside : k < end_of begin pages - begin = omega (arith, within) in
      get_or-take (end_of begin pages - begin) (drop begin seen) k 0 inside ∙ get_or-drop begin seen k 0

  module _ (page : ℕ) where
    -- outside of a page of the row is outside of its range on the disk
    away : (len k : ℕ) → (k < page * UNIT_BYTES) ⊎ (page * UNIT_BYTES + len ≤ k) → (begin + k < begin + page * UNIT_BYTES) ⊎ (begin + page * UNIT_BYTES + len ≤ begin + k)
    away len k (inl before) = inl (omega (arith, before))
    away len k (inr after) = inr (omega (arith, after))

    pub row-outside : (old new : List ℕ) → end_of begin pages ≤ length old → SameOutside ((begin + page * UNIT_BYTES, UNIT_BYTES) ∷ []) old new
        → SameOutside ((page * UNIT_BYTES, UNIT_BYTES) ∷ []) (slice_range old begin (end_of begin pages)) (slice_range new begin (end_of begin pages))
    row-outside old new fits same = record {
      same_length = sizes;
      others = λ k out. elim (cases_lt k (pages * UNIT_BYTES)) [
        | inl inside ↦ row-at new k inside ∙ same.others (begin + k) (not-covered (begin + page * UNIT_BYTES) UNIT_BYTES (begin + k) (away UNIT_BYTES k (outside (page * UNIT_BYTES) UNIT_BYTES k out))) ∙ sym (row-at old k inside)
        | inr past ↦ get_or_past (slice_range new begin (end_of begin pages)) k 0 (omega (arith, past, sizes, row_long begin pages old fits)) ∙ sym (get_or_past (slice_range old begin (end_of begin pages)) k 0 (omega (arith, past, row_long begin pages old fits)))
      ];
    }
      where
        sizes : length (slice_range new begin (end_of begin pages)) ≡ length (slice_range old begin (end_of begin pages))
        sizes = row_long begin pages new (omega (arith, same.same_length, fits)) ∙ sym (row_long begin pages old fits)

    pub row-written : (seen bytes : List ℕ) → page < pages → end_of begin pages ≤ length seen → length bytes ≡ UNIT_BYTES
        → slice_range (written seen (begin + page * UNIT_BYTES) bytes) begin (end_of begin pages) ≡ written (slice_range seen begin (end_of begin pages)) (page * UNIT_BYTES) bytes
    row-written seen bytes within fits long = same_number_lists _ _ sizes (λ k low. each k (omega (arith, low, row_long begin pages over whole)))
      where
        row : List ℕ
        row = slice_range seen begin (end_of begin pages)

        over : List ℕ
        over = written seen (begin + page * UNIT_BYTES) bytes

        room : begin + page * UNIT_BYTES + length bytes ≤ length seen
        room = omega (arith, within, fits, long)

        inside-room : page * UNIT_BYTES + length bytes ≤ length row
        inside-room = omega (arith, within, long, row_long begin pages seen fits)

        whole : end_of begin pages ≤ length over
        whole = omega (arith, fits, length-written seen (begin + page * UNIT_BYTES) bytes room)

        sizes : length (slice_range over begin (end_of begin pages)) ≡ length (written row (page * UNIT_BYTES) bytes)
        sizes = row_long begin pages over whole ∙ sym (row_long begin pages seen fits) ∙ sym (length-written row (page * UNIT_BYTES) bytes inside-room)

        beside : (k : ℕ) → k < pages * UNIT_BYTES → (k < page * UNIT_BYTES) ⊎ (page * UNIT_BYTES + length bytes ≤ k) → get_or (slice_range over begin (end_of begin pages)) k 0 ≡ get_or (written row (page * UNIT_BYTES) bytes) k 0
        beside k low out =
            row-at over k low
            ∙ (same_written seen (begin + page * UNIT_BYTES) bytes room).others (begin + k) (not-covered (begin + page * UNIT_BYTES) (length bytes) (begin + k) (away (length bytes) k out))
            ∙ sym (row-at seen k low)
            ∙ sym ((same_written row (page * UNIT_BYTES) bytes inside-room).others k (not-covered (page * UNIT_BYTES) (length bytes) k out))

        each : (k : ℕ) → k < pages * UNIT_BYTES → get_or (slice_range over begin (end_of begin pages)) k 0 ≡ get_or (written row (page * UNIT_BYTES) bytes) k 0
        each k low = elim (cases_lt k (page * UNIT_BYTES)) [
          | inl before ↦ beside k low (inl before)
          | inr from ↦ elim (cases_lt k (page * UNIT_BYTES + length bytes)) [
            | inl inside ↦ (let place : begin + k - (begin + page * UNIT_BYTES) ≡ k - page * UNIT_BYTES = omega (arith, from) in
                row-at over k low
                ∙ written-inside seen (begin + page * UNIT_BYTES) bytes (begin + k) room (omega (arith, from)) (omega (arith, inside))
                ∙ ap (λ n. get_or bytes n 0) place
                ∙ sym (written-inside row (page * UNIT_BYTES) bytes k inside-room from inside))
            | inr behind ↦ beside k low (inr behind)
          ]
        ]

  -- a page of the row stands on the disk in its range
  pub page-place : (seen : List ℕ) (page : ℕ) → page < pages → end_of begin pages ≤ length seen
      → page_of (slice_range seen begin (end_of begin pages)) page ≡ slice_range seen (begin + page * UNIT_BYTES) (begin + page * UNIT_BYTES + UNIT_BYTES)
  page-place seen page within fits = same_number_lists _ _ sizes
      (λ k low.
      let under : k < UNIT_BYTES = omega (arith, low, left) in
      let shift : begin + (page * UNIT_BYTES + k) ≡ begin + page * UNIT_BYTES + k = omega arith in
      let in-row : k < page * UNIT_BYTES + UNIT_BYTES - page * UNIT_BYTES = omega (arith, under) in
      let on-disk : k < begin + page * UNIT_BYTES + UNIT_BYTES - (begin + page * UNIT_BYTES) = omega (arith, under) in
      get_or-take (page * UNIT_BYTES + UNIT_BYTES - page * UNIT_BYTES) (drop (page * UNIT_BYTES) row) k 0 in-row
      ∙ get_or-drop (page * UNIT_BYTES) row k 0
      ∙ row-at seen (page * UNIT_BYTES + k) (omega (arith, within, under))
      ∙ ap (λ n. get_or seen n 0) shift
      ∙ sym (get_or-drop (begin + page * UNIT_BYTES) seen k 0)
      ∙ sym (get_or-take (begin + page * UNIT_BYTES + UNIT_BYTES - (begin + page * UNIT_BYTES)) (drop (begin + page * UNIT_BYTES) seen) k 0 on-disk))
    where
      row : List ℕ
      row = slice_range seen begin (end_of begin pages)

      left : length (page_of row page) ≡ UNIT_BYTES
      left = omega (arith, within, row_long begin pages seen fits, length-take (page * UNIT_BYTES + UNIT_BYTES - page * UNIT_BYTES) (drop (page * UNIT_BYTES) row), length-drop (page * UNIT_BYTES) row)

      right : length (slice_range seen (begin + page * UNIT_BYTES) (begin + page * UNIT_BYTES + UNIT_BYTES)) ≡ UNIT_BYTES
      right = omega (arith, within, fits, length-take (begin + page * UNIT_BYTES + UNIT_BYTES - (begin + page * UNIT_BYTES)) (drop (begin + page * UNIT_BYTES) seen), length-drop (begin + page * UNIT_BYTES) seen)

      sizes : length (page_of row page) ≡ length (slice_range seen (begin + page * UNIT_BYTES) (begin + page * UNIT_BYTES + UNIT_BYTES))
      sizes = left ∙ sym right
