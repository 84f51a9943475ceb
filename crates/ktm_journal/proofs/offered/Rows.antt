-- The row of an image's pages, as bytes of the image change.
use Rattle.std.specs.Prelude.{slice_range, Contains, IfSome}
use Rattle.std.proofs.Common.{◌≡◌, ◌⊎◌, inl, inr, ℕ, ◌+◌, ◌-◌, ◌*◌, ◌<◌, ◌≤◌, Bool, false, ◌&&◌, ◌||◌, nat_le, nat_lt, Option, None, Some, List, [], ◌∷◌, length, get_or, take, drop, refl, sym, ◌∙◌, ap, subst, arith, length-take, length-drop}
use Rattle.std.proofs.lemmas.Bool.{cases_lt, cases_order}
use Rattle.std.proofs.lemmas.Bool.Decides.{nat_tests}
use Rattle.std.proofs.lemmas.Grind.{same_number_lists}
use Rattle.std.proofs.lemmas.List.{get_or-take, get_or-drop, get_or_past}
use Rattle.std.proofs.lemmas.List.Elements.{Contains-append_left, Contains-append_right, Contains-push}
use Rattle.ktm_base.specs.declared.limits.TheConstants.{UNIT_BYTES}
use Rattle.ktm_base.specs.Bytes.{SameOutside, covers, written}
use Rattle.ktm_base.specs.Disk.{DiskState}
use Rattle.ktm_base.proofs.offered.Images.{same_written}
use Rattle.ktm_log.proofs.Parts.{area_part, area_same, area_written, get_or-area, length-area, not_covered, same_part, written_part}
use Rattle.ktm_page.specs.Row.{page_of}
use Rattle.ktm_journal.specs.Image.{image_len, page_area, page_count, pages_at, row_of}
use Rattle.ktm_journal.specs.Pages.{SamePagesBut, page_at, page_ranges}

-- ---- places in pages

beside : (at len place : ℕ) → (place < at) ⊎ (at + len ≤ place) → nat_le at place && nat_lt place (at + len) ≡ false
beside at len place out = grind (arith, nat_tests)

neither : (a b : Bool) → a ≡ false → b ≡ false → a || b ≡ false
neither a b x y = cc

outside_pages : (units : ℕ) (pages : List ℕ) (place : ℕ) → ((page : ℕ) → Contains pages page → (place < page_at units page) ⊎ (page_at units page + UNIT_BYTES ≤ place)) → covers (page_ranges units pages) place ≡ false
outside_pages units [] place out = refl
outside_pages units (page ∷ pages) place out =
    neither _ (covers (page_ranges units pages) place)
    (beside (page_at units page) UNIT_BYTES place (out page (Contains-append_left (page ∷ []) pages page (Contains-push [] page))))
    (outside_pages units pages place (λ other is. out other (Contains-append_right (page ∷ []) pages other is)))

-- header, snapshots and logs stand before the pages
pub before_pages : (units : ℕ) (pages : List ℕ) (place : ℕ) → place < pages_at units → covers (page_ranges units pages) place ≡ false
before_pages units pages place before = outside_pages units pages place (λ page is. inl (omega (arith, before)))

-- ---- what stays

-- what changes before the pages leaves them
pub row_kept : (units at len : ℕ) (old new : List ℕ) → at + len ≤ pages_at units → SameOutside ((at, len) ∷ []) old new → row_of units new ≡ row_of units old
row_kept units at len old new before same =
    same_part old new (pages_at units) (UNIT_BYTES * page_count units) same.same_length (λ place low high. same.others place (not_covered at len place (inr (omega (arith, before, low)))))

-- what changes in pages leaves the others
module _ (units : ℕ) (pages old new : List ℕ) (long : length new ≡ length old) (same : (place : ℕ) → covers (page_ranges units pages) place ≡ false → get_or new place 0 ≡ get_or old place 0) where
  rows_long : length (row_of units new) ≡ length (row_of units old)
  rows_long =
      omega (arith, long, length-take (UNIT_BYTES * page_count units) (drop (pages_at units) new), length-take (UNIT_BYTES * page_count units) (drop (pages_at units) old), length-drop (pages_at units) new, length-drop (pages_at units) old)

  past_row : (bytes : List ℕ) (place : ℕ) → UNIT_BYTES * page_count units ≤ place → get_or (row_of units bytes) place 0 ≡ 0
  past_row bytes place past = get_or_past (row_of units bytes) place 0 (omega (arith, past, length-take (UNIT_BYTES * page_count units) (drop (pages_at units) bytes)))

  in_page : (page : ℕ) → (Contains pages page → ⊥) → (place : ℕ) → page * UNIT_BYTES ≤ place → place < page * UNIT_BYTES + UNIT_BYTES → get_or (row_of units new) place 0 ≡ get_or (row_of units old) place 0
  in_page page other place low high = elim (cases_lt place (UNIT_BYTES * page_count units)) [
    | inl inside ↦ get_or-area (page_area units) new place inside ∙ same (pages_at units + place) (outside_pages units pages (pages_at units + place) apart) ∙ sym (get_or-area (page_area units) old place inside)
    | inr past ↦ past_row new place past ∙ sym (past_row old place past)
  ]
    where
      apart : (p : ℕ) → Contains pages p → (pages_at units + place < page_at units p) ⊎ (page_at units p + UNIT_BYTES ≤ pages_at units + place)
      apart p is = elim (cases_order page p) [
        | inl one ↦ absurd (other (subst (λ (n : ℕ). Contains pages n) (sym one) is))
        | inr (inl less) ↦ inl (omega (arith, less, high))
        | inr (inr more) ↦ inr (omega (arith, more, low))
      ]

  pub others_kept : SamePagesBut pages (row_of units old) (row_of units new)
  others_kept = record {
    same_length = rows_long;
    others = λ page other.
        same_part (row_of units old) (row_of units new) (page * UNIT_BYTES) (page * UNIT_BYTES + UNIT_BYTES - page * UNIT_BYTES) rows_long
        (λ place low high. in_page page other place low (omega (arith, high)));
  }

-- ---- one page

-- what stands in an image where a page is
pub page_read : (units page : ℕ) (image : List ℕ) → page < page_count units → page_of (row_of units image) page ≡ slice_range image (page_at units page) (page_at units page + UNIT_BYTES)
page_read units page image within =
    let one : page * UNIT_BYTES + UNIT_BYTES - page * UNIT_BYTES ≡ UNIT_BYTES = omega arith in
    let two : page_at units page + UNIT_BYTES - page_at units page ≡ UNIT_BYTES = omega arith in
    ap (λ n. take n (drop (page * UNIT_BYTES) (row_of units image))) one
    ∙ area_part (page_area units) image (page * UNIT_BYTES) UNIT_BYTES (omega (arith, within))
    ∙ ap (λ n. take n (drop (page_at units page) image)) (sym two)

-- where the contents are told
pub page_told : (units page at len : ℕ) (bytes : List ℕ) (o : Option DiskState) → page < page_count units → at ≡ page_at units page → len ≡ UNIT_BYTES → IfSome o (λ s. bytes ≡ slice_range s.seen at (at + len))
    → IfSome o (λ s. bytes ≡ page_of (row_of units s.seen) page)
page_told units page at len bytes None within place whole read = tt
page_told units page at len bytes (Some s) within place whole read =
    read ∙ ap (λ n. slice_range s.seen n (n + len)) place ∙ ap (λ n. slice_range s.seen (page_at units page) (page_at units page + n)) whole ∙ sym (page_read units page s.seen within)

-- what stands in a list where these bytes are
inside : (l bytes : List ℕ) (from k : ℕ) → take (length bytes) (drop from l) ≡ bytes → from ≤ k → k < from + length bytes → get_or l k 0 ≡ get_or bytes (k - from) 0
inside l bytes from k there low high =
    let place : k ≡ from + (k - from) = omega (arith, low) in
    ap (λ n. get_or l n 0) place
    ∙ sym (get_or-drop from l (k - from) 0)
    ∙ sym (get_or-take (length bytes) (drop from l) (k - from) 0 (omega (arith, low, high)))
    ∙ ap (λ (m : List ℕ). get_or m (k - from) 0) there

-- two lists are one where both have these bytes there, and those of a third elsewhere
one_written : (base left right bytes : List ℕ) (from : ℕ) → SameOutside ((from, length bytes) ∷ []) base left → SameOutside ((from, length bytes) ∷ []) base right
    → take (length bytes) (drop from left) ≡ bytes → take (length bytes) (drop from right) ≡ bytes → left ≡ right
one_written base left right bytes from at_left at_right in_left in_right = same_number_lists left right (at_left.same_length ∙ sym at_right.same_length)
    (λ k h. elim (cases_lt k from) [
      | inl before ↦ away k (inl before)
      | inr low ↦ elim (cases_lt k (from + length bytes)) [
        | inl high ↦ inside left bytes from k in_left low high ∙ sym (inside right bytes from k in_right low high)
        | inr behind ↦ away k (inr behind)
      ]
    ])
  where
    away : (k : ℕ) → (k < from) ⊎ (from + length bytes ≤ k) → get_or left k 0 ≡ get_or right k 0
    away k out = at_left.others k (not_covered from (length bytes) k out) ∙ sym (at_right.others k (not_covered from (length bytes) k out))

pub row_written : (units page : ℕ) (image bytes : List ℕ) → page < page_count units → length bytes ≡ UNIT_BYTES → image_len units ≤ length image
    → row_of units (written image (page_at units page) bytes) ≡ written (row_of units image) (page * UNIT_BYTES) bytes
row_written units page image bytes within whole long =
    let fits : page * UNIT_BYTES + length bytes ≤ UNIT_BYTES * page_count units = omega (arith, within, whole) in
    let room : page * UNIT_BYTES + length bytes ≤ length (row_of units image) = omega (arith, fits, length-area (page_area units) image long) in
    one_written (row_of units image) (row_of units (written image (page_at units page) bytes)) (written (row_of units image) (page * UNIT_BYTES) bytes) bytes (page * UNIT_BYTES)
    (area_same (page_area units) image (written image (page_at units page) bytes) (page * UNIT_BYTES) (length bytes) (same_written image (page_at units page) bytes (omega (arith, fits, long))))
    (same_written (row_of units image) (page * UNIT_BYTES) bytes room)
    (area_written (page_area units) image bytes (page * UNIT_BYTES) long fits)
    (written_part (row_of units image) bytes (page * UNIT_BYTES) (omega (arith, room)))
