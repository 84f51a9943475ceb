-- Contents whose pages are held.
use Rattle.std.proofs.Common.{◌≡◌, ◌⊎◌, ℕ, ◌+◌, ◌-◌, ◌*◌, ◌/◌, ◌%◌, ◌<◌, ◌≤◌, Bool, true, false, List, [], ◌∷◌, ◌++◌, length, get_or, take, drop, sym, ◌∙◌, ap, arith, inl, inr, append_assoc, length-take}
use Rattle.std.specs.Prelude.{◌≢◌, All}
use Rattle.std.proofs.lemmas.Bool.{cases_eq, cases_lt}
use Rattle.std.proofs.lemmas.Bool.Decides.{nat_tests}
use Rattle.std.proofs.lemmas.Grind.{same_number_lists}
use Rattle.std.proofs.lemmas.List.{drop_at, get_or_default, get_or_past, take_at}
use Rattle.ktm_base.specs.Bytes.{SameOutside, covers, written}
use Rattle.ktm_base.proofs.offered.Images.{same_written}
use Rattle.ktm_page.specs.Row.{page_of}
use Rattle.ktm_content.specs.Places.{LieOn, byte_at}
use Rattle.ktm_content.proofs.offered.Bytes.{byte_at-place, place-lie}
use Rattle.ktm_store.specs.Marks.{is_held}
use Rattle.ktm_store.specs.Store.{AreBelow, AreHeld, KeepsHeld, StoreState, bytes_at, page_at}
use Rattle.ktm_content.specs.Contents.{cut_to, put_over}
use Rattle.ktm_store.proofs.Bytes.{get_or-cut_to, get_or-page, length-cut_to, put-inside, put-outside, same-page}
use Rattle.ktm_store.proofs.Contents.{get_or-bytes_at, length-bytes_at}

-- a page that is held is one
pub held-page : (held : List Bool) (page : ℕ) → is_held held page ≡ true → page < length held
held-page held page is = elim (cases_lt page (length held)) [
  | inl below ↦ below
  | inr past ↦ (let none : false ≡ true = sym (get_or_past held page false past) ∙ is in cc)
]

-- what is held is there
pub held-below : (held : List Bool) (places : List ℕ) → AreHeld held places → AreBelow (length held) places
held-below held places are k d low = elim (cases_eq (get_or places k d) 0) [
  | inl none ↦ omega (arith, none)
  | inr some ↦ omega (arith, some, held-page held (page_at (get_or places k d)) (are k d low some))
]

-- contents on pages that are held are held
pub held-lie : (held : List Bool) (pages places : List ℕ) → LieOn pages places → All (λ page. is_held held page ≡ true) pages → AreHeld held places
held-lie held pages places lie are k d low some =
    let unit : ℕ = k / 4096 in
    let i : ℕ = k % 4096 in
    let is : k ≡ unit * 4096 + i = omega arith in
    let there : unit < length pages = omega (arith, low, lie.units) in
    let place : get_or places k d ≡ get_or pages unit 0 * 4096 + i + 1 =
    get_or_default places k d 0 low ∙ ap (λ n. get_or places n 0) is ∙ place-lie pages places unit i lie (omega arith) (omega (arith, low)) in
    let page : page_at (get_or places k d) ≡ get_or pages unit 0 = omega (arith, place) in
    ap (is_held held) page ∙ are unit 0 there

-- a byte of a page is the same in two rows that have the page the same
pub byte-same : (row other : List ℕ) (place : ℕ) → (place ≢ 0 → page_of row (page_at place) ≡ page_of other (page_at place)) → byte_at row place ≡ byte_at other place
byte-same row other place same = elim (cases_eq place 0) [
  | inl none ↦ ap (byte_at row) none ∙ sym (ap (byte_at other) none)
  | inr some ↦ on_page row some ∙ ap (λ (l : List ℕ). get_or l ((place - 1) % 4096) 0) (same some) ∙ sym (on_page other some)
]
  where
    on_page : (seen : List ℕ) → place ≢ 0 → byte_at seen place ≡ get_or (page_of seen (page_at place)) ((place - 1) % 4096) 0
    on_page seen some =
        let is : place ≡ page_at place * 4096 + (place - 1) % 4096 + 1 = omega (arith, some) in
        ap (byte_at seen) is ∙ byte_at-place seen (page_at place * 4096 + (place - 1) % 4096) ∙ sym (get_or-page seen (page_at place) ((place - 1) % 4096) (omega arith))

-- pages that are held have their bytes still
pub byte-kept : (old new : StoreState) (place : ℕ) → KeepsHeld old new → (place ≢ 0 → is_held old.marks.held (page_at place) ≡ true) → byte_at new.seen place ≡ byte_at old.seen place
byte-kept old new place keeps is = byte-same new.seen old.seen place (λ some. keeps.bytes (page_at place) (is some))

-- contents that were held have their bytes still
pub bytes-kept : (old new : StoreState) (places : List ℕ) → KeepsHeld old new → AreHeld old.marks.held places → bytes_at new.seen places ≡ bytes_at old.seen places
bytes-kept old new places keeps are =
    same_number_lists (bytes_at new.seen places) (bytes_at old.seen places)
    (length-bytes_at new.seen places ∙ sym (length-bytes_at old.seen places))
    (λ k short.
    let low : k < length places = omega (arith, short, length-bytes_at new.seen places) in
    get_or-bytes_at new.seen places k low ∙ byte-kept old new (get_or places k 0) keeps (are k 0 low) ∙ sym (get_or-bytes_at old.seen places k low))

-- contents that were held are held where no page is held no longer
pub held-more : (old new : List Bool) (places : List ℕ) → ((page : ℕ) → is_held old page ≡ true → is_held new page ≡ true) → AreHeld old places → AreHeld new places
held-more old new places more are k d low some = more (page_at (get_or places k d)) (are k d low some)

-- contents that were held are held still
pub held-kept : (old new : StoreState) (places : List ℕ) → KeepsHeld old new → AreHeld old.marks.held places → AreHeld new.marks.held places
held-kept old new places keeps are = held-more old.marks.held new.marks.held places keeps.held are

-- a place behind the end is none
held-at : (held : List Bool) (places : List ℕ) (k : ℕ) → AreHeld held places → get_or places k 0 ≢ 0 → is_held held (page_at (get_or places k 0)) ≡ true
held-at held places k are some = elim (cases_lt k (length places)) [
  | inl low ↦ are k 0 low some
  | inr past ↦ absurd (some (get_or_past places k 0 past))
]

-- contents that are put over others are held as both were
pub held-put : (held : List Bool) (old : List ℕ) (start : ℕ) (new : List ℕ) → AreHeld held old → AreHeld held new → AreHeld held (put_over old start new)
held-put held old start new were are k d low some =
    ap (λ (n : ℕ). is_held held (page_at n)) (get_or_default (put_over old start new) k d 0 low) ∙ here (λ none. some (get_or_default (put_over old start new) k d 0 low ∙ none))
  where
    of : (places : List ℕ) (n : ℕ) → AreHeld held places → get_or (put_over old start new) k 0 ≡ get_or places n 0 → get_or (put_over old start new) k 0 ≢ 0 → is_held held (page_at (get_or (put_over old start new) k 0)) ≡ true
    of places n all is there = ap (λ (m : ℕ). is_held held (page_at m)) is ∙ held-at held places n all (λ none. there (is ∙ none))

    here : get_or (put_over old start new) k 0 ≢ 0 → is_held held (page_at (get_or (put_over old start new) k 0)) ≡ true
    here there = elim (cases_lt k start) [
      | inl before ↦ of old k were (put-outside old start new k (inl before)) there
      | inr from ↦ elim (cases_lt k (start + length new)) [
        | inl within ↦ of new (k - start) are (put-inside old start new k from within) there
        | inr behind ↦ of old k were (put-outside old start new k (inr behind)) there
      ]
    ]

-- contents that are cut are held as they were
pub held-cut : (held : List Bool) (old : List ℕ) (size : ℕ) → AreHeld held old → AreHeld held (cut_to old size)
held-cut held old size were k d low some =
    ap (λ (n : ℕ). is_held held (page_at n)) is ∙ held-at held old k were (λ none. some (is ∙ none))
  where
    is : get_or (cut_to old size) k d ≡ get_or old k 0
    is = get_or_default (cut_to old size) k d 0 low ∙ get_or-cut_to old size k (omega (arith, low, length-cut_to old size))

-- ---- pages that are written over

-- a page that is written over has the bytes
pub page-written : (page : ℕ) (old bytes : List ℕ) → length bytes ≡ 4096 → page * 4096 + 4096 ≤ length old → page_of (written old (page * 4096) bytes) page ≡ bytes
page-written page old bytes full fits =
    ap (λ (l : List ℕ). take (page * 4096 + 4096 - page * 4096) (drop (page * 4096) l)) (append_assoc (take (page * 4096) old) bytes (drop (page * 4096 + length bytes) old))
    ∙ ap (λ (l : List ℕ). take (page * 4096 + 4096 - page * 4096) l) (drop_at (take (page * 4096) old) (bytes ++ drop (page * 4096 + length bytes) old) (page * 4096) (omega (arith, fits, length-take (page * 4096) old)))
    ∙ take_at bytes (drop (page * 4096 + length bytes) old) (page * 4096 + 4096 - page * 4096) (omega (arith, full))

not-covered : (at len k : ℕ) → (k < at) ⊎ (at + len ≤ k) → covers ((at, len) ∷ []) k ≡ false
not-covered at len k out = grind (arith, nat_tests)

-- and all others are as they were
pub page-other : (page other : ℕ) (old bytes : List ℕ) → length bytes ≡ 4096 → page * 4096 + 4096 ≤ length old → other ≢ page → page_of (written old (page * 4096) bytes) other ≡ page_of old other
page-other page other old bytes full fits apart = same-page old (written old (page * 4096) bytes) other same.same_length (λ i low. same.others (other * 4096 + i) (not-covered (page * 4096) (length bytes) (other * 4096 + i) (away i low)))
  where
    same : SameOutside ((page * 4096, length bytes) ∷ []) old (written old (page * 4096) bytes)
    same = same_written old (page * 4096) bytes (omega (arith, full, fits))

    away : (i : ℕ) → i < 4096 → (other * 4096 + i < page * 4096) ⊎ (page * 4096 + length bytes ≤ other * 4096 + i)
    away i low = elim (cases_lt other page) [
      | inl before ↦ inl (omega (arith, before, low))
      | inr from ↦ elim (cases_lt page other) [ inl behind ↦ inr (omega (arith, behind, full)) | inr upto ↦ absurd (apart (omega (arith, from, upto))) ]
    ]
