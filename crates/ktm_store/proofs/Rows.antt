-- A row of pages, in which those in memory have their bytes, and the others are zero.
use Rattle.std.proofs.Common.{◌≡◌, ℕ, zero, suc, ◌+◌, ◌-◌, ◌*◌, ◌<◌, ◌≤◌, List, [], ◌∷◌, ◌++◌, length, take, drop, Option, Some, None, refl, sym, ◌∙◌, ap, arith, length-append, length-drop, length-take}
use Rattle.std.specs.Option.{option_map}
use Rattle.std.proofs.Math.ListN.{get_or-map}
use Rattle.std.proofs.lemmas.List.{drop-drop, drop_at, get_or_past, take_at}
use Rattle.ktm_page.specs.Row.{page_of}
use Rattle.ktm_store.specs.Frames.{AreFrames, at_in, kept_in, zeros}
use Rattle.ktm_store.specs.Pool.{Shows, kept_at}
use Rattle.ktm_store.specs.Store.{PoolState}
use Rattle.ktm_store.proofs.Framing.{length-zeros}

-- each page in memory is whole
abbrev pub AreWhole : List (Option (List ℕ)) → Type 0
AreWhole kept = (page : ℕ) (bytes : List ℕ) → kept_at kept page ≡ Some bytes → length bytes ≡ 4096

-- ---- frames

option-whole : (found : Option ℕ) (count : ℕ) (row bytes : List ℕ) → ((frame : ℕ) → found ≡ Some frame → frame < count) → count * 4096 ≤ length row → option_map (page_of row) found ≡ Some bytes → length bytes ≡ 4096
option-whole None count row bytes within room is = absurd (cc)
option-whole (Some frame) count row bytes within room is =
    let same : page_of row frame ≡ bytes = cc in
    let low : frame < count = within frame refl in
    sym (ap (λ (l : List ℕ). length l) same) ∙ omega (arith, low, room, length-take (frame * 4096 + 4096 - frame * 4096) (drop (frame * 4096) row), length-drop (frame * 4096) row)

-- a frame has the bytes of a page
pub kept-whole : (count : ℕ) (bytes : List ℕ) (at : List (Option ℕ)) → AreFrames count bytes → ((page frame : ℕ) → at_in at page ≡ Some frame → frame < count) → AreWhole (kept_in bytes at)
kept-whole count bytes at are within page found is =
    option-whole (at_in at page) count bytes found (within page) are.room (sym (get_or-map (option_map (page_of bytes)) at page None) ∙ is)

-- ---- rows

abbrev bytes-or-zeros : Option (List ℕ) → List ℕ
bytes-or-zeros None = zeros
bytes-or-zeros (Some bytes) = bytes

abbrev row-with : List (Option (List ℕ)) → List ℕ
row-with [] = []
row-with (one ∷ kept) = bytes-or-zeros one ++ row-with kept

long-one : (one : Option (List ℕ)) → ((bytes : List ℕ) → one ≡ Some bytes → length bytes ≡ 4096) → length (bytes-or-zeros one) ≡ 4096
long-one None whole = length-zeros
long-one (Some bytes) whole = whole bytes refl

long-row : (kept : List (Option (List ℕ))) → AreWhole kept → length (row-with kept) ≡ length kept * 4096
long-row [] whole = refl
long-row (one ∷ kept) whole =
    omega (arith, length-append (bytes-or-zeros one) (row-with kept), long-one one (whole zero), long-row kept (λ page. whole (suc page)))

page-row : (kept : List (Option (List ℕ))) → AreWhole kept → (page : ℕ) (bytes : List ℕ) → kept_at kept page ≡ Some bytes → page_of (row-with kept) page ≡ bytes
page-row [] whole page bytes is = absurd (let none : None ≡ Some bytes = sym (get_or_past [] page None (omega arith)) ∙ is in cc)
page-row (None ∷ kept) whole zero bytes is = absurd (cc)
page-row (Some first ∷ kept) whole zero bytes is =
    let same : first ≡ bytes = cc in
    let long : length first ≡ 4096 = whole zero first refl in
    take_at first (row-with kept) (0 * 4096 + 4096 - 0 * 4096) (omega (arith, long)) ∙ same
page-row (one ∷ kept) whole (suc page) bytes is =
    let all : List ℕ = bytes-or-zeros one ++ row-with kept in
    let count : suc page * 4096 ≡ 4096 + page * 4096 = omega arith in
    let many : suc page * 4096 + 4096 - suc page * 4096 ≡ page * 4096 + 4096 - page * 4096 = omega arith in
    ap (λ (n : ℕ). take n (drop (suc page * 4096) all)) many
    ∙ ap (λ (n : ℕ). take (page * 4096 + 4096 - page * 4096) (drop n all)) count
    ∙ ap (λ (l : List ℕ). take (page * 4096 + 4096 - page * 4096) l) (sym (drop-drop (page * 4096) 4096 all) ∙ ap (λ (l : List ℕ). drop (page * 4096) l) (drop_at (bytes-or-zeros one) (row-with kept) 4096 (long-one one (whole zero))))
    ∙ page-row kept (λ n. whole (suc n)) page bytes is

-- each store shows one
pub shows-row : (pool : PoolState) → length pool.seen ≡ length pool.marks.held → AreWhole pool.seen → (row : List ℕ) × Shows pool row
shows-row pool long whole = (row-with pool.seen, record { size = long-row pool.seen whole ∙ ap (λ n. n * 4096) long; bytes = page-row pool.seen whole })
