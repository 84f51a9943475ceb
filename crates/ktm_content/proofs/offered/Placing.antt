-- The places of bytes on pages, in parts, and the bytes that a row of pages has there.
use Rattle.std.proofs.Common.{◌≡◌, ℕ, zero, suc, ◌+◌, ◌-◌, ◌*◌, ◌<◌, ◌≤◌, List, [], ◌∷◌, ◌++◌, length, get_or, take, drop, refl, sym, ◌∙◌, ap, ap₂, arith, inl, inr, length-take, length-append}
use Rattle.std.specs.Prelude.{flat_map}
use Rattle.std.proofs.lemmas.Bool.{cases_lt}
use Rattle.std.proofs.lemmas.List.{drop_all, drop_at, drop-take, get_or-append_right, get_or-take, get_or_append_left, take-append-drop, take-take, take_all, take_at}
use Rattle.std.proofs.lemmas.List.Concat.{flat_map-append}
use Rattle.ktm_page.specs.TheConstants.{UNIT_BYTES}
use Rattle.ktm_content.specs.Places.{numbers_from, places_of, places_on}

-- ---- the places of a page

length-numbers : (first many : ℕ) → length (numbers_from first many) ≡ many
length-numbers first zero = refl
length-numbers first (suc many) = ap suc (length-numbers (suc first) many)

get_or-numbers : (first many i : ℕ) → i < many → get_or (numbers_from first many) i 0 ≡ first + i
get_or-numbers first zero i low = absurd (omega (arith, low))
get_or-numbers first (suc many) zero low = omega arith
get_or-numbers first (suc many) (suc i) low = get_or-numbers (suc first) many i (omega (arith, low)) ∙ omega arith

pub length-places : (page : ℕ) → length (places_of page) ≡ 4096
unfolding places_of
length-places page = length-numbers (page * UNIT_BYTES + 1) UNIT_BYTES

pub get_or-places : (page i : ℕ) → i < 4096 → get_or (places_of page) i 0 ≡ page * 4096 + i + 1
unfolding places_of
get_or-places page i low = get_or-numbers (page * UNIT_BYTES + 1) UNIT_BYTES i low ∙ omega arith

-- ---- the places of all bytes of pages

pub length-all : (pages : List ℕ) → length (flat_map places_of pages) ≡ length pages * 4096
length-all [] = refl
length-all (page ∷ pages) = omega (arith, length-append (places_of page) (flat_map places_of pages), length-places page, length-all pages)

split-units : (pages : List ℕ) (units : ℕ) → flat_map places_of pages ≡ flat_map places_of (take units pages) ++ flat_map places_of (drop units pages)
split-units pages units = ap (flat_map places_of) (sym (take-append-drop units pages)) ∙ flat_map-append places_of (take units pages) (drop units pages)

take-units : (pages : List ℕ) (units : ℕ) → take (units * 4096) (flat_map places_of pages) ≡ flat_map places_of (take units pages)
take-units pages units = elim (cases_lt (length pages) units) [
  | inl short ↦ take_all (units * 4096) (flat_map places_of pages) (omega (arith, short, length-all pages)) ∙ ap (flat_map places_of) (sym (take_all units pages (omega (arith, short))))
  | inr long ↦ ap (take (units * 4096)) (split-units pages units)
      ∙ take_at (flat_map places_of (take units pages)) (flat_map places_of (drop units pages)) (units * 4096) (omega (arith, long, length-all (take units pages), length-take units pages))
]

drop-units : (pages : List ℕ) (units : ℕ) → drop (units * 4096) (flat_map places_of pages) ≡ flat_map places_of (drop units pages)
drop-units pages units = elim (cases_lt (length pages) units) [
  | inl short ↦ drop_all (units * 4096) (flat_map places_of pages) (omega (arith, short, length-all pages)) ∙ ap (flat_map places_of) (sym (drop_all units pages (omega (arith, short))))
  | inr long ↦ ap (drop (units * 4096)) (split-units pages units)
      ∙ drop_at (flat_map places_of (take units pages)) (flat_map places_of (drop units pages)) (units * 4096) (omega (arith, long, length-all (take units pages), length-take units pages))
]

-- ---- the places of so many bytes

pub length-places_on : (pages : List ℕ) (size : ℕ) → size ≤ length pages * 4096 → length (places_on pages size) ≡ size
length-places_on pages size fits = omega (arith, fits, length-take size (flat_map places_of pages), length-all pages)

-- the place of a byte of a unit
pub get_or-places_on : (pages : List ℕ) (size unit i : ℕ) → unit < length pages → i < 4096 → unit * 4096 + i < size → get_or (places_on pages size) (unit * 4096 + i) 0 ≡ get_or pages unit 0 * 4096 + i + 1
get_or-places_on pages size unit i there low less = get_or-take size (flat_map places_of pages) (unit * 4096 + i) 0 less ∙ get_or-all pages unit there
  where
    get_or-all : (pages : List ℕ) (unit : ℕ) → unit < length pages → get_or (flat_map places_of pages) (unit * 4096 + i) 0 ≡ get_or pages unit 0 * 4096 + i + 1
    get_or-all [] unit there = absurd (omega (arith, there))
    get_or-all (page ∷ pages) zero there =
        ap (λ n. get_or (places_of page ++ flat_map places_of pages) n 0) (omega arith)
        ∙ get_or_append_left (places_of page) (flat_map places_of pages) 0 i (omega (arith, low, length-places page))
        ∙ get_or-places page i low
    get_or-all (page ∷ pages) (suc unit) there =
        get_or-append_right (places_of page) (flat_map places_of pages) 4096 (suc unit * 4096 + i) 0 (length-places page) (omega arith)
        ∙ ap (λ n. get_or (flat_map places_of pages) n 0) (omega arith)
        ∙ get_or-all pages unit (omega (arith, there))

-- the front of places
pub take-places_on : (pages : List ℕ) (size less : ℕ) → less ≤ size → take less (places_on pages size) ≡ places_on pages less
take-places_on pages size less fits = take-take less size (flat_map places_of pages) fits

-- the pages of the units that have a byte are enough
pub places_on-take : (pages : List ℕ) (units size : ℕ) → size ≤ units * 4096 → places_on (take units pages) size ≡ places_on pages size
places_on-take pages units size fits = ap (take size) (sym (take-units pages units)) ∙ take-take size (units * 4096) (flat_map places_of pages) fits

-- the places of whole units
pub places_on-units : (pages : List ℕ) (units : ℕ) → places_on pages (units * 4096) ≡ flat_map places_of (take units pages)
places_on-units pages units = take-units pages units

-- the places behind some units
pub drop-places_on : (pages : List ℕ) (size units : ℕ) → drop (units * 4096) (places_on pages size) ≡ places_on (drop units pages) (size - units * 4096)
drop-places_on pages size units = elim (cases_lt size (units * 4096)) [
  | inl short ↦ (let none : 0 ≡ size - units * 4096 = omega (arith, short) in
      drop_all (units * 4096) (places_on pages size) (omega (arith, short, length-take size (flat_map places_of pages)))
      ∙ ap (λ n. places_on (drop units pages) n) none)
  | inr long ↦ (let whole : size ≡ units * 4096 + (size - units * 4096) = omega (arith, long) in
      ap (λ n. drop (units * 4096) (places_on pages n)) whole
      ∙ drop-take (units * 4096) (size - units * 4096) (flat_map places_of pages)
      ∙ ap (take (size - units * 4096)) (drop-units pages units))
]

take_beyond : (xs ys : List ℕ) (n : ℕ) → take (length xs + n) (xs ++ ys) ≡ xs ++ take n ys
take_beyond [] ys n = ap (λ m. take m ys) (omega arith)
take_beyond (x ∷ xs) ys n =
    let more : suc (length xs) + n ≡ suc (length xs + n) = omega arith in
    ap (λ m. take m (x ∷ (xs ++ ys))) more ∙ ap (λ (l : List ℕ). x ∷ l) (take_beyond xs ys n)

-- the places on pages behind others
pub places_on-append : (pages more : List ℕ) (size : ℕ) → places_on (pages ++ more) (length pages * 4096 + size) ≡ flat_map places_of pages ++ places_on more size
places_on-append pages more size =
    ap₂ (λ (n : ℕ) (l : List ℕ). take n l) (ap (λ n. n + size) (sym (length-all pages))) (flat_map-append places_of pages more) ∙ take_beyond (flat_map places_of pages) (flat_map places_of more) size
