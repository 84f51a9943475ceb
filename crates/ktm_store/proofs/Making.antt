-- What is made of contents where bytes are put over them, unit by unit.
use Rattle.std.proofs.Common.{◌≡◌, ℕ, ◌+◌, ◌-◌, ◌*◌, ◌/◌, ◌%◌, ◌<◌, ◌≤◌, ◌==◌, max, min, Bool, true, false, if◌then◌else◌, List, [], length, get_or, take, drop, sym, ◌∙◌, ap, subst, arith, inl, inr, length-take, length-drop}
use Rattle.std.specs.Prelude.{◌⊎◌, ◌≢◌}
use Rattle.std.proofs.lemmas.Bool.{cases_eq, cases_lt}
use Rattle.std.proofs.lemmas.Bool.Decides.{nat_tests}
use Rattle.std.proofs.lemmas.Grind.{same_number_lists}
use Rattle.std.proofs.lemmas.List.{drop_all, get_or-drop, get_or-take, get_or_default, get_or_past, nil_from_length}
use Rattle.ktm_content.specs.Contents.{cut_to, put_over}
use Rattle.ktm_content.specs.Places.{CanBePut, byte_at, places_on}
use Rattle.ktm_content.proofs.offered.Bytes.{byte_at-place}
use Rattle.ktm_content.proofs.offered.Placing.{get_or-places_on, length-places_on}
use Rattle.ktm_store.specs.Change.{ChangeState, IsSound, bytes_in, from_in, head_in, tail_in, to_in, unit_of}
use Rattle.ktm_store.specs.Filling.{HasUnits, IsNone, MadeUnits, size_in}
use Rattle.ktm_store.specs.Marks.{is_held}
use Rattle.ktm_store.specs.Pool.{FilledPages, Shows, TookPages, head_of, tail_of}
use Rattle.ktm_store.specs.Stored.{is_stored}
use Rattle.ktm_store.specs.Store.{AreHeld, IsTouched, PoolState, bytes_at, page_at, touched}
use Rattle.ktm_store.proofs.Bytes.{get_or-page, length-put_over, put-inside, put-none, put-outside}
use Rattle.ktm_store.proofs.Contents.{get_or-bytes_at, length-bytes_at}
use Rattle.ktm_store.proofs.Filled.{filled-bytes, filled-head, filled-tail}
use Rattle.ktm_store.proofs.offered.Holding.{byte-same}

-- bytes that are put over contents of this size at an offset
abbrev pub change_of : ℕ → ℕ → List ℕ → List ℕ → List ℕ → ChangeState
change_of size at bytes head tail = record { first = min size at / 4096; behind = (at + length bytes - 1) / 4096 + 1; at = at; bytes = bytes; head = head; tail = tail }

-- the units that change are so many
pub units-many : (change : ChangeState) (size : ℕ) → IsSound change → change.behind - change.first ≡ (size_in change size + 4095) / 4096
units-many change size sound = omega (arith, sound.begins, sound.behind, sound.some)

-- ---- a unit

module _ (size at : ℕ) (bytes head tail was : List ℕ) (some : min size at < at + length bytes) (is_size : length was ≡ size) (is_head : head ≡ head_of was at) (is_tail : tail ≡ tail_of was (at + length bytes)) where
  abbrev change : ChangeState
  change = change_of size at bytes head tail

  abbrev end : ℕ
  end = at + length bytes

  abbrev before : ℕ
  before = min (length was) at

  head-first : (unit : ℕ) → unit ≡ change.first → head_in change unit ≡ head
  head-first unit is = ap (λ (b : Bool). if b then head else []) (let test : (unit == change.first) ≡ true = grind (arith, nat_tests) in test)

  head-other : (unit : ℕ) → unit ≢ change.first → head_in change unit ≡ []
  head-other unit is = ap (λ (b : Bool). if b then head else []) (let test : (unit == change.first) ≡ false = grind (arith, nat_tests) in test)

  tail-last : (unit : ℕ) → unit + 1 ≡ change.behind → tail_in change unit ≡ tail
  tail-last unit is = ap (λ (b : Bool). if b then tail else []) (let test : (unit + 1 == change.behind) ≡ true = grind (arith, nat_tests) in test)

  long-bytes : (unit : ℕ) → unit < change.behind → length (bytes_in change unit) ≡ to_in change unit - from_in change unit
  long-bytes unit low = omega (arith, low, some, length-take (to_in change unit - from_in change unit) (drop (unit * 4096 - at) bytes), length-drop (unit * 4096 - at) bytes)

  -- in front of the bytes
  in-front : (unit i : ℕ) → change.first ≤ unit → i < 4096 → unit * 4096 + i < at → get_or (unit_of change unit) i 0 ≡ get_or was (unit * 4096 + i) 0
  in-front unit i from low front =
      filled-head (head_in change unit) (from_in change unit) (bytes_in change unit) (tail_in change unit) i low (omega (arith, low, front))
      ∙ elim (cases_eq unit change.first) [
        | inl first ↦ ap (λ (l : List ℕ). get_or l i 0) (head-first unit first ∙ is_head) ∙ elim (cases_lt i (before % 4096)) [
          | inl there ↦ get_or-take (before % 4096) (drop (before - before % 4096) was) i 0 there
              ∙ get_or-drop (before - before % 4096) was i 0
              ∙ ap (λ (n : ℕ). get_or was n 0) (omega (arith, first, is_size))
          | inr past ↦ get_or_past (head_of was at) i 0 (omega (arith, past, length-take (before % 4096) (drop (before - before % 4096) was)))
              ∙ sym (get_or_past was (unit * 4096 + i) 0 (omega (arith, past, first, front, is_size)))
        ]
        | inr apart ↦ ap (λ (l : List ℕ). get_or l i 0) (head-other unit apart) ∙ sym (get_or_past was (unit * 4096 + i) 0 (omega (arith, apart, from, front, is_size)))
      ]

  -- among the bytes
  among : (unit i : ℕ) → unit < change.behind → i < 4096 → at ≤ unit * 4096 + i → unit * 4096 + i < end → get_or (unit_of change unit) i 0 ≡ get_or bytes (unit * 4096 + i - at) 0
  among unit i behind low begins ends =
      filled-bytes (head_in change unit) (from_in change unit) (bytes_in change unit) (tail_in change unit) i low (omega (arith, begins)) (omega (arith, low, begins, ends, long-bytes unit behind))
      ∙ get_or-take (to_in change unit - from_in change unit) (drop (unit * 4096 - at) bytes) (i - from_in change unit) 0 (omega (arith, low, begins, ends))
      ∙ get_or-drop (unit * 4096 - at) bytes (i - from_in change unit) 0
      ∙ ap (λ (n : ℕ). get_or bytes n 0) (omega (arith, low, begins))

  -- behind them
  past : (unit i : ℕ) → unit < change.behind → i < 4096 → end ≤ unit * 4096 + i → get_or (unit_of change unit) i 0 ≡ get_or was (unit * 4096 + i) 0
  past unit i behind low ends =
      let last : unit + 1 ≡ change.behind = omega (arith, behind, low, ends, some) in
      let to : from_in change unit + length (bytes_in change unit) ≡ end - unit * 4096 = omega (arith, long-bytes unit behind, last, some) in
      filled-tail (head_in change unit) (from_in change unit) (bytes_in change unit) (tail_in change unit) i low (omega (arith, to, ends))
      ∙ ap (λ (l : List ℕ). get_or l (i - (from_in change unit + length (bytes_in change unit))) 0) (tail-last unit last ∙ is_tail)
      ∙ get_or-take (((end - 1) / 4096 + 1) * 4096 - end) (drop end was) (i - (from_in change unit + length (bytes_in change unit))) 0 (omega (arith, to, last, low, ends, some))
      ∙ get_or-drop end was (i - (from_in change unit + length (bytes_in change unit))) 0
      ∙ ap (λ (n : ℕ). get_or was n 0) (omega (arith, to, ends, last, some))

  -- each byte of a unit that changes
  unit-byte : (unit i : ℕ) → change.first ≤ unit → unit < change.behind → i < 4096 → get_or (unit_of change unit) i 0 ≡ get_or (put_over was at bytes) (unit * 4096 + i) 0
  unit-byte unit i from behind low = elim (cases_lt (unit * 4096 + i) at) [
    | inl front ↦ in-front unit i from low front ∙ sym (put-outside was at bytes (unit * 4096 + i) (inl front))
    | inr begins ↦ elim (cases_lt (unit * 4096 + i) end) [
      | inl within ↦ among unit i behind low begins within ∙ sym (put-inside was at bytes (unit * 4096 + i) begins within)
      | inr ends ↦ past unit i behind low ends ∙ sym (put-outside was at bytes (unit * 4096 + i) (inr ends))
    ]
  ]

-- ---- the units

module _ (old new : PoolState) (places bytes head tail : List ℕ) (at size start : ℕ) (part : List ℕ) (is_size : size ≡ length places) (some : min size at < at + length bytes) (were : AreHeld old.marks.held places)
    (made : MadeUnits (change_of size at bytes head tail) size old new start part) where
  abbrev it : ChangeState
  it = change_of size at bytes head tail

  abbrev many : ℕ
  many = size_in it size

  begins : it.first * 4096 ≤ min (length places) at
  begins = omega (arith, is_size)

  ends : at + length bytes ≤ it.behind * 4096
  ends = omega arith

  order : it.first < it.behind
  order = omega (arith, begins, ends, some, is_size)

  whole : it.first * 4096 + many ≡ min (max (length places) (at + length bytes)) (it.behind * 4096)
  whole = omega (arith, is_size, begins, ends, some, order)

  fits : many ≤ length made.pages * 4096
  fits = omega (arith, whole, made.many, order)

  long : length part ≡ many
  long = ap (λ (l : List ℕ). length l) made.part_is ∙ length-places_on made.pages many fits

  place : (k : ℕ) → k < many → get_or part k 0 ≡ get_or made.pages (k / 4096) 0 * 4096 + k % 4096 + 1
  place k low =
      ap (λ (l : List ℕ). get_or l k 0) made.part_is
      ∙ ap (λ n. get_or (places_on made.pages many) n 0) is
      ∙ get_or-places_on made.pages many (k / 4096) (k % 4096) (omega (arith, low, fits)) (omega arith) (omega (arith, low, is))
    where
      is : k ≡ k / 4096 * 4096 + k % 4096
      is = omega arith

  page : (k d : ℕ) → k < length part → page_at (get_or part k d) ≡ get_or made.pages (k / 4096) 0
  page k d low = ap page_at (get_or_default part k d 0 low) ∙ omega (arith, place k (omega (arith, low, long)))

  unit-low : (k : ℕ) → k < length part → k / 4096 < length made.pages
  unit-low k low = omega (arith, low, long, fits)

  pub are-touched : IsTouched (length places) at (at + length bytes) start part
  are-touched = record {
    first = made.start_is ∙ ap (λ n. min n at / 4096 * 4096) is_size;
    last = omega (arith, made.start_is, long) ∙ whole;
  }

  can-be-put : CanBePut places start part
  can-be-put = record {
    begins = omega (arith, made.start_is);
    reaches = omega (arith, begins, made.start_is);
    ends = elim (cases_lt (it.behind * 4096) (max (length places) (at + length bytes))) [
      | inl more ↦ inl (let is : start + length part ≡ it.behind * 4096 = omega (arith, more, whole, long, made.start_is) in omega (arith, is))
      | inr less ↦ inr (omega (arith, less, whole, long, made.start_is))
    ];
  }

  pub took-pages : TookPages (touched (length places) at (at + length bytes)) places old new start part
  took-pages = record {
    pages = made.pages;
    lie = record { units = omega (arith, long, fits, whole, made.many, order, begins, ends); places = made.part_is ∙ ap (places_on made.pages) (sym long) };
    once = made.took.once;
    can = can-be-put;
    were_free = λ k d low. ap (is_held old.marks.held) (page k d low) ∙ made.took.were_free (k / 4096) (unit-low k low);
    held = λ k d low some. ap (is_held new.marks.held) (page k d low) ∙ made.took.held (k / 4096) (unit-low k low);
    fewer = omega (arith, made.took.fewer, made.many, is_size);
    count = made.took.count;
    kept = made.took.kept;
    stored = made.took.stored;
    were_stored = made.took.were_stored;
    wanted = made.took.wanted;
  }

  -- a page that was held is none of those that were taken
  none-held : (at : ℕ) → is_held old.marks.held at ≡ true → IsNone made.pages at
  none-held at is n low same = let both : true ≡ false = sym is ∙ sym (ap (is_held old.marks.held) same) ∙ made.took.were_free n low in cc

  none-stored : (at : ℕ) → is_stored new.stored at ≡ true → IsNone made.pages at
  none-stored at is n low same = let both : true ≡ false = sym is ∙ sym (ap (is_stored new.stored) same) ∙ made.took.not_stored n low in cc

  -- in a row that the store showed, with the same bytes at both ends
  module _ (row next : List ℕ) (is_head : head ≡ head_of (bytes_at row places) at) (is_tail : tail ≡ tail_of (bytes_at row places) (at + length bytes)) (shows : Shows new next) (has : HasUnits (unit_of it) it.first made.pages row next) where
    abbrev was : List ℕ
    was = bytes_at row places

    abbrev now : List ℕ
    now = put_over places start part

    length-was : length was ≡ length places
    length-was = length-bytes_at row places

    length-now : length now ≡ max (length places) (it.first * 4096 + many)
    length-now = omega (arith, length-put_over places start part, long, made.start_is)

    same-length : length (bytes_at next now) ≡ length (put_over was at bytes)
    same-length = length-bytes_at next now ∙ length-now ∙ omega (arith, whole, ends, length-was) ∙ sym (length-put_over was at bytes)

    -- a byte of the part
    inside : (k : ℕ) → it.first * 4096 ≤ k → k < it.first * 4096 + many → byte_at next (get_or now k 0) ≡ get_or (put_over was at bytes) k 0
    inside k from below =
        let n : ℕ = k - it.first * 4096 in
        let low : n < many = omega (arith, from, below) in
        let unit : n / 4096 < length made.pages = omega (arith, low, fits) in
        ap (byte_at next) (put-inside places start part k (omega (arith, from, made.start_is)) (omega (arith, below, long, made.start_is)) ∙ ap (λ (m : ℕ). get_or part (k - m) 0) made.start_is ∙ place n low)
        ∙ byte_at-place next (get_or made.pages (n / 4096) 0 * 4096 + n % 4096)
        ∙ sym (get_or-page next (get_or made.pages (n / 4096) 0) (n % 4096) (omega arith))
        ∙ ap (λ (l : List ℕ). get_or l (n % 4096) 0) (has.each (n / 4096) unit)
        ∙ unit-byte size at bytes head tail was some (length-was ∙ sym is_size) is_head is_tail (it.first + n / 4096) (n % 4096) (omega arith) (omega (arith, unit, made.many)) (omega arith)
        ∙ ap (λ (j : ℕ). get_or (put_over was at bytes) j 0) (omega (arith, from))

    -- a byte of those that stay
    others : (k : ℕ) → k < length places → (k < it.first * 4096) ⊎ (it.first * 4096 + many ≤ k) → byte_at next (get_or now k 0) ≡ get_or (put_over was at bytes) k 0
    others k low out =
        ap (byte_at next) (put-outside places start part k (out-part out))
        ∙ byte-same next row (get_or places k 0) (λ some. has.others (page_at (get_or places k 0)) (none-held (page_at (get_or places k 0)) (were k 0 low some)))
        ∙ sym (get_or-bytes_at row places k low)
        ∙ sym (put-outside was at bytes k (out-bytes out))
      where
        out-part : (k < it.first * 4096) ⊎ (it.first * 4096 + many ≤ k) → (k < start) ⊎ (start + length part ≤ k)
        out-part out = elim out [ inl before ↦ inl (omega (arith, before, made.start_is)) | inr past ↦ inr (omega (arith, past, long, made.start_is)) ]

        out-bytes : (k < it.first * 4096) ⊎ (it.first * 4096 + many ≤ k) → (k < at) ⊎ (at + length bytes ≤ k)
        out-bytes out = elim out [ inl before ↦ inl (omega (arith, before, begins)) | inr past ↦ inr (omega (arith, low, past, whole, ends)) ]

    each : (k : ℕ) → k < length (bytes_at next now) → get_or (bytes_at next now) k 0 ≡ get_or (put_over was at bytes) k 0
    each k short =
        get_or-bytes_at next now k (omega (arith, short, length-bytes_at next now))
        ∙ elim (cases_lt k (it.first * 4096)) [
          | inl before ↦ others k (omega (arith, before, begins)) (inl before)
          | inr from ↦ elim (cases_lt k (it.first * 4096 + many)) [
            | inl below ↦ inside k from below
            | inr past ↦ others k (omega (arith, past, short, length-bytes_at next now, length-now)) (inr past)
          ]
        ]

    filled-pages : FilledPages (λ before. put_over before at bytes) places old new start part row next
    filled-pages = record {
      shows = shows;
      bytes = same_number_lists (bytes_at next now) (put_over was at bytes) same-length each;
      held = λ page is. has.others page (none-held page is);
      stored = λ page is. has.others page (none-stored page is);
    }

  pub fills : (row : List ℕ) → Shows old row → head ≡ head_of (bytes_at row places) at → tail ≡ tail_of (bytes_at row places) (at + length bytes)
      → (next : List ℕ) × FilledPages (λ before. put_over before at bytes) places old new start part row next
  fills row shows is_head is_tail = let found = made.took.rows row shows in (found.0, filled-pages row found.0 is_head is_tail found.1.0 found.1.1)

-- ---- contents that become longer

module _ (places : List ℕ) (size : ℕ) (old new : PoolState) (start : ℕ) (part : List ℕ) where
  pub grown-took : TookPages (touched (length places) size (size + 0)) places old new start part → TookPages (touched (length places) size size) places old new start part
  grown-took took = subst (λ n. TookPages (touched (length places) size n) places old new start part) (let same : size + 0 ≡ size = omega arith in same) took

  pub grown-touched : IsTouched (length places) size (size + 0) start part → IsTouched (length places) size size start part
  grown-touched is = subst (λ n. IsTouched (length places) size n start part) (let same : size + 0 ≡ size = omega arith in same) is

  pub grown-pages : (before row : List ℕ) → length places < size → FilledPages (λ bytes. put_over bytes size []) places old new start part before row → FilledPages (λ bytes. cut_to bytes size) places old new start part before row
  grown-pages before row longer filled = record {
    shows = filled.shows;
    bytes = filled.bytes ∙ put-none (bytes_at before places) size (omega (arith, longer, length-bytes_at before places));
    held = filled.held;
    stored = filled.stored;
  }

-- contents have no bytes behind a longer size
pub no-tail : (places row : List ℕ) (size : ℕ) → length places < size → [] ≡ tail_of (bytes_at row places) (size + 0)
no-tail places row size longer =
    sym (ap (take (((size + 0 - 1) / 4096 + 1) * 4096 - (size + 0))) (drop_all (size + 0) (bytes_at row places) (omega (arith, longer, length-bytes_at row places)))
    ∙ nil_from_length (take (((size + 0 - 1) / 4096 + 1) * 4096 - (size + 0)) []) (omega (arith, length-take {A = ℕ} (((size + 0 - 1) / 4096 + 1) * 4096 - (size + 0)) [])))
