-- Bytes that are put on the pages of the units that they touch.
use Rattle.std.proofs.Common.{◌≡◌, ℕ, ◌+◌, ◌-◌, ◌*◌, ◌/◌, ◌%◌, ◌<◌, ◌≤◌, max, min, List, length, get_or, map, sym, ◌∙◌, ap, arith, inl, inr}
use Rattle.std.specs.Prelude.{◌⊎◌}
use Rattle.std.proofs.lemmas.Bool.{cases_lt}
use Rattle.std.proofs.lemmas.Grind.{same_number_lists}
use Rattle.std.proofs.lemmas.List.{get_or-map, length-map}
use Rattle.ktm_content.specs.Places.{CanBePut, byte_at, places_on}
use Rattle.ktm_content.proofs.offered.Bytes.{byte_at-place}
use Rattle.ktm_content.proofs.offered.Placing.{get_or-places_on, length-places_on}
use Rattle.ktm_world.specs.Tree.{put_over}
use Rattle.ktm_paged.specs.Meaning.{end_of_units, end_touched, units_from}
use Rattle.ktm_paged.specs.Paged.{HaveUnits}
use Rattle.ktm_content.proofs.offered.PutBytes.{length-put_over, put-inside, put-outside}

-- ---- units that are touched

-- there are as many units up to the end of the bytes in those that are touched
pub units-touched : (unit size end : ℕ) → units_from unit (end_touched size end) ≡ units_from unit end
units-touched unit size end = omega arith

pub ends-touched : (size end : ℕ) → (end_touched size end % 4096 ≡ 0) ⊎ (size ≤ end_touched size end)
ends-touched size end = elim (cases_lt (end_of_units end) (max size end)) [
  | inl more ↦ inl (omega (arith, more))
  | inr less ↦ inr (omega (arith, less))
]

-- bytes on pages that end a unit, or where the file ends or behind it, can be put
pub can-be-put : (old pages : List ℕ) (unit end : ℕ) → unit * 4096 ≤ length old → unit * 4096 ≤ end → length pages ≡ units_from unit end → (end % 4096 ≡ 0) ⊎ (length old ≤ end)
    → CanBePut old (unit * 4096) (places_on pages (end - unit * 4096))
can-be-put old pages unit end reaches order many ends = record {
  begins = omega arith;
  reaches = reaches;
  ends = elim ends [
    | inl whole ↦ inl (ap (λ n. n % 4096) is ∙ whole)
    | inr past ↦ inr (omega (arith, past, is))
  ];
}
  where
    is : unit * 4096 + length (places_on pages (end - unit * 4096)) ≡ end
    is = omega (arith, order, length-places_on pages (end - unit * 4096) (omega (arith, many, order)))

-- ---- bytes on pages

module _ (row old bytes pages : List ℕ) (at first end : ℕ) (is_first : first ≡ min (length old) at / 4096) (is_end : end ≡ min (max (length old) (at + length bytes)) ((at + length bytes + 4095) / 4096 * 4096))
    (many : length pages ≡ (at + length bytes + 4095) / 4096 - first) (have : HaveUnits row pages first (put_over (map (byte_at row) old) at bytes)) where
  abbrev size : ℕ
  size = end - first * 4096

  abbrev part : List ℕ
  part = places_on pages size

  abbrev was : List ℕ
  was = map (byte_at row) old

  abbrev now : List ℕ
  now = put_over old (first * 4096) part

  begins : first * 4096 ≤ min (length old) at
  begins = omega (arith, is_first)

  ends : at + length bytes ≤ end
  ends = omega (arith, is_end)

  fits : size ≤ length pages * 4096
  fits = omega (arith, is_end, many, begins)

  long : length part ≡ size
  long = length-places_on pages size fits

  length-was : length was ≡ length old
  length-was = length-map old (byte_at row)

  length-now : length now ≡ max (length old) end
  length-now = omega (arith, length-put_over old (first * 4096) part, long, begins, ends)

  length-bytes : length (put_over was at bytes) ≡ max (length old) (at + length bytes)
  length-bytes = omega (arith, length-put_over was at bytes, length-was)

  same-length : length (map (byte_at row) now) ≡ length (put_over was at bytes)
  same-length = omega (arith, length-map now (byte_at row), length-now, length-bytes, is_end)

  place : (k : ℕ) → k < size → get_or part k 0 ≡ get_or pages (k / 4096) 0 * 4096 + k % 4096 + 1
  place k low = ap (λ (n : ℕ). get_or part n 0) is ∙ get_or-places_on pages size (k / 4096) (k % 4096) (omega (arith, low, fits)) (omega arith) (omega (arith, low, is))
    where
      is : k ≡ k / 4096 * 4096 + k % 4096
      is = omega arith

  -- a byte of the part
  inside : (k : ℕ) → first * 4096 ≤ k → k < end → byte_at row (get_or now k 0) ≡ get_or (put_over was at bytes) k 0
  inside k from below =
      ap (byte_at row) (put-inside old (first * 4096) part k from (omega (arith, below, long)) ∙ place n low)
      ∙ byte_at-place row (get_or pages (n / 4096) 0 * 4096 + n % 4096)
      ∙ have.each (n / 4096) (n % 4096) (omega (arith, low, fits)) (omega arith) (omega (arith, is, below, length-bytes, is_end))
      ∙ ap (λ (j : ℕ). get_or (put_over was at bytes) j 0) is
    where
      n : ℕ
      n = k - first * 4096

      low : n < size
      low = omega (arith, from, below)

      is : (first + n / 4096) * 4096 + n % 4096 ≡ k
      is = omega (arith, from)

  -- a byte of those that stay
  others : (k : ℕ) → k < length old → (k < first * 4096) ⊎ (end ≤ k) → byte_at row (get_or now k 0) ≡ get_or (put_over was at bytes) k 0
  others k low out =
      ap (byte_at row) (put-outside old (first * 4096) part k (out-part out))
      ∙ sym (get_or-map (byte_at row) old k 0 0 low)
      ∙ sym (put-outside was at bytes k (out-bytes out))
    where
      out-part : (k < first * 4096) ⊎ (end ≤ k) → (k < first * 4096) ⊎ (first * 4096 + length part ≤ k)
      out-part out = elim out [ inl before ↦ inl before | inr past ↦ inr (omega (arith, past, long, begins, ends)) ]

      out-bytes : (k < first * 4096) ⊎ (end ≤ k) → (k < at) ⊎ (at + length bytes ≤ k)
      out-bytes out = elim out [ inl before ↦ inl (omega (arith, before, begins)) | inr past ↦ inr (omega (arith, past, ends)) ]

  each : (k : ℕ) → k < length (map (byte_at row) now) → get_or (map (byte_at row) now) k 0 ≡ get_or (put_over was at bytes) k 0
  each k short =
      get_or-map (byte_at row) now k 0 0 (omega (arith, short, length-map now (byte_at row)))
      ∙ elim (cases_lt k (first * 4096)) [
        | inl before ↦ others k (omega (arith, before, begins)) (inl before)
        | inr from ↦ elim (cases_lt k end) [
          | inl below ↦ inside k from below
          | inr past ↦ others k (omega (arith, past, short, length-map now (byte_at row), length-now)) (inr past)
        ]
      ]

  -- the bytes of the file with the part over them are those that were meant
  pub bytes-put : map (byte_at row) now ≡ put_over was at bytes
  bytes-put = same_number_lists (map (byte_at row) now) (put_over was at bytes) same-length each
