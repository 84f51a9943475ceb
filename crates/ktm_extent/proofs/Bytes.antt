-- Bytes that are put over others, one by one.
use Rattle.std.proofs.Common.{◌≡◌, ◌⊎◌, ℕ, ◌+◌, ◌-◌, ◌<◌, ◌≤◌, max, min, List, [], ◌++◌, length, get_or, take, drop, replicate, refl, sym, ◌∙◌, ap, arith, inl, inr, length-take, length-drop, length-append}
use Rattle.std.proofs.lemmas.Bool.{cases_lt}
use Rattle.std.proofs.lemmas.Bool.Decides.{nat_tests}
use Rattle.std.proofs.lemmas.List.{get_or-take, get_or-drop, get_or_append_left, get_or-append_right, get_or_past, get_or-replicate, length-replicate, places, take_rest, append-nil, drop_all, take_all}
use borrow.Rule.Slice.PartMut.{put_mid}
use Rattle.ktm_world.specs.Tree.{cut_to, put_over}
use Rattle.ktm_extent.specs.Units.{byte_over}

-- a byte outside of those that are put over
pub over-outside : (at : ℕ) (bytes : List ℕ) (old : ℕ → ℕ) (k : ℕ) → (k < at) ⊎ (at + length bytes ≤ k) → byte_over at bytes old k ≡ old k
over-outside at bytes old k out = grind (arith, nat_tests)

-- a byte within those that are put over
pub over-inside : (at : ℕ) (bytes : List ℕ) (old : ℕ → ℕ) (k : ℕ) → at ≤ k → k < at + length bytes → byte_over at bytes old k ≡ get_or bytes (k - at) 0
over-inside at bytes old k low high = grind (arith, nat_tests)

pub length-cut_to : (old : List ℕ) (size : ℕ) → length (cut_to old size) ≡ size
length-cut_to old size = let zeros : length (replicate {A = ℕ} (size - length old) 0) ≡ size - length old = length-replicate {A = ℕ} (size - length old) 0 in omega (arith, length-append (take size old) (replicate (size - length old) 0), length-take size old)

pub length-put_over : (old : List ℕ) (at : ℕ) (bytes : List ℕ) → length (put_over old at bytes) ≡ max (length old) (at + length bytes)
length-put_over old at bytes =
    omega (arith, length-append (cut_to old at ++ bytes) (drop (at + length bytes) old), length-append (cut_to old at) bytes, length-cut_to old at, length-drop (at + length bytes) old)

get_or-cut_to : (old : List ℕ) (size k : ℕ) → k < size → get_or (cut_to old size) k 0 ≡ get_or old k 0
get_or-cut_to old size k low =
    elim (cases_lt k (length old)) [
      | inl there ↦ get_or_append_left (take size old) (replicate (size - length old) 0) 0 k (omega (arith, length-take size old)) ∙ get_or-take size old k 0 low
      | inr past ↦ get_or-append_right (take size old) (replicate (size - length old) 0) (length (take size old)) k 0 refl (omega (arith, length-take size old))
          ∙ get_or-replicate (size - length old) (k - length (take size old)) 0 0 (omega (arith, length-take size old))
          ∙ sym (get_or_past old k 0 past)
    ]

-- each byte where bytes are put over others
pub get_or-put_over : (old : List ℕ) (at : ℕ) (bytes : List ℕ) (k : ℕ) → get_or (put_over old at bytes) k 0 ≡ byte_over at bytes (λ k. get_or old k 0) k
get_or-put_over old at bytes k =
    elim (cases_lt k at) [
      | inl before ↦ front (omega (arith, before)) ∙ get_or_append_left (cut_to old at) bytes 0 k (omega (arith, cut, before)) ∙ get_or-cut_to old at k before ∙ sym (over-outside at bytes (λ k. get_or old k 0) k (inl before))
      | inr from ↦ elim (cases_lt k (at + length bytes)) [
        | inl within ↦ front within ∙ get_or-append_right (cut_to old at) bytes at k 0 cut from ∙ sym (over-inside at bytes (λ k. get_or old k 0) k from within)
        | inr behind ↦ get_or-append_right (cut_to old at ++ bytes) (drop (at + length bytes) old) (at + length bytes) k 0 both behind
            ∙ get_or-drop (at + length bytes) old (k - (at + length bytes)) 0
            ∙ ap (λ n. get_or old n 0) (omega arith)
            ∙ sym (over-outside at bytes (λ k. get_or old k 0) k (inr behind))
      ]
    ]
  where
    cut : length (cut_to old at) ≡ at
    cut = length-cut_to old at

    both : length (cut_to old at ++ bytes) ≡ at + length bytes
    both = omega (arith, length-append (cut_to old at) bytes, length-cut_to old at)

    front : k < at + length bytes → get_or (put_over old at bytes) k 0 ≡ get_or (cut_to old at ++ bytes) k 0
    front low = get_or_append_left (cut_to old at ++ bytes) (drop (at + length bytes) old) 0 k (omega (arith, both))

-- a byte of a slice after a write to a part of it
pub get_or-put_mid : (a n : ℕ) (old part : List ℕ) (k : ℕ) → a + n ≤ length old → length part ≡ n → get_or (put_mid a n old part) k 0 ≡ byte_over a part (λ k. get_or old k 0) k
get_or-put_mid a n old part k fits long =
    elim (cases_lt k a) [
      | inl before ↦ let is : get_or (put_mid a n old part) k 0 ≡ get_or old k 0 = grind (arith, places) in is ∙ sym (over-outside a part (λ k. get_or old k 0) k (inl before))
      | inr from ↦ elim (cases_lt k (a + length part)) [
        | inl within ↦ let is : get_or (put_mid a n old part) k 0 ≡ get_or part (k - a) 0 = grind (arith, places) in is ∙ sym (over-inside a part (λ k. get_or old k 0) k from within)
        | inr behind ↦ let is : get_or (put_mid a n old part) k 0 ≡ get_or old k 0 = grind (arith, places) in is ∙ sym (over-outside a part (λ k. get_or old k 0) k (inr behind))
      ]
    ]

-- the part of a unit's buffer that some of the bytes fall in
pub unit_over : (start at from to skip : ℕ) (bytes buf part : List ℕ) → length buf ≡ 4096 → from ≡ min (at - start) 4096 → to ≡ min (at + length bytes - start) 4096 → skip ≡ start - at → from < to → start < at + length bytes
    → part ≡ take (skip + (to - from) - skip) (drop skip bytes) → (i : ℕ) → i < 4096 → get_or (put_mid from (to - from) buf part) i 0 ≡ byte_over at bytes (λ k. get_or buf (k - start) 0) (start + i)
unit_over start at from to skip bytes buf part full is_from is_to is_skip some begins is i low =
    get_or-put_mid from (to - from) buf part i (omega arith) long
    ∙ elim (cases_lt i from) [
      | inl before ↦ over-outside from part (λ k. get_or buf k 0) i (inl before) ∙ same ∙ sym (over-outside at bytes (λ k. get_or buf (k - start) 0) (start + i) (inl (omega arith)))
      | inr after ↦ elim (cases_lt i to) [
        | inl within ↦ over-inside from part (λ k. get_or buf k 0) i after (omega (arith, long))
            ∙ ap (λ (l : List ℕ). get_or l (i - from) 0) is
            ∙ get_or-take (skip + (to - from) - skip) (drop skip bytes) (i - from) 0 (omega arith)
            ∙ get_or-drop skip bytes (i - from) 0
            ∙ ap (λ n. get_or bytes n 0) (omega arith)
            ∙ sym (over-inside at bytes (λ k. get_or buf (k - start) 0) (start + i) (omega arith) (omega arith))
        | inr behind ↦ over-outside from part (λ k. get_or buf k 0) i (inr (omega (arith, long))) ∙ same ∙ sym (over-outside at bytes (λ k. get_or buf (k - start) 0) (start + i) (inr (omega arith)))
      ]
    ]
  where
    long : length part ≡ to - from
    long = ap length is ∙ omega (arith, length-take (skip + (to - from) - skip) (drop skip bytes), length-drop skip bytes)

    same : get_or buf i 0 ≡ get_or buf (start + i - start) 0
    same = ap (λ n. get_or buf n 0) (omega arith)

-- the first unit of what stands behind so many bytes
pub first_part : (bytes whole : List ℕ) (skip : ℕ) → 4096 ≤ length (take (length bytes - skip) (drop skip bytes)) → whole ≡ take 4096 (take (length bytes - skip) (drop skip bytes))
    → (skip + 4096 ≤ length bytes) × (whole ≡ take (skip + 4096 - skip) (drop skip bytes))
first_part bytes whole skip enough is = (
  omega (arith, enough, length-take (length bytes - skip) (drop skip bytes), length-drop skip bytes),
  is ∙ ap (λ (l : List ℕ). take 4096 l) (take_rest bytes skip) ∙ ap (λ (n : ℕ). take n (drop skip bytes)) sizes,
)
  where
    sizes : 4096 ≡ skip + 4096 - skip
    sizes = omega arith

-- a page that is read as a whole
pub whole_part : (buf page part : List ℕ) (from n : ℕ) → length page ≤ 4096 → from + length part ≤ 4096 → 4096 ≤ length part → n ≡ 4096 → buf ≡ page → buf ++ drop n part ≡ take (from + length part - from) (drop from page)
whole_part buf page part from n short within enough is read =
    let start : from ≡ 0 = omega arith in
    let none : drop n part ≡ [] = drop_all n part (omega arith) in
    ap (λ (l : List ℕ). buf ++ l) none ∙ append-nil buf ∙ read ∙ sym (ap (λ (k : ℕ). take (from + length part - from) (drop k page)) start ∙ take_all (from + length part - from) page (omega arith))

pub zeros-at : (n i : ℕ) → get_or (replicate {A = ℕ} n 0) i 0 ≡ 0
zeros-at n i = elim (cases_lt i n) [ inl low ↦ get_or-replicate n i 0 0 low | inr past ↦ get_or_past (replicate {A = ℕ} n 0) i 0 (omega (arith, past, length-replicate {A = ℕ} n 0)) ]

pub length-whole : (bytes whole : List ℕ) (skip : ℕ) → skip + 4096 ≤ length bytes → whole ≡ take (skip + 4096 - skip) (drop skip bytes) → length whole ≡ 4096
length-whole bytes whole skip enough is = ap length is ∙ omega (arith, enough, length-take (skip + 4096 - skip) (drop skip bytes), length-drop skip bytes)
