-- A buffer that is filled from contents, unit by unit.
use Rattle.std.proofs.Common.{◌≡◌, ℕ, ◌+◌, ◌-◌, ◌*◌, ◌<◌, ◌≤◌, min, List, ◌++◌, length, get_or, take, drop, sym, ◌∙◌, ap, arith, inl, inr, length-take, length-drop, length-append}
use Rattle.std.proofs.lemmas.Bool.{cases_lt}
use Rattle.std.proofs.lemmas.Grind.{same_number_lists}
use Rattle.std.proofs.lemmas.List.{get_or-drop, get_or-take}
use borrow.Rule.Slice.PartMut.{put_mid}
use Rattle.ktm_page.specs.Row.{page_of}
use Rattle.ktm_extent.specs.Extent.{AreBelow, ExtentState, IsExtent, contents}
use Rattle.ktm_extent.specs.Units.{IsFilled}
use Rattle.ktm_extent.proofs.offered.Contents.{get_or-contents, length-contents}
use Rattle.ktm_extent.proofs.Bytes.{get_or-put_mid, over-inside, over-outside}

length-put_mid : (a n : ℕ) (old part : List ℕ) → a + n ≤ length old → length part ≡ n → length (put_mid a n old part) ≡ length old
length-put_mid a n old part fits long =
    omega (arith, fits, long, length-append (take a old) (part ++ drop n (drop a old)), length-append part (drop n (drop a old)), length-take a old, length-drop n (drop a old), length-drop a old)

-- one unit more
pub filled-more : (bytes buf part page : List ℕ) (at size unit from len skip : ℕ) → IsFilled bytes at buf (unit * 4096) → from ≡ unit * 4096 - at → skip ≡ at - unit * 4096 → len ≡ min (length buf - from) (4096 - skip)
    → at + length buf ≤ size → unit * 4096 < at + length buf → at < unit * 4096 + 4096 → ((i : ℕ) → i < 4096 → unit * 4096 + i < size → get_or page i 0 ≡ get_or bytes (unit * 4096 + i) 0)
    → part ≡ take (skip + len - skip) (drop skip page) → length part ≡ len → IsFilled bytes at (put_mid from (from + len - from) buf part) ((unit + 1) * 4096)
filled-more bytes buf part page at size unit from len skip so is_from is_skip is_len within begins ends holds is long = record {
  each = λ k low before.
      let below : k < length buf = omega (arith, low, length-put_mid from (from + len - from) buf part (omega arith) (omega (arith, long))) in
      get_or-put_mid from (from + len - from) buf part k (omega arith) (omega (arith, long))
      ∙ elim (cases_lt k from) [
        | inl front ↦ over-outside from part (λ k. get_or buf k 0) k (inl front) ∙ so.each k below (omega (arith, front, is_from))
        | inr after ↦ elim (cases_lt k (from + len)) [
          | inl inside ↦ over-inside from part (λ k. get_or buf k 0) k after (omega (arith, inside, long))
              ∙ ap (λ (l : List ℕ). get_or l (k - from) 0) is
              ∙ get_or-take (skip + len - skip) (drop skip page) (k - from) 0 (omega (arith, inside, after))
              ∙ get_or-drop skip page (k - from) 0
              ∙ holds (skip + (k - from)) (omega (arith, inside, after, is_len)) (omega (arith, inside, after, is_len, is_from, is_skip, within))
              ∙ ap (λ n. get_or bytes n 0) (omega (arith, after, is_from, is_skip, begins, ends))
          | inr behind ↦ absurd (past k below before behind)
        ]
      ];
}
  where
    past : (k : ℕ) → k < length buf → at + k < (unit + 1) * 4096 → from + len ≤ k → ⊥
    past k below before behind = omega (arith, below, before, behind, is_len, is_from, is_skip)

-- where it is filled to its end
pub filled-all : (bytes : List ℕ) (at : ℕ) (buf : List ℕ) (upto : ℕ) → IsFilled bytes at buf upto → at + length buf ≤ upto → at + length buf ≤ length bytes → buf ≡ take (at + length buf - at) (drop at bytes)
filled-all bytes at buf upto so all long =
    same_number_lists buf (take (at + length buf - at) (drop at bytes)) (omega (arith, long, length-take (at + length buf - at) (drop at bytes), length-drop at bytes)) (λ k low.
    so.each k low (omega (arith, low, all)) ∙ sym (get_or-take (at + length buf - at) (drop at bytes) k 0 (omega (arith, low)) ∙ get_or-drop at bytes k 0))

-- one unit more, from its page
pub filled-unit : (seen buf part : List ℕ) (count at unit page from len skip : ℕ) (e : ExtentState) → IsExtent e → count * 4096 ≤ length seen → AreBelow count e → page ≡ get_or e.pages unit 0 → IsFilled (contents seen e) at buf (unit * 4096)
    → from ≡ unit * 4096 - at → skip ≡ at - unit * 4096 → len ≡ min (length buf - from) (4096 - skip) → at + length buf ≤ e.size → unit * 4096 < at + length buf → at < unit * 4096 + 4096
    → part ≡ take (skip + len - skip) (drop skip (page_of seen page)) → length part ≡ len → IsFilled (contents seen e) at (put_mid from (from + len - from) buf part) ((unit + 1) * 4096)
filled-unit seen buf part count at unit page from len skip e is long below page_is so is_from is_skip is_len within begins ends read full =
    filled-more (contents seen e) buf part (page_of seen page) at e.size unit from len skip so is_from is_skip is_len within begins ends
    (λ i low there. ap (λ p. get_or (page_of seen p) i 0) page_is ∙ sym (get_or-contents seen count e unit i is long below low there)) read full

pub filled-less : (bytes : List ℕ) (at : ℕ) (buf : List ℕ) (upto less : ℕ) → less ≤ upto → IsFilled bytes at buf upto → IsFilled bytes at buf less
filled-less bytes at buf upto less shorter so = record { each = λ k low before. so.each k low (omega (arith, before, shorter)) }

-- what a read leaves of a buffer
pub read-bytes : (seen buf part : List ℕ) (count at len : ℕ) (e : ExtentState) → IsExtent e → count * 4096 ≤ length seen → AreBelow count e → len ≡ min (length buf) (e.size - at) → 0 < len → length part ≡ len → IsFilled (contents seen e) at part (at + len)
    → part ++ drop len buf ≡ take (at + len - at) (drop at (contents seen e)) ++ drop len buf
read-bytes seen buf part count at len e is long below len_is some full so =
    ap (λ (l : List ℕ). l ++ drop len buf)
    (filled-all (contents seen e) at part (at + len) so (omega (arith, full)) (omega (arith, full, length-contents seen count e is long below, len_is, some)) ∙ ap (λ (n : ℕ). take (at + n - at) (drop at (contents seen e))) full)
