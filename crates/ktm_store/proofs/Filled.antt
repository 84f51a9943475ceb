-- Each byte of a page that is filled.
use Rattle.std.proofs.Common.{◌≡◌, ℕ, ◌+◌, ◌-◌, ◌<◌, ◌≤◌, ◌==◌, true, List, [], ◌++◌, length, get_or, sym, ◌∙◌, ap, arith, inl, inr, length-append}
use Rattle.std.proofs.lemmas.Bool.{cases_lt}
use Rattle.std.proofs.lemmas.Bool.Decides.{nat_tests}
use Rattle.std.proofs.lemmas.List.{get_or-append_right, get_or_append_left, nil_from_length}
use Rattle.ktm_content.specs.Contents.{cut_to}
use Rattle.ktm_store.specs.Frames.{filled, zeros}
use Rattle.ktm_store.proofs.Bytes.{get_or-cut_to, length-cut_to}
use Rattle.ktm_store.proofs.Framing.{length-filled, zeros-are}

module _ (head : List ℕ) (from : ℕ) (bytes tail : List ℕ) (i : ℕ) (low : i < 4096) where
  long : length (cut_to head from ++ bytes) ≡ from + length bytes
  long = omega (arith, length-append (cut_to head from) bytes, length-cut_to head from)

  within : get_or (filled head from bytes tail) i 0 ≡ get_or (cut_to head from ++ bytes ++ tail) i 0
  within = get_or-cut_to (cut_to head from ++ bytes ++ tail) 4096 i low

  pub filled-head : i < from → get_or (filled head from bytes tail) i 0 ≡ get_or head i 0
  filled-head front =
      within
      ∙ get_or_append_left (cut_to head from ++ bytes) tail 0 i (omega (arith, front, long))
      ∙ get_or_append_left (cut_to head from) bytes 0 i (omega (arith, front, length-cut_to head from))
      ∙ get_or-cut_to head from i front

  pub filled-bytes : from ≤ i → i < from + length bytes → get_or (filled head from bytes tail) i 0 ≡ get_or bytes (i - from) 0
  filled-bytes begins ends =
      within
      ∙ get_or_append_left (cut_to head from ++ bytes) tail 0 i (omega (arith, ends, long))
      ∙ get_or-append_right (cut_to head from) bytes from i 0 (length-cut_to head from) begins

  pub filled-tail : from + length bytes ≤ i → get_or (filled head from bytes tail) i 0 ≡ get_or tail (i - (from + length bytes)) 0
  filled-tail behind = within ∙ get_or-append_right (cut_to head from ++ bytes) tail (from + length bytes) i 0 long behind

-- a page that is filled with no bytes is blank
pub filled-none : (head : List ℕ) (from : ℕ) (bytes tail : List ℕ) → head ≡ [] → bytes ≡ [] → tail ≡ [] → zeros ≡ filled head from bytes tail
filled-none head from bytes tail no-head no-bytes no-tail = sym (zeros-are (filled head from bytes tail) (length-filled head from bytes tail) each)
  where
    each : (i : ℕ) → i < 4096 → get_or (filled head from bytes tail) i 0 ≡ 0
    each i low = elim (cases_lt i from) [
      | inl front ↦ filled-head head from bytes tail i low front ∙ ap (λ (l : List ℕ). get_or l i 0) no-head
      | inr behind ↦ filled-tail head from bytes tail i low (omega (arith, behind, ap (λ (l : List ℕ). length l) no-bytes)) ∙ ap (λ (l : List ℕ). get_or l (i - (from + length bytes)) 0) no-tail
    ]

-- bytes of which there are none
pub no-bytes : (bytes : List ℕ) → true ≡ (length bytes == 0) → bytes ≡ []
no-bytes bytes is = nil_from_length bytes (grind (arith, nat_tests))
