-- Bytes that are written over, in the whole and in a part of it.
use Rattle.std.proofs.Common.{◌≡◌, ◌⊎◌, inl, inr, ℕ, ◌+◌, ◌-◌, ◌<◌, ◌≤◌, false, List, [], ◌∷◌, ◌++◌, length, get_or, take, drop, refl, sym, ◌∙◌, ap, arith, append_assoc, length-take, length-drop}
use Rattle.std.proofs.lemmas.Grind.{same_number_lists}
use Rattle.std.proofs.lemmas.List.{take_at, drop_at, length-take-le, take-take, drop-take, drop-drop, get_or-take, get_or-drop, get_or_past}
use Rattle.std.proofs.lemmas.Bool.{cases_lt}
use Rattle.std.proofs.lemmas.Bool.Decides.{nat_tests}
use Rattle.ktm_base.proofs.offered.Images.{outside}
use Rattle.ktm_base.specs.Bytes.{SameOutside, written, covers}
use Rattle.ktm_log.specs.declared.area.Area.{Area}
use Rattle.ktm_log.specs.Log.{area_bytes, SameElsewhere}

-- a place outside of one range
pub not_covered : (at len place : ℕ) → (place < at) ⊎ (at + len ≤ place) → covers ((at, len) ∷ []) place ≡ false
not_covered at len place h = grind (arith, nat_tests)

-- a write puts its bytes there
pub written_part : (old bytes : List ℕ) (at : ℕ) → at ≤ length old → take (length bytes) (drop at (written old at bytes)) ≡ bytes
written_part old bytes at fits =
    ap (λ (l : List ℕ). take (length bytes) (drop at l)) (append_assoc (take at old) bytes (drop (at + length bytes) old))
    ∙ ap (λ (l : List ℕ). take (length bytes) l) (drop_at (take at old) (bytes ++ drop (at + length bytes) old) at (length-take-le at old fits))
    ∙ take_at bytes (drop (at + length bytes) old) (length bytes) refl

-- a part of bytes that are the same there
pub same_part : (b c : List ℕ) (from n : ℕ) → length c ≡ length b → ((place : ℕ) → from ≤ place → place < from + n → get_or c place 0 ≡ get_or b place 0) → take n (drop from c) ≡ take n (drop from b)
same_part b c from n long same = same_number_lists _ _ (omega (arith, length-take n (drop from c), length-take n (drop from b), length-drop from c, length-drop from b))
    (λ k h.
    let within : k < n = omega (arith, length-take n (drop from c)) in
    get_or-take n (drop from c) k 0 within ∙ get_or-drop from c k 0 ∙ same (from + k) (omega arith) (omega arith) ∙ sym (get_or-drop from b k 0) ∙ sym (get_or-take n (drop from b) k 0 within))

module _ (area : Area) where
  pub length-area : (image : List ℕ) → area.at + area.len ≤ length image → length (area_bytes area image) ≡ area.len
  length-area image within = omega (arith, length-take area.len (drop area.at image), length-drop area.at image)

  pub get_or-area : (image : List ℕ) (k : ℕ) → k < area.len → get_or (area_bytes area image) k 0 ≡ get_or image (area.at + k) 0
  get_or-area image k h = get_or-take area.len (drop area.at image) k 0 h ∙ get_or-drop area.at image k 0

  -- a range of the area, in its own bytes
  pub area_same : (a b : List ℕ) (from n : ℕ) → SameOutside ((area.at + from, n) ∷ []) a b → SameOutside ((from, n) ∷ []) (area_bytes area a) (area_bytes area b)
  area_same a b from n same = record {
    same_length = omega (arith, same.same_length, length-take area.len (drop area.at a), length-take area.len (drop area.at b), length-drop area.at a, length-drop area.at b);
    others = λ k h. elim (cases_lt k area.len) [
      | inl inside ↦ get_or-area b k inside ∙ same.others (area.at + k) (let away = outside from n k h in not_covered (area.at + from) n (area.at + k) (grind arith)) ∙ sym (get_or-area a k inside)
      | inr past ↦ get_or_past (area_bytes area b) k 0 (omega (arith, length-take area.len (drop area.at b))) ∙ sym (get_or_past (area_bytes area a) k 0 (omega (arith, length-take area.len (drop area.at a))))
    ];
  }

  -- where only a range of the area changed, all is the same outside of the area
  pub elsewhere_same : (a b : List ℕ) (from n : ℕ) → from + n ≤ area.len → SameOutside ((area.at + from, n) ∷ []) a b → SameElsewhere area a b
  elsewhere_same a b from n fits same = record {
    same_length = same.same_length;
    others = λ k h. let away = outside area.at area.len k h in same.others k (not_covered (area.at + from) n k (grind arith));
  }

  pub elsewhere_trans : (a b c : List ℕ) → SameElsewhere area a b → SameElsewhere area b c → SameElsewhere area a c
  elsewhere_trans a b c first second = record {
    same_length = second.same_length ∙ first.same_length;
    others = λ k h. second.others k h ∙ first.others k h;
  }

  -- a part of the area, in the image
  pub area_part : (image : List ℕ) (from n : ℕ) → from + n ≤ area.len → take n (drop from (area_bytes area image)) ≡ take n (drop (area.at + from) image)
  area_part image from n fits =
      ap (λ k. take n (drop from (take k (drop area.at image)))) (omega arith)
      ∙ ap (λ (l : List ℕ). take n l) (drop-take from (area.len - from) (drop area.at image))
      ∙ take-take n (area.len - from) (drop from (drop area.at image)) (omega arith)
      ∙ ap (λ (l : List ℕ). take n l) (drop-drop from area.at image)

  -- a write to the area, in its own bytes
  pub area_written : (image bytes : List ℕ) (from : ℕ) → area.at + area.len ≤ length image → from + length bytes ≤ area.len → take (length bytes) (drop from (area_bytes area (written image (area.at + from) bytes))) ≡ bytes
  area_written image bytes from within fits =
      area_part (written image (area.at + from) bytes) from (length bytes) fits ∙ written_part image bytes (area.at + from) (omega arith)
