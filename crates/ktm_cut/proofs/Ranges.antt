-- Bytes outside of the ranges that are written.
use Rattle.std.specs.Prelude.{IfSome}
use Rattle.std.proofs.Common.{suc, zero, ◌≡◌, ◌⊎◌, ℕ, ◌+◌, ◌-◌, ◌<◌, ◌≤◌, false, List, [], ◌∷◌, length, get_or, Option, None, Some, ◌∙◌, ap, sym, arith, min}
use Rattle.std.proofs.lemmas.Grind.{common_steps}
use Rattle.std.proofs.lemmas.Bool.Decides.{nat_tests}
use Rattle.ktm_base.specs.Told.{Goes}
use Rattle.ktm_base.specs.Bytes.{covers, written, SameOutside}

pub get_or-written : (old : List ℕ) (at : ℕ) (bytes : List ℕ) (k : ℕ) → at + length bytes ≤ length old → (k < at) ⊎ (at + length bytes ≤ k) → get_or (written old at bytes) k 0 ≡ get_or old k 0
get_or-written old at bytes k fits outside = grind (arith, common_steps, nat_tests)

pub length-written : (old : List ℕ) (at : ℕ) (bytes : List ℕ) → at + length bytes ≤ length old → length (written old at bytes) ≡ length old
length-written old at bytes fits = grind (arith, common_steps, nat_tests)

-- a place outside of the first range, and of the others
pub outside : (r : ℕ × ℕ) (rs : List (ℕ × ℕ)) (k : ℕ) → covers (r ∷ rs) k ≡ false → ((k < r.0) ⊎ (r.0 + r.1 ≤ k)) × (covers rs k ≡ false)
outside r rs k h = grind (arith, common_steps, nat_tests)

-- a place outside of a range
pub uncovered : (at size k : ℕ) → (k < at) ⊎ (at + size ≤ k) → covers ((at, size) ∷ []) k ≡ false
uncovered at size k h = grind (arith, common_steps, nat_tests)

-- a range within another covers no more
pub covers-within : (from end at size k : ℕ) → from ≤ at → at + size ≤ end → covers ((from, end - from) ∷ []) k ≡ false → covers ((at, size) ∷ []) k ≡ false
covers-within from end at size k low high h =
    let out = (outside (from, end - from) [] k h).0 in
    uncovered at size k (grind arith)

-- a range among others covers no more
pub covers-at : (rs : List (ℕ × ℕ)) (i k : ℕ) (d : ℕ × ℕ) → i < length rs → covers rs k ≡ false → covers (get_or rs i d ∷ []) k ≡ false
covers-at [] i k d low h = grind arith
covers-at (r ∷ rs) zero k d low h = grind (arith, common_steps, nat_tests)
covers-at (r ∷ rs) (suc i) k d low h = covers-at rs i k d (omega arith) (outside r rs k h).1

-- a write changes its range alone
pub written_outside : (at : ℕ) (bytes : List ℕ) (a b : Option (List ℕ)) → IfSome a (λ old. at + length bytes ≤ length old) → Goes (λ old new. new ≡ written old at bytes) a b → Goes (SameOutside ((at, length bytes) ∷ [])) a b
written_outside at bytes None None fits goes = tt
written_outside at bytes None (Some b) fits goes = goes
written_outside at bytes (Some a) None fits goes = goes
written_outside at bytes (Some a) (Some b) fits goes = record {
  same_length = ap length goes ∙ length-written a at bytes fits;
  others = λ place h. ap (λ (l : List ℕ). get_or l place 0) goes ∙ get_or-written a at bytes place fits (outside (at, length bytes) [] place h).0;
}

-- a change in ranges that cover no more
pub outside_more : (rs qs : List (ℕ × ℕ)) (a b c : Option (List ℕ)) → ((place : ℕ) → covers rs place ≡ false → covers qs place ≡ false) → Goes (SameOutside rs) a b → Goes (SameOutside qs) b c → Goes (SameOutside rs) a c
outside_more rs qs None None None less first next = tt
outside_more rs qs None None (Some c) less first next = next
outside_more rs qs None (Some b) c less first next = absurd first
outside_more rs qs (Some a) None c less first next = absurd first
outside_more rs qs (Some a) (Some b) None less first next = next
outside_more rs qs (Some a) (Some b) (Some c) less first next = record {
  same_length = next.same_length ∙ first.same_length;
  others = λ place h. next.others place (less place h) ∙ first.others place h;
}

-- a piece of a range
pub piece_more : (from end at size : ℕ) (a b c : Option (List ℕ)) → from ≤ at → at + size ≤ end → Goes (SameOutside ((from, end - from) ∷ [])) a b → Goes (SameOutside ((at, size) ∷ [])) b c → Goes (SameOutside ((from, end - from) ∷ [])) a c
piece_more from end at size a b c low high first next =
    outside_more ((from, end - from) ∷ []) ((at, size) ∷ []) a b c (λ place h. covers-within from end at size place low high h) first next

-- the length stays
pub ends_within : (rs : List (ℕ × ℕ)) (end : ℕ) (a b : Option (List ℕ)) → IfSome a (λ bytes. end ≤ length bytes) → Goes (SameOutside rs) a b → IfSome b (λ bytes. end ≤ length bytes)
ends_within rs end None None within goes = tt
ends_within rs end None (Some b) within goes = absurd goes
ends_within rs end (Some a) None within goes = tt
ends_within rs end (Some a) (Some b) within goes = omega (arith, goes.same_length)

-- the length is still so
pub length_stays : (rs : List (ℕ × ℕ)) (len : ℕ) (a b : Option (List ℕ)) → IfSome a (λ bytes. len ≡ length bytes) → Goes (SameOutside rs) a b → IfSome b (λ bytes. len ≡ length bytes)
length_stays rs len None None is goes = tt
length_stays rs len None (Some b) is goes = absurd goes
length_stays rs len (Some a) None is goes = tt
length_stays rs len (Some a) (Some b) is goes = is ∙ sym goes.same_length

-- what of a range lies before the end covers no more
pub part_covers : (r : ℕ × ℕ) (len from end k : ℕ) → from ≡ min len r.0 → end ≤ len → end ≤ r.0 + r.1 → covers (r ∷ []) k ≡ false → covers ((from, end - from) ∷ []) k ≡ false
part_covers r len from end k start before stop h =
    let out = (outside r [] k h).0 in
    uncovered from (end - from) k (grind arith)

-- what of one of the ranges lies before the end
pub range_more : (rs : List (ℕ × ℕ)) (i len from end : ℕ) (d : ℕ × ℕ) (a b c : Option (List ℕ)) → i < length rs → from ≡ min len (get_or rs i d).0 → end ≤ len → end ≤ (get_or rs i d).0 + (get_or rs i d).1 → Goes (SameOutside rs) a b → Goes (SameOutside ((from, end - from) ∷ [])) b c → Goes (SameOutside rs) a c
range_more rs i len from end d a b c low start before stop first next =
    outside_more rs ((from, end - from) ∷ []) a b c (λ place h. part_covers (get_or rs i d) len from end place start before stop (covers-at rs i place d low h)) first next

-- a piece that ends before the end fits
pub fits : (at end : ℕ) (p : List ℕ) (a : Option (List ℕ)) → at + length p ≤ end → IfSome a (λ bytes. end ≤ length bytes) → IfSome a (λ bytes. at + length p ≤ length bytes)
fits at end p None low within = tt
fits at end p (Some a) low within = omega arith
