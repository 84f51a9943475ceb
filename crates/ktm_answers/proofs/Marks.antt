-- Marks of which a range is cleared.
use Rattle.std.proofs.Common.{◌≡◌, ◌⊎◌, ℕ, ◌+◌, ◌-◌, ◌<◌, ◌≤◌, Bool, true, false, List, [], ◌∷◌, ◌++◌, length, take, drop, get_or, replicate, sym, ap, ◌∙◌, arith, length-append}
use Rattle.std.proofs.lemmas.Grind.{common_steps}
use Rattle.std.proofs.lemmas.Bool.Decides.{nat_tests}
use Rattle.std.proofs.lemmas.List.{get_or-replicate, get_or_append_left, get_or-append_right, length-take-le, length-replicate}
use Rattle.ktm_base.specs.Bytes.{covers}

within : (at n k : ℕ) → covers ((at, n) ∷ []) k ≡ true → (at ≤ k) × (k < at + n)
within at n k h = grind (arith, common_steps, nat_tests)

outside : (at n k : ℕ) → covers ((at, n) ∷ []) k ≡ false → (k < at) ⊎ (at + n ≤ k)
outside at n k h = grind (arith, common_steps, nat_tests)

kept : (old marks : List Bool) (at k : ℕ) → at + length marks ≤ length old → (k < at) ⊎ (at + length marks ≤ k) → get_or (take at old ++ marks ++ drop (at + length marks) old) k false ≡ get_or old k false
kept old marks at k fits out = grind (arith, common_steps, nat_tests)

put : (old marks rest : List Bool) (at k : ℕ) → at ≤ length old → at ≤ k → k < at + length marks → get_or (take at old ++ marks ++ rest) k false ≡ get_or marks (k - at) false
put old marks rest at k fits low high =
    get_or_append_left (take at old ++ marks) rest false k (omega (arith, length-append (take at old) marks, length-take-le at old fits))
    ∙ get_or-append_right (take at old) marks at k false (length-take-le at old fits) low

-- a place of the range is not marked
pub cleared : (at n end k : ℕ) (old new : List Bool) → end ≡ at + n → end ≤ length old → new ≡ take at old ++ replicate (end - at) false ++ drop end old → covers ((at, n) ∷ []) k ≡ true → get_or new k false ≡ false
cleared at n end k old new stop fits is h =
    let at_k : (at ≤ k) × (k < at + n) = within at n k h in
    let long : length (replicate (end - at) false) ≡ n = length-replicate (end - at) false ∙ omega arith in
    ap (λ (l : List Bool). get_or l k false) is
    ∙ put old (replicate (end - at) false) (drop end old) at k (omega arith) at_k.0 (omega (arith, at_k.1, long))
    ∙ get_or-replicate (end - at) (k - at) false false (omega (arith, at_k.0, at_k.1))

-- another place is marked as it was
pub not_cleared : (at n end k : ℕ) (old new : List Bool) → end ≡ at + n → end ≤ length old → new ≡ take at old ++ replicate (end - at) false ++ drop end old → covers ((at, n) ∷ []) k ≡ false → get_or new k false ≡ get_or old k false
not_cleared at n end k old new stop fits is h =
    let long : length (replicate (end - at) false) ≡ n = length-replicate (end - at) false ∙ omega arith in
    let out : (k < at) ⊎ (at + length (replicate (end - at) false) ≤ k) = rw long (outside at n k h) in
    ap (λ (l : List Bool). get_or l k false) is
    ∙ ap (λ (m : ℕ). get_or (take at old ++ replicate (end - at) false ++ drop m old) k false) (stop ∙ ap (λ (m : ℕ). at + m) (sym long))
    ∙ kept old (replicate (end - at) false) at k (omega (arith, long)) out
