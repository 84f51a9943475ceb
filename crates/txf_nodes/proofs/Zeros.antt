-- Lemmas on a name in room of zeros.
use Rattle.std.proofs.Common.{◌≡◌, ℕ, suc, ◌+◌, ◌-◌, List, [], ◌∷◌, ◌++◌, length, take, drop, replicate, sym, ap, ◌∙◌, arith, append_assoc, length-append}
use Rattle.std.proofs.lemmas.List.{drop-replicate, take_at}

-- a name with one zero behind it, in room of zeros
pub take-room : (name : List ℕ) (n room left : ℕ) → length name ≡ n → room ≡ n + suc left → take (n + 1) (name ++ drop n (replicate room 0)) ≡ name ++ 0 ∷ []
take-room name n room left long is =
    let rest : room - n ≡ suc left = omega arith in
    let zeros : drop {A = ℕ} n (replicate room 0) ≡ 0 ∷ replicate left 0 = drop-replicate n room 0 ∙ ap (λ m. replicate m 0) rest in
    ap (λ l. take (n + 1) (name ++ l)) zeros
    ∙ ap (take (n + 1)) (sym (append_assoc name (0 ∷ []) (replicate left 0)))
    ∙ take_at (name ++ 0 ∷ []) (replicate left 0) (n + 1) (omega (arith, length-append name (0 ∷ [])))
