-- A list of which each element is changed, one after another.
use Rattle.std.proofs.Common.{◌≡◌, ℕ, zero, suc, ◌+◌, ◌<◌, List, [], ◌∷◌, ◌++◌, length, take, drop, map, set, get_or, add-one, refl, ap, arith}

changed-suc : {X : Type 0} (f : X → X) (xs : List X) (i : ℕ) (d : X) → i < length xs → set (map f (take i xs) ++ drop i xs) i (f (get_or xs i d)) ≡ map f (take (suc i) xs) ++ drop (suc i) xs
changed-suc f [] i d within = absurd (omega arith)
changed-suc f (x ∷ xs) zero d within = refl
changed-suc f (x ∷ xs) (suc i) d within = ap (λ l. f x ∷ l) (changed-suc f xs i d (omega arith))

pub changed-more : {X : Type 0} (f : X → X) (xs : List X) (i : ℕ) (d : X) → i < length xs → set (map f (take i xs) ++ drop i xs) i (f (get_or xs i d)) ≡ map f (take (i + 1) xs) ++ drop (i + 1) xs
changed-more f xs i d within = rw add-one (changed-suc f xs i d within)

pub changed-not-yet : {X : Type 0} (f : X → X) (xs : List X) (i : ℕ) (d : X) → i < length xs → get_or (map f (take i xs) ++ drop i xs) i d ≡ get_or xs i d
changed-not-yet f [] i d within = absurd (omega arith)
changed-not-yet f (x ∷ xs) zero d within = refl
changed-not-yet f (x ∷ xs) (suc i) d within = changed-not-yet f xs i d (omega arith)
