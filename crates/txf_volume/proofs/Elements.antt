-- Elements of lists, and tests of each of them.
use Rattle.std.proofs.Common.{List, [], ◌∷◌, map, refl, subst, inl, inr}
use Rattle.txf_laws.specs.Elements.{IsIn}

-- what comes of each of them
pub each-mapped : {X Y : Type 0} (P : Y → Type 0) (f : X → Y) (xs : List X) → ((x : X) → IsIn x xs → P (f x)) → (y : Y) → IsIn y (map f xs) → P y
each-mapped P f [] each y there = absurd there
each-mapped P f (x ∷ xs) each y (inl e) = subst P e (each x (inl refl))
each-mapped P f (x ∷ xs) each y (inr there) = each-mapped P f xs (λ z later. each z (inr later)) y there
